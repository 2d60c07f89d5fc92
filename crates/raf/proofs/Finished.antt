-- The header is written, and the storage cut.
use Rattle.std.proofs.Common.{◌≡◌, ◌≢◌, ℕ, ◌+◌, ◌<◌, ◌≤◌, min, max, Bool, true, false, cond, List, length, Option, Some, None, Result, Ok, Err, refl, sym, ◌∙◌, ap, subst, arith}
use Rattle.std.specs.Prelude.{if◌then◌else◌, nat_lt, nat_eq}
use Rattle.std.specs.Option.{option_map}
use Rattle.std.specs.Result.{OnOk, OnErr, IfErr}
use Rattle.std.proofs.lemmas.Bool.Decides.{nat_tests}
use Rattle.counts.specs.Counts.{Rose}
use Rattle.raf_io.specs.Storage.{Torn, Cut, Told, spliced, resized}
use Rattle.raf_io.specs.Kinds.{kind_of}
use Rattle.raf_io.proofs.Splices.{cut_same, take-resized, resized_cut}
use Rattle.raf_format.specs.Cipher.{Cipher}
use Rattle.raf_format.specs.Header.{sealed_header}
use Rattle.raf.specs.Outside.{Outside, Quiet, Caused, Moved}
use Rattle.raf.specs.Stepped.{with_size}
use Rattle.raf.specs.Carry.{Finishes, TornTo}
use Rattle.raf.specs.declared.planning.Plan.{Plan}
use Rattle.raf_format.specs.declared.header.Header.{Header}
use Rattle.raf_io.specs.declared.errors.Error.{Error}
use Rattle.raf_io.specs.declared.errors.ErrorKind.TheVariants.{Io}
use Rattle.raf.proofs.Moves.{moved_then, moved_less, quiet_then, caused_later}
use Rattle.raf.proofs.Tears.{torn_to, trimmed_torn, trimmed_cut, CutTo}
use Rattle.raf.proofs.PutRecords.{on_ok, if_err}
use Rattle.raf.proofs.Prepared.{on_err_any}

pub cut_to : {E : Type 0} (r : Result (Unit {0}) E) (old new : Option (List ℕ)) (n : ℕ) (b : List ℕ) → OnOk r (new ≡ option_map (resized n) old) → OnErr r (Told (Cut n) old new) → old ≡ Some b → CutTo n b new
cut_to (Ok x) old new n b done torn is = (
  resized n b,
  done ∙ ap (option_map (resized n)) is,
  record { front = take-resized (min n (length b)) n b (omega arith) ∙ resized_cut (min n (length b)) b (omega arith) ∙ (cut_same n b).front },
)
cut_to (Err e) old new n b done torn is = go new (subst (λ (o : Option (List ℕ)). Told (Cut n) o new) is torn)
  where
    go : (new : Option (List ℕ)) → Told (Cut n) (Some b) new → CutTo n b new
    go None t = absurd t
    go (Some c) t = (c, refl, t)

module _ (C : Cipher) (key : List ℕ) (h : Header) (p : Plan) (other : p.size ≢ p.before) (old mid : Outside) (text : List ℕ) (long : length text ≡ 96) (is_text : text ≡ sealed_header C key (with_size h p.size))
    (moved : Moved old mid (0 + length text) (length text) 0 1 0) (began : Rose old.changes mid.changes) where
  header_moved : nat_eq p.size p.before ≡ false
  header_moved = grind (arith, nat_tests)

  traffic : ◌≡◌ {A = ℕ} (if nat_eq p.size p.before then 0 else 96) 96
  traffic = ap (λ (t : Bool). cond {A = ℕ} t 0 96) header_moved

  one : ◌≡◌ {A = ℕ} (if nat_eq p.size p.before then 0 else 1) 1
  one = ap (λ (t : Bool). cond {A = ℕ} t 0 1) header_moved

  header_torn : {E : Type 0} (r : Result (Unit {0}) E) → OnOk r (mid.bytes ≡ option_map (spliced 0 text) old.bytes) → OnErr r (Told (Torn 0 (length text)) old.bytes mid.bytes)
      → (b : List ℕ) → old.bytes ≡ Some b → TornTo 0 96 b mid.bytes
  header_torn r written torn b told = subst (λ (n : ℕ). TornTo 0 n b mid.bytes) long (torn_to r old.bytes mid.bytes 0 text b written torn told)

  branches : Bool → Bool → List ℕ → List ℕ
  branches less same b = cond {A = List ℕ} less (resized p.layout (spliced 0 (sealed_header C key (with_size h p.size)) b)) (cond {A = List ℕ} same b (spliced 0 (sealed_header C key (with_size h p.size)) b))

  -- the header wasn't written
  pub finishes_unwritten : (e : Error) → Told (Torn 0 (length text)) old.bytes mid.bytes → mid.left ≡ old.left → (kind_of e ≡ Io) × Caused Io old mid → mid.strays ≡ old.strays → Finishes C key h p old mid (Err e)
  finishes_unwritten e torn left failed strays = record {
    finished = λ b told. tt;
    trimmed = λ b told. trimmed_torn p.before p.size p.layout b mid.bytes other (header_torn {E = Error} (Err e) tt torn b told);
    left = left;
    failed = failed;
    began = began;
    quiet = tt;
    moved = moved_less old mid _ _ _ _ _ (max 96 p.layout) (if nat_eq p.size p.before then 0 else 96) 0 ((if nat_eq p.size p.before then 0 else 1) + (if nat_lt p.size p.before then 1 else 0)) 0 moved
        (omega (arith, long)) (omega (arith, long, traffic)) (omega arith) (omega (arith, one)) (omega arith);
    strays = strays;
  }

  module _ (written : mid.bytes ≡ option_map (spliced 0 text) old.bytes) (left : mid.left ≡ old.left) (quiet : Quiet old mid) (strays : mid.strays ≡ old.strays) where
    bytes_mid : (b : List ℕ) → old.bytes ≡ Some b → mid.bytes ≡ Some (spliced 0 (sealed_header C key (with_size h p.size)) b)
    bytes_mid b told = written ∙ ap (option_map (spliced 0 text)) told ∙ ap (λ (l : List ℕ). Some (spliced 0 l b)) is_text

    -- the file grows
    pub finishes_grown : (x : Unit {0}) → p.before < p.size → Finishes C key h p old mid (Ok x)
    finishes_grown x grows =
        let less : nat_lt p.size p.before ≡ false = grind (arith, nat_tests) in
        record {
          finished = λ b told. bytes_mid b told ∙ sym (ap (λ (t : Bool). Some (cond {A = List ℕ} t (resized p.layout (spliced 0 (sealed_header C key (with_size h p.size)) b))
              (cond {A = List ℕ} (nat_eq p.size p.before) b (spliced 0 (sealed_header C key (with_size h p.size)) b)))) less
              ∙ ap (λ (t : Bool). Some (cond {A = List ℕ} t b (spliced 0 (sealed_header C key (with_size h p.size)) b))) header_moved);
          trimmed = λ b told. trimmed_torn p.before p.size p.layout b mid.bytes other (header_torn {E = Error} (Ok x) written tt b told);
          left = left;
          failed = tt;
          began = tt;
          quiet = quiet;
          moved = moved_less old mid _ _ _ _ _ (max 96 p.layout) (if nat_eq p.size p.before then 0 else 96) 0 ((if nat_eq p.size p.before then 0 else 1) + (if nat_lt p.size p.before then 1 else 0)) 0 moved
              (omega (arith, long)) (omega (arith, long, traffic)) (omega arith) (omega (arith, one)) (omega arith);
          strays = strays;
        }

    -- it shrinks, and the storage is cut, whether or not that fails
    pub finishes_cut : (r : Result (Unit {0}) Error) (new : Outside) → p.size ≤ p.before → OnOk r (new.bytes ≡ option_map (resized p.layout) mid.bytes) → OnErr r (Told (Cut p.layout) mid.bytes new.bytes)
        → new.left ≡ mid.left → IfErr r (λ e. (kind_of e ≡ Io) × Caused Io mid new) → OnOk r (Quiet mid new) → Moved mid new p.layout 0 0 1 0 → Rose mid.changes new.changes → new.strays ≡ mid.strays
        → Finishes C key h p old new r
    finishes_cut r new le done torn left' failed quiet' moved' began' strays' =
        let smaller : p.size < p.before = omega (arith, le, other) in
        let less : nat_lt p.size p.before ≡ true = grind (arith, nat_tests, smaller) in
        let two : ◌≡◌ {A = ℕ} (if nat_lt p.size p.before then 1 else 0) 1 = ap (λ (t : Bool). cond {A = ℕ} t 1 0) less in
        record {
          finished = λ b told. on_ok r _ _ (λ (is : new.bytes ≡ option_map (resized p.layout) mid.bytes).
              is ∙ ap (option_map (resized p.layout)) (bytes_mid b told)
              ∙ sym (ap (λ (t : Bool). Some (cond {A = List ℕ} t (resized p.layout (spliced 0 (sealed_header C key (with_size h p.size)) b))
              (cond {A = List ℕ} (nat_eq p.size p.before) b (spliced 0 (sealed_header C key (with_size h p.size)) b)))) less)) done;
          trimmed = trimmed_cut p.before p.size p.layout old.bytes mid.bytes new.bytes smaller (header_torn {E = Error} (Ok tt) written tt) (λ b told. cut_to r mid.bytes new.bytes p.layout b done torn told);
          left = left' ∙ left;
          failed = if_err r _ _ (λ e why. (why.0, caused_later Io old mid new quiet why.1)) failed;
          began = on_err_any r _ (omega (arith, began, moved'.changes_later));
          quiet = on_ok r _ _ (λ (q : Quiet mid new). quiet_then old mid new quiet q) quiet';
          moved = moved_less old new _ _ _ _ _ (max 96 p.layout) (if nat_eq p.size p.before then 0 else 96) 0 ((if nat_eq p.size p.before then 0 else 1) + (if nat_lt p.size p.before then 1 else 0)) 0
              (moved_then old mid new _ _ _ _ _ _ _ _ _ _ moved moved')
              (omega (arith, long)) (omega (arith, long, traffic)) (omega arith) (omega (arith, one, two)) (omega arith);
          strays = strays' ∙ strays;
        }
