-- One touched chunk is put: its place in a buffer, and what its calls leave.
use Rattle.std.proofs.Common.{◌≡◌, inl, inr, ℕ, ◌+◌, ◌-◌, ◌*◌, ◌<◌, ◌≤◌, min, Bool, true, false, cond, List, length, take, drop, Option, Some, None, Result, Ok, Err, sym, ◌∙◌, ap, subst, arith, length-take}
use Rattle.std.specs.Prelude.{nat_lt, nat_le, ◌&&◌, not}
use Rattle.std.specs.Option.{option_map}
use Rattle.std.specs.Result.{OnOk, OnErr, IfErr}
use Rattle.std.proofs.lemmas.List.{take-take, drop-take}
use Rattle.std.proofs.lemmas.Bool.{cases_lt}
use Rattle.std.proofs.lemmas.Bool.Decides.{nat_tests}
use Rattle.counts.specs.Counts.{Rose}
use Rattle.raf_io.specs.Storage.{Told, Torn, spliced}
use Rattle.raf_io.specs.Kinds.{kind_of}
use Rattle.raf_tree.specs.Hashing.{Hashing}
use Rattle.raf_tree.specs.Kept.{Kept}
use Rattle.raf_format.specs.Cipher.{Cipher}
use Rattle.raf_format.specs.File.{Shape, shape_of, chunk_len, layout_len, record_start, record_len}
use Rattle.raf.specs.Outside.{Outside, Kept as Kept_, Quiet, Caused, Moved}
use Rattle.raf.specs.Plan.{Planned, kept_len}
use Rattle.raf.specs.Put.{put_chunk, record_for}
use Rattle.raf.specs.Carry.{SameTree, OfTrees, Leafed, HasTree, Hindered, Puts, TornTo, buffer_of, kept_in}
use Rattle.raf.specs.declared.planning.Plan.{Plan}
use Rattle.raf_format.specs.declared.header.Header.{Header}
use Rattle.raf_io.specs.declared.errors.Error.{Error}
use Rattle.raf_io.specs.declared.errors.ErrorKind.{ErrorKind}
use Rattle.raf_io.specs.declared.errors.ErrorKind.TheVariants.{Io, Hash, Rng}
use Rattle.raf.proofs.Moves.{moved_then, moved_less, quiet_then, caused_later}
use Rattle.raf.proofs.Spans.{record_inside}
use Rattle.raf.proofs.Tears.{torn_to, torn_none}

pub on_ok : {E : Type 0} (r : Result (Unit {0}) E) (P Q : Type 0) → (P → Q) → OnOk r P → OnOk r Q
on_ok (Ok x) P Q f h = f h
on_ok (Err e) P Q f h = tt

pub on_ok_any : {E : Type 0} (r : Result (Unit {0}) E) (P : Type 0) → P → OnOk r P
on_ok_any (Ok x) P h = h
on_ok_any (Err e) P h = tt

pub if_err : {T E : Type 0} (r : Result T E) (P Q : E → Type 0) → ((e : E) → P e → Q e) → IfErr r P → IfErr r Q
if_err (Ok x) P Q f h = tt
if_err (Err e) P Q f h = f e h

hash_rng : Hash ≡ Rng → ⊥
hash_rng is = cc

io_rng : Io ≡ Rng → ⊥
io_rng is = cc

-- what is kept fits
pub kept_fits : (chunk_size : ℕ) (p : Plan) (len index : ℕ) → kept_len chunk_size p len index ≤ chunk_len chunk_size p.size index
kept_fits chunk_size p len index =
    let start = index * chunk_size in
    let stop = min (start + chunk_size) (min p.before p.size) in
    go (nat_lt start stop && not (nat_le p.offset start && nat_le stop (p.offset + len)))
  where
    go : (t : Bool) → cond {A = ℕ} t (min (index * chunk_size + chunk_size) (min p.before p.size) - index * chunk_size) 0 ≤ chunk_len chunk_size p.size index
    go true = omega arith
    go false = omega arith

-- the front of a buffer
pub front_nonce : (nonce_len len : ℕ) (buf : List ℕ) → nonce_len ≤ len → take nonce_len (take len buf) ≡ take nonce_len buf
front_nonce nonce_len len buf le = take-take nonce_len len buf le

pub front_kept : (nonce_len kept len : ℕ) (buf : List ℕ) → nonce_len + kept ≤ len → take kept (drop nonce_len (take len buf)) ≡ take kept (drop nonce_len buf)
front_kept nonce_len kept len buf le =
    let e : len ≡ nonce_len + (len - nonce_len) = omega arith in
    ap (λ (k : ℕ). take kept (drop nonce_len (take k buf))) e
    ∙ ap (λ (l : List ℕ). take kept l) (drop-take nonce_len (len - nonce_len) buf)
    ∙ take-take kept (len - nonce_len) (drop nonce_len buf) (omega (arith, le))

-- the buffer of an index
module _ (p : Plan) (index : ℕ) (front back : List ℕ) where
  pub buffer_front : index + 1 < p.end → buffer_of p index front back ≡ front
  buffer_front lt = let t : nat_lt (index + 1) p.end ≡ true = grind (arith, nat_tests) in ap (λ (t : Bool). cond {A = List ℕ} t front back) t

  pub buffer_back : p.end ≤ index + 1 → buffer_of p index front back ≡ back
  buffer_back le = let t : nat_lt (index + 1) p.end ≡ false = grind (arith, nat_tests) in ap (λ (t : Bool). cond {A = List ℕ} t front back) t

  pub buffer_nonce : (n : ℕ) → n ≤ length front → n ≤ length back → length (take n (buffer_of p index front back)) ≡ n
  buffer_nonce n f b = go (nat_lt (index + 1) p.end)
    where
      go : (t : Bool) → length (take n (cond {A = List ℕ} t front back)) ≡ n
      go true = omega (arith, length-take n front, f)
      go false = omega (arith, length-take n back, b)

-- what is kept of a later chunk doesn't depend on the first buffer, nor on the nonce
pub kept_same : (C : Cipher) (h : Header) (p : Plan) (len index : ℕ) (front back front' back' : List ℕ) → Planned (shape_of C h) p len → p.first < index → index < p.end
    → drop C.nonce_len back' ≡ drop C.nonce_len back → kept_in C h p len front' back' index ≡ kept_in C h p len front back index
kept_same C h p len index front back front' back' planned above lt same = elim (cases_lt (index + 1) p.end) [
  | inl more ↦
      let z : kept_len h.chunk_size p len index ≡ 0 = planned.covered index above more in
      ap (λ (k : ℕ). take k (drop C.nonce_len (buffer_of p index front' back'))) z ∙ sym (ap (λ (k : ℕ). take k (drop C.nonce_len (buffer_of p index front back))) z)
  | inr last ↦
      ap (λ (l : List ℕ). take (kept_len h.chunk_size p len index) (drop C.nonce_len l)) (buffer_back p index front' back' last)
      ∙ ap (λ (l : List ℕ). take (kept_len h.chunk_size p len index) l) same
      ∙ sym (ap (λ (l : List ℕ). take (kept_len h.chunk_size p len index) (drop C.nonce_len l)) (buffer_back p index front back last))
]

module _ (C : Cipher) (E : List ℕ → Hashing) (K : List ℕ) (h : Header) (p : Plan) (bytes : List ℕ) (index : ℕ) (nonce kept : List ℕ) (old : Outside) (tree : Option Kept) where
  abbrev s : Shape
  s = shape_of C h

  -- the leaf failed
  pub puts_unhashed : (new : Outside) (tree' : Option Kept) (e : Error) → SameTree tree tree' → HasTree tree' → Kept_ old new → (kind_of e ≡ Hash) × Caused Hash old new → Moved old new 0 0 0 0 1
      → Rose old.calls new.calls → (tree ≡ None → new.calls ≡ old.calls) → new.strays ≡ old.strays → Puts C E K h p bytes index nonce kept old new tree tree' (Err e)
  puts_unhashed new tree' e same there kept_ failed moved began none strays = record {
    put = λ b told. tt;
    torn = λ b told. torn_none (record_start s index) (record_len s p.size index) b old.bytes new.bytes told kept_.bytes;
    leaf = tt;
    same = same;
    left = kept_.left;
    failed = subst (λ (k : ErrorKind). Hindered 0 k old new tree') (sym failed.0) (failed.1, there);
    drawn = λ is. hash_rng (sym failed.0 ∙ is);
    began = inr began;
    quiet = tt;
    moved = moved_less old new _ _ _ _ _ (layout_len s p.size) (record_len s p.size index) 0 1 1 moved (omega arith) (omega arith) (omega arith) (omega arith) (omega arith);
    none = none;
    strays = strays;
  }

  -- it was put, and the record written, whether or not that failed
  pub puts_written : (r : Result (Unit {0}) Error) (mid new : Outside) (tree' : Option Kept) (at : ℕ) (place : List ℕ) → Planned s p (length bytes) → index < p.end → at ≡ record_start s index
      → length place ≡ record_len s p.size index → place ≡ record_for C K h p bytes index nonce kept
      → OfTrees E old.setting tree tree' (Leafed index (put_chunk s p bytes index kept)) → SameTree tree tree' → Kept_ old mid → Quiet old mid → Moved old mid 0 0 0 0 1
      → (tree ≡ None → mid.calls ≡ old.calls) → mid.strays ≡ old.strays
      → OnOk r (new.bytes ≡ option_map (spliced at place) mid.bytes) → OnErr r (Told (Torn at (length place)) mid.bytes new.bytes) → new.left ≡ mid.left
      → IfErr r (λ e. (kind_of e ≡ Io) × Caused Io mid new) → OnOk r (Quiet mid new) → Moved mid new (at + length place) (length place) 0 1 0 → Rose mid.changes new.changes → new.strays ≡ mid.strays
      → Puts C E K h p bytes index nonce kept old new tree tree' r
  puts_written r mid new tree' at place planned touched is_at is_len is_record leaf same kept_ quiet moved none strays written torn left failed quiet' moved' began strays' = record {
    put = λ b told. on_ok r _ _ (λ (is : new.bytes ≡ option_map (spliced at place) mid.bytes).
        is ∙ ap (option_map (spliced at place)) (kept_.bytes ∙ told)
        ∙ ap (λ (k : ℕ). Some (spliced k place b)) is_at
        ∙ ap (λ (l : List ℕ). Some (spliced (record_start s index) l b)) is_record) written;
    torn = λ b told.
        subst (λ (k : ℕ). TornTo k (record_len s p.size index) b new.bytes) is_at
        (subst (λ (n : ℕ). TornTo at n b new.bytes) is_len (torn_to r mid.bytes new.bytes at place b written torn (kept_.bytes ∙ told)));
    leaf = on_ok_any r _ leaf;
    same = same;
    left = left ∙ kept_.left;
    failed = if_err r _ _ (λ e why. subst (λ (k : ErrorKind). Hindered 0 k old new tree') (sym why.0) (caused_later Io old mid new quiet why.1)) failed;
    drawn = if_err r _ _ (λ e (why : (kind_of e ≡ Io) × Caused Io mid new) is. io_rng (sym why.0 ∙ is)) failed;
    began = inl (omega (arith, began, moved.changes_later));
    quiet = on_ok r _ _ (λ (q : Quiet mid new). quiet_then old mid new quiet q) quiet';
    moved = moved_less old new _ _ _ _ _ (layout_len s p.size) (record_len s p.size index) 0 1 1 (moved_then old mid new _ _ _ _ _ _ _ _ _ _ moved moved')
        (omega (arith, is_at, is_len, record_inside s p.size planned.least index (omega (arith, touched, planned.spans.below)))) (omega (arith, is_len)) (omega arith) (omega arith) (omega arith);
    none = λ is. let z : new.calls ≡ mid.calls = omega (arith, moved'.calls_later, moved'.calls_most) in z ∙ none is;
    strays = strays' ∙ strays;
  }
