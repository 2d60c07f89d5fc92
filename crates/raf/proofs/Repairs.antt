-- A storage that gets the length that its header says: the look at it, and what it opens to then.
use Rattle.std.proofs.Common.{◌≡◌, inl, inr, true, false, ℕ, ◌≤◌, ◌<◌, ◌^◌, max, List, length, take, Option, Some, Ok, Err, refl, sym, ◌∙◌, ap, subst, arith}
use Rattle.std.proofs.Math.Seq.{take-length}
use Rattle.std.proofs.lemmas.Bool.{false≢true}
use Rattle.std.specs.Option.{option_map}
use Rattle.counts.specs.Counts.{Rose}
use Rattle.raf_format.specs.Cipher.{Cipher, IsLawful}
use Rattle.raf_format.specs.Header.{Says}
use Rattle.raf_format.specs.File.{IsFile, Opens, file_of}
use Rattle.raf_format.specs.declared.header.Header.{Header}
use Rattle.raf_format.proofs.Opened.{opens_of}
use Rattle.raf_format.proofs.Headers.{says_one}
use Rattle.raf_io.specs.Storage.{Strays, Told, Cut, resized}
use Rattle.raf_io.specs.Kinds.{kind_of}
use Rattle.raf_io.specs.declared.errors.Error.{Error}
use Rattle.raf_io.specs.declared.errors.ErrorKind.{ErrorKind}
use Rattle.raf_io.specs.declared.errors.ErrorKind.TheVariants.{Io}
use Rattle.raf_io.proofs.Splices.{length-resized, take-resized, resized_cut}
use Rattle.raf.specs.Loaded.{Front}
use Rattle.raf.specs.Outside.{Outside, Kept, Quiet, Caused, Moved}
use Rattle.raf.specs.Opening.{RefusalFault}
use Rattle.raf.specs.Repaired.{length_of, IsHeaded, WhyNotHeaded, IsHeadKind, Measured, Repaired}
use Rattle.raf.specs.declared.repairing.Lengths.{Lengths}
use Rattle.raf.proofs.Headers.{says_front, says_whole, tagged_front, tagged_whole}
use Rattle.raf.proofs.Moves.{quiet_then, kept_then, moved_then, moved_less, caused_later}

module _ (C : Cipher) (key : List ℕ) (old mid new : Outside) (quiet : Quiet old mid) (kept : Kept old mid) (moved : Moved old mid 0 0 0 0 0) (strays : mid.strays ≡ old.strays)
    (quiet' : Quiet mid new) (kept' : Kept mid new) (moved' : Moved mid new 96 96 0 0 0) (strays' : Strays mid.bytes 0 96 mid.strays new.strays)
    (long : (b : List ℕ) → old.bytes ≡ Some b → 96 ≤ length b) where
  no_stray : (b : List ℕ) → old.bytes ≡ Some b → new.strays ≡ old.strays
  no_stray b tells = (subst (λ (o : Option (List ℕ)). Strays o 0 96 mid.strays new.strays) (kept.bytes ∙ tells) strays').0 (omega (arith, long b tells)) ∙ strays

  all_moved : Moved old new 96 96 0 0 0
  all_moved = moved_less old new 96 96 0 0 0 96 96 0 0 0 (moved_then old mid new 0 0 0 0 0 96 96 0 0 0 moved moved') (omega arith) (omega arith) (omega arith) (omega arith) (omega arith)

  pub measured_found : (l : Lengths) → ((b : List ℕ) → old.bytes ≡ Some b → (length b ≡ l.has) × ((h : Header) × IsHeaded C key b h × (l.says ≡ length_of C h)))
      → Measured C key old new (Ok l)
  measured_found l found = record {
    found = found;
    why = λ b tells. tt;
    kinds = tt;
    fault = tt;
    quiet = quiet_then old mid new quiet quiet';
    kept = kept_then old mid new kept kept';
    moved = all_moved;
    strays = no_stray;
  }

  pub measured_refused : (e : Error) → ((b : List ℕ) → old.bytes ≡ Some b → WhyNotHeaded C key b (kind_of e)) → IsHeadKind (kind_of e)
      → (Quiet old new → RefusalFault (kind_of e) old new) → Measured C key old new (Err e)
  measured_refused e why kinds fault = record {
    found = λ b tells. tt;
    why = why;
    kinds = kinds;
    fault = fault (quiet_then old mid new quiet quiet');
    quiet = tt;
    kept = kept_then old mid new kept kept';
    moved = all_moved;
    strays = no_stray;
  }

-- bytes at the length that their header says
module _ (C : Cipher) (lawful : IsLawful C) (key b : List ℕ) (h : Header) (headed : IsHeaded C key b h) where
  abbrev so_long : List ℕ
  so_long = resized (length_of C h) b

  len : length so_long ≡ length_of C h
  len = length-resized (length_of C h) b

  at_least : 96 ≤ length_of C h
  at_least = omega arith

  same_front : take 96 so_long ≡ take 96 b
  same_front = take-resized 96 (length_of C h) b at_least ∙ resized_cut 96 b headed.says.long

  front : Front so_long (take 96 b)
  front = record { is = sym same_front; long = omega (arith, len, at_least) }

  old_front : Front b (take 96 b)
  old_front = record { is = refl; long = headed.says.long }

  pub is_file : IsFile C key so_long h
  is_file = record {
    says = says_whole so_long (take 96 b) h front (says_front b (take 96 b) h old_front headed.says);
    algorithm = headed.algorithm;
    length_fits = len;
    below = omega (arith, len, headed.below);
    tagged = tagged_whole C key so_long (take 96 b) front (tagged_front C key b (take 96 b) old_front headed.tagged);
  }

  pub opens : Opens C key so_long (file_of C key h so_long)
  opens = opens_of C lawful key so_long h is_file

module _ (C : Cipher) (lawful : IsLawful C) (key : List ℕ) (old mid : Outside) where
  -- nothing was changed
  pub repaired_idle : (l : Lengths) → l.has ≡ l.says → Measured C key old mid (Ok l) → mid.changes ≡ old.changes → Repaired C key old mid (Ok false)
  repaired_idle l same m changes = record {
    done = λ b tells.
        let f = m.found b tells in
        let h = f.1.0 in
        let long : length b ≡ length_of C h = f.0 ∙ same ∙ f.1.2 in
        record {
          header = h;
          headed = f.1.1;
          bytes = m.kept.bytes ∙ tells ∙ ap (λ (l : List ℕ). Some l) (sym (ap (λ (n : ℕ). resized n b) (sym long) ∙ whole b));
          opens = opens C lawful key b h f.1.1;
          had = (λ _. long, λ _. refl);
        };
    idle = λ _. (m.kept, changes);
    why = λ b tells. tt;
    kinds = tt;
    fault = tt;
    quiet = m.quiet;
    kept = tt;
    moved = λ b h tells says. moved_less old mid _ _ _ _ _ (max 96 (length_of C h)) 96 0 1 0 m.moved (omega arith) (omega arith) (omega arith) (omega arith) (omega arith);
    bounded = moved_less old mid _ _ _ _ _ (2 ^ 64) 96 0 1 0 m.moved (omega arith) (omega arith) (omega arith) (omega arith) (omega arith);
    strays = m.strays;
  }
    where
      whole : (b : List ℕ) → resized (length b) b ≡ b
      whole b = resized_cut (length b) b (omega arith) ∙ take-length b

  -- another length was set, or the storage failed as it was
  module _ (l : Lengths) (other : l.has ≡ l.says → ⊥) (small : l.says < 2 ^ 64) (m : Measured C key old mid (Ok l)) (new : Outside) (moved : Moved mid new l.says 0 0 1 0)
      (strays : new.strays ≡ mid.strays) where
    same_head : (b : List ℕ) → old.bytes ≡ Some b → (h : Header) → Says b h → l.says ≡ length_of C h
    same_head b tells h says =
        let f = m.found b tells in
        f.1.2 ∙ ap (λ (h : Header). length_of C h) (says_one b f.1.0 h f.1.1.says says)

    all_moved_by : (b : List ℕ) (h : Header) → old.bytes ≡ Some b → Says b h → Moved old new (max 96 (length_of C h)) 96 0 1 0
    all_moved_by b h tells says = moved_less old new _ _ _ _ _ (max 96 (length_of C h)) 96 0 1 0 (moved_then old mid new _ _ _ _ _ _ _ _ _ _ m.moved moved)
        (omega (arith, same_head b tells h says)) (omega arith) (omega arith) (omega arith) (omega arith)

    all_bounded : Moved old new (2 ^ 64) 96 0 1 0
    all_bounded = moved_less old new _ _ _ _ _ (2 ^ 64) 96 0 1 0 (moved_then old mid new _ _ _ _ _ _ _ _ _ _ m.moved moved)
        (omega (arith, small)) (omega arith) (omega arith) (omega arith) (omega arith)

    pub repaired_set : new.bytes ≡ option_map (resized l.says) mid.bytes → Quiet mid new → Repaired C key old new (Ok true)
    repaired_set set quiet = record {
      done = λ b tells.
          let f = m.found b tells in
          let h = f.1.0 in
          record {
            header = h;
            headed = f.1.1;
            bytes = set ∙ ap (option_map (resized l.says)) (m.kept.bytes ∙ tells) ∙ ap (λ (n : ℕ). Some (resized n b)) f.1.2;
            opens = opens C lawful key b h f.1.1;
            had = (λ is. absurd (false≢true (sym is)), λ is. absurd (other (sym f.0 ∙ is ∙ sym f.1.2)));
          };
      idle = λ is. absurd (false≢true (sym is));
      why = λ b tells. tt;
      kinds = tt;
      fault = tt;
      quiet = quiet_then old mid new m.quiet quiet;
      kept = tt;
      moved = all_moved_by;
      bounded = all_bounded;
      strays = λ b tells. strays ∙ m.strays b tells;
    }

    pub repaired_cut : (e : Error) → (kind_of e ≡ Io) × Caused Io mid new → Rose mid.changes new.changes → Told (Cut l.says) mid.bytes new.bytes → Repaired C key old new (Err e)
    repaired_cut e failed began cut = record {
      done = λ b tells. tt;
      idle = tt;
      why = λ b tells. subst (λ (k : ErrorKind). WhyNotHeaded C key b k) (sym failed.0) tt;
      kinds = subst (λ (k : ErrorKind). IsHeadKind k) (sym failed.0) tt;
      fault = subst (λ (k : ErrorKind). RefusalFault k old new) (sym failed.0) (caused_later Io old mid new m.quiet failed.1);
      quiet = tt;
      kept = inr (
        failed.0,
        omega (arith, began, m.moved.changes_later, m.moved.changes_most),
        λ b tells.
            let f = m.found b tells in (
              f.1.0,
              f.1.1,
              subst (λ (n : ℕ). Told (Cut n) old.bytes new.bytes) f.1.2 (subst (λ (o : Option (List ℕ)). Told (Cut l.says) o new.bytes) m.kept.bytes cut),
            ),
      );
      moved = all_moved_by;
      bounded = all_bounded;
      strays = λ b tells. strays ∙ m.strays b tells;
    }

  pub repaired_none : (e : Error) → Measured C key old mid (Err e) → mid.changes ≡ old.changes → Repaired C key old mid (Err e)
  repaired_none e m changes = record {
    done = λ b tells. tt;
    idle = tt;
    why = m.why;
    kinds = m.kinds;
    fault = m.fault;
    quiet = tt;
    kept = inl (m.kept, changes);
    moved = λ b h tells says. moved_less old mid _ _ _ _ _ (max 96 (length_of C h)) 96 0 1 0 m.moved (omega arith) (omega arith) (omega arith) (omega arith) (omega arith);
    bounded = moved_less old mid _ _ _ _ _ (2 ^ 64) 96 0 1 0 m.moved (omega arith) (omega arith) (omega arith) (omega arith) (omega arith);
    strays = m.strays;
  }
