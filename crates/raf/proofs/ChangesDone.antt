-- A change that was carried out, as its command's step.
use Rattle.std.proofs.Common.{◌≡◌, inl, inr, ℕ, Bool, true, false, cond, List, [], length, Option, Some, None, refl, sym, ◌∙◌, ap, subst}
use Rattle.std.specs.Prelude.{if◌then◌else◌, is_some}
use Rattle.std.proofs.lemmas.Bool.{false≢true}
use Rattle.raf_tree.specs.Hashing.{Hashing}
use Rattle.raf_tree.specs.Kept.{Kept}
use Rattle.raf_tree.specs.Laws.{TreeLaws}
use Rattle.raf_format.specs.Cipher.{Cipher, IsLawful}
use Rattle.raf_format.specs.File.{File, Shape, IsFile, shape_of, chunk_count, chunks_from, file_of}
use Rattle.raf.specs.Due.{Due, Answers, is_refused}
use Rattle.raf.specs.Due.Due.{Exactly}
use Rattle.raf.specs.Concern.{is_touched, is_needed, touched, none_missing, size_after}
use Rattle.raf.specs.Apply.{apply, after}
use Rattle.raf.specs.Change.{Change, change_of}
use Rattle.raf.specs.Image.{image, bytes_after}
use Rattle.raf.specs.Outside.{Quiet}
use Rattle.raf.specs.Handle.{Handle, Holds, WithTree, OfTree, Grown, KeptAnswer, limit_of, outline}
use Rattle.raf.specs.Plan.{plan_of}
use Rattle.raf.specs.Put.{Carried, ChangeMoved, Hashed}
use Rattle.raf.specs.Stepped.{Answered, Bounded, HasForm, Went, with_size, refuses}
use Rattle.raf.specs.declared.planning.Plan.{Plan}
use Rattle.raf.specs.declared.command.Command.{Command}
use Rattle.raf.specs.declared.command.Reply.{Reply}
use Rattle.raf_format.specs.declared.header.Header.{Header}
use Rattle.raf.proofs.StillSteps.{may_change, change_uncommitted}
use Rattle.raf.proofs.Arms.{with_chunks, arm_done, kept_there}
use Rattle.raf.proofs.Amounts.{asked_is, touched_is, size_is}
use Rattle.raf.proofs.ChangeBounds.{limit_by, accepted, bounded_done}
use Rattle.raf.proofs.Pictures.{carried_is_image}
use Rattle.raf.proofs.Reopens.{image_is_file, image_holds}
use Rattle.raf.proofs.GrowsOn.{grows_on}
use Rattle.raf.proofs.ReadyChanges.{Ready, marks, settles, authentic_by, shaped_by, new_fits, new_room}

-- a tree that is there was there
pub tree_was : (old new : Option Kept) (u : Kept) → limit_by new ≡ limit_by old → new ≡ Some u → (t : Kept) × (old ≡ Some t)
tree_was None new u same is = absurd (none_some u.max_chunks (sym same ∙ ap limit_by is))
  where
    none_some : (n : ℕ) → None ≡ Some n → ⊥
    none_some n e = cc
tree_was (Some t) new u same is = (t, refl)

module _ (C : Cipher) (lawful : IsLawful C) (E : List ℕ → Hashing) (laws : (H : Hashing) → TreeLaws H) (old new : Handle) (c : Command) (K : Change) (done : Reply) (ready : Ready C old c K done)
    (carried : Carried C E (C.chunk_key old.key old.header.id) (plan_of (shape_of C old.header) old.header.file_size K) K.bytes old new)
    (moved : ChangeMoved (shape_of C old.header) (plan_of (shape_of C old.header) old.header.file_size K) (length K.bytes) old.outside new.outside)
    (hashed : Hashed (plan_of (shape_of C old.header) old.header.file_size K) old.tree old.outside.calls new.outside.calls)
    (key : new.key ≡ old.key) (header : new.header ≡ with_size old.header K.size) (limit : limit_of new ≡ limit_of old) (unmarked : new.broken ≡ false) where
  abbrev h : Header
  h = old.header

  abbrev s : Shape
  s = shape_of C old.header

  abbrev p : Plan
  p = plan_of (shape_of C old.header) old.header.file_size K

  abbrev file_with : List (Option (List ℕ)) → File
  file_with chunks = with_chunks C old.header chunks

  arm : (chunks : List (Option (List ℕ))) → none_missing (is_needed (file_with chunks) K) 0 chunks ≡ true → apply (limit_of old) (file_with chunks) c ≡ (Exactly done, after (file_with chunks) K)
  arm chunks there = arm_done C h c K done ready.alters (limit_of old) chunks ready.fits there

  module _ (b : List ℕ) (tells : old.outside.bytes ≡ Some b) (is_file : IsFile C old.key b old.header) where
    abbrev opened : List (Option (List ℕ))
    opened = chunks_from C (C.chunk_key old.key old.header.id) old.header b 0 (chunk_count old.header.chunk_size old.header.file_size)

    abbrev F : File
    F = file_of C old.key old.header b

    there : none_missing (is_needed F K) 0 opened ≡ true
    there = kept_there C old.key b h K is_file ready.ranged carried.kept (carried.right b tells)

    due : apply (limit_of old) F c ≡ (Exactly done, after F K)
    due = arm opened there

    still : is_refused (apply (limit_of old) F c).0 ≡ false
    still = accepted C h c K done ready.alters ready.calm ready.least ready.ranged old.tree opened ready.fits there

    abbrev pictured : List ℕ
    pictured = image C old.key b (after F K) (is_touched F K) carried.nonces

    tells_now : new.outside.bytes ≡ Some pictured
    tells_now = carried_is_image C lawful E b old new K is_file ready.ranged tells carried

    bytes_are : bytes_after (limit_of old) C old.key F c carried.nonces b ≡ pictured
    bytes_are =
        ap (λ (d : Due × File). cond {A = List ℕ} (is_refused d.0) b (cond {A = List ℕ} (is_some (change_of F c)) (image C old.key b d.1 (touched F c) carried.nonces) b)) due
        ∙ ap (λ (t : Bool). cond {A = List ℕ} t b (cond {A = List ℕ} (is_some (change_of F c)) (image C old.key b (after F K) (touched F c) carried.nonces) b)) ready.calm
        ∙ ap (λ (o : Option Change). cond {A = List ℕ} (is_some o) (image C old.key b (after F K) (touched F c) carried.nonces) b) (ready.alters.change opened)
        ∙ ap (λ (test : ℕ → Bool). image C old.key b (after F K) test carried.nonces) (touched_is C h c K done ready.alters ready.least ready.ranged (limit_of old) opened)

    holds : Holds C new (after F K)
    holds = record {
      bytes = pictured;
      tells = tells_now;
      is_file = subst (λ (k : List ℕ). IsFile C k pictured new.header) (sym key) (subst (λ (x : Header). IsFile C old.key pictured x) (sym header)
          (image_is_file C lawful old.key b h K is_file ready.ranged carried.nonces carried.drawn (new_fits C old c K done ready)));
      file = image_holds C lawful old.key b h K is_file ready.ranged carried.nonces carried.drawn (new_fits C old c K done ready)
          ∙ ap (λ (x : Header). file_of C old.key x pictured) (sym header) ∙ ap (λ (k : List ℕ). file_of C k new.header pictured) (sym key);
    }

    grown : WithTree E old (Grown F) → WithTree E new (Grown (after F K))
    grown was setting u set kept =
        let found = tree_was old.tree new.tree u limit kept in
        let set_old : old.outside.setting ≡ Some setting = sym moved.setting ∙ set in
        grows_on C lawful old.key b h K is_file ready.ranged carried.kept (carried.right b tells) (E setting) (laws (E setting)) found.0 u
        (was setting found.0 set_old found.1) (ready.room found.0 found.1) (new_room C old c K done ready found.0 found.1) (carried.tree found.0 u found.1 kept setting found.0 set_old found.1)

    answered : Answered C E old new F b c done
    answered = record {
      due = subst (λ (d : Due × File). Answers (λ r. OfTree E old (KeptAnswer F c r)) d.0 done) (sym due) refl;
      nonces = carried.nonces;
      drawn = carried.drawn ∙ sym (asked_is C h c K done ready.alters ready.least ready.ranged (limit_of old) opened still);
      taken = carried.taken;
      tells = tells_now ∙ ap (λ (l : List ℕ). Some l) (sym bytes_are);
      holds = subst (λ (d : Due × File). Holds C new d.1) (sym due) holds;
      authentic = authentic_by C old.key b F (apply (limit_of old) F c).0 c ready.alters.kind;
      grown = λ was. subst (λ (d : Due × File). WithTree E new (Grown d.1)) (sym due) (elim was [
        | inl kept ↦ grown kept
        | inr rebuilt ↦ absurd (false≢true (sym (ap may_change rebuilt.0) ∙ ready.alters.kind))
      ]);
      unmarked = unmarked;
      still = λ refused. absurd (false≢true (sym ready.answered ∙ refused));
    }

    bounded_held : Bounded (limit_of old) old.outside new.outside F c
    bounded_held = bounded_done C h c K done ready.alters ready.calm ready.least ready.ranged old.tree opened ready.fits old.outside new.outside there moved hashed

  size_now : new.header ≡ (if refuses done then old.header else with_size old.header (size_after (outline C old.header) c))
  size_now =
      header ∙ ap (λ (n : ℕ). with_size old.header n) (sym (size_is C h c K done ready.alters ready.least ready.ranged (limit_of old) []))
      ∙ sym (ap (λ (t : Bool). cond {A = Header} t old.header (with_size old.header (size_after (outline C old.header) c))) ready.answered)

  pub went_done : Quiet old.outside new.outside → ((F : File) → Holds C old F → new.outside.strays ≡ old.outside.strays) → Went C E old new c done
  went_done quiet strays = record {
    answered = λ F held _. subst (λ (G : File). Answered C E old new G held.bytes c done) (sym held.file) (answered held.bytes held.tells held.is_file);
    cut = λ F held fault. absurd (false≢true (sym ready.faultless ∙ fault));
    starved = λ F held is. absurd (false≢true (sym ready.answered ∙ ap refuses is));
    failed = λ fault. absurd (false≢true (sym ready.faultless ∙ fault));
    quiet = λ _. quiet;
    shaped = λ _. shaped_by (limit_of old) (outline C old.header) done c ready.alters.kind
        (inr (subst (λ (d : Due × File). Answers (HasForm c) d.0 done) (sym (arm [] refl)) refl));
    bounded = λ F measures. elim measures [
      | inl held ↦ subst (λ (G : File). Bounded (limit_of old) old.outside new.outside G c) (sym held.file) (bounded_held held.bytes held.tells held.is_file)
      | inr is ↦ subst (λ (G : File). Bounded (limit_of old) old.outside new.outside G c) (sym is)
          (bounded_done C h c K done ready.alters ready.calm ready.least ready.ranged old.tree [] ready.fits old.outside new.outside refl moved hashed)
    ];
    strays = strays;
    committed = change_uncommitted E old c done ready.alters.kind;
    marked = record { sets = λ may refused began. absurd (false≢true (sym ready.answered ∙ refused)); cause = λ set. absurd (false≢true (sym unmarked ∙ set)); calmly = λ set. absurd (false≢true (sym unmarked ∙ set)) };
    stays = record {
      key = key;
      limit = limit;
      header = size_now;
      bytes = λ off. elim off [
        | inl still ↦ absurd (false≢true (sym still ∙ marks c ready.alters.kind))
        | inr refused ↦ absurd (false≢true (sym ready.answered ∙ refused.0))
      ];
      durable = λ calm. elim calm [
        | inl still ↦ absurd (false≢true (sym still ∙ settles c ready.alters.kind))
        | inr refused ↦ absurd (false≢true (sym ready.answered ∙ refused.1))
      ];
      synced = λ is. absurd (false≢true (sym (ap may_change is) ∙ ready.alters.kind));
    };
  }
