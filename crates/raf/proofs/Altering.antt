-- A write and a truncation, each as a change.
use Rattle.std.proofs.Common.{◌≡◌, ◌≢◌, inl, inr, ℕ, ◌^◌, ◌<◌, ◌≤◌, Bool, true, false, cond, List, [], ◌∷◌, length, Option, Some, None, Result, Ok, Err, refl, sym, ◌∙◌, ap, subst, arith}
use Rattle.std.specs.Prelude.{nat_eq}
use Rattle.std.proofs.lemmas.Bool.{cases_lt, false≢true}
use Rattle.std.proofs.lemmas.Bool.Decides.{nat_tests}
use Rattle.raf_tree.specs.Hashing.{Hashing}
use Rattle.raf_tree.specs.Laws.{TreeLaws}
use Rattle.raf_format.specs.Cipher.{Cipher, IsLawful}
use Rattle.raf_format.specs.File.{shape_of, chunk_count, layout_len}
use Rattle.raf.specs.Concern.{can_have}
use Rattle.raf.specs.Change.{Change, write_change, truncate_change}
use Rattle.raf.specs.Handle.{Handle, HasRoom, limit_of, outline}
use Rattle.raf.specs.Plan.{Planned, plan_of}
use Rattle.raf.specs.declared.planning.Plan.{Plan}
use Rattle.raf.specs.Put.{Changing}
use Rattle.raf.specs.Stepped.{Went, write_reply, done_reply}
use Rattle.raf.specs.declared.command.Command.TheVariants.{Write, Truncate}
use Rattle.raf.specs.declared.command.Reply.TheVariants as reply
use Rattle.raf_io.specs.declared.errors.Error.{Error}
use Rattle.raf_format.specs.declared.header.Header.{Header}
use Rattle.raf.proofs.Arms.{Alters}
use Rattle.raf.proofs.Ranges.{write_ranged, truncate_ranged}
use Rattle.raf.proofs.ReadyChanges.{Ready, can_fit}
use Rattle.raf.proofs.Plans.{planned}
use Rattle.raf.proofs.ChangesDone.{went_done}
use Rattle.raf.proofs.ChangesStopped.{went_stopped}
use Rattle.raf.proofs.IdleChanges.{went_nothing}

pub write_alters : (C : Cipher) (h : Header) (offset : ℕ) (bytes : List ℕ) → 0 < length bytes → Alters C h (Write offset bytes) (write_change h.file_size offset bytes) (reply.Wrote (length bytes))
write_alters C h offset [] some = absurd (omega (arith, some))
write_alters C h offset (x ∷ xs) some = record { change = λ chunks. refl; answers = λ F. refl; kind = refl }

pub truncate_alters : (C : Cipher) (h : Header) (size : ℕ) → size ≢ h.file_size → Alters C h (Truncate size) (truncate_change h.chunk_size h.file_size size) reply.Done
truncate_alters C h size other =
    let t : nat_eq size h.file_size ≡ false = grind (arith, nat_tests) in
    record { change = λ chunks. ap (λ (t : Bool). cond {A = Option Change} t None (Some (truncate_change h.chunk_size h.file_size size))) t; answers = λ F. refl; kind = refl }

module _ (C : Cipher) (lawful : IsLawful C) (E : List ℕ → Hashing) (laws : (H : Hashing) → TreeLaws H) (old new : Handle) (least : 16 ≤ old.header.chunk_size)
    (room : HasRoom (chunk_count old.header.chunk_size old.header.file_size) old.tree) where
  -- the plans of both
  pub write_planned : (offset : ℕ) (bytes : List ℕ) (p : Plan) → old.header.chunk_size ≤ 1048576 → layout_len (shape_of C old.header) old.header.file_size < 2 ^ 64 → 0 < length bytes
      → can_have (limit_of old) (outline C old.header) (write_change old.header.file_size offset bytes).size ≡ true
      → p ≡ plan_of (shape_of C old.header) old.header.file_size (write_change old.header.file_size offset bytes) → Planned (shape_of C old.header) p (length bytes)
  write_planned offset bytes p most below some fits is =
      let K = write_change old.header.file_size offset bytes in
      let s = shape_of C old.header in
      let new_fits = can_fit (limit_of old) (outline C old.header) (write_change old.header.file_size offset bytes).size fits in
      subst (λ (q : Plan). Planned (shape_of C old.header) q (length bytes)) (sym is)
      (planned s least old.header.file_size K (write_ranged s least old.header.file_size offset bytes some) most below new_fits (omega (arith, new_fits)))

  pub truncate_planned : (size : ℕ) (p : Plan) → old.header.chunk_size ≤ 1048576 → layout_len (shape_of C old.header) old.header.file_size < 2 ^ 64 → size ≢ old.header.file_size
      → can_have (limit_of old) (outline C old.header) size ≡ true
      → p ≡ plan_of (shape_of C old.header) old.header.file_size (truncate_change old.header.chunk_size old.header.file_size size) → Planned (shape_of C old.header) p 0
  truncate_planned size p most below other fits is =
      let s = shape_of C old.header in
      subst (λ (q : Plan). Planned (shape_of C old.header) q 0) (sym is)
      (planned s least old.header.file_size (truncate_change old.header.chunk_size old.header.file_size size) (truncate_ranged s least old.header.file_size size other) most below
      (can_fit (limit_of old) (outline C old.header) size fits) (omega arith))

  ready_write : (offset : ℕ) (bytes : List ℕ) → 0 < length bytes → can_have (limit_of old) (outline C old.header) (write_change old.header.file_size offset bytes).size ≡ true
      → Ready C old (Write offset bytes) (write_change old.header.file_size offset bytes) (reply.Wrote (length bytes))
  ready_write offset bytes some fits = record {
    alters = write_alters C old.header offset bytes some;
    calm = refl;
    answered = refl;
    faultless = refl;
    least = least;
    ranged = write_ranged (shape_of C old.header) least old.header.file_size offset bytes some;
    fits = fits;
    room = room;
  }

  ready_truncate : (size : ℕ) → size ≢ old.header.file_size → can_have (limit_of old) (outline C old.header) size ≡ true
      → Ready C old (Truncate size) (truncate_change old.header.chunk_size old.header.file_size size) reply.Done
  ready_truncate size other fits = record {
    alters = truncate_alters C old.header size other;
    calm = refl;
    answered = refl;
    faultless = refl;
    least = least;
    ranged = truncate_ranged (shape_of C old.header) least old.header.file_size size other;
    fits = fits;
    room = room;
  }

  pub wrote : (offset : ℕ) (bytes : List ℕ) → 0 < length bytes → can_have (limit_of old) (outline C old.header) (write_change old.header.file_size offset bytes).size ≡ true
      → Changing C E (C.chunk_key old.key old.header.id) (plan_of (shape_of C old.header) old.header.file_size (write_change old.header.file_size offset bytes)) bytes old new (Ok tt)
      → Went C E old new (Write offset bytes) (reply.Wrote (length bytes))
  wrote offset bytes some fits ch =
      went_done C lawful E laws old new (Write offset bytes) (write_change old.header.file_size offset bytes) (reply.Wrote (length bytes)) (ready_write offset bytes some fits) ch.carried ch.moved ch.hashed ch.key ch.header ch.limit ch.unmarked ch.quiet
      (λ F held. ch.strays held.bytes held.tells (omega (arith, held.is_file.length_fits)))

  pub wrote_not : (offset : ℕ) (bytes : List ℕ) → 0 < length bytes → can_have (limit_of old) (outline C old.header) (write_change old.header.file_size offset bytes).size ≡ true → (e : Error)
      → Changing C E (C.chunk_key old.key old.header.id) (plan_of (shape_of C old.header) old.header.file_size (write_change old.header.file_size offset bytes)) bytes old new (Err e)
      → Went C E old new (Write offset bytes) (write_reply (Err e))
  wrote_not offset bytes some fits e ch =
      went_stopped C lawful E old new (Write offset bytes) (write_change old.header.file_size offset bytes) (reply.Wrote (length bytes)) (ready_write offset bytes some fits) e ch

  pub truncated : (size : ℕ) → size ≢ old.header.file_size → can_have (limit_of old) (outline C old.header) size ≡ true → (r : Result (Unit {0}) Error)
      → Changing C E (C.chunk_key old.key old.header.id) (plan_of (shape_of C old.header) old.header.file_size (truncate_change old.header.chunk_size old.header.file_size size)) [] old new r
      → Went C E old new (Truncate size) (done_reply r)
  truncated size other fits (Ok u) ch =
      went_done C lawful E laws old new (Truncate size) (truncate_change old.header.chunk_size old.header.file_size size) reply.Done (ready_truncate size other fits) ch.carried ch.moved ch.hashed ch.key ch.header ch.limit ch.unmarked ch.quiet
      (λ F held. ch.strays held.bytes held.tells (omega (arith, held.is_file.length_fits)))
  truncated size other fits (Err e) ch =
      went_stopped C lawful E old new (Truncate size) (truncate_change old.header.chunk_size old.header.file_size size) reply.Done (ready_truncate size other fits) e ch

-- a write of nothing, and a truncation to the same size
pub wrote_nothing : (C : Cipher) (E : List ℕ → Hashing) (old : Handle) (offset : ℕ) (bytes : List ℕ) → old.broken ≡ false → length bytes ≡ 0 → Went C E old old (Write offset bytes) (reply.Wrote 0)
wrote_nothing C E old offset [] unmarked none = went_nothing C E old (Write offset []) (reply.Wrote 0) refl unmarked refl refl (λ chunks. refl) (λ F. refl)
wrote_nothing C E old offset (x ∷ xs) unmarked none = absurd (omega (arith, none))

pub truncated_nothing : (C : Cipher) (E : List ℕ → Hashing) (old : Handle) (size : ℕ) → old.broken ≡ false → size ≡ old.header.file_size → Went C E old old (Truncate size) reply.Done
truncated_nothing C E old size unmarked same =
    let t : nat_eq size old.header.file_size ≡ true = grind (arith, nat_tests) in
    went_nothing C E old (Truncate size) reply.Done refl unmarked refl refl
    (λ chunks. ap (λ (t : Bool). cond {A = Option Change} t None (Some (truncate_change old.header.chunk_size old.header.file_size size))) t) (λ F. refl)

-- whether there are bytes, by the test
pub none_by : (n : ℕ) → true ≡ nat_eq n 0 → n ≡ 0
none_by n t = elim (cases_lt 0 n) [
  | inl some ↦ let f : nat_eq n 0 ≡ false = grind (arith, nat_tests) in absurd (false≢true (sym f ∙ sym t))
  | inr none ↦ omega (arith, none)
]

pub some_by : (n : ℕ) → false ≡ nat_eq n 0 → 0 < n
some_by n t = elim (cases_lt 0 n) [
  | inl some ↦ some
  | inr none ↦ let f : nat_eq n 0 ≡ true = grind (arith, nat_tests) in absurd (false≢true (t ∙ f))
]
