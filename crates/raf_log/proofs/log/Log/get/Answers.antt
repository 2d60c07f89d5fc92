use Rattle.std.proofs.Common.{arith, ◌≡◌, ◌<◌, ℕ, ◌+◌, ◌-◌, List, ◌++◌, length, take, drop, Some, None, refl, sym, subst, ap, ◌∙◌, length-take}
use Rattle.std.specs.Prelude.{slice_get, unwrap_or}
use Rattle.std.proofs.lemmas.List.{take-append-le}
use Rattle.std.proofs.lemmas.Option.{slice_get_within}
use Rattle.raf_format.specs.Cipher.{cipher_of}
use Rattle.raf.specs.Handle.{Holds}
use Rattle.raf.specs.Read.{OldOrOpened}
use Rattle.raf.specs.declared.command.Reply.TheVariants as answers
use Rattle.raf_io.specs.Kinds.{kind_of}
use Rattle.raf_log.specs.Log.{LogHandle, log_handle}
use Rattle.raf_log.specs.Call.{LogStepped}
use Rattle.raf_log.specs.declared.command.LogCommand.TheVariants as command
use Rattle.raf_log.specs.declared.command.LogReply.TheVariants as reply
use Rattle.raf_log.specs.declared.error.LogErrorKind.TheVariants.{Raf}
use Rattle.raf_log.proofs.Starts.{lies_at, ends_at}
use Rattle.raf_log.proofs.Idle.{absent_step}
use Rattle.raf_log.proofs.Gets.{get_done, behind_stays, old_or_opened}
use Rattle.raf_log.proofs.log.Log.get.Goals as goal

same_place : (a b : ℕ) → Some a ≡ Some b → a ≡ b
same_place a b e = cc

pub returns-in-None-clause-stepped : goal.returns-in-None-clause-stepped
returns-in-None-clause-stepped g c =
    let C = cipher_of g.A.Algorithm.variant in
    let E = g.H.MerkleHasher.hashing in
    let none : slice_get c.self.inside.starts.items c.args.index ≡ None = ap (λ (s : List ℕ). slice_get s c.args.index) (sym c.deref.ensures.value) ∙ sym c.in-None.ensures in
    subst (λ (l : LogHandle). LogStepped C E l l (command.Get c.args.index) reply.Absent) c.self.view_is
    (absent_step C E (log_handle c.self.inside.raf c.self.inside.starts.items c.self.inside.spare) c.args.index none)

pub overflow_add-begin : goal.overflow_add-begin
overflow_add-begin g c =
    let there : slice_get c.self.inside.starts.items c.args.index ≡ Some c.in-Some.start = ap (λ (s : List ℕ). slice_get s c.args.index) (sym c.deref.ensures.value) ∙ sym c.in-Some.ensures in
    let lie = lies_at c.self.inside.starts.items c.self.inside.raf.header.file_size c.args.index c.in-Some.start c.self.invariant.2 there in
    omega (arith, lie.0, lie.2, c.size-size.ensures, c.size-size.type_inv)

pub end_of-requires : goal.end_of-requires
end_of-requires g c =
    let there : slice_get c.self.inside.starts.items c.args.index ≡ Some c.in-Some.start = ap (λ (s : List ℕ). slice_get s c.args.index) (sym c.deref.ensures.value) ∙ sym c.in-Some.ensures in
    subst (λ (s : List ℕ). c.args.index < length s) (sym c.deref-2.ensures.value) (slice_get_within c.self.inside.starts.items c.args.index c.in-Some.start there)

pub overflow_sub-len : goal.overflow_sub-len
overflow_sub-len g c =
    let there : slice_get c.self.inside.starts.items c.args.index ≡ Some c.in-Some.start = ap (λ (s : List ℕ). slice_get s c.args.index) (sym c.deref.ensures.value) ∙ sym c.in-Some.ensures in
    let lie = lies_at c.self.inside.starts.items c.self.inside.raf.header.file_size c.args.index c.in-Some.start c.self.invariant.2 there in
    let end = ends_at c.deref-2.result.now c.self.inside.starts.items c.args.index c.size-size.result c.self.inside.raf.header.file_size c.end_of.result c.end_of.ensures c.deref-2.ensures.value c.size-size.ensures in
    omega (arith, lie.0, end)

pub slice_bounds-read-end : goal.slice_bounds-read-end
slice_bounds-read-end g c =
    let there : slice_get c.self.inside.starts.items c.args.index ≡ Some c.in-Some.start = ap (λ (s : List ℕ). slice_get s c.args.index) (sym c.deref.ensures.value) ∙ sym c.in-Some.ensures in
    let lie = lies_at c.self.inside.starts.items c.self.inside.raf.header.file_size c.args.index c.in-Some.start c.self.invariant.2 there in
    let end = ends_at c.deref-2.result.now c.self.inside.starts.items c.args.index c.size-size.result c.self.inside.raf.header.file_size c.end_of.result c.end_of.ensures c.deref-2.ensures.value c.size-size.ensures in
    omega (arith, lie.1, end, c.requires)

pub slice_bounds-read-end-2 : goal.slice_bounds-read-end-2
slice_bounds-read-end-2 g c =
    let there : slice_get c.self.inside.starts.items c.args.index ≡ Some c.in-Some.start = ap (λ (s : List ℕ). slice_get s c.args.index) (sym c.deref.ensures.value) ∙ sym c.in-Some.ensures in
    let lie = lies_at c.self.inside.starts.items c.self.inside.raf.header.file_size c.args.index c.in-Some.start c.self.invariant.2 there in
    let end = ends_at c.deref-2.result.now c.self.inside.starts.items c.args.index c.size-size.result c.self.inside.raf.header.file_size c.end_of.result c.end_of.ensures c.deref-2.ensures.value c.size-size.ensures in
    omega (arith, length-take (c.end_of.result - (c.in-Some.start + 4)) c.args.out.now, lie.1, end, c.requires)

pub returns-in-Err-clause-stepped : goal.returns-in-Err-clause-stepped
returns-in-Err-clause-stepped g c =
    let C = cipher_of g.A.Algorithm.variant in
    let E = g.H.MerkleHasher.hashing in
    let there : slice_get c.self.inside.starts.items c.args.index ≡ Some c.in-Some.start = ap (λ (s : List ℕ). slice_get s c.args.index) (sym c.deref.ensures.value) ∙ sym c.in-Some.ensures in
    let lie = lies_at c.self.inside.starts.items c.self.inside.raf.header.file_size c.args.index c.in-Some.start c.self.invariant.2 there in
    let end = ends_at c.deref-2.result.now c.self.inside.starts.items c.args.index c.size-size.result c.self.inside.raf.header.file_size c.end_of.result c.end_of.ensures c.deref-2.ensures.value c.size-size.ensures in
    let len : length (take (c.end_of.result - (c.in-Some.start + 4)) c.args.out.now) ≡ unwrap_or (slice_get c.self.inside.starts.items (c.args.index + 1)) c.self.inside.raf.header.file_size - (c.in-Some.start + 4) =
    omega (arith, length-take (c.end_of.result - (c.in-Some.start + 4)) c.args.out.now, lie.1, end, c.requires) in
    subst (λ (l : LogHandle). LogStepped C E l (log_handle c.read.new.self c.self.inside.starts.items c.self.inside.spare) (command.Get c.args.index) (reply.Refused (Raf (kind_of c.in-Err.error)))) c.self.view_is
    (get_done C c.contents.ensures E c.self.inside.raf c.read.new.self c.self.inside.starts.items c.self.inside.spare c.args.index c.in-Some.start there
    (length (take (c.end_of.result - (c.in-Some.start + 4)) c.args.out.now)) len (answers.Refused (kind_of c.in-Err.error)) refl c.in-Err.ensures.stepped)

pub returns-clause-stepped : goal.returns-clause-stepped
returns-clause-stepped g c =
    let C = cipher_of g.A.Algorithm.variant in
    let E = g.H.MerkleHasher.hashing in
    let there : slice_get c.self.inside.starts.items c.args.index ≡ Some c.in-Some.start = ap (λ (s : List ℕ). slice_get s c.args.index) (sym c.deref.ensures.value) ∙ sym c.in-Some.ensures in
    let lie = lies_at c.self.inside.starts.items c.self.inside.raf.header.file_size c.args.index c.in-Some.start c.self.invariant.2 there in
    let end = ends_at c.deref-2.result.now c.self.inside.starts.items c.args.index c.size-size.result c.self.inside.raf.header.file_size c.end_of.result c.end_of.ensures c.deref-2.ensures.value c.size-size.ensures in
    let len : length (take (c.end_of.result - (c.in-Some.start + 4)) c.args.out.now) ≡ unwrap_or (slice_get c.self.inside.starts.items (c.args.index + 1)) c.self.inside.raf.header.file_size - (c.in-Some.start + 4) =
    omega (arith, length-take (c.end_of.result - (c.in-Some.start + 4)) c.args.out.now, lie.1, end, c.requires) in
    let front : take c.in-Ok.n (c.read.new.buf ++ drop (c.end_of.result - (c.in-Some.start + 4)) c.args.out.now) ≡ take c.in-Ok.n c.read.new.buf =
    take-append-le c.in-Ok.n c.read.new.buf (drop (c.end_of.result - (c.in-Some.start + 4)) c.args.out.now) (omega (arith, c.in-Ok.ensures.count, c.read.auto.buf)) in
    subst (λ (l : LogHandle). LogStepped C E l (log_handle c.read.new.self c.self.inside.starts.items c.self.inside.spare) (command.Get c.args.index)
    (reply.Entry (take c.in-Ok.n (c.read.new.buf ++ drop (c.end_of.result - (c.in-Some.start + 4)) c.args.out.now)))) c.self.view_is
    (subst (λ (b : List ℕ). LogStepped C E (log_handle c.self.inside.raf c.self.inside.starts.items c.self.inside.spare) (log_handle c.read.new.self c.self.inside.starts.items c.self.inside.spare) (command.Get c.args.index) (reply.Entry b)) (sym front)
    (get_done C c.contents.ensures E c.self.inside.raf c.read.new.self c.self.inside.starts.items c.self.inside.spare c.args.index c.in-Some.start there
    (length (take (c.end_of.result - (c.in-Some.start + 4)) c.args.out.now)) len (answers.Bytes (take c.in-Ok.n c.read.new.buf)) refl c.in-Ok.ensures.stepped))

pub returns-clause-rest : goal.returns-clause-rest
returns-clause-rest g c =
    behind_stays c.in-Ok.n (c.end_of.result - (c.in-Some.start + 4)) c.args.out.now c.read.new.buf c.in-Ok.ensures.rest (omega (arith, c.in-Ok.ensures.count, c.read.auto.buf)) c.read.auto.buf

pub returns-in-Err-clause-refused : goal.returns-in-Err-clause-refused
returns-in-Err-clause-refused g c = λ F o holds at.
    let C = cipher_of g.A.Algorithm.variant in
    let there : slice_get c.self.inside.starts.items c.args.index ≡ Some c.in-Some.start = ap (λ (s : List ℕ). slice_get s c.args.index) (sym c.deref.ensures.value) ∙ sym c.in-Some.ensures in
    let here : slice_get c.self.inside.starts.items c.args.index ≡ Some o = subst (λ (l : LogHandle). slice_get l.starts c.args.index ≡ Some o) (sym c.self.view_is) at in
    let held : Holds C c.self.inside.raf F = subst (λ (l : LogHandle). Holds C l.file F) (sym c.self.view_is) holds in
    subst (λ (n : ℕ). OldOrOpened F (n + 4) c.args.out.now (c.read.new.buf ++ drop (c.end_of.result - (c.in-Some.start + 4)) c.args.out.now)) (same_place c.in-Some.start o (sym there ∙ here))
    (old_or_opened F (c.in-Some.start + 4) (c.end_of.result - (c.in-Some.start + 4)) c.args.out.now c.read.new.buf c.read.auto.buf (c.in-Err.ensures.refused F held))
