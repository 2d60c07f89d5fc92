use Rattle.std.proofs.Common.{rules, arith, ◌≡◌, ℕ, ◌+◌, ◌-◌, ◌≤◌, ◌∷◌, [], ◌++◌, List, length, take, drop, sym, subst, ap, ◌∙◌, vec_len, vec_capacity}
use Rattle.std.proofs.lemmas.List.{take-take, take-append-le}
use Rattle.raf_format.specs.Cipher.{cipher_of}
use Rattle.raf_io.specs.Kinds.{kind_of}
use Rattle.raf_log.specs.Entries.{spelled}
use Rattle.raf_log.specs.Log.{LogHandle, Spaced, log_handle}
use Rattle.raf_log.specs.Call.{LogStepped}
use Rattle.raf_log.specs.declared.command.LogCommand.TheVariants as command
use Rattle.raf_log.specs.declared.command.LogReply.TheVariants as reply
use Rattle.raf_log.specs.declared.error.LogErrorKind.TheVariants.{Raf}
use Rattle.raf_log.proofs.Appends.{append_refused, append_done, size_written}
use Rattle.raf_log.proofs.Walks.{spaced-push}
use Rattle.raf_log.proofs.log.Log.append.Goals as goal

-- the front of the line, after the entry was spelled into it
line_is : (n len : ℕ) (X items line s : List ℕ) → line ≡ take len (X ++ drop (length X) items) → n ≤ len → n ≤ length X → take n X ≡ s → take n line ≡ s
line_is n len X items line s is le long front =
    ap (λ (l : List ℕ). take n l) is ∙ take-take n len (X ++ drop (length X) items) le ∙ take-append-le n X (drop (length X) items) long ∙ front

pub returns-in-Err : goal.returns-in-Err
returns-in-Err g c =
    let C = cipher_of g.A.Algorithm.variant in
    let E = g.H.MerkleHasher.hashing in
    let line : take (4 + length c.args.entry.now) c.deref.result.now ≡ spelled c.args.entry.now =
    line_is (4 + length c.args.entry.now) c.self.inside.line.len c.spell_into.new.line c.self.inside.line.items c.deref.result.now (spelled c.args.entry.now) c.deref.ensures.value
    (omega (arith, c.self.invariant.0, c.if-entry-gt-ENTRY_BYTES.false)) (omega (arith, c.spell_into.auto.line, c.deref_mut.ensures.len, c.self.invariant.0, c.if-entry-gt-ENTRY_BYTES.false)) c.spell_into.ensures in
    subst (λ (l : LogHandle). LogStepped C E l (log_handle c.write.new.self c.self.inside.starts.items c.self.inside.spare) (command.Append c.args.entry.now) (reply.Refused (Raf (kind_of c.in-Err.error)))) c.self.view_is
    (append_refused C c.contents.ensures E c.self.inside.raf c.write.new.self c.self.inside.starts.items c.self.inside.spare c.args.entry.now (take (4 + length c.args.entry.now) c.deref.result.now) c.size-size.result
    c.if-entry-gt-ENTRY_BYTES.false line c.size-size.ensures (kind_of c.in-Err.error) c.in-Err.ensures.stepped)

pub invariant_of-self-2 : goal.invariant_of-self-2
invariant_of-self-2 g c =
    let C = cipher_of g.A.Algorithm.variant in
    let E = g.H.MerkleHasher.hashing in
    let line : take (4 + length c.args.entry.now) c.deref.result.now ≡ spelled c.args.entry.now =
    line_is (4 + length c.args.entry.now) c.self.inside.line.len c.spell_into.new.line c.self.inside.line.items c.deref.result.now (spelled c.args.entry.now) c.deref.ensures.value
    (omega (arith, c.self.invariant.0, c.if-entry-gt-ENTRY_BYTES.false)) (omega (arith, c.spell_into.auto.line, c.deref_mut.ensures.len, c.self.invariant.0, c.if-entry-gt-ENTRY_BYTES.false)) c.spell_into.ensures in
    let size : c.write.new.self.header.file_size ≡ c.self.inside.raf.header.file_size + 4 + length c.args.entry.now =
    omega (
      arith,
      size_written C c.contents.ensures E c.self.inside.raf c.write.new.self c.self.inside.starts.items c.self.inside.spare c.args.entry.now (take (4 + length c.args.entry.now) c.deref.result.now)
          c.size-size.result c.if-entry-gt-ENTRY_BYTES.false line c.size-size.ensures c.in-Ok.field-0 c.in-Ok.ensures.stepped,
    ) in
    let pushed : c.push.new.self.items ≡ c.self.inside.starts.items ++ c.size-size.result ∷ [] = rw c.unwrap.ensures at c.push.ensures.items in
    let len : vec_len c.push.new.self ≡ vec_len c.self.inside.starts + 1 = rw c.unwrap.ensures at c.push.ensures.len in
    let cap : vec_capacity c.self.inside.starts ≤ vec_capacity c.push.new.self = c.push.ensures.capacity in
    let some : 1 ≤ c.self.inside.spare = subst (λ (l : LogHandle). 1 ≤ l.spare) (sym c.self.view_is) c.requires in (
      c.self.invariant.0,
      omega (arith, len, cap, some, c.self.invariant.1),
      subst (λ (l : List ℕ). Spaced 0 l c.write.new.self.header.file_size) (sym (pushed ∙ ap (λ (k : ℕ). c.self.inside.starts.items ++ k ∷ []) c.size-size.ensures))
          (subst (λ (k : ℕ). Spaced 0 (c.self.inside.starts.items ++ c.self.inside.raf.header.file_size ∷ []) k) (sym size)
          (spaced-push 0 c.self.inside.starts.items c.self.inside.raf.header.file_size (length c.args.entry.now) c.self.invariant.2 c.if-entry-gt-ENTRY_BYTES.false)),
    )

pub returns : goal.returns
returns g c =
    let C = cipher_of g.A.Algorithm.variant in
    let E = g.H.MerkleHasher.hashing in
    let line : take (4 + length c.args.entry.now) c.deref.result.now ≡ spelled c.args.entry.now =
    line_is (4 + length c.args.entry.now) c.self.inside.line.len c.spell_into.new.line c.self.inside.line.items c.deref.result.now (spelled c.args.entry.now) c.deref.ensures.value
    (omega (arith, c.self.invariant.0, c.if-entry-gt-ENTRY_BYTES.false)) (omega (arith, c.spell_into.auto.line, c.deref_mut.ensures.len, c.self.invariant.0, c.if-entry-gt-ENTRY_BYTES.false)) c.spell_into.ensures in
    let pushed : c.push.new.self.items ≡ c.self.inside.starts.items ++ c.size-size.result ∷ [] = rw c.unwrap.ensures at c.push.ensures.items in
    let some : 1 ≤ c.self.inside.spare = subst (λ (l : LogHandle). 1 ≤ l.spare) (sym c.self.view_is) c.requires in
    let index : length c.self.inside.starts.items ≡ c.len-index.result = search rules in
    subst (λ (l : LogHandle). LogStepped C E l (log_handle c.write.new.self c.push.new.self.items (c.self.inside.spare - 1)) (command.Append c.args.entry.now) (reply.Appended c.len-index.result)) c.self.view_is
    (subst (λ (k : ℕ). LogStepped C E (log_handle c.self.inside.raf c.self.inside.starts.items c.self.inside.spare) (log_handle c.write.new.self c.push.new.self.items (c.self.inside.spare - 1)) (command.Append c.args.entry.now) (reply.Appended k)) index
    (append_done C c.contents.ensures E c.self.inside.raf c.write.new.self c.self.inside.starts.items c.self.inside.spare c.args.entry.now (take (4 + length c.args.entry.now) c.deref.result.now)
    c.size-size.result c.if-entry-gt-ENTRY_BYTES.false line c.size-size.ensures c.in-Ok.field-0 c.push.new.self.items (c.self.inside.spare - 1) c.in-Ok.ensures.stepped pushed (omega (arith, some))))
