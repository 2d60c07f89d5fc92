use Rattle.std.proofs.Common.{arith, sym, ◌∙◌, ap, ◌≡◌, length, take, drop, min, ◌-◌}
use Rattle.std.proofs.lemmas.List.{length-take-le}
use Rattle.program_io.proofs.StreamLemmas.{whole_drop, moved, at_end}
use Rattle.program_io.specs.Memory.{Memory}
use Rattle.program_io.proofs.memory.VecSourceSource.read.Goals as goal

pub returns-clause-bytes : goal.returns-clause-bytes
returns-clause-bytes c =
    let all = c.self.inside.bytes.items in
    let at = c.self.inside.at in
    let n = c.min-count.result in
    let slice : take (length c.deref-2.result.now - at) (drop at c.deref-2.result.now) ≡ drop at all = rw c.deref-2.ensures.value (whole_drop at all) in
    let count : n ≡ min (length (drop at all)) (length c.args.buf.now) = rw slice at c.min-count.ensures in
    let copied : c.copy_from_slice.new.self ≡ take n (drop at all) = rw slice at c.copy_from_slice.ensures.after in
    let len : length c.copy_from_slice.new.self ≡ n = ap length copied ∙ (length-take-le n (drop at all) (omega arith)) in (
      sym (ap (λ (s : Memory). s.bytes) c.self.view_is) ∙ moved all c.copy_from_slice.new.self (drop n c.args.buf.now) at n copied len,
      at_end all c.args.buf.now c.copy_from_slice.new.self at n count len,
    )
