use Rattle.std.proofs.Common.{ap, ◌∙◌, arith}
use Rattle.std.specs.Int.{w32, w64, from_le_bytes}
use Rattle.raf_check.proofs.Written.{read_back}
use Rattle.raf_check.proofs.bytes.front_of.Goals as goal

pub returns-clause-found : goal.returns-clause-found
returns-clause-found c =
    read_back c.args.bytes.now _ _ _ _ (λ i. omega (arith, c.type_inv.bytes i)) (omega arith) c.if-bytes-ne-VERSION.false
    (c.from_le_bytes.ensures ∙ ap (from_le_bytes w64) c.copy_from_slice.ensures.after)
    (c.from_le_bytes-2.ensures ∙ ap (from_le_bytes w64) c.copy_from_slice-2.ensures.after)
    c.copy_from_slice-3.ensures.after
    (c.from_le_bytes-3.ensures ∙ ap (from_le_bytes w32) c.copy_from_slice-4.ensures.after)
