-- The gates between the two linear maps, at one position.
use Rattle.softaes.proofs.InverseGates.{inverse_planes}
use Rattle.softaes.proofs.circuit.inv_sbox_core.Goals as goal

pub returns : goal.returns
returns c =
    inverse_planes c.args.planes.now c.undo_linear-inner.result c.sbox_core.new.planes c.undo_linear.result
    c.told-planes c.sbox_core.array_long c.undo_linear-inner.ensures c.sbox_core.ensures c.undo_linear.ensures
