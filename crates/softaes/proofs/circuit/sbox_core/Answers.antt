-- The gates at one position are the gates on single bits, which the table of 256 rows decides.
use Rattle.std.proofs.Common.{◌∙◌, ap}
use Rattle.aes_spec.specs.Planes.{byte_at}
use Rattle.softaes.proofs.AtPositions.{sbox_gates-row}
use Rattle.softaes.proofs.circuit.sbox_core.Goals as goal

pub returns : goal.returns
returns c i low =
    ap (λ planes. byte_at planes i) c.gates.ensures
    ∙ sbox_gates-row c.args.planes.now c.told-planes (record { each = c.fits-planes }) i low
