use Rattle.std.proofs.Common.{refl}
use Rattle.aegis_core.specs.Lanes256.{z}
use Rattle.aegis_core.proofs.lanes256.Lane256.z.Goals as goal

pub returns : goal.returns
unfolding z
returns g c = rw (c.xor-3.ensures, c.xor-2.ensures, c.xor.ensures, c.and.ensures) refl
