use Rattle.std.proofs.Common.{refl}
use Rattle.aegis_core.specs.Lanes128.{z0}
use Rattle.aegis_core.proofs.lanes128.Lane128.z0.Goals as goal

pub returns : goal.returns
unfolding z0
returns g c = rw (c.xor-2.ensures, c.xor.ensures, c.and.ensures) refl
