use Rattle.std.proofs.Common.{refl}
use Rattle.aegis_core.specs.Lanes128.{add_context_128}
use Rattle.aegis_core.proofs.lanes128.Lane128.mix.Goals as goal

pub returns : goal.returns
unfolding add_context_128
returns g c = rw (c.updated.ensures, c.xor-added.ensures, c.xor-added-2.ensures) refl
