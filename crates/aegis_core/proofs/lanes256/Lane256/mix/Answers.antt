use Rattle.std.proofs.Common.{refl}
use Rattle.aegis_core.specs.Lanes256.{add_context_256, mixed_lane_256}
use Rattle.aegis_core.proofs.lanes256.Lane256.mix.Goals as goal

pub returns : goal.returns
unfolding add_context_256 mixed_lane_256
returns g c = rw (c.updated.ensures, c.xor-added.ensures, c.xor-added-2.ensures) refl
