use Rattle.std.proofs.Common.{refl}
use Rattle.aegis_core.specs.Lanes256.{update_lane_256}
use Rattle.aegis_core.proofs.lanes256.Lane256.updated.Goals as goal

pub returns : goal.returns
unfolding update_lane_256
returns g c = rw (
  c.rounds-s0.ensures.first,
  c.rounds-s0.ensures.second,
  c.rounds-s1.ensures.first,
  c.rounds-s1.ensures.second,
  c.rounds-s2.ensures.first,
  c.rounds-s2.ensures.second,
  c.xor.ensures,
) refl
