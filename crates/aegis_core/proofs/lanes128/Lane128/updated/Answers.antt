use Rattle.std.proofs.Common.{refl}
use Rattle.aegis_core.specs.Lanes128.{update_lane_128}
use Rattle.aegis_core.proofs.lanes128.Lane128.updated.Goals as goal

pub returns : goal.returns
unfolding update_lane_128
returns g c = rw (
  c.rounds-s0.ensures.first,
  c.rounds-s0.ensures.second,
  c.rounds-s1.ensures.first,
  c.rounds-s1.ensures.second,
  c.rounds-s2.ensures.first,
  c.rounds-s2.ensures.second,
  c.rounds-s3.ensures.first,
  c.rounds-s3.ensures.second,
  c.xor.ensures,
  c.xor-2.ensures,
) refl
