use Rattle.std.proofs.Common.{◌≡◌, refl, add-one, arith}
use Rattle.aegis_core.specs.Lanes.{times}
use Rattle.aegis_core.specs.Lanes128.{start_lane_128, initial_lane_128}
use Rattle.aegis_core.proofs.lanes128.Lane128.initial.Goals as goal

pub mixes-init : goal.mixes-init
unfolding times start_lane_128
mixes-init g c = rw (c.xor-both.ensures, c.xor-key_c0.ensures, c.xor.ensures, c.from_bytes-c0.ensures, c.from_bytes-c1.ensures) refl

pub mixes-preserved : goal.mixes-preserved
unfolding times
mixes-preserved g c = let i = c.mixes.invariant in rw (c.mix.ensures, add-one, ← i) refl

pub returns : goal.returns
unfolding initial_lane_128
returns g c =
    let done : c.mixes.n ≡ 10 = omega arith in
    rw (done, c.context_block-context.ensures) at c.mixes.invariant
