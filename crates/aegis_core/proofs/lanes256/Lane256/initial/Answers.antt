use Rattle.std.proofs.Common.{◌≡◌, refl, add-one, arith}
use Rattle.aegis_core.specs.Lanes.{times}
use Rattle.aegis_core.specs.Lanes256.{mixed_four_256, start_lane_256, initial_halves_256}
use Rattle.aegis_core.proofs.lanes256.Lane256.initial.Goals as goal

pub mixes-init : goal.mixes-init
unfolding times start_lane_256
mixes-init g c = rw (c.xor-first.ensures, c.xor-second.ensures, c.xor.ensures, c.xor-2.ensures, c.from_bytes-c0.ensures, c.from_bytes-c1.ensures) refl

pub mixes-preserved : goal.mixes-preserved
unfolding times mixed_four_256
mixes-preserved g c =
    let i = c.mixes.invariant in
    rw (c.mix-in-mixes-3.ensures, c.mix-in-mixes-2.ensures, c.mix-in-mixes.ensures, c.mix.ensures, c.xor-first.ensures, c.xor-second.ensures, add-one, ← i) refl

pub returns : goal.returns
unfolding initial_halves_256
returns g c =
    let done : c.mixes.n ≡ 4 = omega arith in
    rw (done, c.context_block-context.ensures) at c.mixes.invariant
