use Rattle.std.proofs.Common.{◌≡◌, refl, add-one, arith}
use Rattle.aegis_core.specs.Lanes.{times}
use Rattle.aegis_core.specs.Lanes256.{final_lane_256}
use Rattle.aegis_core.proofs.lanes256.Lane256.finished.Goals as goal

pub last-init : goal.last-init
unfolding times
last-init g c = refl

pub last-preserved : goal.last-preserved
unfolding times
last-preserved g c = let i = c.last.invariant in rw (c.update.ensures, add-one, ← i) refl

pub returns : goal.returns
unfolding final_lane_256
returns g c = λ first second e.
    let done : c.last.n ≡ 7 = omega arith in
    rw (done, c.xor-t.ensures, e) at c.last.invariant
