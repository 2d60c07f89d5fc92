use Rattle.std.proofs.Common.{◌≡◌}
use Rattle.aegis_core.specs.Lanes.{Lane, times}
use Rattle.aegis_core.specs.Lanes256.{update_lane_256}
use Rattle.aegis_core.specs.Held.{lane_of_256}
use Rattle.aegis_core.proofs.lanes256.Lane256.finished.Given as goal

abbrev pub invariant-last : goal.invariant-last
invariant-last g l =
    let bytes = g.B.RoundBlock.bytes in
    lane_of_256 bytes l.s ≡ times l.n (λ (x : Lane). update_lane_256 x (bytes l.t)) (lane_of_256 bytes l.self)
