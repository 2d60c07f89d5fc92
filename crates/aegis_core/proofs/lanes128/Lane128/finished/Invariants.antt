use Rattle.std.proofs.Common.{◌≡◌}
use Rattle.aegis_core.specs.Lanes.{Lane, times}
use Rattle.aegis_core.specs.Lanes128.{update_lane_128}
use Rattle.aegis_core.specs.Held.{lane_of_128}
use Rattle.aegis_core.proofs.lanes128.Lane128.finished.Given as goal

abbrev pub invariant-last : goal.invariant-last
invariant-last g l =
    let bytes = g.B.RoundBlock.bytes in
    lane_of_128 bytes l.s ≡ times l.n (λ (x : Lane). update_lane_128 x (bytes l.t) (bytes l.t)) (lane_of_128 bytes l.self)
