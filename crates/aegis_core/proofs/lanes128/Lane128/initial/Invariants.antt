use Rattle.std.proofs.Common.{◌≡◌}
use Rattle.aegis_core.specs.Lanes.{Lane, times}
use Rattle.aegis_core.specs.Lanes128.{update_lane_128, add_context_128, start_lane_128}
use Rattle.aegis_core.specs.Held.{lane_of_128}
use Rattle.aegis_core.proofs.lanes128.Lane128.initial.Given as goal

abbrev pub invariant-mixes : goal.invariant-mixes
invariant-mixes g l =
    let bytes = g.B.RoundBlock.bytes in
    lane_of_128 bytes l.s ≡ times l.n (λ (s : Lane). update_lane_128 (add_context_128 (bytes l.context) s) (bytes l.nonce) (bytes l.key)) (start_lane_128 (bytes l.key) (bytes l.nonce))
