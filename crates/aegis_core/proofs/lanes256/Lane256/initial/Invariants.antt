use Rattle.std.proofs.Common.{◌≡◌}
use Rattle.aegis_core.specs.Lanes.{times}
use Rattle.aegis_core.specs.Lanes256.{mixed_four_256, start_lane_256}
use Rattle.aegis_core.specs.Held.{lane_of_256}
use Rattle.aegis_core.proofs.lanes256.Lane256.initial.Given as goal

abbrev pub invariant-mixes : goal.invariant-mixes
invariant-mixes g l =
    let bytes = g.B.RoundBlock.bytes in
    let h = l.halves in
    lane_of_256 bytes l.s ≡ times l.n (mixed_four_256 (bytes l.context) (bytes h.k0) (bytes h.k1) (bytes h.n0) (bytes h.n1)) (start_lane_256 (bytes h.k0) (bytes h.k1) (bytes h.n0) (bytes h.n1))
