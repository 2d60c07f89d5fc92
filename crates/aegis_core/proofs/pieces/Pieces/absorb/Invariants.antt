use Rattle.std.proofs.Common.{◌≡◌, ℕ, ◌+◌, ◌-◌, ◌≤◌, ◌++◌, List, length, take}
use Rattle.aegis_core.specs.Family.{Family}
use Rattle.aegis_core.specs.Pieces.{Holds}
use Rattle.aegis_core.proofs.pieces.Pieces.absorb.Given as goal

abbrev pub invariant-parts : goal.invariant-parts
invariant-parts g l =
    let family = g.S.LaneState.family in
    let lanes = g.S.LaneState.lanes in
    record {
      within : l.at ≤ length l.piece;
      same : family l.self.lanes ≡ family l.initial.self.lanes;
      total : l.self.total ≡ l.initial.self.total + l.at;
      holds : (f : Family) (key nonce ad m : List ℕ) → Holds family lanes f l.initial.self key nonce ad m
          → Holds family lanes f l.self key nonce ad (m ++ take l.at l.piece);
    }

abbrev pub decreases-parts : goal.decreases-parts
decreases-parts g l = length l.piece - l.at
