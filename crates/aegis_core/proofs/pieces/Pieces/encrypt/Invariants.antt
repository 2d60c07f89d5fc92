use Rattle.std.proofs.Common.{◌≡◌, ℕ, ◌+◌, ◌-◌, ◌≤◌, ◌++◌, List, length, take, drop}
use Rattle.aegis_core.specs.Family.{Family, cipher_text, keyed}
use Rattle.aegis_core.specs.Pieces.{Holds}
use Rattle.aegis_core.proofs.pieces.Pieces.encrypt.Given as goal

abbrev pub invariant-parts : goal.invariant-parts
invariant-parts g l =
    let family = g.S.LaneState.family in
    let lanes = g.S.LaneState.lanes in
    record {
      within : l.at ≤ length l.initial.piece;
      same : family l.self.lanes ≡ family l.initial.self.lanes;
      total : l.self.total ≡ l.initial.self.total + l.at;
      rest : drop l.at l.piece ≡ drop l.at l.initial.piece;
      holds : (f : Family) (key nonce ad m : List ℕ) → Holds family lanes f l.initial.self key nonce ad m
          → Holds family lanes f l.self key nonce ad (m ++ take l.at l.initial.piece);
      text : (f : Family) (key nonce ad m : List ℕ) → Holds family lanes f l.initial.self key nonce ad m
          → take l.at l.piece ≡ drop (length m) (cipher_text f (keyed f key nonce ad) (m ++ take l.at l.initial.piece));
    }

abbrev pub decreases-parts : goal.decreases-parts
decreases-parts g l = length l.initial.piece - l.at
