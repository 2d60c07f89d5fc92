-- What a state of the code holds, given the bytes of a block (this project's own).
use Rattle.std.specs.Prelude.{◌≡◌, ℕ, List, [], ◌∷◌, ◌++◌, length}
use Rattle.aegis_core.specs.Lanes.{Lane, State}
use Rattle.aegis_core.specs.Family.{Family, family_128, family_256}
use Rattle.aegis_core.specs.declared.lanes128.Lane128.{Lane128}
use Rattle.aegis_core.specs.declared.lanes128.Lanes128.{Lanes128}
use Rattle.aegis_core.specs.declared.lanes256.Lane256.{Lane256}
use Rattle.aegis_core.specs.declared.lanes256.Lanes256.{Lanes256}
use Rattle.aegis_core.specs.declared.row.Row.{Row}
use Rattle.aegis_core.specs.declared.lane_count.LaneCount.{LaneCount}
use Rattle.aegis_core.specs.declared.lane_count.LaneCount.TheVariants.{One, Two, Four}

-- how many
abbrev pub lane_count : LaneCount → ℕ
lane_count One = 1
lane_count Two = 2
lane_count Four = 4

-- the lanes in use
abbrev pub used_lanes : LaneCount → Lane → Lane → Lane → Lane → State
used_lanes One a b c d = a ∷ []
used_lanes Two a b c d = a ∷ b ∷ []
used_lanes Four a b c d = a ∷ b ∷ c ∷ d ∷ []

-- the blocks of a lane of the 128 family
abbrev pub lane_of_128 : {B : Type 0} → (B → List ℕ) → Lane128 B → Lane
lane_of_128 bytes s =
    bytes s.s0 ∷ bytes s.s1 ∷ bytes s.s2 ∷ bytes s.s3 ∷ bytes s.s4 ∷ bytes s.s5 ∷ bytes s.s6 ∷ bytes s.s7 ∷ []

-- the lanes of a state of the 128 family
abbrev pub lanes_of_128 : {B : Type 0} → (B → List ℕ) → Lanes128 B → State
lanes_of_128 bytes s =
    used_lanes s.count (lane_of_128 bytes s.l0) (lane_of_128 bytes s.l1) (lane_of_128 bytes s.l2) (lane_of_128 bytes s.l3)

-- the family of a state with these lanes
abbrev pub lanes_family_128 : {B : Type 0} → Lanes128 B → Family
lanes_family_128 s = family_128 (lane_count s.count)

-- the blocks of a lane of the 256 family
abbrev pub lane_of_256 : {B : Type 0} → (B → List ℕ) → Lane256 B → Lane
lane_of_256 bytes s = bytes s.s0 ∷ bytes s.s1 ∷ bytes s.s2 ∷ bytes s.s3 ∷ bytes s.s4 ∷ bytes s.s5 ∷ []

-- the lanes of a state of the 256 family
abbrev pub lanes_of_256 : {B : Type 0} → (B → List ℕ) → Lanes256 B → State
lanes_of_256 bytes s =
    used_lanes s.count (lane_of_256 bytes s.l0) (lane_of_256 bytes s.l1) (lane_of_256 bytes s.l2) (lane_of_256 bytes s.l3)

-- the family of a state with these lanes
abbrev pub lanes_family_256 : {B : Type 0} → Lanes256 B → Family
lanes_family_256 s = family_256 (lane_count s.count)

-- the bytes of the blocks in use
abbrev pub used_bytes : LaneCount → List ℕ → List ℕ → List ℕ → List ℕ → List ℕ
used_bytes One a b c d = a
used_bytes Two a b c d = a ++ b
used_bytes Four a b c d = ((a ++ b) ++ c) ++ d

-- the bytes of a row
abbrev pub row_bytes : {B : Type 0} → (B → List ℕ) → Row B → List ℕ
row_bytes bytes r = used_bytes r.count (bytes r.b0) (bytes r.b1) (bytes r.b2) (bytes r.b3)

-- each block of a row has its 16 bytes
pub record IsWhole {B : Type 0} (bytes : B → List ℕ) (r : Row B) : Type 0 where
  pub b0 : length (bytes r.b0) ≡ 16
  pub b1 : length (bytes r.b1) ≡ 16
  pub b2 : length (bytes r.b2) ≡ 16
  pub b3 : length (bytes r.b3) ≡ 16
