-- The AEGIS-256 family (AEGIS specification, "The AEGIS-256 Algorithm" and, for more lanes,
-- "AEGIS-256X" under "Parallel Modes"): d lanes of six blocks, 16 bytes of input a lane.
use Rattle.std.specs.Prelude.{ℕ, ◌+◌, List, [], ◌∷◌, ◌++◌, take, drop, map, fold, ◌==◌, if◌then◌else◌}
use Rattle.std.specs.List.{flat_map}
use Rattle.aes_spec.specs.Bytes.{xor_bytes, and_bytes}
use Rattle.aes_spec.specs.Rounds.{R}
use Rattle.aegis_core.specs.Blocks.{block_at}
use Rattle.aegis_core.specs.declared.tag_part.TagPart.{TagPart}
use Rattle.aegis_core.specs.declared.tag_part.TagPart.TheVariants.{Whole, Low, High}
use Rattle.aegis_core.specs.Lanes.{Block, Lane, State, at, times, lanes_from, c0, c1, context, lengths, xor_all}

-- the update of a lane with the block m ("The Update Function")
unfoldable pub update_lane_256 : Lane → Block → Lane
update_lane_256 s m =
    R (at s 5) (xor_bytes (at s 0) m) ∷ R (at s 0) (at s 1) ∷ R (at s 1) (at s 2) ∷ R (at s 2) (at s 3)
    ∷ R (at s 3) (at s 4) ∷ R (at s 4) (at s 5) ∷ []

-- each lane, from lane i on, with its block of b
unfoldable pub update_lanes_256 : ℕ → State → List ℕ → State
update_lanes_256 i [] b = []
update_lanes_256 i (s ∷ lanes) b = update_lane_256 s (block_at 16 b i) ∷ update_lanes_256 (i + 1) lanes b

abbrev pub update_256 : State → List ℕ → State
update_256 lanes b = update_lanes_256 0 lanes b

-- a lane before its first updates, with the halves k0, k1 of the key and n0, n1 of the nonce
-- ("The Init Function")
unfoldable pub start_lane_256 : Block → Block → Block → Block → Lane
start_lane_256 k0 k1 n0 n1 =
    xor_bytes k0 n0 ∷ xor_bytes k1 n1 ∷ c1 ∷ c0 ∷ xor_bytes k0 c0 ∷ xor_bytes k1 c1 ∷ []

-- a context added to S3 and S5
unfoldable pub add_context_256 : Block → Lane → Lane
add_context_256 x s = at s 0 ∷ at s 1 ∷ at s 2 ∷ xor_bytes (at s 3) x ∷ at s 4 ∷ xor_bytes (at s 5) x ∷ []

-- a lane with its context added, and then updated
unfoldable pub mixed_lane_256 : Block → Lane → Block → Lane
mixed_lane_256 x s m = update_lane_256 (add_context_256 x s) m

-- the four updates with the halves of the key and then of the key with the nonce added
unfoldable pub mixed_four_256 : Block → Block → Block → Block → Block → Lane → Lane
mixed_four_256 x k0 k1 n0 n1 s =
    fold (mixed_lane_256 x) s (k0 ∷ k1 ∷ xor_bytes k0 n0 ∷ xor_bytes k1 n1 ∷ [])

-- the initial state of lane i of d, from the halves of key and nonce: four times these updates
unfoldable pub initial_halves_256 : ℕ → Block → Block → Block → Block → ℕ → Lane
initial_halves_256 d k0 k1 n0 n1 i = times 4 (mixed_four_256 (context d i) k0 k1 n0 n1) (start_lane_256 k0 k1 n0 n1)

abbrev pub initial_lane_256 : ℕ → List ℕ → List ℕ → ℕ → Lane
initial_lane_256 d key nonce i =
    initial_halves_256 d (take 16 key) (drop 16 key) (take 16 nonce) (drop 16 nonce) i

abbrev pub initial_256 : ℕ → List ℕ → List ℕ → State
initial_256 d key nonce = lanes_from (initial_lane_256 d key nonce) d

-- the keystream block of a lane ("The Enc Function")
unfoldable pub z : Lane → Block
z s = xor_bytes (xor_bytes (xor_bytes (at s 1) (at s 4)) (at s 5)) (and_bytes (at s 2) (at s 3))

-- the keystream of a block: z of each lane
abbrev pub keystream_256 : State → List ℕ
keystream_256 lanes = flat_map z lanes

-- a lane after the seven last updates, with the two lengths ("The Finalize Function")
unfoldable pub final_lane_256 : ℕ → ℕ → Lane → Lane
final_lane_256 first second s =
    let t = xor_bytes (at s 3) (lengths first second) in times 7 (λ x. update_lane_256 x t) s

-- the blocks of a lane that a tag adds up
abbrev pub all_six : Lane → List Block
all_six s = take 6 s

abbrev pub low_three : Lane → List Block
low_three s = take 3 s

abbrev pub high_three : Lane → List Block
high_three s = take 3 (drop 3 s)

abbrev pub part_256 : TagPart → Lane → List Block
part_256 Whole = all_six
part_256 Low = low_three
part_256 High = high_three

-- the tag of t bytes, t being 16 or 32, of lanes after their last updates
unfoldable pub tag_of_256 : ℕ → State → List ℕ
tag_of_256 t lanes =
    if t == 32
    then xor_all (flat_map low_three lanes) ++ xor_all (flat_map high_three lanes)
    else xor_all (flat_map all_six lanes)

abbrev pub finalise_256 : ℕ → ℕ → ℕ → State → List ℕ
finalise_256 t first second lanes = tag_of_256 t (map (final_lane_256 first second) lanes)
