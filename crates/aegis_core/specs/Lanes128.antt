-- The AEGIS-128 family (AEGIS specification, "The AEGIS-128L Algorithm" and, for more lanes,
-- "AEGIS-128X" under "Parallel Modes"): d lanes of eight blocks, 32 bytes of input a lane.
use Rattle.std.specs.Prelude.{ℕ, ◌+◌, ◌*◌, List, [], ◌∷◌, ◌++◌, take, drop, map, ◌==◌, if◌then◌else◌}
use Rattle.std.specs.List.{flat_map}
use Rattle.aes_spec.specs.Bytes.{xor_bytes, and_bytes}
use Rattle.aes_spec.specs.Rounds.{R}
use Rattle.aegis_core.specs.Blocks.{block_at}
use Rattle.aegis_core.specs.declared.tag_part.TagPart.{TagPart}
use Rattle.aegis_core.specs.declared.tag_part.TagPart.TheVariants.{Whole, Low, High}
use Rattle.aegis_core.specs.Lanes.{Block, Lane, State, at, times, lanes_from, c0, c1, context, lengths, xor_all}

-- the update of a lane with the blocks m0 and m1 ("The Update Function")
unfoldable pub update_lane_128 : Lane → Block → Block → Lane
update_lane_128 s m0 m1 =
    R (at s 7) (xor_bytes (at s 0) m0) ∷ R (at s 0) (at s 1) ∷ R (at s 1) (at s 2) ∷ R (at s 2) (at s 3)
    ∷ R (at s 3) (xor_bytes (at s 4) m1) ∷ R (at s 4) (at s 5) ∷ R (at s 5) (at s 6) ∷ R (at s 6) (at s 7) ∷ []

-- each lane, from lane i on, with its block of t0 and of t1
unfoldable pub update_lanes_128 : ℕ → State → List ℕ → List ℕ → State
update_lanes_128 i [] t0 t1 = []
update_lanes_128 i (s ∷ lanes) t0 t1 =
    update_lane_128 s (block_at 16 t0 i) (block_at 16 t1 i) ∷ update_lanes_128 (i + 1) lanes t0 t1

-- the update with a whole block, whose first half is t0 and whose second half is t1
abbrev pub update_128 : ℕ → State → List ℕ → State
update_128 d lanes b = update_lanes_128 0 lanes (take (16 * d) b) (drop (16 * d) b)

-- a lane before its first updates ("The Init Function")
unfoldable pub start_lane_128 : List ℕ → List ℕ → Lane
start_lane_128 key nonce =
    xor_bytes key nonce ∷ c1 ∷ c0 ∷ c1 ∷ xor_bytes key nonce ∷ xor_bytes key c0 ∷ xor_bytes key c1 ∷ xor_bytes key c0 ∷ []

-- a context added to S3 and S7
unfoldable pub add_context_128 : Block → Lane → Lane
add_context_128 x s =
    at s 0 ∷ at s 1 ∷ at s 2 ∷ xor_bytes (at s 3) x ∷ at s 4 ∷ at s 5 ∷ at s 6 ∷ xor_bytes (at s 7) x ∷ []

-- the initial state of lane i of d: ten updates with nonce and key
unfoldable pub initial_lane_128 : ℕ → List ℕ → List ℕ → ℕ → Lane
initial_lane_128 d key nonce i =
    times 10 (λ s. update_lane_128 (add_context_128 (context d i) s) nonce key) (start_lane_128 key nonce)

abbrev pub initial_128 : ℕ → List ℕ → List ℕ → State
initial_128 d key nonce = lanes_from (initial_lane_128 d key nonce) d

-- the two keystream blocks of a lane ("The Enc Function")
unfoldable pub z0 : Lane → Block
z0 s = xor_bytes (xor_bytes (at s 6) (at s 1)) (and_bytes (at s 2) (at s 3))

unfoldable pub z1 : Lane → Block
z1 s = xor_bytes (xor_bytes (at s 2) (at s 5)) (and_bytes (at s 6) (at s 7))

-- the keystream of a block: z0 of each lane, then z1 of each lane
abbrev pub keystream_128 : State → List ℕ
keystream_128 lanes = flat_map z0 lanes ++ flat_map z1 lanes

-- a lane after the seven last updates, with the two lengths ("The Finalize Function")
unfoldable pub final_lane_128 : ℕ → ℕ → Lane → Lane
final_lane_128 first second s =
    let t = xor_bytes (at s 2) (lengths first second) in times 7 (λ x. update_lane_128 x t t) s

-- the blocks of a lane that a tag adds up
abbrev pub first_seven : Lane → List Block
first_seven s = take 7 s

abbrev pub low_four : Lane → List Block
low_four s = take 4 s

abbrev pub high_four : Lane → List Block
high_four s = take 4 (drop 4 s)

abbrev pub part_128 : TagPart → Lane → List Block
part_128 Whole = first_seven
part_128 Low = low_four
part_128 High = high_four

-- the tag of t bytes, t being 16 or 32, of lanes after their last updates
unfoldable pub tag_of_128 : ℕ → State → List ℕ
tag_of_128 t lanes =
    if t == 32
    then xor_all (flat_map low_four lanes) ++ xor_all (flat_map high_four lanes)
    else xor_all (flat_map first_seven lanes)

abbrev pub finalise_128 : ℕ → ℕ → ℕ → State → List ℕ
finalise_128 t first second lanes = tag_of_128 t (map (final_lane_128 first second) lanes)
