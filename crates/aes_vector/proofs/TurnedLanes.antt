-- MixColumns of ShiftRows of bytes with the constant added, with what is added up turned at the end.
use Rattle.std.proofs.Common.{◌≡◌, ℕ, ◌+◌, ◌*◌, ◌/◌, ◌%◌, ◌<◌, List, [], ◌∷◌, length, slice_index, bit_xor, sym, ap, subst, ◌∙◌, arith}
use Rattle.std.specs.Simd.Lanes.{zip2}
use Rattle.std.proofs.lemmas.Nat.{xor_comm, xor_lt}
use Rattle.std.specs.Int.Bits.{xor_assoc, xor_self, xor_zero_r}
use Rattle.aes_spec.specs.Field.{mul}
use Rattle.aes_spec.specs.Rounds.{block, mix_columns, shift_rows}
use Rattle.aes_vector.specs.Lanes.{HasLanes, part, pair_block, with_constant}
use Rattle.aes_vector.specs.Turns.{below, turn, opposite}
use Rattle.aes_vector.proofs.LaneLemmas.{own, zipped, of_pair_block, part_made, same_blocks}
use Rattle.aes_vector.proofs.MixedLanes.{row, row_0, row_1, row_2, row_3}

-- the same added to both is gone from the sum
cancel : (a b c : ℕ) → bit_xor (bit_xor a c) (bit_xor b c) ≡ bit_xor a b
cancel a b c =
    xor_assoc a c (bit_xor b c) ∙ ap (bit_xor a) (xor_comm c (bit_xor b c) ∙ xor_assoc b c c ∙ ap (bit_xor b) (xor_self c) ∙ xor_zero_r b)

-- a row of bytes with the constant added
row_more : (a b c d : ℕ) → bit_xor (bit_xor (bit_xor (mul 2 (bit_xor a b)) 99) b) (bit_xor c d) ≡ row (bit_xor a 99) (bit_xor b 99) (bit_xor c 99) (bit_xor d 99)
row_more a b c d =
    let m : ℕ = mul 2 (bit_xor a b) in
    ap (λ n. bit_xor n (bit_xor c d)) (xor_assoc m 99 b ∙ ap (bit_xor m) (xor_comm 99 b))
    ∙ xor_assoc m (bit_xor b 99) (bit_xor c d)
    ∙ (λ i. bit_xor (mul 2 (sym (cancel a b 99) i)) (bit_xor (bit_xor b 99) (sym (cancel c d 99) i)))

-- the bytes f of a block
module _ (f : ℕ → ℕ) where
  abbrev pub pair : ℕ → ℕ
  pair k = bit_xor (f k) (f (below k))

  abbrev pub sum : ℕ → ℕ
  sum k = bit_xor (bit_xor (mul 2 (pair k)) 99) (f (below k))

  abbrev pub entry : ℕ → ℕ
  entry k = bit_xor (sum (turn k)) (pair (opposite k))

  module _ (small : (k : ℕ) → k < 16 → f k < 256) where
    abbrev more : ℕ → ℕ
    more k = bit_xor (f k) 99

    more_small : (k : ℕ) → k < 16 → more k < 256
    more_small k l = xor_lt 8 (f k) 99 (small k l) (omega arith)

    pub rows : block entry ≡ mix_columns (shift_rows (with_constant (block f)))
    rows = λ i.
        (row_more (f 0) (f 5) (f 10) (f 15) ∙ row_0 (more 0) (more 5) (more 10) (more 15) (more_small 0 (omega arith)) (more_small 5 (omega arith)) (more_small 10 (omega arith)) (more_small 15 (omega arith))) i
        ∷ (row_more (f 5) (f 10) (f 15) (f 0) ∙ row_1 (more 0) (more 5) (more 10) (more 15) (more_small 0 (omega arith)) (more_small 5 (omega arith)) (more_small 10 (omega arith)) (more_small 15 (omega arith))) i
        ∷ (row_more (f 10) (f 15) (f 0) (f 5) ∙ row_2 (more 0) (more 5) (more 10) (more 15) (more_small 0 (omega arith)) (more_small 5 (omega arith)) (more_small 10 (omega arith)) (more_small 15 (omega arith))) i
        ∷ (row_more (f 15) (f 0) (f 5) (f 10) ∙ row_3 (more 0) (more 5) (more 10) (more 15) (more_small 0 (omega arith)) (more_small 5 (omega arith)) (more_small 10 (omega arith)) (more_small 15 (omega arith))) i
        ∷ (row_more (f 4) (f 9) (f 14) (f 3) ∙ row_0 (more 4) (more 9) (more 14) (more 3) (more_small 4 (omega arith)) (more_small 9 (omega arith)) (more_small 14 (omega arith)) (more_small 3 (omega arith))) i
        ∷ (row_more (f 9) (f 14) (f 3) (f 4) ∙ row_1 (more 4) (more 9) (more 14) (more 3) (more_small 4 (omega arith)) (more_small 9 (omega arith)) (more_small 14 (omega arith)) (more_small 3 (omega arith))) i
        ∷ (row_more (f 14) (f 3) (f 4) (f 9) ∙ row_2 (more 4) (more 9) (more 14) (more 3) (more_small 4 (omega arith)) (more_small 9 (omega arith)) (more_small 14 (omega arith)) (more_small 3 (omega arith))) i
        ∷ (row_more (f 3) (f 4) (f 9) (f 14) ∙ row_3 (more 4) (more 9) (more 14) (more 3) (more_small 4 (omega arith)) (more_small 9 (omega arith)) (more_small 14 (omega arith)) (more_small 3 (omega arith))) i
        ∷ (row_more (f 8) (f 13) (f 2) (f 7) ∙ row_0 (more 8) (more 13) (more 2) (more 7) (more_small 8 (omega arith)) (more_small 13 (omega arith)) (more_small 2 (omega arith)) (more_small 7 (omega arith))) i
        ∷ (row_more (f 13) (f 2) (f 7) (f 8) ∙ row_1 (more 8) (more 13) (more 2) (more 7) (more_small 8 (omega arith)) (more_small 13 (omega arith)) (more_small 2 (omega arith)) (more_small 7 (omega arith))) i
        ∷ (row_more (f 2) (f 7) (f 8) (f 13) ∙ row_2 (more 8) (more 13) (more 2) (more 7) (more_small 8 (omega arith)) (more_small 13 (omega arith)) (more_small 2 (omega arith)) (more_small 7 (omega arith))) i
        ∷ (row_more (f 7) (f 8) (f 13) (f 2) ∙ row_3 (more 8) (more 13) (more 2) (more 7) (more_small 8 (omega arith)) (more_small 13 (omega arith)) (more_small 2 (omega arith)) (more_small 7 (omega arith))) i
        ∷ (row_more (f 12) (f 1) (f 6) (f 11) ∙ row_0 (more 12) (more 1) (more 6) (more 11) (more_small 12 (omega arith)) (more_small 1 (omega arith)) (more_small 6 (omega arith)) (more_small 11 (omega arith))) i
        ∷ (row_more (f 1) (f 6) (f 11) (f 12) ∙ row_1 (more 12) (more 1) (more 6) (more 11) (more_small 12 (omega arith)) (more_small 1 (omega arith)) (more_small 6 (omega arith)) (more_small 11 (omega arith))) i
        ∷ (row_more (f 6) (f 11) (f 12) (f 1) ∙ row_2 (more 12) (more 1) (more 6) (more 11) (more_small 12 (omega arith)) (more_small 1 (omega arith)) (more_small 6 (omega arith)) (more_small 11 (omega arith))) i
        ∷ (row_more (f 11) (f 12) (f 1) (f 6) ∙ row_3 (more 12) (more 1) (more 6) (more 11) (more_small 12 (omega arith)) (more_small 1 (omega arith)) (more_small 6 (omega arith)) (more_small 11 (omega arith))) i
        ∷ []

-- lane k of a vector that is permuted within each block
abbrev within : (ℕ → ℕ) → ℕ → ℕ
within p k = 16 * (k / 16) + p (k % 16)

within_part : (p : ℕ → ℕ) (h k : ℕ) → k < 16 → within p (16 * h + k) ≡ 16 * h + p k
within_part p h k l =
    let block : (16 * h + k) / 16 ≡ h = omega arith in
    let lane : (16 * h + k) % 16 ≡ k = omega arith in
    λ i. 16 * block i + p (lane i)

module _ (x : List ℕ) (long : length x ≡ 32) (small : (k : ℕ) → k < 32 → slice_index x k < 256) where
  abbrev pairs : ℕ → ℕ
  pairs k = bit_xor (slice_index x k) (slice_index x (within below k))

  abbrev sums : ℕ → ℕ
  sums k = bit_xor (bit_xor (mul 2 (pairs k)) 99) (slice_index x (within below k))

  module _ (b p d t o : List ℕ) (h_below : b ≡ pair_block (λ k. slice_index x (within below k))) (h_pairs : p ≡ zip2 bit_xor x b)
      (h_double : HasLanes 32 d (λ k. bit_xor (mul 2 (slice_index p k)) 99)) (h_turned : t ≡ pair_block (λ k. slice_index (zip2 bit_xor d b) (within turn k)))
      (h_opposite : o ≡ pair_block (λ k. slice_index p (within opposite k))) where
    below_lanes : HasLanes 32 b (λ k. slice_index x (within below k))
    below_lanes = of_pair_block b (λ k. slice_index x (within below k)) h_below

    pair_lanes : HasLanes 32 p pairs
    pair_lanes = subst (λ (v : List ℕ). HasLanes 32 v pairs) (sym h_pairs) (zipped bit_xor 32 x b (slice_index x) (λ k. slice_index x (within below k)) (own 32 x long) below_lanes)

    double_lanes : HasLanes 32 d (λ k. bit_xor (mul 2 (pairs k)) 99)
    double_lanes = record { long = h_double.long; each = λ k l. h_double.each k l ∙ ap (λ n. bit_xor (mul 2 n) 99) (pair_lanes.each k l) }

    sum_lanes : HasLanes 32 (zip2 bit_xor d b) sums
    sum_lanes = zipped bit_xor 32 d b (λ k. bit_xor (mul 2 (pairs k)) 99) (λ k. slice_index x (within below k)) double_lanes below_lanes

    turned_lanes : HasLanes 32 t (λ k. sums (within turn k))
    turned_lanes =
        let h = of_pair_block t (λ k. slice_index (zip2 bit_xor d b) (within turn k)) h_turned in
        record { long = h.long; each = λ k l. h.each k l ∙ sum_lanes.each (within turn k) (omega arith) }

    opposite_lanes : HasLanes 32 o (λ k. pairs (within opposite k))
    opposite_lanes =
        let h = of_pair_block o (λ k. slice_index p (within opposite k)) h_opposite in
        record { long = h.long; each = λ k l. h.each k l ∙ pair_lanes.each (within opposite k) (omega arith) }

    pub turned_mixed : (h : ℕ) → h < 2 → part h (zip2 bit_xor t o) ≡ mix_columns (shift_rows (with_constant (part h x)))
    turned_mixed h l =
        let f : ℕ → ℕ = λ k. slice_index x (16 * h + k) in
        let pairs_at : (j : ℕ) → j < 16 → pairs (16 * h + j) ≡ pair f j
        = λ j m. ap (λ n. bit_xor (slice_index x (16 * h + j)) (slice_index x n)) (within_part below h j m) in
        let sums_at : (j : ℕ) → j < 16 → sums (16 * h + j) ≡ sum f j
        = λ j m. ap (λ n. bit_xor (bit_xor (mul 2 (bit_xor (slice_index x (16 * h + j)) (slice_index x n))) 99) (slice_index x n)) (within_part below h j m) in
        part_made (zip2 bit_xor t o) (λ k. bit_xor (sums (within turn k)) (pairs (within opposite k)))
        (zipped bit_xor 32 t o (λ k. sums (within turn k)) (λ k. pairs (within opposite k)) turned_lanes opposite_lanes) h l
        ∙ same_blocks (λ k. bit_xor (sums (within turn (16 * h + k))) (pairs (within opposite (16 * h + k)))) (entry f)
        (λ k m. λ i. bit_xor ((ap sums (within_part turn h k m) ∙ sums_at (turn k) (omega arith)) i) ((ap pairs (within_part opposite h k m) ∙ pairs_at (opposite k) (omega arith)) i))
        ∙ rows f (λ k m. small (16 * h + k) (omega arith))
