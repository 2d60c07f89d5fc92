-- The inverse of the linear part of the S-box's affine map, on planes (FIPS 197, section 5.3.2).
use Rattle.std.specs.Prelude.{ℕ, ◌+◌, ◌%◌, List, map, slice_index, bit_xor}
use Rattle.std.specs.List.{range_with_len}

-- plane k is the sum of the planes k + 1, k + 3 and k + 6, the plane of the highest bit first
abbrev pub undo_linear : List ℕ → List ℕ
undo_linear planes =
    map
    (λ k. bit_xor (bit_xor (slice_index planes ((k + 1) % 8)) (slice_index planes ((k + 3) % 8))) (slice_index planes ((k + 6) % 8)))
    (range_with_len 0 8)
