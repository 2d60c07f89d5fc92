-- The rules of the tables, and a column of four bytes (this project's own, from FIPS 197, sections 5.1.3 and 5.3.3).
use Rattle.std.specs.Prelude.{ℕ, ◌*◌, List, [], ◌∷◌, map, slice_index}
use Rattle.std.specs.Int.{from_le_bytes, rotate_left, w32}
use Rattle.std.specs.List.{range_with_len}
use Rattle.aes_spec.specs.Columns.{entry, mix_row, inv_mix_row}
use Rattle.aes_spec.specs.Field.{mul, S, IS}

-- the little-endian word of the first column of the matrix with this first row, times s
abbrev pub column_word : List ℕ → ℕ → ℕ
column_word first s = from_le_bytes w32 (map (λ r. mul (entry first r 0) s) (range_with_len 0 4))

-- entry x of forward table r: 02 s, s, s, 03 s with s the S-box at x, rotated left by 8 r bits
abbrev pub forward_word : ℕ → ℕ → ℕ
forward_word r x = rotate_left w32 (column_word mix_row (S x)) (8 * r)

-- entry x of inverse table r: 0e s, 09 s, 0d s, 0b s with s the inverse S-box at x, rotated left by 8 r bits
abbrev pub inverse_word : ℕ → ℕ → ℕ
inverse_word r x = rotate_left w32 (column_word inv_mix_row (IS x)) (8 * r)

-- four bytes by their index
abbrev pub four : ℕ → ℕ → ℕ → ℕ → ℕ → ℕ
four a b c d k = slice_index (a ∷ b ∷ c ∷ d ∷ []) k
