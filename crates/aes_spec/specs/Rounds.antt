-- The rounds on lists of 16 bytes (FIPS 197, sections 5.1 and 5.3). Byte 4 * c + r is row r of column c (section 3.4).
use Rattle.std.specs.Prelude.{ℕ, ◌+◌, ◌-◌, ◌*◌, ◌/◌, ◌%◌, List, map, slice_index}
use Rattle.std.specs.List.{range_with_len}
use Rattle.aes_spec.specs.Bytes.{xor_bytes}
use Rattle.aes_spec.specs.Field.{S, IS}
use Rattle.aes_spec.specs.Columns.{mixed, inv_mixed}

-- the 16 bytes f 0 to f 15
abbrev pub block : (ℕ → ℕ) → List ℕ
block f = map f (range_with_len 0 16)

-- SubBytes: the S-box at each byte (section 5.1.1)
abbrev pub sub_bytes : List ℕ → List ℕ
sub_bytes a = map S a

-- ShiftRows: row r turns left by r columns (section 5.1.2)
abbrev pub shift_rows : List ℕ → List ℕ
shift_rows a = block (λ i. slice_index a (4 * ((i / 4 + i % 4) % 4) + i % 4))

-- MixColumns: each column by the matrix with first row 02 03 01 01 (section 5.1.3)
abbrev pub mix_columns : List ℕ → List ℕ
mix_columns a = block (λ i. mixed (i % 4) (λ k. slice_index a (4 * (i / 4) + k)))

-- AddRoundKey: the exclusive or (section 5.1.4)
abbrev pub add_round_key : List ℕ → List ℕ → List ℕ
add_round_key = xor_bytes

-- the forward round of block a under round key k
unfoldable pub R : List ℕ → List ℕ → List ℕ
R a k = add_round_key (mix_columns (shift_rows (sub_bytes a))) k

-- the last forward round, which has no MixColumns
unfoldable pub RL : List ℕ → List ℕ → List ℕ
RL a k = add_round_key (shift_rows (sub_bytes a)) k

-- InvShiftRows: row r turns right by r columns (section 5.3.1)
abbrev pub inv_shift_rows : List ℕ → List ℕ
inv_shift_rows a = block (λ i. slice_index a (4 * ((i / 4 + 4 - i % 4) % 4) + i % 4))

-- InvSubBytes: the inverse S-box at each byte (section 5.3.2)
abbrev pub inv_sub_bytes : List ℕ → List ℕ
inv_sub_bytes a = map IS a

-- InvMixColumns: each column by the matrix with first row 0e 0b 0d 09 (section 5.3.3)
abbrev pub inv_mix_columns : List ℕ → List ℕ
inv_mix_columns a = block (λ i. inv_mixed (i % 4) (λ k. slice_index a (4 * (i / 4) + k)))

-- the inverse round of the equivalent inverse cipher (section 5.3.5)
unfoldable pub IR : List ℕ → List ℕ → List ℕ
IR a k = add_round_key (inv_mix_columns (inv_sub_bytes (inv_shift_rows a))) k

-- the last inverse round, which has no InvMixColumns
unfoldable pub IRL : List ℕ → List ℕ → List ℕ
IRL a k = add_round_key (inv_sub_bytes (inv_shift_rows a)) k
