-- MixColumns and InvMixColumns on one column of four bytes (FIPS 197, sections 5.1.3 and 5.3.3).
use Rattle.std.specs.Prelude.{ℕ, zero, suc, ◌+◌, ◌-◌, ◌%◌, List, [], ◌∷◌, slice_index, bit_xor}
use Rattle.aes_spec.specs.Field.{mul}

-- the sum in the field of f k, for k below n
abbrev pub xor_sum : (ℕ → ℕ) → ℕ → ℕ
xor_sum f zero = 0
xor_sum f (suc n) = bit_xor (f n) (xor_sum f n)

-- row r, column c of the circulant matrix with this first row: each further row is turned right by one
abbrev pub entry : List ℕ → ℕ → ℕ → ℕ
entry first r c = slice_index first ((c + 4 - r) % 4)

-- row r of that matrix by the column b
abbrev pub row_of : List ℕ → ℕ → (ℕ → ℕ) → ℕ
row_of first r b = xor_sum (λ c. mul (entry first r c) (b c)) 4

-- the first row of the matrix of MixColumns
abbrev pub mix_row : List ℕ
mix_row = 2 ∷ 3 ∷ 1 ∷ 1 ∷ []

-- row r of MixColumns of the column b
abbrev pub mixed : ℕ → (ℕ → ℕ) → ℕ
mixed = row_of mix_row

-- the first row of the matrix of InvMixColumns
abbrev pub inv_mix_row : List ℕ
inv_mix_row = 0x0e ∷ 0x0b ∷ 0x0d ∷ 0x09 ∷ []

-- row r of InvMixColumns of the column b
abbrev pub inv_mixed : ℕ → (ℕ → ℕ) → ℕ
inv_mixed = row_of inv_mix_row
