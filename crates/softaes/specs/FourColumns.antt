-- A block of four column words as its 16 bytes (this project's own).
use Rattle.std.specs.Prelude.{◌≡◌, ℕ, ◌*◌, ◌^◌, ◌<◌, List, ◌++◌, take, drop}
use Rattle.std.specs.Int.{to_le_bytes, from_le_bytes, w32}
use Rattle.std.proofs.lemmas.Nat.{from_le_bytes-to_le_bytes_4}

-- column c is the bytes 4c to 4c + 3, the lowest first
abbrev pub columns_of : ℕ → ℕ → ℕ → ℕ → List ℕ
columns_of c0 c1 c2 c3 = to_le_bytes w32 c0 ++ to_le_bytes w32 c1 ++ to_le_bytes w32 c2 ++ to_le_bytes w32 c3

-- the word of column c of a block's bytes
abbrev pub column_word_at : List ℕ → ℕ → ℕ
column_word_at bytes c = from_le_bytes w32 (take 4 (drop (4 * c) bytes))

pub columns_back : (c0 c1 c2 c3 : ℕ) → c0 < 2 ^ 32 → c1 < 2 ^ 32 → c2 < 2 ^ 32 → c3 < 2 ^ 32
    → (column_word_at (columns_of c0 c1 c2 c3) 0 ≡ c0) × (column_word_at (columns_of c0 c1 c2 c3) 1 ≡ c1)
    × (column_word_at (columns_of c0 c1 c2 c3) 2 ≡ c2) × (column_word_at (columns_of c0 c1 c2 c3) 3 ≡ c3)
columns_back c0 c1 c2 c3 h0 h1 h2 h3 =
    (from_le_bytes-to_le_bytes_4 c0 h0, from_le_bytes-to_le_bytes_4 c1 h1, from_le_bytes-to_le_bytes_4 c2 h2, from_le_bytes-to_le_bytes_4 c3 h3)
