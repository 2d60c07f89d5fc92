-- A block of two words as its 16 bytes (this project's own).
use Rattle.std.specs.Prelude.{ℕ, List, ◌++◌}
use Rattle.std.specs.Int.{to_le_bytes, w64}

-- bytes 0 to 7 are those of lo, 8 to 15 those of hi, the lowest first
abbrev pub bytes_of : ℕ → ℕ → List ℕ
bytes_of lo hi = to_le_bytes w64 lo ++ to_le_bytes w64 hi
