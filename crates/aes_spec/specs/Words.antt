-- Words by their bytes, the lowest first (this project's own).
use Rattle.std.specs.Prelude.{ℕ, ◌*◌, ◌/◌, ◌%◌, ◌^◌}

-- byte k of a word
abbrev pub word_byte : ℕ → ℕ → ℕ
word_byte x k = x / 2 ^ (8 * k) % 2 ^ 8
