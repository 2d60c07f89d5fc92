-- Where the rows of a block stand once they are turned (FIPS 197, section 5.1.2; this project's own).
use Rattle.std.specs.Prelude.{ℕ, ◌+◌, ◌*◌, ◌/◌, ◌%◌}

-- the lane that stands below lane k once the rows are turned
abbrev pub below : ℕ → ℕ
below k = 4 * ((k / 4 + 1) % 4) + (k + 1) % 4

-- the lane that comes to lane k
abbrev pub turn : ℕ → ℕ
turn k = 4 * ((k / 4 + k % 4) % 4) + k % 4

-- the lane that comes to the one two below lane k
abbrev pub opposite : ℕ → ℕ
opposite k = 4 * ((k / 4 + (k + 2) % 4) % 4) + (k + 2) % 4
