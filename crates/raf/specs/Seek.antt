-- Where a seek goes (this project's own).
use Rattle.std.specs.Prelude.{ℕ, ℤ, pos, ◌+ℤ◌}
use Rattle.std.specs.declared.io.SeekFrom.{SeekFrom}
use Rattle.std.specs.declared.io.SeekFrom.TheVariants.{Start, End, Current}

-- from this position, in a file of this size: it may lie below 0 or past the last position
abbrev pub seek_target : ℕ → ℕ → SeekFrom → ℤ
seek_target position size (Start offset) = pos offset
seek_target position size (End offset) = pos size +ℤ offset
seek_target position size (Current offset) = pos position +ℤ offset
