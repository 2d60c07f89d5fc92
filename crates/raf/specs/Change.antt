-- What a command changes: a write and a truncation are one thing (this project's own).
use Rattle.std.specs.Prelude.{ℕ, ◌+◌, ◌*◌, ◌/◌, min, max, if◌then◌else◌, nat_lt, nat_eq, List, [], ◌∷◌, length, Option, Some, None}
use Rattle.raf_format.specs.File.{File}
use Rattle.raf.specs.declared.command.Command.{Command}
use Rattle.raf.specs.declared.command.Command.TheVariants as command

-- how many bytes the file has afterwards; the range of positions that change; and data, with the offset from which it stands
pub record Change : Type 0 where
  pub size : ℕ
  pub from : ℕ
  pub end : ℕ
  pub offset : ℕ
  pub bytes : List ℕ

-- a write changes from its data or the old end on, up to the data's end
abbrev pub write_change : ℕ → ℕ → List ℕ → Change
write_change before offset bytes = record {
  size = max before (offset + length bytes);
  from = min offset before;
  end = offset + length bytes;
  offset = offset;
  bytes = bytes;
}

-- a truncation changes what it adds, or what is left of the chunk that it cuts
abbrev pub truncate_change : ℕ → ℕ → ℕ → Change
truncate_change chunk_size before size = record {
  size = size;
  from = if nat_lt size before then size / chunk_size * chunk_size else before;
  end = size;
  offset = 0;
  bytes = [];
}

-- a write of nothing, a truncation to the same size and all other commands change nothing
abbrev pub change_of : File → Command → Option Change
change_of F (command.Write offset []) = None
change_of F (command.Write offset (x ∷ xs)) = Some (write_change F.size offset (x ∷ xs))
change_of F (command.Truncate size) = if nat_eq size F.size then None else Some (truncate_change F.shape.chunk_size F.size size)
change_of F _ = None
