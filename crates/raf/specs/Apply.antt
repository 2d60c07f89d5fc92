-- What commands do to a file, and what is due to them (this project's own).
use Rattle.std.specs.Prelude.{ℕ, zero, suc, ◌+◌, ◌-◌, ◌*◌, min, max, ◌&&◌, not, if◌then◌else◌, nat_lt, nat_le, List, [], ◌∷◌, ◌++◌}
use Rattle.std.specs.Prelude.{length, take, drop, slice_index, Option, Some, None, unwrap_or}
use Rattle.raf_io.specs.Storage.{resized}
use Rattle.raf_format.specs.File.{File, chunk_count, chunk_len, file_layout}
use Rattle.raf.specs.Change.{Change, change_of}
use Rattle.raf.specs.Concern.{is_touched, needed, fits, none_missing, valid}
use Rattle.raf.specs.Due.{Due}
use Rattle.raf.specs.Due.Due.{Exactly, Merkle}
use Rattle.raf.specs.declared.command.Command.{Command}
use Rattle.raf.specs.declared.command.Command.TheVariants as command
use Rattle.raf.specs.declared.command.Reply.TheVariants.{Bytes, Wrote, Done, Size, Refused}
use Rattle.raf_io.specs.declared.errors.ErrorKind.{ErrorKind}
use Rattle.raf_io.specs.declared.errors.ErrorKind.TheVariants.{AuthenticationFailed, Overflow, MerkleNotEnabled}

-- the bytes of a range, chunk by chunk
abbrev pub bytes_between : ℕ → ℕ → ℕ → ℕ → List (Option (List ℕ)) → List ℕ
bytes_between chunk_size from end index [] = []
bytes_between chunk_size from end index (c ∷ chunks) =
    take (end - max from (index * chunk_size)) (drop (from - index * chunk_size) (unwrap_or c []))
    ++ bytes_between chunk_size from end (index + 1) chunks

-- the bytes that stand from a position on, with the data over them from its offset on
abbrev pub overlaid : ℕ → ℕ → List ℕ → List ℕ → List ℕ
overlaid position offset bytes [] = []
overlaid position offset bytes (x ∷ xs) =
    (if nat_le offset position && nat_lt position (offset + length bytes) then slice_index bytes (position - offset) else x)
    ∷ overlaid (position + 1) offset bytes xs

-- n chunks from an index on, each made of the one that was there
abbrev pub rebuilt : (ℕ → Option (List ℕ) → Option (List ℕ)) → ℕ → ℕ → List (Option (List ℕ)) → List (Option (List ℕ))
rebuilt make index zero chunks = []
rebuilt make index (suc n) [] = make index None ∷ rebuilt make (index + 1) n []
rebuilt make index (suc n) (c ∷ chunks) = make index c ∷ rebuilt make (index + 1) n chunks

-- the bytes of a chunk after a change: at each position the data's byte where the data covers it, else the old byte, else 0
abbrev pub new_chunk : ℕ → Change → ℕ → List ℕ → List ℕ
new_chunk chunk_size K index old = overlaid (index * chunk_size) K.offset K.bytes (resized (chunk_len chunk_size K.size index) old)

module _ (F : File) (K : Change) where
  -- a touched chunk is made anew, and any other stays
  abbrev pub renewed : ℕ → Option (List ℕ) → Option (List ℕ)
  renewed index old = if is_touched F K index then Some (new_chunk F.shape.chunk_size K index (unwrap_or old [])) else old

  -- the file afterwards
  abbrev pub after : File
  after = record {
    shape = F.shape;
    id = F.id;
    size = K.size;
    chunks = rebuilt renewed 0 (chunk_count F.shape.chunk_size K.size) F.chunks;
  }

-- the file after a command that is valid
abbrev pub changed : File → Command → File
changed F c = elim (change_of F c) [ None ↦ F | Some K ↦ after F K ]

-- what is due to a command that is valid
abbrev pub answer : File → Command → Due
answer F (command.Read offset len) = Exactly (Bytes (bytes_between F.shape.chunk_size offset (min (offset + len) F.size) 0 F.chunks))
answer F (command.Write offset bytes) = Exactly (Wrote (length bytes))
answer F (command.Truncate size) = Exactly Done
answer F command.Size = Exactly (Size F.size)
answer F command.Sync = Exactly Done
answer F _ = Merkle

-- why a command that isn't valid is refused: numbers that don't fit come before a missing chunk that is needed
abbrev pub cause_of : Option ℕ → File → Command → ErrorKind
cause_of limit F c =
    if not (fits limit F c) then Overflow
    else if not (none_missing (needed F c) 0 F.chunks) then AuthenticationFailed
    else MerkleNotEnabled

-- what is due to a command, and the file after it. One that isn't valid is refused and leaves the file
abbrev pub apply : Option ℕ → File → Command → Due × File
apply limit F c = if valid limit F c then (answer F c, changed F c) else (Exactly (Refused (cause_of limit F c)), F)

-- play: what is due to commands in order, and the file in the end
abbrev pub due_to : Option ℕ → File → List Command → List Due
due_to limit F [] = []
due_to limit F (command ∷ commands) = (apply limit F command).0 ∷ due_to limit (apply limit F command).1 commands

abbrev pub file_after : Option ℕ → File → List Command → File
file_after limit F [] = F
file_after limit F (command ∷ commands) = file_after limit (apply limit F command).1 commands

-- the longest storage of a file on the way
abbrev pub longest : Option ℕ → File → List Command → ℕ
longest limit F [] = file_layout F
longest limit F (command ∷ commands) = max (file_layout F) (longest limit (apply limit F command).1 commands)
