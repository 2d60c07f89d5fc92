-- What is due in the place of a reply (this project's own).
use Rattle.std.specs.Prelude.{◌≡◌, Bool, true, false}
use Rattle.raf.specs.declared.command.Reply.{Reply}
use Rattle.raf.specs.declared.command.Reply.TheVariants.{Refused}
use Rattle.raf_io.specs.declared.errors.ErrorKind.TheVariants.{Io, Rng, Hash, Overflow, MerkleNotEnabled}

-- exactly this reply, or a mark that the hasher's tree decides it
pub data Due : Type 0 where
  Exactly : Reply → Due
  Merkle : Due

-- it says that a storage, a source or a hasher failed
abbrev pub is_fault : Reply → Bool
is_fault (Refused Io) = true
is_fault (Refused Rng) = true
is_fault (Refused Hash) = true
is_fault _ = false

-- the command is refused
abbrev pub is_refused : Due → Bool
is_refused (Exactly (Refused kind)) = true
is_refused _ = false

-- numbers alone refuse the command, so that no fault can come first
abbrev pub is_barred : Due → Bool
is_barred (Exactly (Refused Overflow)) = true
is_barred (Exactly (Refused MerkleNotEnabled)) = true
is_barred _ = false

-- the reply is the one that is due; at the mark it is one that the tree decides
abbrev pub Answers : (Reply → Type 0) → Due → Reply → Type 0
Answers Decided (Exactly this) reply = reply ≡ this
Answers Decided Merkle reply = Decided reply
