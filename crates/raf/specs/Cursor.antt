-- What a cursor's reads and writes by std's traits came to (this project's own).
use Rattle.std.specs.Prelude.{◌≡◌, List, length, take, ℕ, ◌+◌, ◌<◌, Option, Some}
use Rattle.raf_tree.specs.Hashing.{Hashing}
use Rattle.raf_format.specs.Cipher.{Cipher}
use Rattle.raf.specs.Handle.{Handle}
use Rattle.raf.specs.Stepped.{Stepped}
use Rattle.raf.specs.declared.command.Command.{Command}
use Rattle.raf.specs.declared.command.Command.TheVariants.{Read}
use Rattle.raf.specs.declared.command.Reply.TheVariants.{Bytes, Refused}
use Rattle.raf_io.specs.declared.errors.ErrorKind.{ErrorKind}

-- the command was refused, by the kind that is noted
abbrev pub Refuses : Cipher → (List ℕ → Hashing) → Handle → Handle → Command → Option ErrorKind → Type 0
Refuses C E old new c noted = (kind : ErrorKind) × (noted ≡ Some kind) × Stepped C E old new c (Refused kind)

-- a read from this position was answered by fewer bytes than the buffer has, and the position is behind them
abbrev pub FallsShort : Cipher → (List ℕ → Hashing) → Handle → Handle → ℕ → ℕ → List ℕ → Type 0
FallsShort C E old new before after buf =
    (n : ℕ) × (n < length buf) × (after ≡ before + n) × Stepped C E old new (Read before (length buf)) (Bytes (take n buf))
