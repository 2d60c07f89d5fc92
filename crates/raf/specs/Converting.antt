-- One piece of a conversion: what its code hands on (this project's own).
use Rattle.std.specs.Prelude.{◌≡◌, ℕ, List, length, Result, Ok, Err}
use Rattle.raf_io.specs.Kinds.{kind_of}
use Rattle.raf_tree.specs.Hashing.{Hashing}
use Rattle.raf_format.specs.Cipher.{Cipher}
use Rattle.raf.specs.Handle.{Handle}
use Rattle.raf.specs.Stepped.{Stepped}
use Rattle.raf.specs.declared.command.Command.TheVariants as command
use Rattle.raf.specs.declared.command.Reply.TheVariants.{Bytes, Wrote, Refused}
use Rattle.raf.specs.declared.converting.Side.{Side}
use Rattle.raf.specs.declared.converting.Side.TheVariants as side
use Rattle.raf.specs.declared.converting.ConvertError.{ConvertError}
use Rattle.raf_io.specs.declared.errors.ErrorKind.{ErrorKind}

module _ (C D : Cipher) (E H : List ℕ → Hashing) (from from' to to' : Handle) (offset len : ℕ) where
  -- the piece was refused as it was read, or as it was written
  abbrev pub RefusedBy : Side → ErrorKind → Type 0
  RefusedBy side.From kind = Stepped C E from from' (command.Read offset len) (Refused kind) × (to' ≡ to)
  RefusedBy side.To kind = (piece : List ℕ) × Stepped C E from from' (command.Read offset len) (Bytes piece)
      × Stepped D H to to' (command.Write offset piece) (Refused kind)

  -- one read and one write at the same offset
  abbrev pub Passed : Result ℕ ConvertError → Type 0
  Passed (Ok n) = (piece : List ℕ) × (n ≡ length piece) × Stepped C E from from' (command.Read offset len) (Bytes piece)
      × Stepped D H to to' (command.Write offset piece) (Wrote n)
  Passed (Err e) = RefusedBy e.side (kind_of e.error)
