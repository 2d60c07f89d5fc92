-- A file is read piece by piece (this project's own).
use Rattle.std.specs.Prelude.{◌≡◌, ℕ, false, List, length, take, drop}
use Rattle.raf_format.specs.Cipher.{Cipher}
use Rattle.raf_format.specs.File.{File}
use Rattle.raf.specs.Due.{is_refused}
use Rattle.raf.specs.Apply.{apply}
use Rattle.raf.specs.Outside.{Quiet}
use Rattle.raf.specs.Handle.{Handle, Holds, limit_of}
use Rattle.raf.specs.Content.{IsWhole, content}
use Rattle.raf.specs.declared.command.Command.TheVariants as asks
use Rattle.raf_log.specs.Log.{IsLog}
use Rattle.raf_log.specs.Entries.{starts_from}
use Rattle.raf_log.specs.Opening.{Looked, WhyNoLog, LogFault}
use Rattle.raf_log.specs.declared.error.LogErrorKind.{LogErrorKind}

-- reads without a fault
pub record Calm (C : Cipher) (old new : Handle) : Type 0 where
  pub looked : Looked C old new
  pub unmarked : old.broken ≡ false
  pub quiet : Quiet old.outside new.outside

-- so many bytes of the file from a position on were read
pub record Passed (C : Cipher) (old new : Handle) (at len : ℕ) : Type 0 where
  pub calm : Calm C old new
  pub fine : (F : File) → Holds C old F → is_refused (apply (limit_of old) F (asks.Read at len)).0 ≡ false

-- these bytes stand at this position of the file, if no chunk of it is missing
abbrev pub Shows : Cipher → Handle → ℕ → List ℕ → Type 0
Shows C h at bytes = (F : File) → Holds C h F → IsWhole F → take (length bytes) (drop at (content F)) ≡ bytes

-- a piece of the file was read
pub record PieceRead (C : Cipher) (old new : Handle) (at : ℕ) (piece : List ℕ) : Type 0 where
  pub passed : Passed C old new at (length piece)
  pub shows : Shows C old at piece

-- all of it was read, and it is a log whose entries begin there
pub record FoundAll (C : Cipher) (old new : Handle) (starts : List ℕ) : Type 0 where
  pub calm : Calm C old new
  pub log : (F : File) → Holds C old F
      → (entries : List (List ℕ)) × IsLog (record { file = F; entries = entries }) × (starts ≡ starts_from 0 entries)

-- why not, so far as the file was read
pub record NotFound (C : Cipher) (old new : Handle) (kind : LogErrorKind) : Type 0 where
  pub looked : Looked C old new
  pub why : WhyNoLog C old kind
  pub fault : LogFault kind old.outside new.outside
