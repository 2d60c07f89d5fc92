-- How a log is opened, and why not (this project's own).
use Rattle.std.specs.Prelude.{◌≡◌, ℕ, zero, suc, ◌+◌, ◌-◌, ◌/◌, min, false, true, None, List, Option, ⊤}
use Rattle.raf_format.specs.Cipher.{Cipher}
use Rattle.raf_format.specs.File.{File, file_layout}
use Rattle.raf.specs.Concern.{none_missing}
use Rattle.raf.specs.Image.{traffic_by}
use Rattle.raf.specs.Outside.{Outside, Quiet, Caused, Moved}
use Rattle.raf.specs.Handle.{Handle, Holds, Measures, limit_of}
use Rattle.raf.specs.Content.{IsWhole, content}
use Rattle.raf.specs.declared.command.Command.TheVariants as asks
use Rattle.raf_io.specs.declared.errors.ErrorKind.TheVariants.{Io, Rng, Hash, Broken, AuthenticationFailed}
use Rattle.raf_log.specs.Entries.{Entries}
use Rattle.raf_log.specs.Log.{LogHandle, Spaced, KeepsLog}
use Rattle.raf_log.specs.declared.error.LogErrorKind.{LogErrorKind}
use Rattle.raf_log.specs.declared.error.LogErrorKind.TheVariants.{Raf, Format, OutOfMemory}

-- reads alone were made: what is stored, what the random source has left where the storage tells its bytes, and the file stay
pub record Looked (C : Cipher) (old new : Handle) : Type 0 where
  pub key : new.key ≡ old.key
  pub header : new.header ≡ old.header
  pub tree : new.tree ≡ old.tree
  pub broken : new.broken ≡ old.broken
  pub bytes : new.outside.bytes ≡ old.outside.bytes
  pub durable : new.outside.durable ≡ old.outside.durable
  pub setting : new.outside.setting ≡ old.outside.setting
  pub left : (F : File) → Holds C old F → new.outside.left ≡ old.outside.left
  pub strays : (F : File) → Holds C old F → new.outside.strays ≡ old.outside.strays

-- the most that reads asked: no byte behind the storage's end, so many bytes by the file's numbers, no random byte, no change, no hash
abbrev pub ReadsAtMost : Cipher → Handle → Handle → (File → ℕ) → Type 0
ReadsAtMost C old new traffic = (F : File) → Measures C old F → Moved old.outside new.outside (file_layout F) (traffic F) 0 0 0

-- the bytes that reads of a file ask, so many of them, the first one here and each where the one before it ends, none of more than 2^20
-- bytes. So each record is read once for each of those that it lies in: once where 2^20 is a multiple of the chunk size, and else at most
-- twice
abbrev pub reads_traffic : Option ℕ → File → ℕ → ℕ → ℕ
reads_traffic limit F zero at = 0
reads_traffic limit F (suc n) at =
    let len = min 1048576 (F.size - at) in
    traffic_by limit F (asks.Read at len) + reads_traffic limit F n (at + len)

-- those of a whole file
abbrev pub pieces_traffic : Option ℕ → File → ℕ
pieces_traffic limit F = reads_traffic limit F (F.size / 1048576 + 1) 0

-- a refused log, with the file that was handed in
pub record LogRefusal : Type 0 where
  pub kind : LogErrorKind
  pub file : Handle

-- an open log: the file had no kept mark; none failed; and where the storage tells its bytes, they are its entries
pub record LogOpened (C : Cipher) (old : Handle) (now : LogHandle) : Type 0 where
  pub looked : Looked C old now.file
  pub unmarked : old.broken ≡ false
  pub quiet : Quiet old.outside now.file.outside
  pub log : (F : File) → Holds C old F → (entries : List (List ℕ)) × KeepsLog C now (record { file = F; entries = entries })
  pub spaced : Spaced 0 now.starts now.file.header.file_size
  pub asked : ReadsAtMost C old now.file (pieces_traffic (limit_of old))

-- why a file that opens is no log, each cause where none before it stands: its storage failed; a chunk is missing; its bytes are those of
-- no list of entries; no memory was found
abbrev pub IsNoLog : File → LogErrorKind → Type 0
IsNoLog F (Raf Io) = ⊤
IsNoLog F (Raf AuthenticationFailed) = none_missing (λ _. true) 0 F.chunks ≡ false
IsNoLog F Format = IsWhole F × Entries (content F) None
IsNoLog F OutOfMemory = ⊤
IsNoLog F _ = ⊥

-- why a file was not opened as a log: its kept mark is set; else the storage failed, no memory was found, or it is none
abbrev pub WhyNoLog : Cipher → Handle → LogErrorKind → Type 0
WhyNoLog C h (Raf Broken) = h.broken ≡ true
WhyNoLog C h (Raf Io) = h.broken ≡ false
WhyNoLog C h (Raf AuthenticationFailed) = (h.broken ≡ false) × ((F : File) → Holds C h F → IsNoLog F (Raf AuthenticationFailed))
WhyNoLog C h Format = (h.broken ≡ false) × ((F : File) → Holds C h F → IsNoLog F Format)
WhyNoLog C h OutOfMemory = h.broken ≡ false
WhyNoLog C h _ = ⊥

-- the one that a fault names has failed, and with any other kind none
abbrev pub LogFault : LogErrorKind → Outside → Outside → Type 0
LogFault (Raf Io) old new = Caused Io old new
LogFault (Raf Rng) old new = Caused Rng old new
LogFault (Raf Hash) old new = Caused Hash old new
LogFault _ old new = Quiet old new

pub record LogNotOpened (C : Cipher) (old new : Handle) (kind : LogErrorKind) : Type 0 where
  pub looked : Looked C old new
  pub why : WhyNoLog C old kind
  pub fault : LogFault kind old.outside new.outside
  pub asked : ReadsAtMost C old new (pieces_traffic (limit_of old))
