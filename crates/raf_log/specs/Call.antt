-- One command on an open log: what every call on it states, each of its own command and reply (this project's own).
use Rattle.std.specs.Prelude.{◌≡◌, ℕ, ◌+◌, ◌-◌, ◌≤◌, Bool, true, false, if◌then◌else◌, nat_lt, List, [], ◌∷◌, ◌++◌, length, take, Option}
use Rattle.std.specs.Prelude.{Some, None, is_some, slice_get, Result, Ok, Err}
use Rattle.std.specs.Option.{option_map}
use Rattle.raf_tree.specs.Hashing.{Hashing}
use Rattle.raf_format.specs.Cipher.{Cipher}
use Rattle.raf_format.specs.File.{File}
use Rattle.raf.specs.Due.{Due}
use Rattle.raf.specs.Due.Due.{Exactly}
use Rattle.raf.specs.Apply.{apply}
use Rattle.raf.specs.Handle.{WithTree, Grown, limit_of}
use Rattle.raf.specs.Stepped.{Stepped}
use Rattle.raf.specs.Session.{TreeDecides}
use Rattle.raf.specs.declared.command.Command.{Command}
use Rattle.raf.specs.declared.command.Command.TheVariants as asks
use Rattle.raf.specs.declared.command.Reply.{Reply}
use Rattle.raf.specs.declared.command.Reply.TheVariants as answers
use Rattle.raf_io.specs.declared.errors.ErrorKind.TheVariants.{Io, Rng, Hash, MerkleNotEnabled}
use Rattle.raf_log.specs.Entries.{spelled}
use Rattle.raf_log.specs.Kinds.{log_kind}
use Rattle.raf_log.specs.Log.{LogHandle, LogFile, KeepsLog, Extent, extent_of, entry_end}
use Rattle.raf_log.specs.declared.command.LogCommand.{LogCommand}
use Rattle.raf_log.specs.declared.command.LogCommand.TheVariants as command
use Rattle.raf_log.specs.declared.command.LogReply.{LogReply}
use Rattle.raf_log.specs.declared.command.LogReply.TheVariants as reply
use Rattle.raf_log.specs.declared.error.LogError.{LogError}
use Rattle.raf_log.specs.declared.error.LogErrorKind.TheVariants.{Raf, TooLong}

-- it says that a storage, a source or a hasher failed
abbrev pub is_log_fault : LogReply → Bool
is_log_fault (reply.Refused (Raf Io)) = true
is_log_fault (reply.Refused (Raf Rng)) = true
is_log_fault (reply.Refused (Raf Hash)) = true
is_log_fault _ = false

-- what a call answered, as the reply to its command
abbrev pub append_reply : Result ℕ LogError → LogReply
append_reply (Ok index) = reply.Appended index
append_reply (Err e) = reply.Refused (log_kind e)

abbrev pub get_reply : List ℕ → Result (Option ℕ) LogError → LogReply
get_reply out (Ok (Some n)) = reply.Entry (take n out)
get_reply out (Ok None) = reply.Absent
get_reply out (Err e) = reply.Refused (log_kind e)

abbrev pub commit_reply : List ℕ → Result (Unit {0}) LogError → LogReply
commit_reply out (Ok _) = reply.Commitment out
commit_reply out (Err e) = reply.Refused (log_kind e)

-- what a command asks of the file: an entry that isn't too long is written at the end, in one piece; one that is there is read
abbrev pub asked_of : Extent → LogCommand → Option Command
asked_of e (command.Append entry) = if nat_lt 65536 (length entry) then None else Some (asks.Write e.size (spelled entry))
asked_of e (command.Get index) = option_map (λ o. asks.Read (o + 4) (entry_end e index - (o + 4))) (slice_get e.starts index)
asked_of e command.Count = None
asked_of e command.Commitment = Some asks.Commitment

-- the reply where nothing is asked of the file
abbrev pub known_reply : Extent → LogCommand → LogReply
known_reply e (command.Append entry) = reply.Refused TooLong
known_reply e (command.Get index) = reply.Absent
known_reply e _ = reply.Count (length e.starts)

-- the log's reply, from the file's
abbrev pub log_reply : Extent → Reply → LogReply
log_reply e (answers.Refused kind) = reply.Refused (Raf kind)
log_reply e (answers.Bytes bytes) = reply.Entry bytes
log_reply e (answers.Commitment out) = reply.Commitment out
log_reply e _ = reply.Appended (length e.starts)

-- an entry was appended
abbrev pub appends : LogReply → Bool
appends (reply.Appended index) = true
appends _ = false

-- how many bytes a command may add
abbrev pub line_len : LogCommand → ℕ
line_len (command.Append entry) = 4 + length entry
line_len _ = 0

-- where the entries begin, and how long the file is, after a command and its reply: one that was appended begins where the file ended
abbrev pub extent_after : Extent → LogCommand → LogReply → Extent
extent_after e c r = if appends r then record { starts = e.starts ++ e.size ∷ []; size = e.size + line_len c } else e

-- exactly this reply, or a mark that the hasher's tree decides it
pub data LogDue : Type 0 where
  Known : LogReply → LogDue
  Hashed : LogDue

-- the reply is the one that is due; at the mark it is the commitment of the file's tree
abbrev pub LogAnswers : (List ℕ → Hashing) → Option (List ℕ) → Option ℕ → File → LogDue → LogReply → Type 0
LogAnswers E setting limit F (LogDue.Known this) r = r ≡ this
LogAnswers E setting limit F LogDue.Hashed r =
    (out : List ℕ) × (r ≡ reply.Commitment out) × TreeDecides E setting limit F asks.Commitment (answers.Commitment out)

-- what is due to an entry by what is due to its write
abbrev pub appended : LogFile → List ℕ → File → Due → LogDue × LogFile
appended L entry F (Exactly (answers.Refused kind)) = (LogDue.Known (reply.Refused (Raf kind)), L)
appended L entry F _ = (LogDue.Known (reply.Appended (length L.entries)), record { file = F; entries = L.entries ++ entry ∷ [] })

-- the entry of an index
abbrev pub found : Option (List ℕ) → LogReply
found (Some entry) = reply.Entry entry
found None = reply.Absent

-- what is due to a command, and the log after it
abbrev pub apply_log : Option ℕ → LogFile → LogCommand → LogDue × LogFile
apply_log limit L (command.Append entry) =
    if nat_lt 65536 (length entry) then (LogDue.Known (reply.Refused TooLong), L)
    else (let write = apply limit L.file (asks.Write L.file.size (spelled entry)) in appended L entry write.1 write.0)
apply_log limit L (command.Get index) = (LogDue.Known (found (slice_get L.entries index)), L)
apply_log limit L command.Count = (LogDue.Known (reply.Count (length L.entries)), L)
apply_log limit L command.Commitment = (if is_some limit then LogDue.Hashed else LogDue.Known (reply.Refused (Raf MerkleNotEnabled)), L)

-- a command that was answered without a fault, over a storage that tells: the reply is the one that is due, the log is the one after
-- it, and the kept tree goes with its file
pub record LogAnswered (C : Cipher) (E : List ℕ → Hashing) (old new : LogHandle) (L : LogFile) (c : LogCommand) (r : LogReply)
    : Type 0 where
  pub due : LogAnswers E old.file.outside.setting (limit_of old.file) L.file (apply_log (limit_of old.file) L c).0 r
  pub keeps : KeepsLog C new (apply_log (limit_of old.file) L c).1
  pub grown : WithTree E new.file (Grown (apply_log (limit_of old.file) L c).1.file)
  pub unmarked : new.file.broken ≡ false

-- a command on an open log. Nothing is asked of the file, or one command, and the reply is that of the file. An entry that is appended
-- takes one of those that could be appended, and nothing else does
pub record LogStepped (C : Cipher) (E : List ℕ → Hashing) (old new : LogHandle) (c : LogCommand) (r : LogReply) : Type 0 where
  pub idle : asked_of (extent_of old) c ≡ None → (r ≡ known_reply (extent_of old) c) × (new ≡ old)
  pub asked : (ask : Command) → asked_of (extent_of old) c ≡ Some ask
      → (answer : Reply) × Stepped C E old.file new.file ask answer × (r ≡ log_reply (extent_of old) answer)
  pub extent : extent_of new ≡ extent_after (extent_of old) c r
  pub spare : old.spare ≤ new.spare + (if appends r then 1 else 0)
  pub exact : appends r ≡ true → new.spare + 1 ≡ old.spare
  pub told : (L : LogFile) → KeepsLog C old L → WithTree E old.file (Grown L.file) → old.file.broken ≡ false → is_log_fault r ≡ false
      → LogAnswered C E old new L c r
