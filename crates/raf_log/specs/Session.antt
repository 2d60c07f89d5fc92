-- What a log's session answers (this project's own).
use Rattle.std.specs.Prelude.{◌≡◌, ℕ, ◌+◌, ◌^◌, ◌<◌, ◌≤◌, ◌⊎◌, max, List, [], ◌∷◌, ◌++◌, length, take, replicate, Option, Some}
use Rattle.std.specs.Prelude.{Result, IfOk, IfErr, ⊤}
use Rattle.raf_tree.specs.Hashing.{Hashing}
use Rattle.raf_format.specs.Cipher.{Cipher}
use Rattle.raf_format.specs.File.{File, Opens, file_layout}
use Rattle.raf.specs.Apply.{longest}
use Rattle.raf.specs.Image.{asked_in, changes_in, traffic_in, calls_in}
use Rattle.raf.specs.Outside.{Outside, Kept, Quiet, Caused}
use Rattle.raf.specs.Handle.{hash_len_of}
use Rattle.raf.specs.Opening.{Settings, NotOpened, Room, opening_calls, opening_traffic}
use Rattle.raf.specs.Session.{Ground, Whole, Faulted}
use Rattle.raf.specs.Unseen.{ByNumbers}
use Rattle.raf.specs.declared.command.Command.{Command}
use Rattle.raf.specs.declared.command.Reply.{Reply}
use Rattle.raf_io.specs.declared.errors.ErrorKind.{ErrorKind}
use Rattle.raf_log.specs.Kinds.{log_kind, opening_kind}
use Rattle.raf_log.specs.Log.{LogFile, Extent, Spaced, IsLog, extent_in}
use Rattle.raf_log.specs.Call.{apply_log, LogAnswers}
use Rattle.raf_log.specs.Parts.{Parts}
use Rattle.raf_log.specs.Opening.{LogFault, IsNoLog, pieces_traffic}
use Rattle.raf_log.specs.declared.command.LogCommand.{LogCommand}
use Rattle.raf_log.specs.declared.command.LogCommand.TheVariants as command
use Rattle.raf_log.specs.declared.command.LogReply.{LogReply}
use Rattle.raf_log.specs.declared.command.LogReply.TheVariants.{Refused}
use Rattle.raf_log.specs.declared.error.LogError.{LogError}
use Rattle.raf_log.specs.declared.error.LogErrorKind.{LogErrorKind}
use Rattle.raf_log.specs.declared.error.LogErrorKind.TheVariants.{Raf, Overflow}

-- how many bytes the reply to a command has at most, with hashes of this length
abbrev pub log_room : ℕ → LogCommand → ℕ
log_room hash_len (command.Get index) = 65536
log_room hash_len command.Commitment = hash_len
log_room hash_len _ = 0

abbrev pub log_room_for : ℕ → LogCommand → List ℕ
log_room_for hash_len c = replicate (log_room hash_len c) 0

abbrev pub log_rooms : ℕ → List LogCommand → ℕ
log_rooms hash_len [] = 0
log_rooms hash_len (c ∷ commands) = log_room hash_len c + log_rooms hash_len commands

module _ (G : Ground) where
  -- each reply is the one that is due
  abbrev pub AllLogAnswer : LogFile → List LogCommand → List LogReply → Type 0
  AllLogAnswer L [] [] = ⊤
  AllLogAnswer L [] (r ∷ replies) = ⊥
  AllLogAnswer L (c ∷ commands) [] = ⊥
  AllLogAnswer L (c ∷ commands) (r ∷ replies) = LogAnswers G.answers G.setting G.limit L.file (apply_log G.limit L c).0 r
      × AllLogAnswer (apply_log G.limit L c).1 commands replies

  -- the log after commands
  abbrev pub log_after : LogFile → List LogCommand → LogFile
  log_after L [] = L
  log_after L (c ∷ commands) = log_after (apply_log G.limit L c).1 commands

  -- the storage tells bytes that open to this log
  pub record OpensLog (o : Outside) (L : LogFile) : Type 0 where
    pub bytes : List ℕ
    pub tells : o.bytes ≡ Some bytes
    pub opens : Opens G.cipher G.key bytes L.file
    pub is_log : IsLog L

  -- no fault: there is a reply to each command, and the storage opens to the log in the end
  pub record LogWhole (L : LogFile) (commands : List LogCommand) (before after : Outside) (replies : List LogReply) : Type 0 where
    pub played : AllLogAnswer L commands replies
    pub ends : OpensLog after (log_after L commands)
    pub quiet : Quiet before after

  -- the first fault is the last reply: it came at this command, after replies that were due
  pub record LogFaulted (L : LogFile) (commands : List LogCommand) (before after : Outside) (replies : List LogReply) : Type 0 where
    pub done : List LogCommand
    pub command : LogCommand
    pub rest : List LogCommand
    pub split : commands ≡ done ++ command ∷ rest
    pub answered : List LogReply
    pub kind : ErrorKind
    pub last : replies ≡ answered ++ Refused (Raf kind) ∷ []
    pub played : AllLogAnswer L done answered
    pub cause : Caused kind before after

  -- the commands that a log's session asked of its file are a session of that file: its replies, and with them what storage and random
  -- source hold, under which nonces, and what a fault may be due to; and the most that was asked, both openings included
  pub record LogFileRan (F : File) (b : List ℕ) (asks : List Command) (before after : Outside) (answers : List Reply) : Type 0 where
    pub run : Whole G F b asks before after answers ⊎ Faulted G F b asks before after answers
    pub reach : after.reach ≤ max before.reach (longest G.limit F asks)
    pub traffic : after.traffic ≤ before.traffic + length b + pieces_traffic G.limit F + traffic_in G.limit F asks
    pub asked : after.asked ≤ before.asked + asked_in G.limit F asks
    pub changes : after.changes ≤ before.changes + changes_in G.limit F asks
    pub calls : after.calls ≤ before.calls + opening_calls G.limit (length F.chunks) + calls_in G.limit F asks
    pub strays : after.strays ≡ before.strays

  -- a session over a storage that tells its bytes: the log that they open to, and the run; and what was asked of its file
  pub record LogRan (b : List ℕ) (commands : List LogCommand) (before after : Outside) (replies : List LogReply) : Type 0 where
    pub log : LogFile
    pub opens : Opens G.cipher G.key b log.file
    pub room : Room G.answers G.setting G.limit (length log.file.chunks)
    pub is_log : IsLog log
    pub run : LogWhole log commands before after replies ⊎ LogFaulted log commands before after replies
    pub asks : List Command
    pub answers : List Reply
    pub parts : Parts (extent_in log) (take (length replies) commands) replies asks answers
    pub file : LogFileRan log.file b asks before after answers

-- a session over any storage, for some entries: what was asked of the file, by its numbers; a fault by its count is the last reply
pub record LogByNumbers (C : Cipher) (limit : Option ℕ) (commands : List LogCommand) (before after : Outside) (replies : List LogReply)
    : Type 0 where
  pub extent : Extent
  pub spaced : Spaced 0 extent.starts extent.size
  pub asks : List Command
  pub answers : List Reply
  pub parts : Parts extent (take (length replies) commands) replies asks answers
  pub file : ByNumbers C limit (λ N. opening_traffic limit (file_layout N) + pieces_traffic limit N) asks before after answers
  pub size : file.header.file_size ≡ extent.size

-- a session whose file was opened, and is no log, or for which no memory was found: no byte changed
pub record NoLog (C : Cipher) (E : List ℕ → Hashing) (key : List ℕ) (s : Settings) (before after : Outside) (kind : LogErrorKind)
    : Type 0 where
  pub why : (b : List ℕ) → before.bytes ≡ Some b
      → (F : File) × Opens C key b F × Room E before.setting s.most (length F.chunks) × IsNoLog F kind
  pub fault : LogFault kind before after
  pub kept : (b : List ℕ) → before.bytes ≡ Some b → Kept before after

-- a session that was refused: its first row is the sum of the rooms of the replies, and nothing was asked then; else the file was not
-- opened, or it is no log
abbrev pub LogRefused : Cipher → (List ℕ → Hashing) → List ℕ → Settings → List LogCommand → Outside → Outside → LogErrorKind → Type 0
LogRefused C E key s commands before after kind =
    ((2 ^ 64 ≤ log_rooms (hash_len_of E s.outside.setting) commands) × (kind ≡ Overflow) × (after ≡ before))
    ⊎ ((log_rooms (hash_len_of E s.outside.setting) commands < 2 ^ 64)
    × (((k : ErrorKind) × (kind ≡ opening_kind k) × NotOpened C E key s.most before after k) ⊎ NoLog C E key s before after kind))

-- a session of a key and commands on a log, by a builder's settings, from one state of storage, random source and hasher to another
pub record LogMeets (C : Cipher) (E : List ℕ → Hashing) (key : List ℕ) (s : Settings) (commands : List LogCommand) (before after : Outside)
    (outcome : Result (List LogReply) LogError) : Type 0 where
  pub refused : IfErr outcome (λ e. LogRefused C E key s commands before after (log_kind e))
  pub fits : IfOk outcome (λ _. log_rooms (hash_len_of E s.outside.setting) commands < 2 ^ 64)
  pub answered : (b : List ℕ) → before.bytes ≡ Some b
      → IfOk outcome (λ replies. LogRan (record { cipher = C; answers = E; setting = s.outside.setting; limit = s.most; key = key }) b
      commands before after replies)
  pub numbers : IfOk outcome (λ replies. LogByNumbers C s.most commands before after replies)
  pub setting : after.setting ≡ before.setting
