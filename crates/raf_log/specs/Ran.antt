-- Commands on an open log, one after the other: what the code of a session hands on (this project's own).
use Rattle.std.specs.Prelude.{◌≡◌, ℕ, ◌⊎◌, false, List, length, take, Result, IfOk, IfErr}
use Rattle.raf_tree.specs.Hashing.{Hashing}
use Rattle.raf_format.specs.Cipher.{Cipher}
use Rattle.raf.specs.Outside.{Outside}
use Rattle.raf.specs.Handle.{Handle, WithTree, Grown}
use Rattle.raf.specs.Ran.{ground, Progress, Ended}
use Rattle.raf.specs.declared.command.Command.{Command}
use Rattle.raf.specs.declared.command.Reply.{Reply}
use Rattle.raf_log.specs.Kinds.{log_kind}
use Rattle.raf_log.specs.Log.{LogHandle, LogFile, KeepsLog, extent_of}
use Rattle.raf_log.specs.Parts.{Parts, extent_along}
use Rattle.raf_log.specs.Opening.{LogOpened, LogNotOpened}
use Rattle.raf_log.specs.Session.{AllLogAnswer, log_after, LogWhole, LogFaulted}
use Rattle.raf_log.specs.declared.command.LogCommand.{LogCommand}
use Rattle.raf_log.specs.declared.command.LogReply.{LogReply}
use Rattle.raf_log.specs.declared.error.LogError.{LogError}
use Rattle.raf_log.specs.declared.error.LogErrorKind.TheVariants.{OutOfMemory}

-- commands without a fault so far, over a storage that tells
pub record LogSoFar (C : Cipher) (E : List ℕ → Hashing) (old now : LogHandle) (L : LogFile) (commands : List LogCommand)
    (replies : List LogReply) : Type 0 where
  pub played : AllLogAnswer (ground C E old.file) L commands replies
  pub keeps : KeepsLog C now (log_after (ground C E old.file) L commands)
  pub grown : WithTree E now.file (Grown (log_after (ground C E old.file) L commands).file)
  pub unmarked : now.file.broken ≡ false

-- over any storage: what they asked of the file is a session of it so far
pub record PartsSoFar (C : Cipher) (E : List ℕ → Hashing) (old now : LogHandle) (commands : List LogCommand) (replies : List LogReply)
    : Type 0 where
  pub asks : List Command
  pub answers : List Reply
  pub parts : Parts (extent_of old) commands replies asks answers
  pub progress : Progress C E old.file now.file asks answers
  pub extent : extent_of now ≡ extent_along (extent_of old) commands replies

pub record LogProgress (C : Cipher) (E : List ℕ → Hashing) (old now : LogHandle) (commands : List LogCommand) (replies : List LogReply)
    : Type 0 where
  pub told : (L : LogFile) → KeepsLog C old L → WithTree E old.file (Grown L.file) → old.file.broken ≡ false
      → LogSoFar C E old now L commands replies
  pub file : PartsSoFar C E old now commands replies

-- commands that are done, up to the first fault
pub record LogEnded (C : Cipher) (E : List ℕ → Hashing) (old new : LogHandle) (commands : List LogCommand) (replies : List LogReply)
    : Type 0 where
  pub told : (L : LogFile) → KeepsLog C old L → WithTree E old.file (Grown L.file) → old.file.broken ≡ false
      → LogWhole (ground C E old.file) L commands old.file.outside new.file.outside replies
      ⊎ LogFaulted (ground C E old.file) L commands old.file.outside new.file.outside replies
  pub asks : List Command
  pub answers : List Reply
  pub parts : Parts (extent_of old) (take (length replies) commands) replies asks answers
  pub ended : Ended C E old.file new.file asks answers

-- how a session ended
pub record LogEnd : Type 0 where
  pub outcome : Result (List LogReply) LogError
  pub outside : Outside

-- commands on a log that was opened: they were answered, or no memory was found, and then nothing happened
pub record LogServes (C : Cipher) (E : List ℕ → Hashing) (old : LogHandle) (commands : List LogCommand) (after : Outside)
    (outcome : Result (List LogReply) LogError) : Type 0 where
  pub answered : IfOk outcome (λ replies. (now : LogHandle) × LogEnded C E old now commands replies × (after ≡ now.file.outside))
  pub none : IfErr outcome (λ e. (log_kind e ≡ OutOfMemory) × (after ≡ old.file.outside))

-- commands on a file that was opened: it is a log, and they were answered or no memory was found; or it was refused
abbrev pub ServesFile : Cipher → (List ℕ → Hashing) → Handle → List LogCommand → Outside → Result (List LogReply) LogError → Type 0
ServesFile C E file commands after outcome =
    ((log : LogHandle) × LogOpened C file log × LogServes C E log commands after outcome)
    ⊎ ((new : Handle) × (after ≡ new.outside) × IfOk outcome (λ _. ⊥) × IfErr outcome (λ e. LogNotOpened C file new (log_kind e)))
