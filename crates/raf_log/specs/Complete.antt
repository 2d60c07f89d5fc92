-- Valid input and no fault: what a log's opening and session then give, by what they state (this project's own).
use Rattle.std.specs.Prelude.{◌≡◌, ℕ, ◌^◌, ◌<◌, false, List, Some, Result, IfOk, IfErr}
use Rattle.raf_tree.specs.Hashing.{Hashing}
use Rattle.raf_format.specs.Cipher.{Cipher}
use Rattle.raf.specs.Outside.{Outside}
use Rattle.raf.specs.Handle.{Handle, Holds, hash_len_of}
use Rattle.raf.specs.Opening.{Settings}
use Rattle.raf.specs.Complete.{NoneFailed, CanOpen}
use Rattle.raf_log.specs.Kinds.{log_kind}
use Rattle.raf_log.specs.Log.{LogFile, IsLog}
use Rattle.raf_log.specs.Opening.{LogNotOpened}
use Rattle.raf_log.specs.Session.{AllLogAnswer, log_rooms, LogMeets}
use Rattle.raf_log.specs.declared.command.LogCommand.{LogCommand}
use Rattle.raf_log.specs.declared.command.LogReply.{LogReply}
use Rattle.raf_log.specs.declared.error.LogError.{LogError}
use Rattle.raf_log.specs.declared.error.LogErrorKind.{LogErrorKind}
use Rattle.raf_log.specs.declared.error.LogErrorKind.TheVariants.{OutOfMemory}

-- an open file whose bytes are those of a log is opened as one, but for want of memory; and a session on such a file is answered, but for
-- want of memory, by the replies that are due
pub record LogComplete (C : Cipher) (E : List ℕ → Hashing) : Type 0 where
  pub opening : (old new : Handle) (L : LogFile) (kind : LogErrorKind) → LogNotOpened C old new kind → old.broken ≡ false
      → Holds C old L.file → IsLog L → NoneFailed old.outside new.outside → kind ≡ OutOfMemory
  pub sessions : (key b : List ℕ) (L : LogFile) (s : Settings) (commands : List LogCommand) (before after : Outside)
      (outcome : Result (List LogReply) LogError)
      → LogMeets C E key s commands before after outcome → before.setting ≡ s.outside.setting → before.bytes ≡ Some b
      → CanOpen C E key before.setting s.most b L.file → IsLog L → log_rooms (hash_len_of E s.outside.setting) commands < 2 ^ 64
      → NoneFailed before after
      → IfErr outcome (λ e. log_kind e ≡ OutOfMemory)
      × IfOk outcome (λ replies. AllLogAnswer (record { cipher = C; answers = E; setting = s.outside.setting; limit = s.most; key = key }) L
      commands replies)
