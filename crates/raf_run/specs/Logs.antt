-- How a run of a log's commands may end (this project's own).
use Rattle.std.specs.Prelude.{◌≡◌, ◌⊎◌, List, Some, Result, Err}
use Rattle.raf_format.specs.Cipher.{cipher_of}
use Rattle.raf_format.specs.Numbers.{variant_of}
use Rattle.raf_format.specs.Version.{version_number}
use Rattle.raf_io.specs.declared.errors.Error.{Error}
use Rattle.raf.specs.Outside.{Outside}
use Rattle.raf.specs.Handle.{Handle}
use Rattle.raf.specs.Opening.{Settings, Made}
use Rattle.raf_log.specs.Session.{LogMeets}
use Rattle.raf_log.specs.declared.command.LogCommand.{LogCommand}
use Rattle.raf_log.specs.declared.command.LogReply.{LogReply}
use Rattle.raf_log.specs.declared.error.LogError.{LogError}
use Rattle.raf_log.specs.declared.error.LogError.TheVariants.{Raf}
use Rattle.raf_script.specs.declared.log_script.LogScript.{LogScript}
use Rattle.raf_script.specs.declared.script.Start.{Start}
use Rattle.raf_script.specs.declared.script.Start.TheVariants.{Storage, Create}
use Rattle.raf_run.specs.Disk.{Disk, memory_of, over, disk_in}
use Rattle.raf_run.specs.Ends.{Ground, BuilderOf, HasherOf, IsSure, RefusedAnew, answers_of, setting_of, told_by, first_bytes}
use Rattle.raf_run.specs.declared.answer.LogEnd.{LogEnd}

-- what the file of a log stands on
abbrev pub log_ground : LogScript → Ground
log_ground s = record {
  cipher = cipher_of (variant_of s.algorithm);
  key = s.key;
  answers = answers_of s.max_chunks;
  most = s.max_chunks;
  setting = setting_of s.max_chunks;
  random = told_by s.randomness;
}

-- a log's session by a builder, over this disk, may end so: its outcome meets what is proved of them, and the disk is handed back like this
pub record LogServed (G : Ground) (b : Settings) (commands : List LogCommand) (disk : Disk) (outcome : Result (List LogReply) LogError) (back : Disk)
    : Type 0 where
  pub after : Outside
  pub meets : LogMeets G.cipher G.answers G.key b commands (over disk b.outside) after outcome
  pub sure : IsSure G after
  pub handed : back ≡ disk_in after

-- a file was made, and a session served on its storage, with what its random source had left
pub record LogServedAnew (G : Ground) (b : Settings) (commands : List LogCommand) (disk : Disk) (outcome : Result (List LogReply) LogError) (back : Disk)
    : Type 0 where
  pub file : Handle
  pub made : Made G.cipher G.answers G.key b (over disk b.outside) file
  pub opener : Settings
  pub hasher : HasherOf G opener
  pub left : opener.outside.left ≡ file.outside.left
  pub rng_faults : opener.outside.rng_faults ≡ file.outside.rng_faults
  pub asked : opener.outside.asked ≡ file.outside.asked
  pub exact : opener.outside.exact ≡ file.outside.exact
  pub served : LogServed G opener commands (disk_in file.outside) outcome back

-- no file was made, and that is the outcome
abbrev pub LogUnmade : Ground → Settings → Disk → Result (List LogReply) LogError → Disk → Type 0
LogUnmade G b disk outcome back = (e : Error) × (outcome ≡ Err (Raf e)) × RefusedAnew G b disk (Err e) back

-- how a run of these commands may end: over what the disk holds, or over a file that is made there first, unless that is refused
abbrev pub EndsLoggedOn : Ground → Start → List LogCommand → Disk → Result (List LogReply) LogError → Disk → Type 0
EndsLoggedOn G (Storage bytes) commands disk outcome back = (b : Settings) × BuilderOf G b × LogServed G b commands disk outcome back
EndsLoggedOn G (Create size version) commands disk outcome back =
    (b : Settings) × BuilderOf G b × (b.chunk_size ≡ size) × (b.version ≡ version_number version)
    × (LogServedAnew G b commands disk outcome back ⊎ LogUnmade G b disk outcome back)

-- how a run in memory may end, with the bytes that the storage was handed back with
abbrev pub EndsLogged : LogScript → LogEnd → Type 0
EndsLogged s end = (back : Disk) × EndsLoggedOn (log_ground s) s.start s.commands (memory_of (first_bytes s.start)) end.outcome back
    × (back.bytes ≡ Some end.storage)
