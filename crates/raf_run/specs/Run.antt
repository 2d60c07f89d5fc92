-- What a run of the program does, word by word (this project's own).
use Rattle.std.specs.Prelude.{◌≡◌, ℕ, ◌^◌, List, Option, Some, None, Result, IsSome, ⊤}
use Rattle.program_io.specs.Streams.{Intake, Output}
use Rattle.raf_io.specs.declared.errors.Error.{Error}
use Rattle.raf.specs.declared.command.Reply.{Reply}
use Rattle.raf_script.specs.Script.{Reads}
use Rattle.raf_script.specs.declared.script.Medium.TheVariants as medium
use Rattle.raf_script.specs.declared.script.Script.{Script}
use Rattle.raf_script.specs.Conversion.{ReadsConversion}
use Rattle.raf_script.specs.LogScript.{ReadsLog}
use Rattle.raf_script.specs.declared.log_script.LogScript.{LogScript}
use Rattle.raf_script.specs.declared.conversion.Conversion.{Conversion}
use Rattle.seal_run.specs.Ends.{status_of as stream_status}
use Rattle.seal_run.specs.Sealing.{Seals}
use Rattle.seal_run.specs.Unsealing.{Unseals}
use Rattle.seal_run.specs.declared.ends.StreamEnd.{StreamEnd}
use Rattle.raf_run.specs.Answers.{Answers, IsUnread, HasRead, WhyUnread}
use Rattle.raf_run.specs.Disk.{Disk}
use Rattle.raf_run.specs.Ends.{Ends, EndsInMemory}
use Rattle.raf_run.specs.Conversions.{EndsConverted}
use Rattle.raf_run.specs.Logs.{EndsLogged}
use Rattle.raf_run.specs.Demo.{demo_report}
use Rattle.raf_run.specs.declared.words.Form.{Form}
use Rattle.raf_run.specs.declared.words.Form.TheVariants as forms
use Rattle.raf_run.specs.declared.answer.Answer.{Answer}
use Rattle.raf_run.specs.declared.answer.Answer.TheVariants as answers

-- the disk that a run is handed, the one that it hands back, and what a disk tells
pub record Disks (D : Type 0) : Type 0 where
  pub disk : Option D
  pub back : Option D
  pub see : D → Disk

abbrev pub disks_of : {D : Type 0} → (D → Disk) → Option D → Option D → Disks D
disks_of see disk back = record { disk = disk; back = back; see = see }

-- the disk is handed back as it came
abbrev pub IsKept : {D : Type 0} → Disks D → Type 0
IsKept d = d.back ≡ d.disk

-- ---- which answers are due, word by word. All others never come

-- no word of the program
abbrev pub UsageDue : Intake → Answer → Type 0
UsageDue i answers.Usage = IsUnread i
UsageDue i _ = ⊥

-- `script`: a script is read, and run in memory
abbrev pub ScriptDue : Intake → Answer → Type 0
ScriptDue i (answers.Ended end) = (s : Script) × HasRead (Reads medium.Memory) i s × EndsInMemory s end
ScriptDue i a = WhyUnread (Reads medium.Memory) i a

-- `convert`: a conversion is read, and its old file moved into a new one in memory
abbrev pub ConvertDue : Intake → Answer → Type 0
ConvertDue i (answers.Ended end) = (c : Conversion) × HasRead ReadsConversion i c × EndsConverted c end
ConvertDue i a = WhyUnread ReadsConversion i a

-- `log`: a log's source is read, and its commands run in memory
abbrev pub LogDue : Intake → Answer → Type 0
LogDue i (answers.Logged end) = (s : LogScript) × HasRead ReadsLog i s × EndsLogged s end
LogDue i a = WhyUnread ReadsLog i a

-- `demo <n>`: the commands of the demo are run in memory. Want of memory is free
abbrev pub CanShow : ℕ → Answer → Type 0
CanShow n (answers.Shown report) = report ≡ demo_report n
CanShow n answers.OutOfMemory = ⊤
CanShow n _ = ⊥

abbrev pub DemoDue : ℕ → Intake → Answer → Type 0
DemoDue n i a = CanShow n a × IsUnread i

module _ {D : Type 0} (d : Disks D) (i : Intake) where
  -- a script was read and run over the disk, which is handed back as the run leaves it
  pub record IsFiled (outcome : Result (List Reply) Error) : Type 0 where
    pub disk : D
    pub was : d.disk ≡ Some disk
    pub back : D
    pub is : d.back ≡ Some back
    pub script : Script
    pub read : HasRead (Reads medium.Disk) i script
    pub ends : Ends script (d.see disk) outcome (d.see back)

  -- `file`: a script is read, and run over the disk
  abbrev pub FileDue : Answer → Type 0
  FileDue answers.NoDisk = (d.disk ≡ None) × IsUnread i × IsKept d
  FileDue (answers.Filed outcome) = IsFiled outcome
  FileDue a = IsSome d.disk × WhyUnread (Reads medium.Disk) i a × IsKept d

-- ---- streams

-- `seal`: the bytes of the source are sealed as one stream, as they come
abbrev pub RunsSeal : List ℕ → List ℕ → Intake → Output → ℕ → Type 0
RunsSeal key prefix i o status = (end : StreamEnd) × Seals key prefix i o end × (status ≡ stream_status end)

-- `unseal`: the stream that the source holds is opened, as it comes
abbrev pub RunsUnseal : List ℕ → Intake → Output → ℕ → Type 0
RunsUnseal key i o status = (end : StreamEnd) × Unseals key i o end × (status ≡ stream_status end)

-- ---- all words

-- what a run does, by the form of its words. Only `file` touches the disk
abbrev pub RunsBy : {D : Type 0} → Option Form → Intake → Disks D → Output → ℕ → Type 0
RunsBy None i d o status = Answers (UsageDue i) o status × IsKept d
RunsBy (Some forms.Script) i d o status = Answers (ScriptDue i) o status × IsKept d
RunsBy (Some forms.Convert) i d o status = Answers (ConvertDue i) o status × IsKept d
RunsBy (Some forms.Log) i d o status = Answers (LogDue i) o status × IsKept d
RunsBy (Some (forms.Seal key prefix)) i d o status = RunsSeal key prefix i o status × IsKept d
RunsBy (Some (forms.Unseal key)) i d o status = RunsUnseal key i o status × IsKept d
RunsBy (Some (forms.Demo n)) i d o status = Answers (DemoDue n i) o status × IsKept d
RunsBy (Some forms.File) i d o status = Answers (FileDue d i) o status

-- the most bytes that a run makes use of: those of a stream, or of a text
abbrev pub most_of : Option Form → ℕ
most_of (Some (forms.Seal key prefix)) = 2 ^ 40
most_of (Some (forms.Unseal key)) = 2 ^ 40
most_of form = 2 ^ 26
