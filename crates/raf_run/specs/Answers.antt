-- What the words of the program share: how a text is read, and the status and the text of an answer (this project's own).
use Rattle.std.specs.Prelude.{◌≡◌, ◌⊎◌, [], ◌<◌, ◌≤◌, ◌-◌, ◌^◌, ◌==◌, ℕ, Bool, true, false, List, length, codes, decimal, Option, Some, None, Result, Ok, Err, IfSome, if◌then◌else◌, slice_get}
use Rattle.std.specs.Io.KnownBytes.{Appends, IsAtEnd}
use Rattle.counts.specs.Counts.{Rose}
use Rattle.program_io.specs.Streams.{Intake, Output, AppendsPrefix}
use Rattle.raf_io.specs.Kinds.{kind_of}
use Rattle.raf_io.specs.declared.errors.Error.{Error}
use Rattle.raf_io.specs.declared.errors.ErrorKind.{ErrorKind}
use Rattle.raf_io.specs.declared.errors.ErrorKind.TheVariants as kinds
use Rattle.raf.specs.Due.{is_fault}
use Rattle.raf.specs.declared.command.Reply.{Reply}
use Rattle.raf.specs.declared.command.Reply.TheVariants as replies
use Rattle.raf_log.specs.Call.{is_log_fault}
use Rattle.raf_log.specs.Kinds.{log_kind}
use Rattle.raf_log.specs.declared.command.LogReply.{LogReply}
use Rattle.raf_log.specs.declared.command.LogReply.TheVariants as log_replies
use Rattle.raf_log.specs.declared.error.LogError.{LogError}
use Rattle.raf_log.specs.declared.error.LogErrorKind.{LogErrorKind}
use Rattle.raf_log.specs.declared.error.LogErrorKind.TheVariants as log_kinds
use Rattle.raf_script.specs.declared.script.ScriptError.{ScriptError}
use Rattle.raf_script.specs.declared.script.ScriptError.TheVariants as errors
use Rattle.raf_run.specs.Text.{line, outcome_text, end_text, report_text}
use Rattle.raf_run.specs.LogText.{log_end_text}
use Rattle.raf_run.specs.declared.answer.Answer.{Answer}
use Rattle.raf_run.specs.declared.answer.Answer.TheVariants as answers

-- ---- statuses

-- the status of a last reply, if there is one: 4 for a fault
abbrev pub last_status : Option Reply → ℕ
last_status None = 0
last_status (Some last) = if is_fault last then 4 else 0

-- the status of a refusal: 7 for want of memory, else 3
abbrev pub refused_status : ErrorKind → ℕ
refused_status kinds.OutOfMemory = 7
refused_status _ = 3

abbrev pub outcome_status : Result (List Reply) Error → ℕ
outcome_status (Ok rs) = last_status (slice_get rs (length rs - 1))
outcome_status (Err e) = refused_status (kind_of e)

-- the storage failed: that is the refusal, or the last reply
abbrev pub is_io_kind : ErrorKind → Bool
is_io_kind kinds.Io = true
is_io_kind _ = false

abbrev pub is_io : Option Reply → Bool
is_io (Some (replies.Refused kind)) = is_io_kind kind
is_io _ = false

abbrev pub tells_io : Result (List Reply) Error → Bool
tells_io (Ok rs) = is_io (slice_get rs (length rs - 1))
tells_io (Err e) = is_io_kind (kind_of e)

-- in memory, none of whose calls is to fail, that is want of memory
abbrev pub memory_status : Result (List Reply) Error → ℕ
memory_status outcome = if tells_io outcome then 7 else outcome_status outcome

-- the same of a log's session in memory
abbrev pub is_log_io : LogReply → Bool
is_log_io (log_replies.Refused (log_kinds.Raf kind)) = is_io_kind kind
is_log_io _ = false

abbrev pub log_last_status : Option LogReply → ℕ
log_last_status None = 0
log_last_status (Some last) = if is_log_fault last then (if is_log_io last then 7 else 4) else 0

abbrev pub log_refused_status : LogErrorKind → ℕ
log_refused_status (log_kinds.Raf kind) = if is_io_kind kind then 7 else refused_status kind
log_refused_status log_kinds.OutOfMemory = 7
log_refused_status _ = 3

abbrev pub log_status : Result (List LogReply) LogError → ℕ
log_status (Ok rs) = log_last_status (slice_get rs (length rs - 1))
log_status (Err e) = log_refused_status (log_kind e)

-- the status of each answer
abbrev pub status_of : Answer → ℕ
status_of answers.Usage = 1
status_of answers.NoDisk = 8
status_of answers.ReadFault = 5
status_of answers.Long = 2
status_of (answers.Wrong n) = 2
status_of answers.OutOfMemory = 7
status_of (answers.Ended end) = memory_status end.outcome
status_of (answers.Filed outcome) = outcome_status outcome
status_of (answers.Logged end) = log_status end.outcome
status_of (answers.Shown report) = 0

-- ---- texts

-- the text of each answer; none for want of memory
abbrev pub text_of : Answer → List ℕ
text_of answers.Usage = codes "usage: raf_tool script | convert | log | seal <key> <prefix> | unseal <key> | demo <n> | file <path>\n"
text_of answers.NoDisk = codes "no disk\n"
text_of answers.ReadFault = []
text_of answers.Long = codes "script long\n"
text_of (answers.Wrong n) = line (codes "script line ") (decimal n)
text_of answers.OutOfMemory = []
text_of (answers.Ended end) = if memory_status end.outcome == 7 then [] else end_text end
text_of (answers.Filed outcome) = if outcome_status outcome == 7 then [] else outcome_text outcome
text_of (answers.Logged end) = if log_status end.outcome == 7 then [] else log_end_text end
text_of (answers.Shown report) = report_text report

-- the answer was told: the status is its own, and its text was written. Or the sink failed: status 6 and a prefix of that text
abbrev pub Told : Answer → Output → ℕ → Type 0
Told a o status = ((status ≡ status_of a) × Appends o.written o.after (text_of a) × (o.faults_after ≡ o.faults))
    ⊎ ((status ≡ 6) × AppendsPrefix o.written o.after (text_of a) × Rose o.faults o.faults_after)

-- an answer that is due was told
abbrev pub Answers : (Answer → Type 0) → Output → ℕ → Type 0
Answers Due o status = (a : Answer) × Due a × Told a o status

-- ---- reading a text

-- nothing was asked of the source
abbrev pub IsUnread : Intake → Type 0
IsUnread i = (i.faults_after ≡ i.faults) × (i.after ≡ i.left)

-- a text has at most 2 ^ 26 bytes
abbrev pub IsLong : List ℕ → Type 0
IsLong bytes = 2 ^ 26 < length bytes

-- the source was read to its end, and what it held meets this
abbrev pub WasRead : (List ℕ → Type 0) → Intake → Type 0
WasRead Is i = (i.faults_after ≡ i.faults) × IsAtEnd i.after × IfSome i.left Is

-- why no text was read: the source failed; it has more bytes than a text; or no memory was found, which is free
abbrev pub WhyNoText : Intake → Answer → Type 0
WhyNoText i answers.ReadFault = Rose i.faults i.faults_after
WhyNoText i answers.Long = (i.faults_after ≡ i.faults) × IfSome i.left IsLong
WhyNoText i answers.OutOfMemory = i.faults_after ≡ i.faults
WhyNoText i _ = ⊥

-- the answer to a text that no content was read of
abbrev pub answer_of : ScriptError → Answer
answer_of (errors.Line n) = answers.Wrong n
answer_of errors.OutOfMemory = answers.OutOfMemory

-- a grammar says of a text what a reading of it may answer: a content that it spells, or its first wrong line, where it spells none
module _ {A : Type 0} (Reads : List ℕ → Result A ScriptError → Type 0) where
  -- the bytes are a text, of which this may be answered
  pub record IsText (answer : Result A ScriptError) (bytes : List ℕ) : Type 0 where
    pub short : length bytes ≤ 2 ^ 26
    pub reads : Reads bytes answer

  -- a text was read that spells this content
  abbrev pub HasRead : Intake → A → Type 0
  HasRead i content = WasRead (IsText (Ok content)) i

  -- why no content was read: there was no text, or it spells none, and line n is its first wrong one
  abbrev pub WhyUnread : Intake → Answer → Type 0
  WhyUnread i (answers.Wrong n) = (i.faults_after ≡ i.faults) × IfSome i.left (IsText (Err (errors.Line n)))
  WhyUnread i a = WhyNoText i a
