-- What the program writes of a log's session (this project's own).
use Rattle.std.specs.Prelude.{◌++◌, ℕ, List, codes, Result, Ok, Err, decimal, if◌then◌else◌}
use Rattle.std.specs.List.{flat_map}
use Rattle.raf_log.specs.Call.{is_log_fault}
use Rattle.raf_log.specs.Kinds.{log_kind}
use Rattle.raf_log.specs.declared.command.LogReply.{LogReply}
use Rattle.raf_log.specs.declared.command.LogReply.TheVariants as replies
use Rattle.raf_log.specs.declared.error.LogError.{LogError}
use Rattle.raf_log.specs.declared.error.LogErrorKind.{LogErrorKind}
use Rattle.raf_log.specs.declared.error.LogErrorKind.TheVariants as kinds
use Rattle.raf_run.specs.Text.{word, line, hex_word}
use Rattle.raf_run.specs.declared.answer.LogEnd.{LogEnd}

-- the word for a log's kind of error
abbrev pub log_word : LogErrorKind → List ℕ
log_word (kinds.Raf kind) = word kind
log_word kinds.Format = codes "log"
log_word kinds.TooLong = codes "long"
log_word kinds.OutOfMemory = codes "memory"
log_word kinds.Overflow = codes "overflow"

-- the line of a command that was refused
unfoldable pub log_refused_line : LogErrorKind → List ℕ
log_refused_line kind = line (if is_log_fault (replies.Refused kind) then codes "fault " else codes "refused ") (log_word kind)

-- the line of a reply
unfoldable pub log_reply_line : LogReply → List ℕ
log_reply_line (replies.Appended index) = line (codes "entry ") (decimal index)
log_reply_line (replies.Entry bytes) = line (codes "bytes ") (hex_word bytes)
log_reply_line replies.Absent = codes "none\n"
log_reply_line (replies.Count n) = line (codes "count ") (decimal n)
log_reply_line (replies.Commitment bytes) = line (codes "commitment ") (hex_word bytes)
log_reply_line (replies.Refused kind) = log_refused_line kind

-- a line a reply, or the line of the refusal
abbrev pub log_outcome_text : Result (List LogReply) LogError → List ℕ
log_outcome_text (Ok rs) = flat_map log_reply_line rs
log_outcome_text (Err e) = line (codes "error ") (log_word (log_kind e))

-- the outcome, and then the bytes that the storage was handed back with
abbrev pub log_end_text : LogEnd → List ℕ
log_end_text end = log_outcome_text end.outcome ++ line (codes "storage ") (hex_word end.storage)
