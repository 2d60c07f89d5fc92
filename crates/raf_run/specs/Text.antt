-- The reply text: what the program writes of a session's outcome. The format is this project's own.
use Rattle.std.specs.Prelude.{◌∷◌, [], ◌++◌, ℕ, List, codes, Option, Some, None, Result, Ok, Err, OnOk, decimal, take, drop, if◌then◌else◌}
use Rattle.std.specs.List.{flat_map}
use Rattle.std.specs.Io.KnownBytes.{Appends}
use Rattle.hex.specs.Hex.{encode_lower}
use Rattle.counts.specs.Counts.{HasCause}
use Rattle.raf_io.specs.Kinds.{kind_of}
use Rattle.raf.specs.Due.{is_fault}
use Rattle.raf_io.specs.declared.errors.Error.{Error}
use Rattle.raf_io.specs.declared.errors.ErrorKind.{ErrorKind}
use Rattle.raf_io.specs.declared.errors.ErrorKind.TheVariants as kinds
use Rattle.raf_io.specs.declared.errors.Reason.{Reason}
use Rattle.raf_io.specs.declared.errors.Reason.TheVariants as reasons
use Rattle.raf.specs.declared.command.Reply.{Reply}
use Rattle.raf.specs.declared.command.Reply.TheVariants as replies
use Rattle.program_io.specs.Streams.{AppendsPrefix, TellsAsBefore}
use Rattle.raf_run.specs.declared.answer.End.{End}
use Rattle.raf_run.specs.declared.answer.Report.{Report}

-- the word for a reason
abbrev pub reason_word : Reason → List ℕ
reason_word reasons.Header = codes "header"
reason_word reasons.UnknownAlgorithm = codes "unknown"
reason_word reasons.AlgorithmMismatch = codes "algorithm"
reason_word reasons.Layout = codes "layout"
reason_word reasons.ChunkSize = codes "chunk-size"
reason_word reasons.HashLen = codes "hash-len"
reason_word reasons.MaxChunks = codes "max-chunks"
reason_word reasons.KeyLength = codes "key-length"
reason_word reasons.ContextTooLong = codes "context"
reason_word reasons.CommitmentBuffer = codes "buffer"
reason_word reasons.SeekOverflow = codes "seek"

-- the word for a kind of error
abbrev pub word : ErrorKind → List ℕ
word kinds.Io = codes "io"
word (kinds.InvalidArgument reason) = reason_word reason
word kinds.AuthenticationFailed = codes "authentication"
word kinds.AlreadyExists = codes "exists"
word kinds.NotFound = codes "missing"
word kinds.Overflow = codes "overflow"
word kinds.MerkleNotEnabled = codes "merkle"
word (kinds.CorruptedChunk index) = codes "corrupted"
word kinds.Rng = codes "rng"
word kinds.Hash = codes "hash"
word kinds.Broken = codes "broken"
word kinds.OutOfMemory = codes "memory"

-- hex in lower case, no bytes as `-`
unfoldable pub hex_word : List ℕ → List ℕ
hex_word [] = codes "-"
hex_word (b ∷ bytes) = encode_lower (b ∷ bytes)

-- a name, its argument and LF
abbrev pub line : List ℕ → List ℕ → List ℕ
line name argument = name ++ argument ++ 10 ∷ []

-- the line of a command that was refused
unfoldable pub refused_line : ErrorKind → List ℕ
refused_line kind = line (if is_fault (replies.Refused kind) then codes "fault " else codes "refused ") (word kind)

-- the line of a reply
unfoldable pub reply_line : Reply → List ℕ
reply_line (replies.Bytes bytes) = line (codes "bytes ") (hex_word bytes)
reply_line (replies.Wrote n) = line (codes "wrote ") (decimal n)
reply_line replies.Done = codes "done\n"
reply_line (replies.Size n) = line (codes "size ") (decimal n)
reply_line (replies.Verified None) = codes "verified\n"
reply_line (replies.Verified (Some i)) = line (codes "damaged ") (decimal i)
reply_line (replies.Commitment bytes) = line (codes "commitment ") (hex_word bytes)
reply_line (replies.Refused kind) = refused_line kind

-- the reply at an index, as a list of one
abbrev pub item_at : {R : Type 0} → List R → ℕ → List R
item_at rs i = take 1 (drop i rs)

-- a line a reply, or the line of the refusal
abbrev pub outcome_text : Result (List Reply) Error → List ℕ
outcome_text (Ok rs) = flat_map reply_line rs
outcome_text (Err e) = line (codes "error ") (word (kind_of e))

-- the outcome, and then the bytes that the storage was handed back with
abbrev pub end_text : End → List ℕ
end_text end = outcome_text end.outcome ++ line (codes "storage ") (hex_word end.storage)

-- the four lines of the demo
abbrev pub report_text : Report → List ℕ
report_text r =
    line (codes "size ") (decimal r.size) ++ line (codes "sum ") (decimal r.sum) ++ line (codes "storage ") (decimal r.storage)
    ++ codes "verified\n"

-- a text went to a sink: all of it, or a prefix of it, and the sink failed
pub record Puts {E : Type 0} (old new : Option (List ℕ)) (before now : ℕ) (result : Result Unit E) (text : List ℕ) : Type 0 where
  pub whole : OnOk result (Appends old new text)
  pub front : AppendsPrefix old new text
  pub tells : TellsAsBefore old new
  pub cause : HasCause before now result
