-- What sealing a source does (this project's own).
use Rattle.std.specs.Prelude.{ℕ, ◌<◌, ◌≤◌, List, length, IfSome}
use Rattle.std.specs.Io.KnownBytes.{Appends, IsAtEnd}
use Rattle.program_io.specs.Streams.{Intake, Output, AppendsPrefix}
use Rattle.aegis_stream.specs.Spell.{spell}
use Rattle.seal_run.specs.Pieces.{pieces}
use Rattle.seal_run.specs.Ends.{Runs, Untouched, most_bytes}
use Rattle.seal_run.specs.declared.ends.StreamEnd.{StreamEnd}
use Rattle.seal_run.specs.declared.ends.StreamEnd.TheVariants.{Whole, ReadFault, WriteFault, OutOfMemory, NotAStream, TooLong}

-- the stream of all the bytes of a source
abbrev pub stream_of : List ℕ → List ℕ → List ℕ → List ℕ
stream_of key prefix bytes = spell key prefix (pieces bytes)

module _ (key prefix : List ℕ) (source : Intake) (sink : Output) where
  -- a front of the stream was written
  abbrev pub SealsFront : Type 0
  SealsFront = IfSome source.left (λ bytes. AppendsPrefix sink.written sink.after (stream_of key prefix bytes))

  -- what was taken and written, by how it ends
  abbrev pub SealsUpTo : StreamEnd → Type 0
  SealsUpTo Whole = IsAtEnd source.after
      × IfSome source.left (λ bytes. (length bytes ≤ most_bytes) × Appends sink.written sink.after (stream_of key prefix bytes))
  SealsUpTo TooLong = IfSome source.left (λ bytes. most_bytes < length bytes) × SealsFront
  SealsUpTo ReadFault = SealsFront
  SealsUpTo WriteFault = SealsFront
  SealsUpTo OutOfMemory = Untouched source sink
  SealsUpTo NotAStream = ⊥

-- `seal`: the stream of all that the source has, if that is not too long
pub record Seals (key prefix : List ℕ) (source : Intake) (sink : Output) (end : StreamEnd) : Type 0 where
  pub runs : Runs source sink end
  pub writes : SealsUpTo key prefix source sink end
