-- What opening gives back of what sealing wrote (this project's own).
use Rattle.std.specs.Prelude.{◌≡◌, ℕ, ◌<◌, ◌++◌, List, length, Some, ⊤}
use Rattle.std.specs.Io.KnownBytes.{Appends}
use Rattle.program_io.specs.Streams.{Intake, Output, AppendsPrefix}
use Rattle.seal_run.specs.Ends.{most_bytes}
use Rattle.seal_run.specs.Sealing.{Seals}
use Rattle.seal_run.specs.Unsealing.{Unseals}
use Rattle.seal_run.specs.declared.ends.StreamEnd.{StreamEnd}
use Rattle.seal_run.specs.declared.ends.StreamEnd.TheVariants.{Whole, ReadFault, WriteFault, OutOfMemory, NotAStream, TooLong}

-- of the bytes that were sealed to this stream these were written, by how opening it ended
abbrev pub GivesBack : List ℕ → List ℕ → Output → StreamEnd → Type 0
GivesBack bytes stream sink Whole = Appends sink.written sink.after bytes
GivesBack bytes stream sink ReadFault = AppendsPrefix sink.written sink.after bytes
GivesBack bytes stream sink WriteFault = AppendsPrefix sink.written sink.after bytes
GivesBack bytes stream sink OutOfMemory = ⊤
GivesBack bytes stream sink NotAStream = ⊥
GivesBack bytes stream sink TooLong = (most_bytes < length stream) × AppendsPrefix sink.written sink.after bytes

pub record SealThenUnseal : Type 0 where
  -- the stream that `seal` wrote whole, opened by `unseal` under the same key: unless a call fails or no memory is found, all the bytes come
  -- back, if the stream itself is not too long to be opened
  pub back : (key prefix bytes before stream : List ℕ) (source : Intake) (sink : Output) (second : Intake) (opened : Output) (end : StreamEnd) → length prefix ≡ 8
      → source.left ≡ Some bytes → sink.written ≡ Some before → sink.after ≡ Some (before ++ stream) → Seals key prefix source sink Whole
      → second.left ≡ Some stream → Unseals key second opened end
      → GivesBack bytes stream opened end
