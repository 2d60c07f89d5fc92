-- How a run over a source and a sink ends (this project's own).
use Rattle.std.specs.Prelude.{◌≡◌, ℕ, ◌+◌, ◌^◌, ◌≤◌}
use Rattle.counts.specs.Counts.{Rose}
use Rattle.program_io.specs.Streams.{Intake, Output, TellsAsBefore, ConsumesAtMost}
use Rattle.seal_run.specs.declared.ends.StreamEnd.{StreamEnd}
use Rattle.seal_run.specs.declared.ends.StreamEnd.TheVariants.{Whole, ReadFault, WriteFault, OutOfMemory, NotAStream, TooLong}

-- the status that a program tells it by
abbrev pub status_of : StreamEnd → ℕ
status_of Whole = 0
status_of ReadFault = 5
status_of WriteFault = 6
status_of OutOfMemory = 7
status_of NotAStream = 9
status_of TooLong = 10

-- the most bytes that a source may have
abbrev pub most_bytes : ℕ
most_bytes = 2 ^ 40

-- the sink's count of faults rose exactly where a write failed, and the source's exactly where a read did
abbrev pub HasCount : Intake → Output → StreamEnd → Type 0
HasCount source sink WriteFault = Rose sink.faults sink.faults_after × (source.faults_after ≡ source.faults)
HasCount source sink ReadFault = (sink.faults_after ≡ sink.faults) × Rose source.faults source.faults_after
HasCount source sink _ = (sink.faults_after ≡ sink.faults) × (source.faults_after ≡ source.faults)

-- what holds of source and sink however a run ends, whether they tell their bytes or not
pub record Runs (source : Intake) (sink : Output) (end : StreamEnd) : Type 0 where
  pub count : HasCount source sink end
  pub later : (source.faults ≤ source.faults_after) × (sink.faults ≤ sink.faults_after)
  -- no more is taken than shows that there are too many bytes
  pub most : ConsumesAtMost source.left source.after (most_bytes + 1)
  pub tells : TellsAsBefore source.left source.after × TellsAsBefore sink.written sink.after

-- nothing was taken, and nothing written
abbrev pub Untouched : Intake → Output → Type 0
Untouched source sink = (source.after ≡ source.left) × (sink.after ≡ sink.written)
