use Rattle.std.proofs.Common.{length, take, ◌-◌, ◌≡◌, ◌≤◌}
use Rattle.std.specs.Io.KnownBytes.{Appends}
use Rattle.program_io.specs.Streams.{TellsAsBefore}
use Rattle.program_io.proofs.whole.write_whole.Given as goal

abbrev pub invariant-loop-at : goal.invariant-loop-at
invariant-loop-at g l = (l.at ≤ length l.text)
    × Appends (g.K.Sink.written l.fn.sink) (g.K.Sink.written l.sink) (take l.at l.text)
    × (g.K.Sink.faults l.sink ≡ g.K.Sink.faults l.fn.sink)
    × TellsAsBefore (g.K.Sink.written l.fn.sink) (g.K.Sink.written l.sink)

abbrev pub decreases-loop-at : goal.decreases-loop-at
decreases-loop-at g l = length l.text - l.at
