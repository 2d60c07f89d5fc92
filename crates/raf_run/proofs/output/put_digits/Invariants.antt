use Rattle.std.proofs.Common.{length, take, ◌-◌, ◌≤◌, Ok}
use Rattle.hex.specs.Hex.{encode_lower}
use Rattle.program_io.specs.declared.streams.Failed.{Failed}
use Rattle.raf_run.specs.Text.{Puts}
use Rattle.raf_run.proofs.output.put_digits.Given as goal

abbrev pub invariant-loop-at : goal.invariant-loop-at
invariant-loop-at g l = (l.at ≤ length l.bytes)
    × Puts {E = Failed} (g.K.Sink.written l.fn.sink) (g.K.Sink.written l.sink) (g.K.Sink.faults l.fn.sink) (g.K.Sink.faults l.sink) (Ok tt) (encode_lower (take l.at l.bytes))

abbrev pub decreases-loop-at : goal.decreases-loop-at
decreases-loop-at g l = length l.bytes - l.at
