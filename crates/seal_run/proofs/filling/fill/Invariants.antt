use Rattle.std.proofs.Common.{length, take, ◌-◌, ◌≡◌, ◌≤◌}
use Rattle.std.specs.Io.KnownBytes.{Consumes}
use Rattle.program_io.specs.Streams.{TellsAsBefore}
use Rattle.seal_run.proofs.filling.fill.Given as goal

abbrev pub invariant-loop-filled : goal.invariant-loop-filled
invariant-loop-filled g l = record {
  within : l.filled ≤ length l.buf;
  wide : length l.buf ≡ length l.fn.buf;
  bytes : Consumes (g.S.Source.left l.fn.source) (g.S.Source.left l.source) (take l.filled l.buf);
  faults : g.S.Source.faults l.source ≡ g.S.Source.faults l.fn.source;
  tells : TellsAsBefore (g.S.Source.left l.fn.source) (g.S.Source.left l.source);
}

abbrev pub decreases-loop-filled : goal.decreases-loop-filled
decreases-loop-filled g l = length l.buf - l.filled
