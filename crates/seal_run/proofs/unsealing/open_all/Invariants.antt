use Rattle.std.proofs.Common.{◌≡◌, ◌≤◌, ◌-◌, length}
use Rattle.program_io.specs.Streams.{TellsAsBefore}
use Rattle.seal_run.specs.Ends.{most_bytes}
use Rattle.seal_run.proofs.Unsealed.{SoFar}
use Rattle.seal_run.proofs.unsealing.open_all.Given as goal

abbrev pub invariant-loop-taken : goal.invariant-loop-taken
invariant-loop-taken g l = record {
  opened : SoFar l.fn.opener.key l.opener (g.S.Source.left l.fn.source) (g.S.Source.left l.source) (g.K.Sink.written l.fn.sink) (g.K.Sink.written l.sink) l.taken l.ended;
  within : l.taken ≤ most_bytes;
  wide : (length l.piece ≡ 65536) × (length l.message ≡ 65536);
  faults : (g.S.Source.faults l.source ≡ g.S.Source.faults l.fn.source) × (g.K.Sink.faults l.sink ≡ g.K.Sink.faults l.fn.sink);
  tells : TellsAsBefore (g.S.Source.left l.fn.source) (g.S.Source.left l.source) × TellsAsBefore (g.K.Sink.written l.fn.sink) (g.K.Sink.written l.sink);
}

abbrev pub decreases-loop-taken : goal.decreases-loop-taken
decreases-loop-taken g l = most_bytes - l.taken
