use Rattle.std.proofs.Common.{◌≡◌, ◌≤◌, ◌-◌, ◌+◌, ◌^◌, length}
use Rattle.program_io.specs.Streams.{TellsAsBefore}
use Rattle.seal_run.specs.Ends.{most_bytes}
use Rattle.seal_run.proofs.Sealed.{SoFar}
use Rattle.seal_run.proofs.sealing.seal_all.Given as goal

abbrev pub invariant-loop-count : goal.invariant-loop-count
invariant-loop-count g l = record {
  sealed : SoFar l.fn.key l.fn.prefix l.sealer (g.S.Source.left l.fn.source) (g.S.Source.left l.source) (g.K.Sink.written l.fn.sink) (g.K.Sink.written l.sink) l.sealed;
  within : l.sealed ≤ most_bytes;
  wide : (length l.piece ≡ 65536) × (length l.frame ≡ 65557);
  faults : (g.S.Source.faults l.source ≡ g.S.Source.faults l.fn.source) × (g.K.Sink.faults l.sink ≡ g.K.Sink.faults l.fn.sink);
  tells : TellsAsBefore (g.S.Source.left l.fn.source) (g.S.Source.left l.source) × TellsAsBefore (g.K.Sink.written l.fn.sink) (g.K.Sink.written l.sink);
}

abbrev pub decreases-loop-count : goal.decreases-loop-count
decreases-loop-count g l = most_bytes + 1 - l.sealed
