use Rattle.std.proofs.Common.{◌≡◌, ◌≤◌, ◌<◌, ◌-◌, ◌++◌, ℕ, List, None, length, take}
use Rattle.program_io.specs.Streams.{TellsAsBefore}
use Rattle.aegis_stream.specs.Unspell.{unspell}
use Rattle.aegis_stream.specs.Opening.{Took, is_ended, refusal_of}
use Rattle.seal_run.proofs.Opened.{Opened}
use Rattle.seal_run.proofs.unsealing.open_piece.Given as goal

abbrev pub invariant-loop-at : goal.invariant-loop-at
invariant-loop-at g l = record {
  within : l.at ≤ length l.piece;
  wide : length l.message ≡ 65536;
  going : l.opener.refused ≡ None;
  opened : (taken : List ℕ) → Took l.fn.opener taken → Opened l.fn.opener l.opener taken (take l.at l.piece) (g.K.Sink.written l.fn.sink) (g.K.Sink.written l.sink);
  stands : (taken : List ℕ) → Took l.fn.opener taken → 0 < l.at
      → (l.ended ≡ is_ended (unspell l.fn.opener.key (taken ++ take l.at l.piece)).state) × (refusal_of (unspell l.fn.opener.key (taken ++ take l.at l.piece)).state ≡ None);
  faults : g.K.Sink.faults l.sink ≡ g.K.Sink.faults l.fn.sink;
  tells : TellsAsBefore (g.K.Sink.written l.fn.sink) (g.K.Sink.written l.sink);
}

abbrev pub decreases-loop-at : goal.decreases-loop-at
decreases-loop-at g l = length l.piece - l.at
