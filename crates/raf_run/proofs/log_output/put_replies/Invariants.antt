use Rattle.std.proofs.Common.{take, Ok}
use Rattle.std.specs.List.{flat_map}
use Rattle.program_io.specs.declared.streams.Failed.{Failed}
use Rattle.raf_run.specs.Text.{Puts}
use Rattle.raf_run.specs.LogText.{log_reply_line}
use Rattle.raf_run.proofs.log_output.put_replies.Given as goal

abbrev pub invariant-loop-index : goal.invariant-loop-index
invariant-loop-index g l = Puts {E = Failed} (g.K.Sink.written l.fn.sink) (g.K.Sink.written l.sink) (g.K.Sink.faults l.fn.sink) (g.K.Sink.faults l.sink) (Ok tt) (flat_map log_reply_line (take l.index l.replies))
