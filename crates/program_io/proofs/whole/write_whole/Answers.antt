use Rattle.std.proofs.Common.{arith, take, drop, ◌∙◌}
use Rattle.std.proofs.Math.Seq.{take-add}
use Rattle.std.proofs.lemmas.List.{length-drop}
use Rattle.program_io.proofs.StreamLemmas.{appends_more, whole_drop}
use Rattle.program_io.proofs.whole.write_whole.Goals as goal

pub loop-at-preserved : goal.loop-at-preserved
loop-at-preserved g c =
    let slice = whole_drop c.loop-at.at c.args.text.now in (
      omega (arith, c.in_ok-at.ensures.bound, length-drop c.loop-at.at c.args.text.now, rw slice at c.in_ok-at.ensures.bound),
      rw (take-add c.loop-at.at c.in_ok-at.field-0 c.args.text.now) (appends_more (g.K.Sink.written c.args.sink.now) (g.K.Sink.written c.loop-at.sink) (g.K.Sink.written c.write.new.self) (take c.loop-at.at c.args.text.now) (take c.in_ok-at.field-0 (drop c.loop-at.at c.args.text.now)) c.loop-at.invariant.1 (rw slice at c.in_ok-at.ensures.bytes)),
      c.in_ok-at.ensures.cause.kept ∙ c.loop-at.invariant.2,
      c.in_ok-at.ensures.tells ∙ c.loop-at.invariant.3,
    )
