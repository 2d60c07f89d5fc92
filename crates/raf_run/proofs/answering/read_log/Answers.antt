use Rattle.std.proofs.Common.{List, ℕ, Err, subst}
use Rattle.raf_script.specs.LogScript.{ReadsLog}
use Rattle.program_io.specs.Streams.{intake_of}
use Rattle.raf_run.proofs.AnswerLemmas.{why_unread}
use Rattle.raf_run.proofs.answering.read_log.Goals as goal

pub returns-clause-answer : goal.returns-clause-answer
returns-clause-answer g c =
    let wrong = subst (λ (text : List ℕ). ReadsLog text (Err c.in-Err.error)) c.deref.ensures.value c.in-Err.ensures in
    rw c.unread.ensures
    (why_unread ReadsLog (intake_of g.S.Source.left g.S.Source.faults c.args.source.now c.read_text.new.source) c.in_ok-text.text.items c.in_ok-text.ensures.text c.in_ok-text.ensures.short
    c.in-Err.error wrong)
