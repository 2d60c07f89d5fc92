use Rattle.std.proofs.Common.{drop, ◌+◌}
use Rattle.std.specs.List.{flat_map}
use Rattle.std.proofs.lemmas.Result.{err_from_is_err_and}
use Rattle.raf_run.specs.LogText.{log_reply_line}
use Rattle.raf_run.proofs.PutLemmas.{puts_then, puts_stop, lines_more, lines_split}
use Rattle.raf_run.proofs.log_output.put_replies.Goals as goal

pub returns-in_err-put_at : goal.returns-in_err-put_at
returns-in_err-put_at g c =
    let p = err_from_is_err_and c.from_residual.result c.from_residual.ensures.1 in
    let i = c.loop-index.index in
    let xs = c.args.replies.now in
    rw (p.1, ← lines_split log_reply_line xs i) (puts_stop p.0 (flat_map log_reply_line (drop (i + 1) xs)) (puts_then c.loop-index.invariant c.in_err-put_at.ensures))

pub loop-index-preserved : goal.loop-index-preserved
loop-index-preserved g c =
    rw (lines_more log_reply_line c.args.replies.now c.loop-index.index) (puts_then c.loop-index.invariant c.in_ok-put_at.ensures)
