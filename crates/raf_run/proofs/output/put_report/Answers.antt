use Rattle.std.specs.Prelude.{codes, decimal}
use Rattle.std.proofs.lemmas.Result.{err_from_is_err_and}
use Rattle.raf_run.specs.Text.{line}
use Rattle.raf_run.proofs.PutLemmas.{puts_then, puts_stop}
use Rattle.raf_run.proofs.output.put_report.Goals as goal

pub returns-in_err-put_number-2 : goal.returns-in_err-put_number-2
returns-in_err-put_number-2 g c =
    let p = err_from_is_err_and c.from_residual-in_err-put_number-2.result c.from_residual-in_err-put_number-2.ensures.1 in
    rw p.1 (puts_stop p.0 (codes "verified\n") (puts_stop p.0 (line (codes "storage ") (decimal c.args.report.now.storage)) (puts_then c.in_ok-put_number.ensures c.in_err-put_number-2.ensures)))

pub returns-in_err-put_number-3 : goal.returns-in_err-put_number-3
returns-in_err-put_number-3 g c =
    let p = err_from_is_err_and c.from_residual-in_err-put_number-3.result c.from_residual-in_err-put_number-3.ensures.1 in
    rw p.1 (puts_stop p.0 (codes "verified\n") (puts_then (puts_then c.in_ok-put_number.ensures c.in_ok-put_number-2.ensures) c.in_err-put_number-3.ensures))

pub returns : goal.returns
returns g c = puts_then (puts_then (puts_then c.in_ok-put_number.ensures c.in_ok-put_number-2.ensures) c.in_ok-put_number-3.ensures) c.put.ensures
