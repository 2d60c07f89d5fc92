use Rattle.std.proofs.Common.{[], ◌∷◌}
use Rattle.std.proofs.lemmas.Result.{err_from_is_err_and}
use Rattle.raf_run.proofs.PutLemmas.{puts_then, puts_stop}
use Rattle.raf_run.proofs.output.put_bytes.Goals as goal

pub returns-in_err-put_hex : goal.returns-in_err-put_hex
returns-in_err-put_hex g c =
    let p = err_from_is_err_and c.from_residual-in_err-put_hex.result c.from_residual-in_err-put_hex.ensures.1 in
    rw p.1 (puts_stop p.0 (10 ∷ []) (puts_then c.in_ok-put.ensures c.in_err-put_hex.ensures))

pub returns : goal.returns
returns g c = puts_then (puts_then c.in_ok-put.ensures c.in_ok-put_hex.ensures) c.put-2.ensures
