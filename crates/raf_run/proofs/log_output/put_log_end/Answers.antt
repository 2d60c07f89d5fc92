use Rattle.raf_run.proofs.PutLemmas.{puts_then}
use Rattle.raf_run.proofs.log_output.put_log_end.Goals as goal

pub returns : goal.returns
returns g c = puts_then c.in_ok-put_outcome.ensures c.put_storage.ensures
