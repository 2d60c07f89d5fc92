use Rattle.seal_run.proofs.Backs.{seal_then_unseal}
use Rattle.seal_run.proofs.laws.seal_then_unseal.Goals as goal

pub returns : goal.returns
returns c = seal_then_unseal c.stream_laws.ensures
