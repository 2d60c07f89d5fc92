use Rattle.raf_check.proofs.Accepted.{honest_accepted}
use Rattle.raf_check.proofs.laws.honest_proofs.Goals as goal

pub returns : goal.returns
returns c = λ H. honest_accepted H (c.call_laws.ensures H)
