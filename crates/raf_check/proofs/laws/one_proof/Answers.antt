use Rattle.raf_check.proofs.Written as written
use Rattle.raf_check.proofs.laws.one_proof.Goals as goal

pub returns : goal.returns
returns c = written.one_proof
