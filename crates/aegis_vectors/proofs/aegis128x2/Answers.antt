use Rattle.aegis_vectors.proofs.Computed128X2.{sealed}
use Rattle.aegis_vectors.proofs.aegis128x2.Goals as goal

pub returns : goal.returns
returns c = sealed
