use Rattle.aegis_vectors.proofs.Computed256.{sealed}
use Rattle.aegis_vectors.proofs.aegis256.Goals as goal

pub returns : goal.returns
returns c = sealed
