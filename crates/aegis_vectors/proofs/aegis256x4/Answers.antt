use Rattle.aegis_vectors.proofs.Computed256X4.{sealed}
use Rattle.aegis_vectors.proofs.aegis256x4.Goals as goal

pub returns : goal.returns
returns c = sealed
