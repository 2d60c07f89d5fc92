use Rattle.aegis_vectors.proofs.Computed128L.{sealed}
use Rattle.aegis_vectors.proofs.aegis128l.Goals as goal

pub returns : goal.returns
returns c = sealed
