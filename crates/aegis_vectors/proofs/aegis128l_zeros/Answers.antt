use Rattle.aegis_vectors.proofs.Computed128LZeros.{sealed}
use Rattle.aegis_vectors.proofs.aegis128l_zeros.Goals as goal

pub returns : goal.returns
returns c = sealed
