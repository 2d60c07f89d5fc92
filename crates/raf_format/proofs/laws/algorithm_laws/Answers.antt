use Rattle.raf_format.proofs.Ciphers.{lawful}
use Rattle.raf_format.proofs.laws.algorithm_laws.Goals as goal

pub returns : goal.returns
returns g c = lawful g.A.Algorithm.variant
