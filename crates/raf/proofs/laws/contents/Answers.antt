use Rattle.raf_format.specs.Cipher.{cipher_of}
use Rattle.raf_format.proofs.Ciphers.{lawful}
use Rattle.raf.proofs.WholeFiles as laws
use Rattle.raf.proofs.laws.contents.Goals as goal

pub returns : goal.returns
returns g c = laws.contents (cipher_of g.A.Algorithm.variant) (lawful g.A.Algorithm.variant)
