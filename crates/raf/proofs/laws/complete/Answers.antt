use Rattle.raf_format.specs.Cipher.{cipher_of}
use Rattle.raf_format.proofs.Ciphers.{lawful}
use Rattle.raf_format.proofs.FileLaws.{are_lawful}
use Rattle.raf.proofs.Completes.{complete}
use Rattle.raf.proofs.laws.complete.Goals as goal

pub returns : goal.returns
returns g c = complete (cipher_of g.A.Algorithm.variant) g.H.MerkleHasher.hashing (are_lawful (cipher_of g.A.Algorithm.variant) (lawful g.A.Algorithm.variant))
