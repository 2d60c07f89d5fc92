use Rattle.raf_format.specs.Cipher.{cipher_of}
use Rattle.raf_format.proofs.Ciphers.{lawful}
use Rattle.raf_format.proofs.FileLaws.{are_lawful}
use Rattle.raf_log.proofs.Completes as completes
use Rattle.raf_log.proofs.laws.log_complete.Goals as goal

pub returns : goal.returns
returns g c =
    completes.log_complete (cipher_of g.A.Algorithm.variant) (are_lawful (cipher_of g.A.Algorithm.variant) (lawful g.A.Algorithm.variant)) g.H.MerkleHasher.hashing c.complete.ensures
