use Rattle.raf_format.specs.Cipher.{cipher_of}
use Rattle.raf.proofs.Opened.{holds_again}
use Rattle.raf.proofs.laws.holds_again.Goals as goal

pub returns : goal.returns
returns g c = λ old new F b held. holds_again (cipher_of g.A.Algorithm.variant) old new F b held
