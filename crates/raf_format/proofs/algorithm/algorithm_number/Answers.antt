use Rattle.std.proofs.Common.{◌≡◌}
use Rattle.raf_format.specs.Cipher.{cipher_of, id_of}
use Rattle.raf_format.proofs.Ciphers.{id_is}
use Rattle.raf_format.proofs.algorithm.algorithm_number.Goals as goal

pub returns : goal.returns
returns g c =
    let v = g.A.Algorithm.variant in
    let id : g.A.Algorithm.ALG_ID ≡ id_of v = g.met.A.Algorithm.numbers.0 in
    let same : (cipher_of v).id ≡ id_of v = id_is v in
    cc (c.ALG_ID.ensures)
