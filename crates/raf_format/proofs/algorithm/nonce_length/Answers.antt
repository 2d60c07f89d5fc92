use Rattle.std.proofs.Common.{◌≡◌, ◌≤◌, arith}
use Rattle.aegis_core.specs.Sealing.{nonce_len}
use Rattle.raf_format.specs.Cipher.{cipher_of}
use Rattle.raf_format.proofs.Ciphers.{nonce_len_is, lawful}
use Rattle.raf_format.proofs.algorithm.nonce_length.Goals as goal

pub returns : goal.returns
returns g c =
    let v = g.A.Algorithm.variant in
    let len : g.A.Algorithm.NONCE_LEN ≡ nonce_len v = g.met.A.Algorithm.numbers.1 in
    let same : (cipher_of v).nonce_len ≡ nonce_len v = nonce_len_is v in
    let least : 1 ≤ (cipher_of v).nonce_len = (lawful v).nonce_least in
    let most : (cipher_of v).nonce_len ≤ 32 = (lawful v).nonce_most in
    record { is = cc (c.NONCE_LEN.ensures); sealing = cc (c.NONCE_LEN.ensures); least = omega (arith, c.NONCE_LEN.ensures); most = omega (arith, c.NONCE_LEN.ensures) }
