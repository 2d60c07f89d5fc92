use Rattle.std.proofs.Common.{◌≡◌, ◌∙◌, length, arith}
use Rattle.raf_format.specs.Cipher.{cipher_of}
use Rattle.raf_format.proofs.Records.{made_parts}
use Rattle.raf_format.proofs.record.seal_record_into.Goals as goal

pub returns : goal.returns
returns g c =
    let v = g.A.Algorithm.variant in
    let front = c.split_at_mut-nonce.result.0.now in
    let rest = c.split_at_mut-nonce.result.1.now in
    let text = c.split_at_mut-text.result.0.now in
    let tag = c.split_at_mut-text.result.1.now in
    let n : length front ≡ (cipher_of v).nonce_len = c.split_at_mut-nonce.ensures.front_len ∙ c.nonce_length.ensures.is in
    let t : length tag ≡ c.args.tag_len = omega (arith, c.split_at_mut-text.ensures.back_len, c.split_at_mut-nonce.ensures.back_len, c.nonce_length.ensures.is, c.requires.room) in
    made_parts v c.args.tag_len c.requires.tag (g.A.Algorithm.key_list c.args.chunk_key.now) c.args.id.now c.args.rec.now front rest text tag c.beside_bytes-ad.result c.args.index
    c.split_at_mut-nonce.ensures.value c.split_at_mut-text.ensures.value n t c.beside_bytes-ad.ensures
    c.args.chunk.now c.seal_into.new.c c.seal_into.new.tag c.seal_into.ensures
