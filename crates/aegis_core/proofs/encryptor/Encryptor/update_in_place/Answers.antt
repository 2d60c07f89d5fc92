use Rattle.std.proofs.Common.{length, ◌++◌}
use Rattle.aegis_core.specs.Sealing.{family_of}
use Rattle.aegis_core.proofs.StreamsLemmas.{text_as}
use Rattle.aegis_core.proofs.encryptor.Encryptor.update_in_place.Goals as goal

pub returns-clause-text : goal.returns-clause-text
returns-clause-text g c = λ key nonce ad m h.
    let v = g.K.CipherKind.variant in
    text_as v g.row.TAG_BYTES key nonce ad (m ++ c.args.buffer.now) c.encrypt.new.piece (length m) (c.encrypt.ensures.text (family_of v) key nonce ad m h)
