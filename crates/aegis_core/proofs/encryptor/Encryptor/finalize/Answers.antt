use Rattle.std.proofs.Common.{ℕ}
use Rattle.std.proofs.lemmas.List.{length-replicate}
use Rattle.aegis_core.specs.Sealing.{family_of}
use Rattle.aegis_core.proofs.StreamsLemmas.{tag_as}
use Rattle.aegis_core.proofs.encryptor.Encryptor.finalize.Goals as goal

pub returns : goal.returns
returns g c = λ key nonce ad m h.
    let v = g.K.CipherKind.variant in
    tag_as v g.row.TAG_BYTES _ key nonce ad m _ (length-replicate {A = ℕ} g.row.TAG_BYTES 0) (c.tag.ensures (family_of v) key nonce ad m h)
