use Rattle.std.proofs.Common.{ℕ}
use Rattle.std.proofs.lemmas.List.{length-replicate}
use Rattle.aegis_core.specs.Sealing.{family_of}
use Rattle.aegis_core.proofs.StreamsLemmas.{mac_is}
use Rattle.aegis_core.proofs.mac.Mac.finalize.Goals as goal

pub returns : goal.returns
returns g c = λ key nonce text h.
    let v = g.K.CipherKind.variant in
    mac_is v g.row.TAG_BYTES _ key nonce text _ (length-replicate {A = ℕ} g.row.TAG_BYTES 0) (c.mac_tag.ensures (family_of v) key nonce text h.holds)
