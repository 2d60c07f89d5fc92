use Rattle.std.proofs.Common.{ℕ}
use Rattle.std.proofs.lemmas.List.{length-replicate}
use Rattle.aegis_core.specs.Sealing.{family_of}
use Rattle.aegis_core.proofs.StreamsLemmas.{mac_is}
use Rattle.aegis_core.proofs.mac.Mac.finalize_and_reset.Goals as goal

pub returns-clause-tag : goal.returns-clause-tag
returns-clause-tag g c = λ key nonce text h.
    let v = g.K.CipherKind.variant in
    mac_is v g.row.TAG_BYTES _ key nonce text _ (length-replicate {A = ℕ} g.row.TAG_BYTES 0) (c.mac_tag.ensures (family_of v) key nonce text h.holds)

pub returns-clause-holds : goal.returns-clause-holds
returns-clause-holds g c = λ key nonce text h. c.reset.ensures.holds key nonce text h
