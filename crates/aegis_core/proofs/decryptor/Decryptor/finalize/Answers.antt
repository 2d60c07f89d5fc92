use Rattle.std.proofs.Common.{ℕ, List, sym, ap, ◌∙◌}
use Rattle.std.proofs.lemmas.List.{length-replicate}
use Rattle.aegis_core.specs.Sealing.{family_of, seal}
use Rattle.aegis_core.proofs.StreamsLemmas.{sealed_as, none_as}
use Rattle.aegis_core.proofs.decryptor.Decryptor.finalize.Goals as goal

pub returns-then-are_same-clause-message : goal.returns-then-are_same-clause-message
returns-then-are_same-clause-message g c = λ key nonce ad text h.
    let v = g.K.CipherKind.variant in
    let t = g.row.TAG_BYTES in
    let m = c.args.self.out.bytes in
    ap (λ (x : List ℕ). seal v t key nonce ad x) c.release.ensures
    ∙ sealed_as v t _ key nonce ad m text c.args.tag.now (length-replicate {A = ℕ} t 0) h.text (sym c.if-are_same.ensures.yes ∙ c.tag.ensures (family_of v) key nonce ad m h.holds)

pub returns-else-are_same-clause-none : goal.returns-else-are_same-clause-none
returns-else-are_same-clause-none g c = λ key nonce ad text h.
    let v = g.K.CipherKind.variant in
    let t = g.row.TAG_BYTES in
    let m = c.args.self.out.bytes in
    none_as v t _ key nonce ad m text c.tag.new.tag c.args.tag.now (length-replicate {A = ℕ} t 0) h.text (c.tag.ensures (family_of v) key nonce ad m h.holds) c.if-are_same.ensures.no
