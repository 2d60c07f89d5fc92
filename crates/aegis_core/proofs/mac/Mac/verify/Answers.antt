use Rattle.std.proofs.Common.{refl, sym, ◌∙◌}
use Rattle.aegis_core.proofs.mac.Mac.verify.Goals as goal

pub returns-then-are_same-clause-ok : goal.returns-then-are_same-clause-ok
returns-then-are_same-clause-ok g c = λ key nonce text h.
    (λ _. c.if-are_same.ensures.yes ∙ c.finalize-expected.ensures key nonce text h, λ _. refl)

pub returns-else-are_same-clause-ok : goal.returns-else-are_same-clause-ok
returns-else-are_same-clause-ok g c = λ key nonce text h.
    (λ impossible. cc, λ e. absurd (c.if-are_same.ensures.no (e ∙ sym (c.finalize-expected.ensures key nonce text h))))
