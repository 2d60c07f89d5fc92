use Rattle.std.proofs.Common.{Some, refl}
use Rattle.seyvondu_c.proofs.calls.decrypt.Goals as goal

pub returns-then-unseal_into : goal.returns-then-unseal_into
returns-then-unseal_into c = record {
  done = λ fit. (Some c.unseal_into.new.m, c.if-unseal_into.ensures.message, (refl, refl));
  misfit = λ not. absurd (not (c.if-not-fit_seal.ensures.0 refl));
}
