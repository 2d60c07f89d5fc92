use Rattle.std.proofs.Common.{Some, refl}
use Rattle.seyvondu_c.proofs.calls.decrypt_in_place.Goals as goal

pub returns-then-unseal_in_place : goal.returns-then-unseal_in_place
returns-then-unseal_in_place c = record {
  done = λ fit. (Some c.unseal_in_place.new.mc, c.if-unseal_in_place.ensures.message, (refl, refl));
  misfit = λ not. absurd (not (c.if-not-fit_seal.ensures.0 refl));
}
