use Rattle.aegis_core.specs.Sealing.{family_of}
use Rattle.std.proofs.Common.{[]}
use Rattle.aegis_core.proofs.mac.Mac.update.Goals as goal

pub returns-clause-holds : goal.returns-clause-holds
returns-clause-holds g c = λ key nonce text h.
    record {
      holds = c.absorb.ensures.holds (family_of g.K.CipherKind.variant) key nonce [] text h.holds;
      same = h.same;
      initial = h.initial;
    }
