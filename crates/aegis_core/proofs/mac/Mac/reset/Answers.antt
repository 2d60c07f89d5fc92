use Rattle.std.proofs.Common.{[]}
use Rattle.aegis_core.specs.Sealing.{family_of}
use Rattle.aegis_core.proofs.VariantLemmas.{started}
use Rattle.aegis_core.proofs.StreamsLemmas.{holds_as}
use Rattle.aegis_core.proofs.mac.Mac.reset.Goals as goal

pub returns-clause-holds : goal.returns-clause-holds
returns-clause-holds g c = λ key nonce text h.
    let f = family_of g.K.CipherKind.variant in
    record {
      holds = holds_as g.S.LaneState.family g.S.LaneState.lanes f _ _ key nonce [] [] h.same (c.start-self.ensures.holds key nonce (started f _ _ key nonce h.same h.initial));
      same = h.same;
      initial = h.initial;
    }
