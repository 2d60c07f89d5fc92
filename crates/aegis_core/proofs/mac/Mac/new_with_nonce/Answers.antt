use Rattle.std.proofs.Common.{[]}
use Rattle.aegis_core.specs.Sealing.{family_of}
use Rattle.aegis_core.proofs.VariantLemmas.{started}
use Rattle.aegis_core.proofs.StreamsLemmas.{holds_as}
use Rattle.aegis_core.proofs.mac.Mac.new_with_nonce.Goals as goal

pub returns-clause-holds : goal.returns-clause-holds
returns-clause-holds g c =
    let f = family_of g.K.CipherKind.variant in
    let l = c.lanes-initial.ensures in
    let key = c.args.key.now in
    let nonce = c.args.npub.now in
    record {
      holds = holds_as g.S.LaneState.family g.S.LaneState.lanes f _ _ key nonce [] [] l.family (c.start.ensures.holds key nonce (started f _ _ key nonce l.family l.initial));
      same = l.family;
      initial = l.initial;
    }
