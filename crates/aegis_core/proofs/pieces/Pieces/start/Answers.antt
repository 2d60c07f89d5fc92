use Rattle.std.proofs.Common.{refl}
use Rattle.aegis_core.proofs.PiecesLemmas.{holds_empty}
use Rattle.aegis_core.proofs.pieces.Pieces.start.Goals as goal

pub returns-clause-holds : goal.returns-clause-holds
returns-clause-holds g c = λ key nonce init.
    let a = c.absorb_all.ensures in
    holds_empty g.S.LaneState.family g.S.LaneState.lanes (g.S.LaneState.family c.args.lanes) _ c.args.lanes key nonce c.args.ad.now a.rate refl refl a.same a.updated init
