use Rattle.std.proofs.Common.{[]}
use Rattle.aegis_core.specs.Family.{family_256}
use Rattle.aegis_core.proofs.VariantLemmas.{started}
use Rattle.aegis_core.proofs.StreamsLemmas.{holds_as}
use Rattle.aegis_core.proofs.pieces.Pieces+Lanes256+Block.new.Goals as goal

pub returns-clause-holds : goal.returns-clause-holds
returns-clause-holds c =
    let f = family_256 c.args.lanes in
    let n = c.new.ensures in
    holds_as _ _ f _ _ c.args.key.now c.args.nonce.now c.args.ad.now [] n.family (c.start.ensures.holds c.args.key.now c.args.nonce.now (started f _ _ c.args.key.now c.args.nonce.now n.family n.initial))
