use Rattle.aegis_core.proofs.LaneLemmas256.{high_half, started, one_initial, two_initial, four_initial}
use Rattle.aegis_core.proofs.lanes256.Lanes256LaneState.start.Goals as goal

pub returns-in-One-clause-initial : goal.returns-in-One-clause-initial
returns-in-One-clause-initial g c =
    let k1 = high_half _ _ c.requires.key c.block_from-2.ensures in
    let n1 = high_half _ _ c.requires.nonce c.block_from-4.ensures in
    one_initial c.args.self.now.count _ _ _ _ c.args.key.now c.args.nonce.now c.in-One.is
    (started 1 0 _ _ _ _ _ _ _ _ _ c.block_from.ensures k1 c.block_from-3.ensures n1 c.initial-self.ensures)

pub returns-in-Two-clause-initial : goal.returns-in-Two-clause-initial
returns-in-Two-clause-initial g c =
    let k1 = high_half _ _ c.requires.key c.block_from-2.ensures in
    let n1 = high_half _ _ c.requires.nonce c.block_from-4.ensures in
    two_initial c.args.self.now.count _ _ _ _ c.args.key.now c.args.nonce.now c.in-Two.is
    (started 2 0 _ _ _ _ _ _ _ _ _ c.block_from.ensures k1 c.block_from-3.ensures n1 c.initial-self-in-Two.ensures)
    (started 2 1 _ _ _ _ _ _ _ _ _ c.block_from.ensures k1 c.block_from-3.ensures n1 c.initial-self-in-Two-2.ensures)

pub returns-in-Four-clause-initial : goal.returns-in-Four-clause-initial
returns-in-Four-clause-initial g c =
    let k1 = high_half _ _ c.requires.key c.block_from-2.ensures in
    let n1 = high_half _ _ c.requires.nonce c.block_from-4.ensures in
    four_initial c.args.self.now.count _ _ _ _ c.args.key.now c.args.nonce.now c.in-Four.is
    (started 4 0 _ _ _ _ _ _ _ _ _ c.block_from.ensures k1 c.block_from-3.ensures n1 c.initial-self-in-Four.ensures)
    (started 4 1 _ _ _ _ _ _ _ _ _ c.block_from.ensures k1 c.block_from-3.ensures n1 c.initial-self-in-Four-2.ensures)
    (started 4 2 _ _ _ _ _ _ _ _ _ c.block_from.ensures k1 c.block_from-3.ensures n1 c.initial-self-in-Four-3.ensures)
    (started 4 3 _ _ _ _ _ _ _ _ _ c.block_from.ensures k1 c.block_from-3.ensures n1 c.initial-self-in-Four-4.ensures)
