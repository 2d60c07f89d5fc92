use Rattle.std.proofs.Common.{◌∙◌, arith}
use Rattle.std.proofs.lemmas.List.{take_all}
use Rattle.aegis_core.proofs.LaneLemmas.{one_initial, two_initial, four_initial}
use Rattle.aegis_core.proofs.lanes128.Lanes128LaneState.start.Goals as goal

pub returns-in-One-clause-initial : goal.returns-in-One-clause-initial
returns-in-One-clause-initial g c =
    let k = c.block_from-key.ensures ∙ take_all 16 c.args.key.now (omega (arith, c.requires.key)) in
    let n = c.block_from-nonce.ensures ∙ take_all 16 c.args.nonce.now (omega (arith, c.requires.nonce)) in
    one_initial c.args.self.now.count _ _ _ _ _ _ _ _ c.in-One.is k n c.initial-self.ensures

pub returns-in-Two-clause-initial : goal.returns-in-Two-clause-initial
returns-in-Two-clause-initial g c =
    let k = c.block_from-key.ensures ∙ take_all 16 c.args.key.now (omega (arith, c.requires.key)) in
    let n = c.block_from-nonce.ensures ∙ take_all 16 c.args.nonce.now (omega (arith, c.requires.nonce)) in
    two_initial c.args.self.now.count _ _ _ _ _ _ _ _ c.in-Two.is k n c.initial-self-in-Two.ensures c.initial-self-in-Two-2.ensures

pub returns-in-Four-clause-initial : goal.returns-in-Four-clause-initial
returns-in-Four-clause-initial g c =
    let k = c.block_from-key.ensures ∙ take_all 16 c.args.key.now (omega (arith, c.requires.key)) in
    let n = c.block_from-nonce.ensures ∙ take_all 16 c.args.nonce.now (omega (arith, c.requires.nonce)) in
    four_initial c.args.self.now.count _ _ _ _ _ _ _ _ c.in-Four.is k n c.initial-self-in-Four.ensures c.initial-self-in-Four-2.ensures c.initial-self-in-Four-3.ensures c.initial-self-in-Four-4.ensures
