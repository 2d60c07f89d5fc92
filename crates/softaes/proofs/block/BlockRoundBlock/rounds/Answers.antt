-- The parts of a pair are its blocks.
use Rattle.std.proofs.Common.{◌∙◌, arith}
use Rattle.aes_spec.specs.Rounds.{R}
use Rattle.softaes.proofs.block.BlockRoundBlock.rounds.Goals as goal

pub returns-clause-first : goal.returns-clause-first
returns-clause-first c =
    c.of_lanes.ensures ∙ c.first_of.ensures ∙ c.round_pair-done.ensures 0 (omega arith)
    ∙ (λ i. R ((c.pair-blocks.ensures.first ∙ c.lanes.ensures) i) ((c.pair-keys.ensures.first ∙ c.lanes-3.ensures) i))

pub returns-clause-second : goal.returns-clause-second
returns-clause-second c =
    c.of_lanes-2.ensures ∙ c.second_of.ensures ∙ c.round_pair-done.ensures 1 (omega arith)
    ∙ (λ i. R ((c.pair-blocks.ensures.second ∙ c.lanes-2.ensures) i) ((c.pair-keys.ensures.second ∙ c.lanes-4.ensures) i))
