use Rattle.std.proofs.Common.{◌≡◌, ◌+◌, ℕ, length, arith, ◌∙◌}
use Rattle.aegis_core.proofs.LaneLemmas.{halves_read_updated}
use Rattle.aegis_core.proofs.lanes128.Lanes128.absorb_lanes.Goals as goal

pub returns-clause-updated : goal.returns-clause-updated
returns-clause-updated g c =
    let half : ℕ = c.row_len-half.result in
    let eh = c.row_len-half.ensures in
    let both : length c.args.block.now ≡ half + half = omega (arith, eh, c.requires.block) in
    c.absorb_rows.ensures.updated ∙ halves_read_updated c.args.count _ c.args.block.now _ _ half eh both c.read-t0.ensures.blocks c.read-t1.ensures.blocks
