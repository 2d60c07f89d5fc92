use Rattle.std.proofs.Common.{◌≡◌, ◌+◌, ℕ, length, arith, ◌∙◌}
use Rattle.aegis_core.proofs.RowLemmas.{halves_summed}
use Rattle.aegis_core.proofs.LaneLemmas.{halves_put_updated}
use Rattle.aegis_core.proofs.lanes128.Lanes128.decrypt_lanes_into.Goals as goal

pub returns-clause-text : goal.returns-clause-text
returns-clause-text g c =
    let half : ℕ = c.row_len-half.result in
    let eh = c.row_len-half.ensures in
    let from : length c.args.from.now ≡ half + half = omega (arith, eh, c.requires.from) in
    let to : length c.args.to.now ≡ half + half = omega (arith, eh, c.requires.to) in
    halves_summed c.args.from.now c.args.to.now _ _ _ _ c.put_sums-t0.new.to c.put_sums-t1.new.to half from to c.put_sums-t0.ensures.sums c.put_sums-t0.ensures.long
    c.put_sums-t1.ensures.sums c.z0_row.ensures.blocks c.z1_row.ensures.blocks

pub returns-clause-updated : goal.returns-clause-updated
returns-clause-updated g c =
    let half : ℕ = c.row_len-half.result in
    let eh = c.row_len-half.ensures in
    let to : length c.args.to.now ≡ half + half = omega (arith, eh, c.requires.to) in
    c.absorb_rows.ensures.updated
    ∙ halves_put_updated c.args.count _ c.args.to.now c.put_sums-t0.new.to c.put_sums-t1.new.to _ _ half eh to c.put_sums-t0.auto.to c.put_sums-t0.ensures.blocks
    c.put_sums-t1.ensures.blocks
