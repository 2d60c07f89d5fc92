use Rattle.std.proofs.Common.{◌≡◌, ◌+◌, ℕ, length, arith}
use Rattle.aegis_core.proofs.RowLemmas.{halves_summed}
use Rattle.aegis_core.proofs.lanes128.Lanes128.encrypt_lanes_into.Goals as goal

pub returns-clause-text : goal.returns-clause-text
returns-clause-text g c =
    let half : ℕ = c.row_len-half.result in
    let eh = c.row_len-half.ensures in
    let from : length c.args.from.now ≡ half + half = omega (arith, eh, c.requires.from) in
    let to : length c.args.to.now ≡ half + half = omega (arith, eh, c.requires.to) in
    halves_summed c.args.from.now c.args.to.now _ _ _ _ c.put_sums.new.to c.put_sums-2.new.to half from to c.put_sums.ensures.sums c.put_sums.ensures.long
    c.put_sums-2.ensures.sums c.z0_row.ensures.blocks c.z1_row.ensures.blocks
