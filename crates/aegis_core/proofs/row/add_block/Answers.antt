use Rattle.std.proofs.Common.{refl}
use Rattle.aegis_core.proofs.RowLemmas.{added_more}
use Rattle.aegis_core.proofs.row.add_block.Goals as goal

pub returns : goal.returns
returns g c = λ xs ks h.
    let p = c.put_block.ensures in
    added_more xs ks c.args.out.now c.put_block.new.out (g.B.RoundBlock.bytes c.args.block.now) _ _ c.args.at c.requires c.block_from.ensures c.xor-sum.ensures p.long (p.front _ refl) p.rest h
