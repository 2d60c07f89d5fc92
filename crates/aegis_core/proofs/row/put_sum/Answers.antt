use Rattle.std.proofs.Common.{refl}
use Rattle.aegis_core.proofs.RowLemmas.{sum_more}
use Rattle.aegis_core.proofs.row.put_sum.Goals as goal

pub returns : goal.returns
returns g c =
    let p = c.put_block.ensures in
    record {
      sum = λ ks h. sum_more c.args.from.now ks c.args.to.now c.put_block.new.out (g.B.RoundBlock.bytes c.args.block.now) _ _ c.args.at c.requires.from c.block_from.ensures
          c.xor-sum.ensures p.long (p.front _ refl) h;
      front = p.front;
      long = p.long;
    }
