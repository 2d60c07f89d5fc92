use Rattle.std.proofs.Common.{◌∙◌, [], refl}
use Rattle.aegis_core.proofs.RowLemmas.{one_put, two_put, four_put}
use Rattle.aegis_core.proofs.row.Row.put.Goals as goal

pub returns-in-One : goal.returns-in-One
returns-in-One g c =
    one_put c.args.self.now.count _ _ _ _ _ c.in-One.is (c.put_block.auto.out ∙ c.requires) (c.put_block.ensures.front [] refl)

pub returns-in-Two : goal.returns-in-Two
returns-in-Two g c =
    let h1 = c.put_block-in-Two.ensures.front [] refl in
    two_put c.args.self.now.count _ _ _ _ _ c.in-Two.is (c.put_block-in-Two-2.auto.out ∙ c.put_block-in-Two.auto.out ∙ c.requires) (c.put_block-in-Two-2.ensures.front _ h1)

pub returns-in-Four : goal.returns-in-Four
returns-in-Four g c =
    let h1 = c.put_block-in-Four.ensures.front [] refl in
    let h2 = c.put_block-in-Four-2.ensures.front _ h1 in
    let h3 = c.put_block-in-Four-3.ensures.front _ h2 in
    four_put c.args.self.now.count _ _ _ _ _ c.in-Four.is
    (c.put_block-in-Four-4.auto.out ∙ c.put_block-in-Four-3.auto.out ∙ c.put_block-in-Four-2.auto.out ∙ c.put_block-in-Four.auto.out ∙ c.requires) (c.put_block-in-Four-4.ensures.front _ h3)
