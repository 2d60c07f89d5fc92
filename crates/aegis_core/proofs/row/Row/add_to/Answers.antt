use Rattle.std.proofs.Common.{◌∙◌, []}
use Rattle.aegis_core.proofs.RowLemmas.{added_none, one_added, two_added, four_added}
use Rattle.aegis_core.proofs.row.Row.add_to.Goals as goal

pub returns-in-One : goal.returns-in-One
returns-in-One g c =
    let xs = c.args.out.now in
    let e = one_added c.args.self.now.count xs _ _ _ _ _ c.in-One.is c.requires c.add_block.auto.out (c.add_block.ensures xs [] (added_none xs)) in
    record { added = e.0; long = e.1 }

pub returns-in-Two : goal.returns-in-Two
returns-in-Two g c =
    let xs = c.args.out.now in
    let h1 = c.add_block-in-Two.ensures xs [] (added_none xs) in
    let e = two_added c.args.self.now.count xs _ _ _ _ _ c.in-Two.is c.requires (c.add_block-in-Two-2.auto.out ∙ c.add_block-in-Two.auto.out) (c.add_block-in-Two-2.ensures xs _ h1) in
    record { added = e.0; long = e.1 }

pub returns-in-Four : goal.returns-in-Four
returns-in-Four g c =
    let xs = c.args.out.now in
    let h1 = c.add_block-in-Four.ensures xs [] (added_none xs) in
    let h2 = c.add_block-in-Four-2.ensures xs _ h1 in
    let h3 = c.add_block-in-Four-3.ensures xs _ h2 in
    let e = four_added c.args.self.now.count xs _ _ _ _ _ c.in-Four.is c.requires
    (c.add_block-in-Four-4.auto.out ∙ c.add_block-in-Four-3.auto.out ∙ c.add_block-in-Four-2.auto.out ∙ c.add_block-in-Four.auto.out) (c.add_block-in-Four-4.ensures xs _ h3) in
    record { added = e.0; long = e.1 }
