use Rattle.std.proofs.Common.{sym, ◌∙◌}
use Rattle.aegis_core.proofs.LaneLemmas.{one_updated, two_updated, four_updated}
use Rattle.aegis_core.proofs.lanes128.Lanes128.absorb_rows.Goals as goal

pub returns-in-One-clause-updated : goal.returns-in-One-clause-updated
returns-in-One-clause-updated g c =
    let p = c.requires.whole0 in
    let q = c.requires.whole1 in
    rw (c.requires.count0, c.requires.count1) (one_updated c.args.self.now.count _ _ _ _ _ _ _ _ _ _ _ _ _ (sym c.requires.count0 ∙ c.in-One.is) c.update.ensures p.b0 q.b0)

pub returns-in-Two-clause-updated : goal.returns-in-Two-clause-updated
returns-in-Two-clause-updated g c =
    let p = c.requires.whole0 in
    let q = c.requires.whole1 in
    rw (c.requires.count0, c.requires.count1) (two_updated c.args.self.now.count _ _ _ _ _ _ _ _ _ _ _ _ _ _ (sym c.requires.count0 ∙ c.in-Two.is) c.update-in-Two.ensures c.update-in-Two-2.ensures
    p.b0 p.b1 q.b0 q.b1)

pub returns-in-Four-clause-updated : goal.returns-in-Four-clause-updated
returns-in-Four-clause-updated g c =
    let p = c.requires.whole0 in
    let q = c.requires.whole1 in
    rw (c.requires.count0, c.requires.count1) (four_updated c.args.self.now.count _ _ _ _ _ _ _ _ _ _ _ _ _ _ _ _ (sym c.requires.count0 ∙ c.in-Four.is) c.update-in-Four.ensures c.update-in-Four-2.ensures
    c.update-in-Four-3.ensures c.update-in-Four-4.ensures p.b0 p.b1 p.b2 p.b3 q.b0 q.b1 q.b2 q.b3)
