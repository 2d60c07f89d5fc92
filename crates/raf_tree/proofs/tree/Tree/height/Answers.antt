use Rattle.std.proofs.Common.{◌≡◌, ℕ, ◌^◌, ◌<◌, ◌≤◌, sym, subst, ap, ◌∙◌}
use Rattle.raf_tree.specs.Kept.{Kept, tree_height}
use Rattle.raf_tree.specs.Made.{IsSized}
use Rattle.raf_tree.proofs.Trees.{sized_of}
use Rattle.raf_tree.proofs.Heights.{height_fits, height_least}
use Rattle.raf_tree.proofs.tree.Tree.height.Goals as goal

-- the height that is kept is that of the limit
is_height : (c : goal.After-self) → c.self.inside.height ≡ tree_height c.args.self.now
is_height c = c.self.invariant.height ∙ ap tree_height c.self.view_is

pub returns-clause-fits : goal.returns-clause-fits
returns-clause-fits c =
    let P : ℕ → Type 0 = λ h. c.args.self.now.max_chunks ≤ 2 ^ h in
    subst P (sym (is_height c)) (height_fits c.args.self.now.max_chunks)

pub returns-clause-least : goal.returns-clause-least
returns-clause-least c =
    let P : ℕ → Type 0 = λ h. (lower : ℕ) → lower < h → 2 ^ lower < c.args.self.now.max_chunks in
    subst P (sym (is_height c)) (height_least c.args.self.now.max_chunks)

pub returns-clause-sized : goal.returns-clause-sized
returns-clause-sized c =
    let t = c.self.inside in
    let v = c.self.invariant in
    let P : Kept → Type 0 = IsSized in
    subst P c.self.view_is (sized_of t.hash_len t.max_chunks t.count t.height t.nodes.items v.long v.short v.height v.low v.count)
