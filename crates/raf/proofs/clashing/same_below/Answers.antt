use Rattle.std.proofs.Common.{◌≡◌, ℕ, ◌+◌, ◌*◌, ◌≤◌, inl, List, ap, ◌∙◌, subst, arith}
use Rattle.raf_tree.specs.Hashing.{Hashing}
use Rattle.raf_tree.specs.Kept.{Kept, Keeps, tree_height}
use Rattle.raf_tree.specs.Tree.{node}
use Rattle.raf.specs.Clash.{height_in}
use Rattle.raf.specs.Clashing.{count_in, asked_at}
use Rattle.raf.proofs.Asked.{doubled, asked_moved}
use Rattle.raf.proofs.Nodes.{asks_idle, asks_then, asks_handed, decides_both, same_thing}
use Rattle.raf.proofs.clashing.same_below.Goals as goal

pub returns-in_err-same_node-clause-asks : goal.returns-in_err-same_node-clause-asks
returns-in_err-same_node-clause-asks g c = λ low_a low_b.
    let l = c.args.level in
    let j = c.args.index in
    let is_a = c.same_node.ensures.a_idle (omega (arith, low_a, ap height_in c.in-Some-Some.is-0), inl (omega (arith, doubled j l, c.requires.a_filled, ap count_in c.in-Some-Some.is-0))) in
    let is_b = c.same_node.ensures.b_idle (omega (arith, low_b, ap height_in c.in-Some-Some.is-1), inl (omega (arith, doubled j l, c.requires.b_filled, ap count_in c.in-Some-Some.is-1))) in
    asks_handed (asked_at (count_in c.args.a_tree.now) (l + 1) j) (asked_at (count_in c.args.b_tree.now) (l + 1) j) c.args.a_parts.now c.args.b_parts.now c.same_node.new.a_parts c.same_node.new.b_parts
    c.in_err-same_node.field-0.0 c.from_residual.result c.from_residual.ensures.1
    (asks_idle _ _ c.args.a_parts.now c.args.b_parts.now c.same_node.new.a_parts c.same_node.new.b_parts _ is_a is_b c.in_err-same_node.ensures.asks)

pub returns-then-not-branch-clause-asks : goal.returns-then-not-branch-clause-asks
returns-then-not-branch-clause-asks g c = λ low_a low_b.
    let l = c.args.level in
    let j = c.args.index in
    let is_a = c.same_node.ensures.a_idle (omega (arith, low_a, ap height_in c.in-Some-Some.is-0), inl (omega (arith, doubled j l, c.requires.a_filled, ap count_in c.in-Some-Some.is-0))) in
    let is_b = c.same_node.ensures.b_idle (omega (arith, low_b, ap height_in c.in-Some-Some.is-1), inl (omega (arith, doubled j l, c.requires.b_filled, ap count_in c.in-Some-Some.is-1))) in
    let asks = asks_idle (asked_at (count_in c.args.a_tree.now) (l + 1) j) (asked_at (count_in c.args.b_tree.now) (l + 1) j) c.args.a_parts.now c.args.b_parts.now c.same_node.new.a_parts c.same_node.new.b_parts _ is_a is_b c.in_ok-same_node.ensures.asks in
    record { kept = asks.kept; first = asks.first; second = asks.second; strays = asks.strays; quiet = asks.quiet; failed = tt }

pub returns-clause-asks : goal.returns-clause-asks
returns-clause-asks g c = λ low_a low_b.
    let l = c.args.level in
    let j = c.args.index in
    let is_a = c.same_node.ensures.a_idle (omega (arith, low_a, ap height_in c.in-Some-Some.is-0), inl (omega (arith, doubled j l, c.requires.a_filled, ap count_in c.in-Some-Some.is-0))) in
    let is_b = c.same_node.ensures.b_idle (omega (arith, low_b, ap height_in c.in-Some-Some.is-1), inl (omega (arith, doubled j l, c.requires.b_filled, ap count_in c.in-Some-Some.is-1))) in
    asks_then (asked_at (count_in c.args.a_tree.now) (l + 1) j) (asked_at (count_in c.args.b_tree.now) (l + 1) j) c.args.a_parts.now c.args.b_parts.now c.same_node.new.a_parts c.same_node.new.b_parts
    c.same_node-2.new.a_parts c.same_node-2.new.b_parts c.same_node-2.result is_a is_b
    (asked_moved (count_in c.args.a_tree.now) l j c.same_node.new.a_parts c.same_node-2.new.a_parts c.requires.a_filled
    (λ past. c.same_node-2.ensures.a_idle (omega (arith, low_a, ap height_in c.in-Some-Some.is-0), inl (omega (arith, past, ap count_in c.in-Some-Some.is-0)))) c.same_node-2.ensures.asks.first)
    (asked_moved (count_in c.args.b_tree.now) l j c.same_node.new.b_parts c.same_node-2.new.b_parts c.requires.b_filled
    (λ past. c.same_node-2.ensures.b_idle (omega (arith, low_b, ap height_in c.in-Some-Some.is-1), inl (omega (arith, past, ap count_in c.in-Some-Some.is-1)))) c.same_node-2.ensures.asks.second)
    c.same_node-2.ensures.asks

pub returns-clause-same : goal.returns-clause-same
returns-clause-same g c = λ t u is_t is_u low_t low_u s xs ys set_a set_b of_t of_u.
    let E : List ℕ → Hashing = g.H.MerkleHasher.hashing in
    let l = c.args.level in
    let j = c.args.index in
    let same_t : t ≡ c.in-Some-Some.a_tree = same_thing c.args.a_tree.now t c.in-Some-Some.a_tree is_t c.in-Some-Some.is-0 in
    let same_u : u ≡ c.in-Some-Some.b_tree = same_thing c.args.b_tree.now u c.in-Some-Some.b_tree is_u c.in-Some-Some.is-1 in
    let of_a = subst (λ (k : Kept). Keeps (E s) k xs) same_t of_t in
    let of_b = subst (λ (k : Kept). Keeps (E s) k ys) same_u of_u in
    let low_a : l ≤ tree_height c.in-Some-Some.a_tree = omega (arith, low_t, ap tree_height same_t) in
    let low_b : l ≤ tree_height c.in-Some-Some.b_tree = omega (arith, low_u, ap tree_height same_u) in
    let left = c.in_ok-same_node.ensures.same low_a low_b s xs ys set_a set_b of_a of_b in
    decides_both (node (E s) xs l (2 * j) ≡ node (E s) ys l (2 * j)) (node (E s) xs l (2 * j + 1) ≡ node (E s) ys l (2 * j + 1)) c.same_node-2.result (left.0 c.if-not-branch.false)
    (c.same_node-2.ensures.same low_a low_b s xs ys (c.in_ok-same_node.ensures.asks.first.setting ∙ set_a) (c.in_ok-same_node.ensures.asks.second.setting ∙ set_b) of_a of_b)
