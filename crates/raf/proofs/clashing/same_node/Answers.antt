use Rattle.std.proofs.Common.{◌≡◌, ℕ, List, Bool, true, false}
use Rattle.raf_tree.specs.Hashing.{Hashing}
use Rattle.raf.proofs.Nodes.{same_first, same_second, same_neither, at_setting}
use Rattle.raf.proofs.clashing.same_node.Goals as goal

pub returns-in-Some-None-clause-same : goal.returns-in-Some-None-clause-same
returns-in-Some-None-clause-same g c = λ low_t low_u s xs ys set_a set_b of_t of_u.
    let E : List ℕ → Hashing = g.H.MerkleHasher.hashing in
    let x = c.in-Some-None.x.now in
    let P : List ℕ → Bool → Type 0 = λ k r. (r ≡ true → (E k).empty c.args.level c.args.index ≡ x) × (r ≡ false → (E k).empty c.args.level c.args.index ≡ x → ⊥) in
    same_first (E s) (c.tree_laws.ensures (E s)) c.args.a_tree.now c.args.b_tree.now xs ys c.args.level c.args.index of_t of_u
    c.is_empty_node.result x low_u c.in-Some-None.ensures.node.0 c.in-Some-None.ensures.node.1 c.in-Some-None.ensures'.node
    (at_setting c.is_empty_node.result s P c.args.b_parts.now.setting set_b c.is_empty_node.ensures.same)

pub returns-in-None-Some-clause-same : goal.returns-in-None-Some-clause-same
returns-in-None-Some-clause-same g c = λ low_t low_u s xs ys set_a set_b of_t of_u.
    let E : List ℕ → Hashing = g.H.MerkleHasher.hashing in
    let y = c.in-None-Some.y.now in
    let P : List ℕ → Bool → Type 0 = λ k r. (r ≡ true → (E k).empty c.args.level c.args.index ≡ y) × (r ≡ false → (E k).empty c.args.level c.args.index ≡ y → ⊥) in
    same_second (E s) (c.tree_laws.ensures (E s)) c.args.a_tree.now c.args.b_tree.now xs ys c.args.level c.args.index of_t of_u
    c.is_empty_node-in-None-Some.result y low_t c.in-None-Some.ensures.node c.in-None-Some.ensures'.node.0 c.in-None-Some.ensures'.node.1
    (at_setting c.is_empty_node-in-None-Some.result s P c.args.a_parts.now.setting set_a c.is_empty_node-in-None-Some.ensures.same)

pub returns-in-None-None-clause-same : goal.returns-in-None-None-clause-same
returns-in-None-None-clause-same g c = λ low_t low_u s xs ys set_a set_b of_t of_u.
    let E : List ℕ → Hashing = g.H.MerkleHasher.hashing in
    same_neither (E s) (c.tree_laws.ensures (E s)) c.args.a_tree.now c.args.b_tree.now xs ys c.args.level c.args.index of_t of_u
    low_t low_u c.in-None-None.ensures.node c.in-None-None.ensures'.node
