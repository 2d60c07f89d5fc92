use Rattle.std.proofs.Common.{inl, inr, sym, ◌∙◌}
use Rattle.std.proofs.lemmas.Bool.{true≢false}
use Rattle.raf_format.specs.Cipher.{Cipher, cipher_of}
use Rattle.raf_tree.specs.Walk.{IsFilled}
use Rattle.raf.specs.Clashing.{count_in}
use Rattle.raf.proofs.Descents.{one_up, steps_ok, steps_handed, below_here, below_left, below_both}
use Rattle.raf.proofs.clashing.+walk.Goals.{then-level-eq0-via-then-level-eq0, then-level-eq0-via-else-level-eq0+then-not-is_filled}
use Rattle.raf.specs.Clash.{height_in}
use Rattle.raf.proofs.Walks.{left_place, right_place}
use Rattle.std.proofs.Common.{ℕ, List, ◌-◌, ap, rules, ◌*◌, ◌+◌, ◌^◌, ◌≤◌, arith}
use Rattle.raf_tree.specs.Hashing.{Hashing}
use Rattle.raf.proofs.Walks.{low_place, small_index}
use Rattle.raf.proofs.Walks.{count_is, found_stops, found_ends, found_left, found_right}
use Rattle.raf.proofs.Clashes.{content_stays}
use Rattle.raf.proofs.clashing.+walk.Goals as goal

pub returns-in_err-same_call-clause-steps : goal.returns-in_err-same_call-clause-steps
returns-in_err-same_call-clause-steps g n c =
    below_here (cipher_of g.A1.Algorithm.variant) (cipher_of g.A2.Algorithm.variant) c.args.level c.args.index _ _ _ _ c.from_residual.result
    (steps_handed (cipher_of g.A1.Algorithm.variant) (cipher_of g.A2.Algorithm.variant) _ _ _ _ _ _ _ _ c.in_err-same_call.field-0.0 c.from_residual.result c.from_residual.ensures.1 c.in_err-same_call.ensures.steps)

pub returns-then-not-branch-clause-steps : goal.returns-then-not-branch-clause-steps
returns-then-not-branch-clause-steps g n c =
    below_here (cipher_of g.A1.Algorithm.variant) (cipher_of g.A2.Algorithm.variant) c.args.level c.args.index _ _ _ _ _
    (steps_ok (cipher_of g.A1.Algorithm.variant) (cipher_of g.A2.Algorithm.variant) _ _ _ _ _ _ _ _ c.in_ok-same_call.field-0 _ c.in_ok-same_call.ensures.steps)

pub returns-then-not-branch-clause-found : goal.returns-then-not-branch-clause-found
returns-then-not-branch-clause-found g n c = λ s x y has_x has_y one.
    let E : List ℕ → Hashing = g.H.MerkleHasher.hashing in
    found_stops (E s) x y (c.walk_laws.ensures (E s) x y) c.args.level c.args.index c.in_ok-same_call.field-0 c.if-not-branch.true one (c.in_ok-same_call.ensures.found s x y has_x has_y)

pub is_filled-requires-clause-level : goal.is_filled-requires-clause-level
is_filled-requires-clause-level g n c = low_place c.args.level c.args.index c.requires.place

pub returns-then-level-eq0-clause-steps : goal.returns-then-level-eq0-clause-steps
returns-then-level-eq0-clause-steps g n c =
    below_here (cipher_of g.A1.Algorithm.variant) (cipher_of g.A2.Algorithm.variant) c.args.level c.args.index _ _ _ _ _
    (steps_ok (cipher_of g.A1.Algorithm.variant) (cipher_of g.A2.Algorithm.variant) _ _ _ _ _ _ _ _ c.in_ok-same_call.field-0 _ c.in_ok-same_call.ensures.steps)

pub returns-then-level-eq0-clause-found : goal.returns-then-level-eq0-clause-found
returns-then-level-eq0-clause-found g n c = λ s x y has_x has_y one.
    let E : List ℕ → Hashing = g.H.MerkleHasher.hashing in
    let C : Cipher = cipher_of g.A1.Algorithm.variant in
    let D : Cipher = cipher_of g.A2.Algorithm.variant in
    let l = c.args.level in
    let j = c.args.index in
    let laws = c.walk_laws.ensures (E s) x y in
    let at = c.in_ok-same_call.ensures.steps in
    let n = count_is C E s (c.tree_laws.ensures (E s)) _ x has_x in
    let same = (c.in_ok-same_call.ensures.found s x y has_x has_y).0 c.if-not-branch.false in
    found_ends (E s) x y laws l j same (elim c.then-level-eq0.branch [
      | then-level-eq0-via-then-level-eq0 w ↦ inl w.if-level-eq0.true
      | then-level-eq0-via-else-level-eq0+then-not-is_filled w ↦ inr (λ filled. true≢false (sym (w.is_filled.ensures.1 (omega (arith, filled, n, ap count_in at.first.tree))) ∙ w.if-not-is_filled.true))
    ])

pub overflow_mul-index : goal.overflow_mul-index
overflow_mul-index g n c = omega (arith, small_index c.args.level c.args.index c.requires.place)

pub walk-requires : goal.walk-requires
walk-requires g n c =
    let place : (2 * c.args.index + 1) * 2 ^ (c.args.level - 1) ≤ 2 ^ 27 = left_place c.args.level c.args.index c.if-level-eq0.false c.requires.place in
    let low_a : c.args.level - 1 ≤ height_in c.same_call.new.a.tree = omega (arith, c.requires.low.0, ap height_in c.in_ok-same_call.ensures.steps.first.tree) in
    let low_b : c.args.level - 1 ≤ height_in c.same_call.new.b.tree = omega (arith, c.requires.low.1, ap height_in c.in_ok-same_call.ensures.steps.second.tree) in
    let paired_a = c.in_ok-same_call.ensures.a_paired in
    let paired_b = c.in_ok-same_call.ensures.b_paired in
    search rules

pub returns-in_err-left-clause-steps : goal.returns-in_err-left-clause-steps
returns-in_err-left-clause-steps g n c =
    below_left (cipher_of g.A1.Algorithm.variant) (cipher_of g.A2.Algorithm.variant) c.args.level (c.args.level - 1) c.args.index _ _ _ _ _ _ c.in_ok-same_call.field-0 c.from_residual-in_err-left.result
    (one_up c.args.level c.if-level-eq0.false) c.in_ok-same_call.ensures.steps
    (steps_handed (cipher_of g.A1.Algorithm.variant) (cipher_of g.A2.Algorithm.variant) _ _ _ _ _ _ _ _ c.in_err-left.field-0.0 c.from_residual-in_err-left.result c.from_residual-in_err-left.ensures.1 c.in_err-left.ensures.steps)

pub returns-then-is_some-clause-steps : goal.returns-then-is_some-clause-steps
returns-then-is_some-clause-steps g n c =
    below_left (cipher_of g.A1.Algorithm.variant) (cipher_of g.A2.Algorithm.variant) c.args.level (c.args.level - 1) c.args.index _ _ _ _ _ _ c.in_ok-same_call.field-0 _
    (one_up c.args.level c.if-level-eq0.false) c.in_ok-same_call.ensures.steps c.in_ok-left.ensures.steps

pub returns-then-is_some-clause-found : goal.returns-then-is_some-clause-found
returns-then-is_some-clause-found g n c = λ s x y has_x has_y one.
    let E : List ℕ → Hashing = g.H.MerkleHasher.hashing in
    let C : Cipher = cipher_of g.A1.Algorithm.variant in
    let D : Cipher = cipher_of g.A2.Algorithm.variant in
    let l = c.args.level in
    let j = c.args.index in
    let laws = c.walk_laws.ensures (E s) x y in
    let at = c.in_ok-same_call.ensures.steps in
    let n = count_is C E s (c.tree_laws.ensures (E s)) _ x has_x in
    let same = (c.in_ok-same_call.ensures.found s x y has_x has_y).0 c.if-not-branch.false in
    let in_x : IsFilled x l j = omega (arith, c.is_filled.ensures.0 c.if-not-is_filled.false, n, ap count_in at.first.tree) in
    found_left (E s) x y laws l (l - 1) j (one_up l c.if-level-eq0.false) in_x same c.in_ok-left.left (sym c.is_some.ensures ∙ c.if-is_some.true)
    (c.in_ok-left.ensures.found s x y (content_stays C E s _ _ _ _ x at.first has_x) (content_stays D E s _ _ _ _ y at.second has_y))

pub overflow_mul-index-2 : goal.overflow_mul-index-2
overflow_mul-index-2 g n c = omega (arith, small_index c.args.level c.args.index c.requires.place)

pub overflow_add-index : goal.overflow_add-index
overflow_add-index g n c = omega (arith, small_index c.args.level c.args.index c.requires.place)

pub walk-requires-2 : goal.walk-requires-2
walk-requires-2 g n c =
    let place : (2 * c.args.index + 1 + 1) * 2 ^ (c.args.level - 1) ≤ 2 ^ 27 = right_place c.args.level c.args.index c.if-level-eq0.false c.requires.place in
    let low_a : c.args.level - 1 ≤ height_in c.walk.new.a.tree = omega (arith, c.requires.low.0, ap height_in c.in_ok-same_call.ensures.steps.first.tree, ap height_in c.in_ok-left.ensures.steps.first.tree) in
    let low_b : c.args.level - 1 ≤ height_in c.walk.new.b.tree = omega (arith, c.requires.low.1, ap height_in c.in_ok-same_call.ensures.steps.second.tree, ap height_in c.in_ok-left.ensures.steps.second.tree) in
    let paired_a = c.in_ok-left.ensures.a_paired in
    let paired_b = c.in_ok-left.ensures.b_paired in
    search rules

pub returns-clause-steps : goal.returns-clause-steps
returns-clause-steps g n c =
    below_both (cipher_of g.A1.Algorithm.variant) (cipher_of g.A2.Algorithm.variant) c.args.level (c.args.level - 1) c.args.index _ _ _ _ _ _ _ _ c.in_ok-same_call.field-0 c.in_ok-left.left c.walk-2.result
    (one_up c.args.level c.if-level-eq0.false) c.in_ok-same_call.ensures.steps c.in_ok-left.ensures.steps c.walk-2.ensures.steps

pub returns-clause-found : goal.returns-clause-found
returns-clause-found g n c = λ s x y has_x has_y.
    let E : List ℕ → Hashing = g.H.MerkleHasher.hashing in
    let C : Cipher = cipher_of g.A1.Algorithm.variant in
    let D : Cipher = cipher_of g.A2.Algorithm.variant in
    let l = c.args.level in
    let j = c.args.index in
    let laws = c.walk_laws.ensures (E s) x y in
    let at = c.in_ok-same_call.ensures.steps in
    let n = count_is C E s (c.tree_laws.ensures (E s)) _ x has_x in
    let same = (c.in_ok-same_call.ensures.found s x y has_x has_y).0 c.if-not-branch.false in
    let left = c.in_ok-left.ensures.steps in
    let in_x : IsFilled x l j = omega (arith, c.is_filled.ensures.0 c.if-not-is_filled.false, n, ap count_in at.first.tree) in
    let has_x' = content_stays C E s _ _ _ _ x at.first has_x in
    let has_y' = content_stays D E s _ _ _ _ y at.second has_y in
    found_right (E s) x y laws l (l - 1) j (one_up l c.if-level-eq0.false) in_x same c.in_ok-left.left (sym c.is_some.ensures ∙ c.if-is_some.false) c.walk-2.result
    (c.in_ok-left.ensures.found s x y has_x' has_y')
    (c.walk-2.ensures.found s x y (content_stays C E s _ _ _ _ x left.first has_x') (content_stays D E s _ _ _ _ y left.second has_y'))
