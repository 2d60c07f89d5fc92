use Rattle.std.proofs.Common.{◌≡◌, ◌<◌, ◌+◌, ◌-◌, ◌*◌, ◌^◌, ℕ, List, ap, sym, ◌∙◌, refl, arith}
use Rattle.std.proofs.lemmas.Bool.{true≢false}
use Rattle.raf_format.specs.Cipher.{Cipher, cipher_of}
use Rattle.raf_tree.specs.Hashing.{Hashing}
use Rattle.raf_tree.specs.Tree.{leaves}
use Rattle.raf_tree.specs.Walk.{IsFilled}
use Rattle.raf.specs.Clash.{height_in}
use Rattle.raf.specs.Clashing.{count_in}
use Rattle.raf.proofs.Descents.{one_up, at_leaf}
use Rattle.raf.proofs.Walks.{low_place, count_is, leaf_found, parent_found, differ_not, same_test, keeps_content}
use Rattle.raf.proofs.clashing.same_call.Goals as goal

pub is_filled-filled-requires-clause-level : goal.is_filled-filled-requires-clause-level
is_filled-filled-requires-clause-level g c = low_place c.args.level c.args.index c.requires.place

pub is_filled-requires-clause-level : goal.is_filled-requires-clause-level
is_filled-requires-clause-level g c = low_place c.args.level c.args.index c.requires.place

pub returns-then-filled-is_filled-clause-found : goal.returns-then-filled-is_filled-clause-found
returns-then-filled-is_filled-clause-found g c = λ s x y has_x has_y.
    let E : List ℕ → Hashing = g.H.MerkleHasher.hashing in
    let C : Cipher = cipher_of g.A1.Algorithm.variant in
    let D : Cipher = cipher_of g.A2.Algorithm.variant in
    let l = c.args.level in
    let j = c.args.index in
    let n = count_is C E s (c.tree_laws.ensures (E s)) _ x has_x in
    let m = count_is D E s (c.tree_laws.ensures (E s)) _ y has_y in (
      λ e. absurd (true≢false (sym e)),
      λ same.
          let iff = (c.walk_laws.ensures (E s) x y).one_empty l j same in
          absurd (differ_not c.is_filled-filled.result c.is_filled.result (j * 2 ^ l < count_in c.args.a.now.tree) (j * 2 ^ l < count_in c.args.b.now.tree) c.if-filled-is_filled.true
          c.is_filled-filled.ensures c.is_filled.ensures (
            λ in_x. (let filled : IsFilled x l j = omega (arith, in_x, n) in omega (arith, iff.0 filled, m)),
            λ in_y. (let filled : IsFilled y l j = omega (arith, in_y, m) in omega (arith, iff.1 filled, n)),
          )),
    )

pub returns-then-not-filled-clause-found : goal.returns-then-not-filled-clause-found
returns-then-not-filled-clause-found g c = λ s x y has_x has_y.
    let E : List ℕ → Hashing = g.H.MerkleHasher.hashing in
    let C : Cipher = cipher_of g.A1.Algorithm.variant in
    let D : Cipher = cipher_of g.A2.Algorithm.variant in
    let n = count_is C E s (c.tree_laws.ensures (E s)) _ x has_x in
    let m = count_is D E s (c.tree_laws.ensures (E s)) _ y has_y in
    let none_b = sym (same_test c.is_filled-filled.result c.is_filled.result c.if-filled-is_filled.false) ∙ c.if-not-filled.true in (
      λ e. (c.walk_laws.ensures (E s) x y).both_empty c.args.level c.args.index
          (λ filled. true≢false (sym (c.is_filled-filled.ensures.1 (omega (arith, filled, n))) ∙ c.if-not-filled.true))
          (λ filled. true≢false (sym (c.is_filled.ensures.1 (omega (arith, filled, m))) ∙ none_b)),
      λ same. refl,
    )

pub returns-then-level-eq0-clause-steps : goal.returns-then-level-eq0-clause-steps
returns-then-level-eq0-clause-steps g c =
    at_leaf (cipher_of g.A1.Algorithm.variant) (cipher_of g.A2.Algorithm.variant) c.args.level c.args.index _ _ _ _ c.same_chunk.result c.if-level-eq0.true c.same_chunk.ensures.steps

pub returns-then-level-eq0-clause-found : goal.returns-then-level-eq0-clause-found
returns-then-level-eq0-clause-found g c = λ s x y has_x has_y.
    let E : List ℕ → Hashing = g.H.MerkleHasher.hashing in
    let C : Cipher = cipher_of g.A1.Algorithm.variant in
    let D : Cipher = cipher_of g.A2.Algorithm.variant in
    let in_b = sym (same_test c.is_filled-filled.result c.is_filled.result c.if-filled-is_filled.false) ∙ c.if-not-filled.false in
    leaf_found (E s) x y (c.walk_laws.ensures (E s) x y) c.args.level c.args.index c.if-level-eq0.true
    (omega (arith, c.is_filled-filled.ensures.0 c.if-not-filled.false, count_is C E s (c.tree_laws.ensures (E s)) _ x has_x))
    (omega (arith, c.is_filled.ensures.0 in_b, count_is D E s (c.tree_laws.ensures (E s)) _ y has_y))
    c.same_chunk.result (c.same_chunk.ensures.found s x y has_x has_y)

pub returns-clause-found : goal.returns-clause-found
returns-clause-found g c = λ s x y has_x has_y.
    let E : List ℕ → Hashing = g.H.MerkleHasher.hashing in
    let C : Cipher = cipher_of g.A1.Algorithm.variant in
    let D : Cipher = cipher_of g.A2.Algorithm.variant in
    let l = c.args.level in
    let up : l ≡ l - 1 + 1 = one_up l c.if-level-eq0.false in
    let in_b = sym (same_test c.is_filled-filled.result c.is_filled.result c.if-filled-is_filled.false) ∙ c.if-not-filled.false in
    parent_found (E s) x y (c.walk_laws.ensures (E s) x y) l (l - 1) c.args.index up
    (omega (arith, c.is_filled-filled.ensures.0 c.if-not-filled.false, count_is C E s (c.tree_laws.ensures (E s)) _ x has_x))
    (omega (arith, c.is_filled.ensures.0 in_b, count_is D E s (c.tree_laws.ensures (E s)) _ y has_y))
    c.same_below.result (c.same_below.ensures.same has_x.tree has_y.tree has_x.kept has_y.kept
    (omega (arith, up, c.requires.low.0, ap height_in has_x.kept)) (omega (arith, up, c.requires.low.1, ap height_in has_y.kept))
    s (leaves (E s) x.chunks) (leaves (E s) y.chunks) has_x.hashed has_y.hashed (keeps_content C E s _ x has_x) (keeps_content D E s _ y has_y))
