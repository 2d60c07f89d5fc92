-- The laws of a walk down two trees.
use Rattle.std.proofs.Common.{◌≡◌, ◌⊎◌, ◌↔◌, ℕ, ◌+◌, ◌*◌, ◌^◌, ◌<◌, ◌≤◌, [], length, get_or, Option, Some, None, sym, ap, subst, ◌∙◌, inl, inr, arith}
use Rattle.std.proofs.lemmas.Bool.{cases_lt}
use Rattle.raf_tree.specs.Hashing.{Hashing}
use Rattle.raf_tree.specs.Tree.{leaves, node}
use Rattle.raf_tree.specs.Calls.{Content, answer, commitment_call}
use Rattle.raf_tree.specs.Calls.Call.{Leaf, Parent}
use Rattle.raf_tree.specs.Walk.{SameNode, SameCall, IsFilled, Finds, WalkLaws, BindingLaws}
use Rattle.raf_tree.specs.declared.place.Place.{Place}
use Rattle.raf_tree.proofs.Calls.{call_empty, call_leaf, call_parent, same_chunk, same_left, same_right}
use Rattle.raf_tree.proofs.Walk.{differs_here, agrees_empty, agrees_leaf, agrees_parent, differs_left, differs_right}
use Rattle.raf_tree.proofs.Binding.{same_chunks, one_empty, clash_commitment, clash_roots, clash_below, binding}

module _ (H : Hashing) (x y : Content) where
  past : (c : Content) (l j : ℕ) → (IsFilled c l j → ⊥) → length c.chunks ≤ j * 2 ^ l
  past c l j none = elim (cases_lt (j * 2 ^ l) (length c.chunks)) [ inl less ↦ absurd (none less) | inr from ↦ from ]

  both_filled : (l j : ℕ) → SameCall H x y l j → IsFilled x l j ↔ IsFilled y l j
  both_filled l j same = (to, from)
    where
      to : IsFilled x l j → IsFilled y l j
      to in_x = elim (cases_lt (j * 2 ^ l) (length y.chunks)) [
        | inl in_y ↦ in_y
        | inr no_y ↦ absurd (one_empty H x y l j y.chunks x.chunks no_y in_x (sym same))
      ]

      from : IsFilled y l j → IsFilled x l j
      from in_y = elim (cases_lt (j * 2 ^ l) (length x.chunks)) [
        | inl in_x ↦ in_x
        | inr no_x ↦ absurd (one_empty H x y l j x.chunks y.chunks no_x in_y same)
      ]

  of_leaf : (j : ℕ) → IsFilled x 0 j → IsFilled y 0 j → SameCall H x y 0 j ↔ (get_or x.chunks j [] ≡ get_or y.chunks j [])
  of_leaf j in_x in_y =
      let has_x : j < length x.chunks = omega (arith, in_x) in
      let has_y : j < length y.chunks = omega (arith, in_y) in (
        λ e. same_chunk _ _ j j (sym (call_leaf H x.chunks j has_x) ∙ e ∙ call_leaf H y.chunks j has_y),
        λ e. call_leaf H x.chunks j has_x ∙ ap (λ m. Leaf m j) e ∙ sym (call_leaf H y.chunks j has_y),
      )

  of_parent : (l j : ℕ) → IsFilled x (l + 1) j → IsFilled y (l + 1) j
      → SameCall H x y (l + 1) j ↔ (SameNode H x y l (2 * j) × SameNode H x y l (2 * j + 1))
  of_parent l j in_x in_y = (
    λ e.
        let both = sym (call_parent H x.chunks l j in_x) ∙ e ∙ call_parent H y.chunks l j in_y in
        (same_left _ _ _ _ _ _ _ _ both, same_right _ _ _ _ _ _ _ _ both),
    λ both.
        call_parent H x.chunks l j in_x
        ∙ ap (λ n. Parent n (node H (leaves H x.chunks) l (2 * j + 1)) (l + 1) j) both.0
        ∙ ap (λ n. Parent (node H (leaves H y.chunks) l (2 * j)) n (l + 1) j) both.1
        ∙ sym (call_parent H y.chunks l j in_y),
  )

  ending : (l j : ℕ) → SameCall H x y l j → (l ≡ 0) ⊎ (IsFilled x l j → ⊥) → Finds H x y l j None
  ending l j same why = elim (cases_lt (j * 2 ^ l) (length x.chunks)) [
    | inr no_x ↦ agrees_empty H x y l j no_x (past y l j (λ in_y. omega (arith, no_x, (both_filled l j same).1 in_y)))
    | inl in_x ↦ elim why [
      | inr none ↦ absurd (none in_x)
      | inl at ↦
          let S : ℕ → Type 0 = λ k. SameCall H x y k j in
          let F : ℕ → Type 0 = λ k. IsFilled x k j in
          let P : ℕ → Type 0 = λ k. Finds H x y k j None in
          let same_leaf : SameCall H x y 0 j = subst S at same in
          let leaf_x : IsFilled x 0 j = subst F at in_x in
          let leaf_y : IsFilled y 0 j = (both_filled 0 j same_leaf).0 leaf_x in
          subst P (sym at) (agrees_leaf H x y j (omega (arith, leaf_x)) (omega (arith, leaf_y)) ((of_leaf j leaf_x leaf_y).0 same_leaf))
    ]
  ]

  from_right : (l j : ℕ) (found : Option Place) → IsFilled x (l + 1) j → SameCall H x y (l + 1) j → Finds H x y l (2 * j) None
      → Finds H x y l (2 * j + 1) found → Finds H x y (l + 1) j found
  from_right l j None in_x same left right =
      let in_y = (both_filled (l + 1) j same).0 in_x in
      let nodes = (of_parent l j in_x in_y).0 same in
      agrees_parent H x y l j in_x in_y nodes.0 nodes.1 left right
  from_right l j (Some p) in_x same left right =
      let in_y = (both_filled (l + 1) j same).0 in_x in
      let nodes = (of_parent l j in_x in_y).0 same in
      differs_right H x y l j in_x in_y nodes.0 nodes.1 left p right

  pub walk_laws_hold : WalkLaws H x y
  walk_laws_hold = record {
    both_empty = λ l j no_x no_y. call_empty H x.chunks l j (past x l j no_x) ∙ sym (call_empty H y.chunks l j (past y l j no_y));
    one_empty = both_filled;
    leaf = of_leaf;
    parent = of_parent;
    stops = λ l j one differ. differs_here H x y l j one differ;
    ends = ending;
    left = λ l j p in_x same found.
        let in_y = (both_filled (l + 1) j same).0 in_x in
        let nodes = (of_parent l j in_x in_y).0 same in
        differs_left H x y l j in_x in_y nodes.0 nodes.1 p found;
    right = from_right;
  }

  pub binding_laws_hold : (one : answer H (commitment_call H x) ≡ answer H (commitment_call H y)) → BindingLaws H x y one
  binding_laws_hold one = record {
    commitments = clash_commitment H x y one;
    roots = clash_roots H x y one;
    below = λ same heights p found. clash_below H x y one same heights p found;
    same = λ fits_x fits_y heights found. same_chunks H x y fits_x fits_y heights found;
    either = λ fits_x fits_y. binding H x y fits_x fits_y one;
  }
