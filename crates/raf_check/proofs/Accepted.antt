-- A proof whose siblings are those of a file's tree is accepted for the file's commitment.
use Rattle.std.proofs.Common.{◌≡◌, ℕ, zero, suc, ◌+◌, ◌-◌, ◌*◌, ◌/◌, ◌%◌, ◌^◌, ◌<◌, ◌≤◌, inl, inr, List, length, sym, ap, subst, ◌∙◌, arith, add-one, eq-eqb, ne_eqb}
use Rattle.std.proofs.lemmas.Bool.{cases_eq, cond-true, cond-false}
use Rattle.raf_tree.specs.Hashing.{Hashing}
use Rattle.raf_tree.specs.Tree.{height, leaves, node, commitment}
use Rattle.raf_tree.specs.Calls.{answer, CallLaws}
use Rattle.raf_check.specs.Claim.{Claim, above, parent_call, path_call}
use Rattle.raf_check.specs.Binding.{Accepted, IsMember}
use Rattle.raf_check.specs.Siblings.{sibling, SiblingsTo, HonestProofs}
use Rattle.raf_check.proofs.Walk.{above_zero, above_next, above_root, above_has, of_left, of_right, path_leaf, path_parent}

module _ (H : Hashing) (laws : CallLaws H) (chunk : List ℕ) (p : Claim) (chunks : List (List ℕ)) (member : IsMember chunks p.index chunk) (siblings : SiblingsTo H chunks p.index p.height p.siblings) where
  at_node : ℕ → ℕ → List ℕ
  at_node l j = node H (leaves H chunks) l j

  -- of two children the parent's call is the tree's
  joins : (l j : ℕ) (own other : List ℕ) → own ≡ node H (leaves H chunks) l j → other ≡ node H (leaves H chunks) l (sibling j) → j / 2 * 2 ^ (l + 1) < length chunks
      → answer H (parent_call own other l j) ≡ node H (leaves H chunks) (l + 1) (j / 2)
  joins l j own other is other_is has = elim (cases_eq (j % 2) 0) [
    | inl even ↦
        let beside : sibling j ≡ j + 1 = cond-true _ _ _ (eq-eqb (j % 2) 0 even) in
        let left : own ≡ node H (leaves H chunks) l (2 * (j / 2)) = is ∙ ap (λ (k : ℕ). node H (leaves H chunks) l k) (let e : j ≡ 2 * (j / 2) = omega arith in e) in
        let right : other ≡ node H (leaves H chunks) l (2 * (j / 2) + 1) = other_is ∙ ap (λ (k : ℕ). node H (leaves H chunks) l k) (let e : sibling j ≡ 2 * (j / 2) + 1 = beside ∙ omega arith in e) in
        ap (answer H) (of_left own other l j even)
        ∙ ap (λ (k : List ℕ). H.parent k other (l + 1) (j / 2)) left ∙ ap (λ (k : List ℕ). H.parent (node H (leaves H chunks) l (2 * (j / 2))) k (l + 1) (j / 2)) right
        ∙ up
    | inr odd ↦
        let beside : sibling j ≡ j - 1 = cond-false _ _ _ (ne_eqb (j % 2) 0 odd) in
        let left : other ≡ node H (leaves H chunks) l (2 * (j / 2)) = other_is ∙ ap (λ (k : ℕ). node H (leaves H chunks) l k) (let e : sibling j ≡ 2 * (j / 2) = beside ∙ omega arith in e) in
        let right : own ≡ node H (leaves H chunks) l (2 * (j / 2) + 1) = is ∙ ap (λ (k : ℕ). node H (leaves H chunks) l k) (let e : j ≡ 2 * (j / 2) + 1 = omega arith in e) in
        ap (answer H) (of_right own other l j odd)
        ∙ ap (λ (k : List ℕ). H.parent k own (l + 1) (j / 2)) left ∙ ap (λ (k : List ℕ). H.parent (node H (leaves H chunks) l (2 * (j / 2))) k (l + 1) (j / 2)) right
        ∙ up
  ]
    where
      up : H.parent (node H (leaves H chunks) l (2 * (j / 2))) (node H (leaves H chunks) l (2 * (j / 2) + 1)) (l + 1) (j / 2) ≡ node H (leaves H chunks) (l + 1) (j / 2)
      up = sym (ap (answer H) (laws.parent chunks l (j / 2) has)) ∙ laws.node chunks (l + 1) (j / 2)

  climbs : (l : ℕ) → l ≤ p.height → answer H (path_call H chunk p l) ≡ node H (leaves H chunks) l (above p.index l)
  climbs zero le =
      ap (answer H) (path_leaf H chunk p)
      ∙ ap (λ (k : List ℕ). H.leaf k p.index) (sym member.1)
      ∙ sym (ap (answer H) (laws.leaf chunks p.index member.0))
      ∙ laws.node chunks 0 p.index
      ∙ ap (λ (k : ℕ). node H (leaves H chunks) 0 k) (sym (above_zero p.index))
  climbs (suc l) le =
      let has : above p.index l / 2 * 2 ^ (l + 1) < length chunks = subst (λ (k : ℕ). k * 2 ^ (l + 1) < length chunks) (above_next p.index l) (above_has p.index (l + 1) (length chunks) member.0) in
      subst (λ (k : ℕ). answer H (path_call H chunk p k) ≡ node H (leaves H chunks) k (above p.index k)) (add-one l)
      (ap (answer H) (path_parent H chunk p l)
      ∙ joins l (above p.index l) _ _ (climbs l (omega arith)) (siblings l (omega arith)) has
      ∙ ap (λ (k : ℕ). node H (leaves H chunks) (l + 1) k) (sym (above_next p.index l)))

-- so it is accepted
siblings_fit : (H : Hashing) → CallLaws H → (chunk : List ℕ) (p : Claim) (chunks : List (List ℕ)) (max_chunks : ℕ) → IsMember chunks p.index chunk → SiblingsTo H chunks p.index p.height p.siblings
    → p.height ≡ height max_chunks → p.index < 2 ^ p.height → Accepted H (commitment H max_chunks chunks p.id p.size) chunk p
siblings_fit H laws chunk p chunks max_chunks member siblings tall inside =
    ap (λ (k : List ℕ). H.commitment k p.id p.size)
    (climbs H laws chunk p chunks member siblings p.height (omega arith)
    ∙ ap (λ (k : ℕ). node H (leaves H chunks) p.height k) (above_root p.index p.height inside)
    ∙ ap (λ (k : ℕ). node H (leaves H chunks) k 0) tall)

pub honest_accepted : (H : Hashing) → CallLaws H → HonestProofs H
honest_accepted H laws x chunk p is tall inside siblings =
    siblings_fit H laws chunk p x.chunks x.max_chunks is.member siblings tall inside
    ∙ ap (λ (id : List ℕ). commitment H x.max_chunks x.chunks id p.size) is.same_id
    ∙ ap (λ (size : ℕ). commitment H x.max_chunks x.chunks x.context size) is.same_size
