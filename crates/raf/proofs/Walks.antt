-- What a walk down two trees finds, from what is found below.
use Rattle.std.proofs.Common.{◌≡◌, ◌⊎◌, inl, inr, ℕ, ◌+◌, ◌*◌, ◌^◌, ◌<◌, ◌≤◌, Bool, true, false, List, length, Option, Some, None, Result, Ok, Err, refl, sym, ◌∙◌, ap, subst, arith, add-one, ◌-◌}
use Rattle.std.specs.Bool.{Decides, beq}
use Rattle.std.specs.Result.{IfOk}
use Rattle.std.specs.Prelude.{◌↔◌, is_some, not}
use Rattle.std.proofs.lemmas.Bool.{true≢false, cases_lt}
use Rattle.std.proofs.lemmas.Nat.{mul-le, pow_pos}
use Rattle.std.proofs.Math.Pow.{pow_mono}
use Rattle.std.proofs.Math.Nat.{pow-suc}
use Rattle.raf_tree.specs.Hashing.{Hashing}
use Rattle.raf_tree.specs.Kept.{Keeps}
use Rattle.raf_tree.specs.Tree.{leaves}
use Rattle.raf_tree.specs.Laws.{TreeLaws}
use Rattle.raf_tree.specs.Calls.{Content}
use Rattle.raf_tree.specs.Walk.{SameNode, SameCall, IsFilled, Finds, WalkLaws}
use Rattle.raf_tree.specs.declared.place.Place.{Place}
use Rattle.raf_tree.specs.declared.place.Place.TheVariants as place
use Rattle.raf_format.specs.Cipher.{Cipher}
use Rattle.raf.specs.Handle.{Handle}
use Rattle.raf.specs.Clash.{HasContent}
use Rattle.raf.specs.Clashing.{count_in, SameChunk}
use Rattle.raf_io.specs.declared.errors.Error.{Error}

-- places of the trees that there are
pub low_place : (l j : ℕ) → (j + 1) * 2 ^ l ≤ 2 ^ 27 → l ≤ 27
low_place l j fits = elim (cases_lt 27 l) [
  | inr low ↦ low
  | inl high ↦ absurd (omega (arith, fits, pow_mono {i = 28} {j = l} high))
]

pub small_index : (l j : ℕ) → (j + 1) * 2 ^ l ≤ 2 ^ 27 → j < 2 ^ 27
small_index l j fits = elim (cases_lt j (2 ^ 27)) [
  | inl less ↦ less
  | inr more ↦ absurd (omega (arith, fits, mul-le (2 ^ 27 + 1) 1 (j + 1) (2 ^ l) (omega (arith, more)) (pow_pos l)))
]

pub left_place : (l j : ℕ) → (l ≡ 0 → ⊥) → (j + 1) * 2 ^ l ≤ 2 ^ 27 → (2 * j + 1) * 2 ^ (l - 1) ≤ 2 ^ 27
left_place l j some fits = elim (cases_lt 0 l) [
  | inr none ↦ absurd (some (omega (arith, none)))
  | inl less ↦
      let up : l ≡ l - 1 + 1 = omega (arith, less) in
      let twice : 2 ^ l ≡ 2 * 2 ^ (l - 1) = ap (λ (k : ℕ). 2 ^ k) up ∙ ap (λ (k : ℕ). 2 ^ k) (add-one (l - 1)) ∙ pow-suc 2 (l - 1) ∙ (let e : 2 ^ (l - 1) * 2 ≡ 2 * 2 ^ (l - 1) = omega arith in e) in
      omega (arith, fits, ap (λ (k : ℕ). (j + 1) * k) twice)
]

pub right_place : (l j : ℕ) → (l ≡ 0 → ⊥) → (j + 1) * 2 ^ l ≤ 2 ^ 27 → (2 * j + 1 + 1) * 2 ^ (l - 1) ≤ 2 ^ 27
right_place l j some fits = elim (cases_lt 0 l) [
  | inr none ↦ absurd (some (omega (arith, none)))
  | inl less ↦
      let up : l ≡ l - 1 + 1 = omega (arith, less) in
      let twice : 2 ^ l ≡ 2 * 2 ^ (l - 1) = ap (λ (k : ℕ). 2 ^ k) up ∙ ap (λ (k : ℕ). 2 ^ k) (add-one (l - 1)) ∙ pow-suc 2 (l - 1) ∙ (let e : 2 ^ (l - 1) * 2 ≡ 2 * 2 ^ (l - 1) = omega arith in e) in
      omega (arith, fits, ap (λ (k : ℕ). (j + 1) * k) twice)
]

-- how many chunks the tree has
pub count_is : (C : Cipher) (E : List ℕ → Hashing) (setting : List ℕ) (laws : TreeLaws (E setting)) (h : Handle) (x : Content) → HasContent C E setting h x → count_in h.tree ≡ length x.chunks
count_is C E setting laws h x has =
    ap count_in has.kept ∙ has.grown.keeps.count ∙ laws.leaf_count has.grown.chunks ∙ ap (λ (c : Content). length c.chunks) (sym has.is)

module _ (H : Hashing) (x y : Content) (laws : WalkLaws H x y) where
  pub found_stops : (l j : ℕ) (r : Bool) → r ≡ false → SameNode H x y l j → Decides r (SameCall H x y l j) → Finds H x y l j (Some (place.Node l j))
  found_stops l j r is one d = laws.stops l j one (λ e. true≢false (sym (d.1 e) ∙ is))

  pub found_ends : (l j : ℕ) → SameCall H x y l j → (l ≡ 0) ⊎ (IsFilled x l j → ⊥) → Finds H x y l j None
  found_ends l j same why = laws.ends l j same why

  module _ (below j : ℕ) (in_x : IsFilled x (below + 1) j) (same : SameCall H x y (below + 1) j) where
    nodes : SameNode H x y below (2 * j) × SameNode H x y below (2 * j + 1)
    nodes = (laws.parent below j in_x ((laws.one_empty (below + 1) j same).0 in_x)).0 same

    left_some : (found : Option Place) → is_some found ≡ true → (SameNode H x y below (2 * j) → Finds H x y below (2 * j) found) → Finds H x y (below + 1) j found
    left_some (Some p) is left = laws.left below j p in_x same (left nodes.0)
    left_some None is left = absurd (true≢false (sym is))

    right_none : (none : Option Place) → is_some none ≡ false → (found : Option Place) → (SameNode H x y below (2 * j) → Finds H x y below (2 * j) none)
        → (SameNode H x y below (2 * j + 1) → Finds H x y below (2 * j + 1) found) → Finds H x y (below + 1) j found
    right_none (Some p) is found left right = absurd (true≢false is)
    right_none None is found left right = laws.right below j found in_x same (left nodes.0) (right nodes.1)

  module _ (l below j : ℕ) (up : l ≡ below + 1) (in_x : IsFilled x l j) (same : SameCall H x y l j) where
    at_up : IsFilled x (below + 1) j × SameCall H x y (below + 1) j
    at_up = subst (λ (k : ℕ). IsFilled x k j × SameCall H x y k j) up (in_x, same)

    pub found_left : (found : Option Place) → is_some found ≡ true → (SameNode H x y below (2 * j) → Finds H x y below (2 * j) found) → Finds H x y l j found
    found_left found is left = subst (λ (k : ℕ). Finds H x y k j found) (sym up) (left_some below j at_up.0 at_up.1 found is left)

    pub found_right : (none : Option Place) → is_some none ≡ false → (result : Result (Option Place) Error)
        → (SameNode H x y below (2 * j) → Finds H x y below (2 * j) none)
        → IfOk result (λ found. SameNode H x y below (2 * j + 1) → Finds H x y below (2 * j + 1) found) → IfOk result (λ found. SameNode H x y l j → Finds H x y l j found)
    found_right none is (Ok found) left right = λ _. subst (λ (k : ℕ). Finds H x y k j found) (sym up) (right_none below j at_up.0 at_up.1 none is found left right)
    found_right none is (Err e) left right = tt

  -- what was found of a leaf or of both nodes below a place, as what it says of the calls
  pub leaf_found : (l j : ℕ) → l ≡ 0 → IsFilled x l j → IsFilled y l j → (result : Result Bool Error) → IfOk result (λ r. Decides r (SameChunk j x y)) → IfOk result (λ r. Decides r (SameCall H x y l j))
  leaf_found l j is in_x in_y (Err e) d = tt
  leaf_found l j is in_x in_y (Ok r) d =
      let at : IsFilled x 0 j × IsFilled y 0 j = subst (λ (k : ℕ). IsFilled x k j × IsFilled y k j) is (in_x, in_y) in
      let there : (j < length x.chunks) × (j < length y.chunks) = (omega (arith, at.0), omega (arith, at.1)) in
      subst (λ (k : ℕ). Decides r (SameCall H x y k j)) (sym is)
      (λ yes. (laws.leaf j at.0 at.1).1 (d.0 yes).2, λ same. d.1 (there.0, there.1, (laws.leaf j at.0 at.1).0 same))

  pub parent_found : (l below j : ℕ) → l ≡ below + 1 → IsFilled x l j → IsFilled y l j → (result : Result Bool Error)
      → IfOk result (λ r. Decides r (SameNode H x y below (2 * j) × SameNode H x y below (2 * j + 1))) → IfOk result (λ r. Decides r (SameCall H x y l j))
  parent_found l below j up in_x in_y (Err e) d = tt
  parent_found l below j up in_x in_y (Ok r) d =
      let at : IsFilled x (below + 1) j × IsFilled y (below + 1) j = subst (λ (k : ℕ). IsFilled x k j × IsFilled y k j) up (in_x, in_y) in
      subst (λ (k : ℕ). Decides r (SameCall H x y k j)) (sym up)
      (λ yes. (laws.parent below j at.0 at.1).1 (d.0 yes), λ same. d.1 ((laws.parent below j at.0 at.1).0 same))

-- two tests
pub differ_not : (f h : Bool) (P Q : Type 0) → not (beq f h) ≡ true → Decides f P → Decides h Q → P ↔ Q → ⊥
differ_not true true P Q differ d d' same = true≢false (sym differ)
differ_not false false P Q differ d d' same = true≢false (sym differ)
differ_not true false P Q differ d d' same = true≢false (sym (d'.1 (same.0 (d.0 refl))))
differ_not false true P Q differ d d' same = true≢false (sym (d.1 (same.1 (d'.0 refl))))

pub same_test : (f h : Bool) → not (beq f h) ≡ false → f ≡ h
same_test true true is = refl
same_test false false is = refl
same_test true false is = absurd (true≢false is)
same_test false true is = absurd (true≢false is)

-- the tree keeps the leaves of the content
pub keeps_content : (C : Cipher) (E : List ℕ → Hashing) (setting : List ℕ) (h : Handle) (x : Content) (has : HasContent C E setting h x) → Keeps (E setting) has.tree (leaves (E setting) x.chunks)
keeps_content C E setting h x has =
    subst (λ (c : List (List ℕ)). Keeps (E setting) has.tree (leaves (E setting) c)) (sym (ap (λ (c : Content). c.chunks) has.is)) has.grown.keeps
