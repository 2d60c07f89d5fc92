-- The walk down from a commitment: where the calls of a proof and those of a file first differ.
use Rattle.std.proofs.Common.{◌≡◌, ℕ, zero, suc, ◌+◌, ◌-◌, ◌*◌, ◌/◌, ◌%◌, ◌^◌, ◌<◌, ◌≤◌, ◌⊎◌, inl, inr, List, [], length, get_or, refl, sym, ap, subst, ◌∙◌, arith, add-one}
use Rattle.std.proofs.lemmas.Bool.{cases_lt, cases_eq, cond-true, cond-false, eq-eqb, ne_eqb}
use Rattle.std.proofs.lemmas.Nat.{shr-shr, shr_split, shr_below}
use Rattle.raf_tree.specs.Hashing.{Hashing}
use Rattle.raf_tree.specs.Kept.{part}
use Rattle.raf_tree.specs.Tree.{leaves, node, root}
use Rattle.raf_tree.specs.Calls.{Call, Content, answer, node_call, content_height, CallLaws}
use Rattle.raf_tree.specs.Calls.Call.{Leaf, Parent, Empty, Commitment}
use Rattle.raf_check.specs.Claim.{Claim, above, parent_call, path_call, path_calls, claimed, call_number}
use Rattle.raf_check.specs.Binding.{Accepted, call_along, Clashes, IsMember, TrueOf, Binds}
use Rattle.raf_check.proofs.SameCalls.{same_calls}

-- one level up
pub above_zero : (i : ℕ) → above i 0 ≡ i
above_zero i = omega arith

pub above_next : (i l : ℕ) → above i (l + 1) ≡ above i l / 2
above_next i l = sym (shr-shr i l 1)

pub above_root : (i h : ℕ) → i < 2 ^ h → above i h ≡ 0
above_root i h below =
    let up : i < 2 ^ (0 + h) = let e : h ≡ 0 + h = omega arith in subst (λ (k : ℕ). i < 2 ^ k) e below in
    omega (arith, shr_below i 0 h up)

-- the place above a chunk has it below
pub above_has : (i l n : ℕ) → i < n → above i l * 2 ^ l < n
above_has i l n below = omega (arith, shr_split i l)

-- the call of a parent, for a left and for a right child
pub of_left : (own sibling : List ℕ) (l j : ℕ) → j % 2 ≡ 0 → parent_call own sibling l j ≡ Parent own sibling (l + 1) (j / 2)
of_left own sibling l j even = cond-true _ _ _ (eq-eqb (j % 2) 0 even)

pub of_right : (own sibling : List ℕ) (l j : ℕ) → (j % 2 ≡ 0 → ⊥) → parent_call own sibling l j ≡ Parent sibling own (l + 1) (j / 2)
of_right own sibling l j odd = cond-false _ _ _ (ne_eqb (j % 2) 0 odd)

pub path_leaf : (H : Hashing) (chunk : List ℕ) (p : Claim) → path_call H chunk p 0 ≡ Leaf chunk p.index
unfolding path_call
path_leaf H chunk p = refl

pub path_parent : (H : Hashing) (chunk : List ℕ) (p : Claim) (l : ℕ) → path_call H chunk p (l + 1) ≡ parent_call (answer H (path_call H chunk p l)) (part H.len l p.siblings) l (above p.index l)
unfolding path_call
path_parent H chunk p l = ap (λ (k : ℕ). path_call H chunk p k) (add-one l)

-- the calls of a path, by number
pub length-path : (H : Hashing) (chunk : List ℕ) (p : Claim) (l : ℕ) → length (path_calls H chunk p l) ≡ l + 1
unfolding path_calls
length-path H chunk p zero = refl
length-path H chunk p (suc l) = omega (arith, length-path H chunk p l)

pub path_number : (H : Hashing) (chunk : List ℕ) (p : Claim) (l d : ℕ) → d ≤ l → call_number (path_calls H chunk p l) d ≡ path_call H chunk p (l - d)
unfolding path_calls
path_number H chunk p zero zero le = refl
path_number H chunk p zero (suc d) le = absurd (omega arith)
path_number H chunk p (suc l) zero le = ap (λ (k : ℕ). path_call H chunk p k) (let e : suc l ≡ suc l - 0 = omega arith in e)
path_number H chunk p (suc l) (suc d) le = path_number H chunk p l d (omega arith) ∙ ap (λ (k : ℕ). path_call H chunk p k) (let e : l - d ≡ suc l - suc d = omega arith in e)

-- a call's level
level_of : Call → ℕ
level_of (Leaf chunk index) = 0
level_of (Parent left right level index) = level
level_of (Empty level index) = level
level_of (Commitment root context size) = 0

path_level : (H : Hashing) (chunk : List ℕ) (p : Claim) (l : ℕ) → level_of (path_call H chunk p l) ≡ l
unfolding level_of
path_level H chunk p zero = ap level_of (path_leaf H chunk p)
path_level H chunk p (suc l) = ap (λ (k : ℕ). level_of (path_call H chunk p k)) (sym (add-one l)) ∙ ap level_of (path_parent H chunk p l) ∙ of_parent ∙ add-one l
  where
    own : List ℕ
    own = answer H (path_call H chunk p l)

    of_parent : level_of (parent_call own (part H.len l p.siblings) l (above p.index l)) ≡ l + 1
    of_parent = elim (cases_eq (above p.index l % 2) 0) [
      | inl even ↦ ap level_of (of_left own (part H.len l p.siblings) l (above p.index l) even)
      | inr odd ↦ ap level_of (of_right own (part H.len l p.siblings) l (above p.index l) odd)
    ]

file_level : (H : Hashing) → CallLaws H → (chunks : List (List ℕ)) (l j : ℕ) → level_of (node_call H chunks l j) ≡ l
unfolding level_of
file_level H laws chunks l j = elim (cases_lt (j * 2 ^ l) (length chunks)) [
  | inr none ↦ ap level_of (laws.empty chunks l j none)
  | inl has ↦ full l has
]
  where
    full : (l : ℕ) → j * 2 ^ l < length chunks → level_of (node_call H chunks l j) ≡ l
    full zero has = ap level_of (laws.leaf chunks j (omega arith))
    full (suc l) has =
        let up : j * 2 ^ (l + 1) < length chunks = subst (λ (k : ℕ). j * 2 ^ k < length chunks) (sym (add-one l)) has in
        ap (λ (k : ℕ). level_of (node_call H chunks k j)) (sym (add-one l)) ∙ ap level_of (laws.parent chunks l j up) ∙ add-one l

module _ (H : Hashing) (laws : CallLaws H) (chunk : List ℕ) (p : Claim) (x : Content) where
  abbrev chunks : List (List ℕ)
  chunks = x.chunks

  -- the call that the file makes at the place above the chunk
  abbrev file_call : ℕ → Call
  file_call l = node_call H chunks l (above p.index l)

  -- a first level, from above, at which the calls differ
  record Found (l : ℕ) : Type 0 where
    level : ℕ
    low : level ≤ l
    equal : (k : ℕ) → level < k → k ≤ l → path_call H chunk p k ≡ file_call k
    differ : path_call H chunk p level ≡ file_call level → ⊥
    one_answer : answer H (path_call H chunk p level) ≡ answer H (file_call level)

  -- equal calls of parents have equal children
  step_at : (l j : ℕ) (own sibling : List ℕ) → parent_call own sibling l j ≡ node_call H chunks (l + 1) (j / 2) → own ≡ node H (leaves H chunks) l j
  step_at l j own sibling same = elim (cases_lt (j / 2 * 2 ^ (l + 1)) (length chunks)) [
    | inr none ↦
        let empty = laws.empty chunks (l + 1) (j / 2) none in
        elim (cases_eq (j % 2) 0) [
          | inl even ↦ let q = of_left own sibling l j even in absurd cc
          | inr odd ↦ let q = of_right own sibling l j odd in absurd cc
        ]
    | inl has ↦
        let parent = laws.parent chunks l (j / 2) has in
        elim (cases_eq (j % 2) 0) [
          | inl even ↦
              let q = of_left own sibling l j even in
              let e : own ≡ node H (leaves H chunks) l (2 * (j / 2)) = cc in
              let at : 2 * (j / 2) ≡ j = omega arith in
              e ∙ ap (λ (k : ℕ). node H (leaves H chunks) l k) at
          | inr odd ↦
              let q = of_right own sibling l j odd in
              let e : own ≡ node H (leaves H chunks) l (2 * (j / 2) + 1) = cc in
              let at : 2 * (j / 2) + 1 ≡ j = omega arith in
              e ∙ ap (λ (k : ℕ). node H (leaves H chunks) l k) at
        ]
  ]

  step : (l : ℕ) → path_call H chunk p (l + 1) ≡ file_call (l + 1) → answer H (path_call H chunk p l) ≡ answer H (file_call l)
  step l same =
      let at : file_call (l + 1) ≡ node_call H chunks (l + 1) (above p.index l / 2) = ap (λ (k : ℕ). node_call H chunks (l + 1) k) (above_next p.index l) in
      step_at l (above p.index l) _ (part H.len l p.siblings) (sym (path_parent H chunk p l) ∙ same ∙ at) ∙ sym (laws.node chunks l (above p.index l))

  -- equal leaves are of one chunk
  leaf_is : path_call H chunk p 0 ≡ file_call 0 → IsMember chunks p.index chunk
  leaf_is same =
      let own = path_leaf H chunk p in
      let at : file_call 0 ≡ node_call H chunks 0 p.index = ap (λ (k : ℕ). node_call H chunks 0 k) (above_zero p.index) in
      elim (cases_lt p.index (length chunks)) [
        | inl has ↦
            let leaf = laws.leaf chunks p.index has in
            let e : get_or chunks p.index [] ≡ chunk = cc in
            (has, e)
        | inr past ↦
            let empty = laws.empty chunks 0 p.index (omega arith) in
            absurd cc
      ]

  descend : (l : ℕ) → answer H (path_call H chunk p l) ≡ answer H (file_call l) → IsMember chunks p.index chunk ⊎ Found l
  descend zero one = elim (same_calls (path_call H chunk p 0) (file_call 0)) [
    | inl same ↦ inl (leaf_is same)
    | inr differ ↦ inr (record { level = 0; low = omega arith; equal = λ k above le. absurd (omega arith); differ = differ; one_answer = one })
  ]
  descend (suc l) one = elim (same_calls (path_call H chunk p (suc l)) (file_call (suc l))) [
    | inr differ ↦ inr (record { level = suc l; low = omega arith; equal = λ k above le. absurd (omega arith); differ = differ; one_answer = one })
    | inl same ↦ elim (descend l (step l (subst (λ (k : ℕ). path_call H chunk p k ≡ file_call k) (sym (add-one l)) same))) [
      | inl member ↦ inl member
      | inr found ↦ inr (record {
        level = found.level;
        low = omega (arith, found.low);
        equal = λ k above le. elim (cases_lt k (suc l)) [
          | inl low ↦ found.equal k above (omega arith)
          | inr top ↦ let e : suc l ≡ k = omega arith in subst (λ (k : ℕ). path_call H chunk p k ≡ file_call k) e same
        ];
        differ = found.differ;
        one_answer = found.one_answer;
      })
    ]
  ]

  -- from the commitment on
  module _ (inside : p.index < 2 ^ p.height) where
    abbrev h : ℕ
    h = content_height x

    abbrev mine : ℕ → Call
    mine d = call_number (claimed H chunk p) d

    abbrev theirs : ℕ → Call
    theirs d = call_along H x p.index d

    mine_at : (d : ℕ) → d ≤ p.height → mine (suc d) ≡ path_call H chunk p (p.height - d)
    mine_at d le = path_number H chunk p p.height d le

    long : length (claimed H chunk p) ≡ p.height + 2
    long = omega (arith, length-path H chunk p p.height)

    theirs_at : (d : ℕ) → p.height ≡ h → d ≤ h → theirs (suc d) ≡ file_call (h - d)
    theirs_at zero same le =
        let below : p.index < 2 ^ h = subst (λ (k : ℕ). p.index < 2 ^ k) same inside in
        let e : h ≡ h - 0 = omega arith in
        ap (λ (j : ℕ). node_call H chunks h j) (sym (above_root p.index h below)) ∙ ap file_call e
    theirs_at (suc d) same le = refl

    -- in trees of one height, level by level
    clash_below : p.height ≡ h → mine 0 ≡ theirs 0 → Found p.height → Clashes H chunk p x
    clash_below same top found = record {
      depth = suc (p.height - found.level);
      within = omega (arith, long);
      equal = equal;
      differ = λ e. found.differ (sym own ∙ e ∙ other);
      one_answer = ap (answer H) own ∙ found.one_answer ∙ ap (answer H) (sym other);
      below_root = λ _. (same, subst (λ (k : ℕ). p.index < 2 ^ k) same inside);
    }
      where
        back : p.height - (p.height - found.level) ≡ found.level
        back = omega (arith, found.low)

        own : mine (suc (p.height - found.level)) ≡ path_call H chunk p found.level
        own = mine_at (p.height - found.level) (omega arith) ∙ ap (λ (k : ℕ). path_call H chunk p k) back

        other : theirs (suc (p.height - found.level)) ≡ file_call found.level
        other = theirs_at (p.height - found.level) same (omega (arith, same)) ∙ ap file_call (let e : h - (p.height - found.level) ≡ found.level = omega (arith, back, same) in e)

        equal : (d : ℕ) → d < suc (p.height - found.level) → mine d ≡ theirs d
        equal zero below = top
        equal (suc d) below =
            mine_at d (omega arith)
            ∙ found.equal (p.height - d) (omega (arith, found.low)) (omega arith)
            ∙ ap file_call (let e : p.height - d ≡ h - d = omega (arith, same) in e)
            ∙ sym (theirs_at d same (omega (arith, same)))

    -- the root differs
    clash_at_root : mine 0 ≡ theirs 0 → answer H (path_call H chunk p p.height) ≡ answer H (node_call H chunks h 0) → (path_call H chunk p p.height ≡ node_call H chunks h 0 → ⊥) → Clashes H chunk p x
    clash_at_root top one differ = record {
      depth = 1;
      within = omega (arith, long);
      equal = λ d below. let e : 0 ≡ d = omega arith in subst (λ (k : ℕ). mine k ≡ theirs k) e top;
      differ = λ e. differ (sym own ∙ e);
      one_answer = ap (answer H) own ∙ one;
      below_root = λ deep. absurd (omega arith);
    }
      where
        own : mine 1 ≡ path_call H chunk p p.height
        own = mine_at 0 (omega arith) ∙ ap (λ (k : ℕ). path_call H chunk p k) (let e : p.height - 0 ≡ p.height = omega arith in e)

    clash_at_top : answer H (mine 0) ≡ answer H (theirs 0) → (mine 0 ≡ theirs 0 → ⊥) → Clashes H chunk p x
    clash_at_top one differ = record {
      depth = 0;
      within = omega (arith, long);
      equal = λ d below. absurd (omega arith);
      differ = differ;
      one_answer = one;
      below_root = λ deep. absurd (omega arith);
    }

    from_root : mine 0 ≡ theirs 0 → answer H (path_call H chunk p p.height) ≡ answer H (node_call H chunks h 0) → IsMember chunks p.index chunk ⊎ Clashes H chunk p x
    from_root top one = elim (same_calls (path_call H chunk p p.height) (node_call H chunks h 0)) [
      | inr differ ↦ inr (clash_at_root top one differ)
      | inl same ↦
          let tall : p.height ≡ h = sym (path_level H chunk p p.height) ∙ ap level_of same ∙ file_level H laws chunks h 0 in
          let at : node_call H chunks h 0 ≡ file_call p.height = ap (λ (k : ℕ). node_call H chunks k 0) (sym tall) ∙ ap (λ (j : ℕ). node_call H chunks p.height j) (sym (above_root p.index p.height inside)) in
          elim (descend p.height (one ∙ ap (answer H) at)) [
            | inl member ↦ inl member
            | inr found ↦ inr (clash_below tall top found)
          ]
    ]

    from_top : answer H (mine 0) ≡ answer H (theirs 0) → TrueOf chunk p x ⊎ Clashes H chunk p x
    from_top one = elim (same_calls (mine 0) (theirs 0)) [
      | inr differ ↦ inr (clash_at_top one differ)
      | inl same ↦
          let e : answer H (path_call H chunk p p.height) ≡ root H h (leaves H chunks) = cc in
          let is_id : p.id ≡ x.context = cc in
          let is_size : p.size ≡ x.size = cc in
          elim (from_root same (e ∙ sym (laws.node chunks h 0))) [
            | inl member ↦ inl (record { member = member; same_id = is_id; same_size = is_size })
            | inr clash ↦ inr clash
          ]
    ]

-- a proof that is accepted binds all that has its commitment
pub accepted_binds : (H : Hashing) → CallLaws H → (value chunk : List ℕ) (p : Claim) → p.index < 2 ^ p.height → Accepted H value chunk p → Binds H value chunk p
accepted_binds H laws value chunk p inside accepted = λ x has. from_top H laws chunk p x inside (accepted ∙ sym has)
