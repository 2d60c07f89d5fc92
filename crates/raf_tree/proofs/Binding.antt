-- Where commitments are equal, contents are, or two calls differ that have one answer: the first such pair.
use Rattle.std.proofs.Common.{◌≡◌, ◌≢◌, ◌⊎◌, ℕ, zero, suc, ◌+◌, ◌*◌, ◌^◌, ◌<◌, ◌≤◌, Bool, true, false, List, [], ◌∷◌, length, get_or, Option, Some, None, refl, sym, ap, subst, ◌∙◌, inl, inr, arith, add-one}
use Rattle.std.specs.Bool.{Decides}
use Rattle.std.proofs.lemmas.Bool.{cases_lt, cases_eq, true≢false}
use Rattle.std.proofs.lemmas.List.{get_or_default, same_lists}
use Rattle.std.proofs.lemmas.List.Elements.{All-nil, All-cons}
use Rattle.std.proofs.lemmas.Slice.Eq.{bytes_eq-Decides}
use Rattle.raf_tree.specs.Hashing.{Hashing}
use Rattle.raf_tree.specs.Tree.{leaves, node, root}
use Rattle.raf_tree.specs.Calls.{Content, answer, call_at, commitment_call, node_call, node_places, content_height}
use Rattle.raf_tree.specs.Calls.Call.{Commitment}
use Rattle.raf_tree.specs.Clash.{SameContent, Fits, FirstClash}
use Rattle.raf_tree.specs.Walk.{SameNode, SameAt, Agrees, Differs, Finds}
use Rattle.raf_tree.specs.declared.place.Place.{Place}
use Rattle.raf_tree.specs.declared.place.Place.TheVariants as place
use Rattle.raf_tree.proofs.Heights.{height_fits}
use Rattle.raf_tree.proofs.Calls.{empty_not_leaf, empty_not_parent, same_chunk, same_left, same_right, same_root, same_context, same_size, call_empty, call_leaf, call_parent, heights_differ, node_is_answer, places_begin}
use Rattle.raf_tree.proofs.Walk.{differs_here, agrees_empty, agrees_leaf, agrees_parent, differs_left, differs_right}

-- lists of numbers are equal or not
pub same_or_not : (a b : List ℕ) → (a ≡ b) ⊎ (a ≢ b)
same_or_not a b = by _ (bytes_eq-Decides a b)
  where
    by : (r : Bool) → Decides r (a ≡ b) → (a ≡ b) ⊎ (a ≢ b)
    by true d = inl (d.0 refl)
    by false d = inr (λ e. true≢false (sym (d.1 e)))

module _ (H : Hashing) (x y : Content) where
  -- where one of them has a chunk below the place and the other hasn't, the calls differ
  pub one_empty : (l j : ℕ) (a b : List (List ℕ)) → length a ≤ j * 2 ^ l → j * 2 ^ l < length b → node_call H a l j ≢ node_call H b l j
  one_empty zero j a b none some e =
      empty_not_leaf 0 j j (get_or b j []) (sym (call_empty H a 0 j none) ∙ e ∙ call_leaf H b j (omega arith))
  one_empty (suc l) j a b none some e =
      let Q : ℕ → Type 0 = λ k. j * 2 ^ k < length b in
      let up : j * 2 ^ (l + 1) < length b = subst Q (sym (add-one l)) some in
      let P : ℕ → Type 0 = λ k. node_call H a k j ≡ node_call H b k j in
      let N : ℕ → Type 0 = λ k. length a ≤ j * 2 ^ k in
      empty_not_parent (l + 1) j (l + 1) j _ _
      (sym (call_empty H a (l + 1) j (subst N (sym (add-one l)) none)) ∙ subst P (sym (add-one l)) e ∙ call_parent H b l j up)

  -- where both have a chunk below the place, or neither has
  by_chunks : (l j : ℕ) → SameNode H x y l j
      → (j * 2 ^ l < length x.chunks → j * 2 ^ l < length y.chunks → (found : Option Place) × Finds H x y l j found)
      → (found : Option Place) × Finds H x y l j found
  by_chunks l j one both = elim (cases_lt (j * 2 ^ l) (length x.chunks)) [
    | inl in_x ↦ elim (cases_lt (j * 2 ^ l) (length y.chunks)) [
      | inl in_y ↦ both in_x in_y
      | inr no_y ↦ (Some (place.Node l j), differs_here H x y l j one (λ e. one_empty l j y.chunks x.chunks no_y in_x (sym e)))
    ]
    | inr no_x ↦ elim (cases_lt (j * 2 ^ l) (length y.chunks)) [
      | inl in_y ↦ (Some (place.Node l j), differs_here H x y l j one (one_empty l j x.chunks y.chunks no_x in_y))
      | inr no_y ↦ (None, agrees_empty H x y l j no_x no_y)
    ]
  ]

  -- what is found below both children is found below the parent
  joined : (l j : ℕ) → j * 2 ^ (l + 1) < length x.chunks → j * 2 ^ (l + 1) < length y.chunks → SameNode H x y l (2 * j) → SameNode H x y l (2 * j + 1)
      → (found : Option Place) × Finds H x y l (2 * j) found
      → (found : Option Place) × Finds H x y l (2 * j + 1) found
      → (found : Option Place) × Finds H x y (l + 1) j found
  joined l j in_x in_y one_left one_right (Some p, left) right = (Some p, differs_left H x y l j in_x in_y one_left one_right p left)
  joined l j in_x in_y one_left one_right (None, left) (Some p, right) = (Some p, differs_right H x y l j in_x in_y one_left one_right left p right)
  joined l j in_x in_y one_left one_right (None, left) (None, right) = (None, agrees_parent H x y l j in_x in_y one_left one_right left right)

  -- from a place with one node the walk finds the first calls that differ, or that there are none
  pub finds : (l j : ℕ) → SameNode H x y l j → (found : Option Place) × Finds H x y l j found
  finds zero j one = by_chunks zero j one (λ in_x in_y.
      let has_x : j < length x.chunks = omega arith in
      let has_y : j < length y.chunks = omega arith in
      elim (same_or_not (get_or x.chunks j []) (get_or y.chunks j [])) [
        | inl same ↦ (None, agrees_leaf H x y j has_x has_y same)
        | inr other ↦ (
          Some (place.Node 0 j),
          differs_here H x y 0 j one
              (λ e. other (same_chunk _ _ j j (sym (call_leaf H x.chunks j has_x) ∙ e ∙ call_leaf H y.chunks j has_y))),
        )
      ])
  finds (suc l) j one =
      let P : ℕ → Type 0 = λ k. (found : Option Place) × Finds H x y k j found in
      let Q : ℕ → Type 0 = λ k. SameNode H x y k j in
      let up : SameNode H x y (l + 1) j = subst Q (sym (add-one l)) one in
      subst P (add-one l) (by_chunks (l + 1) j up (λ in_x in_y.
      let other_call : (node_call H x.chunks (l + 1) j ≢ node_call H y.chunks (l + 1) j) → (found : Option Place) × Finds H x y (l + 1) j found
      = λ differ. (Some (place.Node (l + 1) j), differs_here H x y (l + 1) j up differ) in
      elim (same_or_not (node H (leaves H x.chunks) l (2 * j)) (node H (leaves H y.chunks) l (2 * j))) [
        | inr other ↦ other_call (λ e. other (same_left _ _ _ _ _ _ _ _ (sym (call_parent H x.chunks l j in_x) ∙ e ∙ call_parent H y.chunks l j in_y)))
        | inl left ↦ elim (same_or_not (node H (leaves H x.chunks) l (2 * j + 1)) (node H (leaves H y.chunks) l (2 * j + 1))) [
          | inr other ↦ other_call (λ e. other (same_right _ _ _ _ _ _ _ _ (sym (call_parent H x.chunks l j in_x) ∙ e ∙ call_parent H y.chunks l j in_y)))
          | inl right ↦ joined l j in_x in_y left right (finds l (2 * j) left) (finds l (2 * j + 1) right)
        ]
      ]))

-- equal contents in trees of one height have equal calls everywhere
pub same_calls : (H : Hashing) (x y : Content) → SameContent x y → content_height x ≡ content_height y → (p : Place) → call_at H x p ≡ call_at H y p
same_calls H x y same heights place.Commitment =
    ap (λ h. Commitment (root H h (leaves H x.chunks)) x.context x.size) heights
    ∙ ap (λ cs. Commitment (root H (content_height y) (leaves H cs)) x.context x.size) same.chunks
    ∙ ap (λ c. Commitment (root H (content_height y) (leaves H y.chunks)) c x.size) same.context
    ∙ ap (λ s. Commitment (root H (content_height y) (leaves H y.chunks)) y.context s) same.size
same_calls H x y same heights (place.Node level index) = ap (λ cs. node_call H cs level index) same.chunks

-- trees of one height that agree from the root down have the same chunks
pub same_chunks : (H : Hashing) (x y : Content) → Fits x → Fits y → content_height x ≡ content_height y → Agrees H x y (content_height x) 0 → x.chunks ≡ y.chunks
same_chunks H x y fits_x fits_y heights agrees = same_lists x.chunks y.chunks counts members
  where
    h : ℕ
    h = content_height x

    few_x : length x.chunks ≤ 2 ^ content_height x
    few_x = omega (arith, fits_x, height_fits x.max_chunks)

    few_y : length y.chunks ≤ 2 ^ content_height x
    few_y = omega (arith, fits_y, height_fits y.max_chunks, ap (λ k. 2 ^ k) heights)

    at : (i : ℕ) → i < 2 ^ content_height x → SameAt x.chunks y.chunks i
    at i to = agrees.chunks i (omega arith) (omega arith)

    counts : length x.chunks ≡ length y.chunks
    counts = elim (cases_lt (length x.chunks) (length y.chunks)) [
      | inl less ↦ absurd (omega (arith, (at (length x.chunks) (omega (arith, few_y))).there.1 less))
      | inr past ↦ elim (cases_lt (length y.chunks) (length x.chunks)) [
        | inl less ↦ absurd (omega (arith, (at (length y.chunks) (omega (arith, few_x))).there.0 less))
        | inr none ↦ omega arith
      ]
    ]

    members : (i : ℕ) (d : List ℕ) → i < length x.chunks → get_or x.chunks i d ≡ get_or y.chunks i d
    members i d inside =
        get_or_default x.chunks i d [] inside
        ∙ (at i (omega (arith, few_x))).same
        ∙ get_or_default y.chunks i [] d (omega (arith, counts))

module _ (H : Hashing) (x y : Content) (one : answer H (commitment_call H x) ≡ answer H (commitment_call H y)) where
  -- the commitments' own calls differ
  pub clash_commitment : commitment_call H x ≢ commitment_call H y → FirstClash H x y place.Commitment place.Commitment
  clash_commitment differ = record {
    before = [];
    behind_x = node_places (length x.chunks) (content_height x) 0;
    behind_y = node_places (length y.chunks) (content_height y) 0;
    in_x = refl;
    in_y = refl;
    beside = inl refl;
    equal = All-nil (λ r. call_at H x r ≡ call_at H y r);
    differ = differ;
    one_answer = one;
  }

  -- they are the same, and the heights aren't
  pub clash_roots : commitment_call H x ≡ commitment_call H y → content_height x ≢ content_height y
      → FirstClash H x y (place.Node (content_height x) 0) (place.Node (content_height y) 0)
  clash_roots same other = record {
    before = place.Commitment ∷ [];
    behind_x = (places_begin (length x.chunks) (content_height x) 0).0;
    behind_y = (places_begin (length y.chunks) (content_height y) 0).0;
    in_x = ap (λ ps. place.Commitment ∷ ps) (places_begin (length x.chunks) (content_height x) 0).1;
    in_y = ap (λ ps. place.Commitment ∷ ps) (places_begin (length y.chunks) (content_height y) 0).1;
    beside = inr (refl, refl);
    equal = All-cons (λ r. call_at H x r ≡ call_at H y r) place.Commitment [] same (All-nil (λ r. call_at H x r ≡ call_at H y r));
    differ = heights_differ H x.chunks y.chunks _ _ 0 0 other;
    one_answer = node_is_answer H x.chunks (content_height x) 0 ∙ same_root _ _ _ _ _ _ same ∙ sym (node_is_answer H y.chunks (content_height y) 0);
  }

  -- they are the same, as are the heights, and calls differ from the roots down
  pub clash_below : commitment_call H x ≡ commitment_call H y → content_height x ≡ content_height y
      → (p : Place) → Differs H x y (content_height x) 0 p → FirstClash H x y p p
  clash_below same heights p d = record {
    before = place.Commitment ∷ d.before;
    behind_x = d.behind_x;
    behind_y = d.behind_y;
    in_x = ap (λ ps. place.Commitment ∷ ps) d.in_x;
    in_y = ap (λ k. place.Commitment ∷ node_places (length y.chunks) k 0) (sym heights) ∙ ap (λ ps. place.Commitment ∷ ps) d.in_y;
    beside = inl refl;
    equal = All-cons (λ r. call_at H x r ≡ call_at H y r) place.Commitment d.before same d.equal;
    differ = d.differ;
    one_answer = d.one_answer;
  }

-- the nodes of the roots, where the calls for the commitments are the same
pub one_root : (H : Hashing) (x y : Content) → commitment_call H x ≡ commitment_call H y → content_height x ≡ content_height y → SameNode H x y (content_height x) 0
one_root H x y same heights = same_root _ _ _ _ _ _ same ∙ ap (λ k. node H (leaves H y.chunks) k 0) (sym heights)

-- equal commitments are to equal contents, or two calls differ that have one answer
pub binding : (H : Hashing) (x y : Content) → Fits x → Fits y → answer H (commitment_call H x) ≡ answer H (commitment_call H y)
    → SameContent x y ⊎ ((p : Place) × (q : Place) × FirstClash H x y p q)
binding H x y fits_x fits_y one =
    elim (same_or_not (root H (content_height x) (leaves H x.chunks)) (root H (content_height y) (leaves H y.chunks))) [
      | inr other ↦ other_call (λ e. other (same_root _ _ _ _ _ _ e))
      | inl roots ↦ elim (same_or_not x.context y.context) [
        | inr other ↦ other_call (λ e. other (same_context _ _ _ _ _ _ e))
        | inl context ↦ elim (cases_eq x.size y.size) [
          | inr other ↦ other_call (λ e. other (same_size _ _ _ _ _ _ e))
          | inl size ↦ same_call (call roots context size) context size
        ]
      ]
    ]
  where
    Found : Type 0
    Found = SameContent x y ⊎ ((p : Place) × (q : Place) × FirstClash H x y p q)

    other_call : commitment_call H x ≢ commitment_call H y → SameContent x y ⊎ ((p : Place) × (q : Place) × FirstClash H x y p q)
    other_call differ = inr (place.Commitment, place.Commitment, clash_commitment H x y one differ)

    call : root H (content_height x) (leaves H x.chunks) ≡ root H (content_height y) (leaves H y.chunks) → x.context ≡ y.context → x.size ≡ y.size → commitment_call H x ≡ commitment_call H y
    call roots context size =
        ap (λ r. Commitment r x.context x.size) roots
        ∙ ap (λ c. Commitment (root H (content_height y) (leaves H y.chunks)) c x.size) context
        ∙ ap (λ s. Commitment (root H (content_height y) (leaves H y.chunks)) y.context s) size

    by_walk : commitment_call H x ≡ commitment_call H y → x.context ≡ y.context → x.size ≡ y.size → content_height x ≡ content_height y
        → (found : Option Place) × Finds H x y (content_height x) 0 found → SameContent x y ⊎ ((p : Place) × (q : Place) × FirstClash H x y p q)
    by_walk same context size heights (None, agrees) = inl (record { context = context; size = size; chunks = same_chunks H x y fits_x fits_y heights agrees })
    by_walk same context size heights (Some p, differs) = inr (p, p, clash_below H x y one same heights p differs)

    same_call : commitment_call H x ≡ commitment_call H y → x.context ≡ y.context → x.size ≡ y.size → SameContent x y ⊎ ((p : Place) × (q : Place) × FirstClash H x y p q)
    same_call same context size = elim (cases_eq (content_height x) (content_height y)) [
      | inr other ↦ inr (place.Node (content_height x) 0, place.Node (content_height y) 0, clash_roots H x y one same other)
      | inl heights ↦ by_walk same context size heights (finds H x y (content_height x) 0 (one_root H x y same heights))
    ]
