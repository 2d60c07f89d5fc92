-- The walk down two trees: what is found at a place, from what is found below it.
use Rattle.std.proofs.Common.{◌≡◌, ◌≢◌, ℕ, ◌+◌, ◌*◌, ◌^◌, ◌<◌, ◌≤◌, List, [], ◌∷◌, ◌++◌, length, get_or, sym, ap, subst, ◌∙◌, inl, inr, arith, append_assoc}
use Rattle.std.specs.List.{All}
use Rattle.std.proofs.lemmas.Bool.{cases_lt}
use Rattle.std.proofs.lemmas.List.{get_or_past}
use Rattle.std.proofs.lemmas.List.Elements.{All-nil, All-cons, All-append}
use Rattle.raf_tree.specs.Hashing.{Hashing}
use Rattle.raf_tree.specs.Tree.{leaves, node}
use Rattle.raf_tree.specs.Calls.{Content, call_at, node_call, node_places}
use Rattle.raf_tree.specs.Calls.Call.{Leaf, Parent}
use Rattle.raf_tree.specs.Walk.{SameNode, Agrees, Differs}
use Rattle.raf_tree.specs.declared.place.Place.{Place}
use Rattle.raf_tree.specs.declared.place.Place.TheVariants as place
use Rattle.raf_tree.proofs.Nodes.{doubled, next_doubled}
use Rattle.raf_tree.proofs.Calls.{call_empty, call_leaf, call_parent, node_is_answer, places_end, places_leaf, places_parent, places_begin}

module _ (H : Hashing) (x y : Content) where
  abbrev SameAtPlace : Place → Type 0
  SameAtPlace r = call_at H x r ≡ call_at H y r

  -- the calls of the place itself differ
  pub differs_here : (l j : ℕ) → SameNode H x y l j → node_call H x.chunks l j ≢ node_call H y.chunks l j → Differs H x y l j (place.Node l j)
  differs_here l j one differ = record {
    before = [];
    behind_x = (places_begin (length x.chunks) l j).0;
    behind_y = (places_begin (length y.chunks) l j).0;
    in_x = (places_begin (length x.chunks) l j).1;
    in_y = (places_begin (length y.chunks) l j).1;
    equal = All-nil SameAtPlace;
    differ = differ;
    one_answer = node_is_answer H x.chunks l j ∙ one ∙ sym (node_is_answer H y.chunks l j);
  }

  -- no chunk is below the place in both
  pub agrees_empty : (l j : ℕ) → length x.chunks ≤ j * 2 ^ l → length y.chunks ≤ j * 2 ^ l → Agrees H x y l j
  agrees_empty l j no_x no_y = record {
    places = places_end (length x.chunks) l j no_x ∙ sym (places_end (length y.chunks) l j no_y);
    equal = subst (λ ps. All SameAtPlace ps) (sym (places_end (length x.chunks) l j no_x))
        (All-cons SameAtPlace (place.Node l j) [] (call_empty H x.chunks l j no_x ∙ sym (call_empty H y.chunks l j no_y)) (All-nil SameAtPlace));
    chunks = λ i from to. record {
      there = (λ h. absurd (omega arith), λ h. absurd (omega arith));
      same = get_or_past x.chunks i [] (omega arith) ∙ sym (get_or_past y.chunks i [] (omega arith));
    };
  }

  -- a chunk is there in both, and it is the same
  pub agrees_leaf : (j : ℕ) → j < length x.chunks → j < length y.chunks → get_or x.chunks j [] ≡ get_or y.chunks j [] → Agrees H x y 0 j
  agrees_leaf j in_x in_y same = record {
    places = places_leaf (length x.chunks) j ∙ sym (places_leaf (length y.chunks) j);
    equal = subst (λ ps. All SameAtPlace ps) (sym (places_leaf (length x.chunks) j))
        (All-cons SameAtPlace (place.Node 0 j) [] (call_leaf H x.chunks j in_x ∙ ap (λ m. Leaf m j) same ∙ sym (call_leaf H y.chunks j in_y)) (All-nil SameAtPlace));
    chunks = λ i from to.
        let at : j ≡ i = omega arith in
        record {
          there = (λ h. omega arith, λ h. omega arith);
          same = subst (λ (k : ℕ). get_or x.chunks k [] ≡ get_or y.chunks k []) at same;
        };
  }

  -- from the two places below
  module _ (l j : ℕ) (in_x : j * 2 ^ (l + 1) < length x.chunks) (in_y : j * 2 ^ (l + 1) < length y.chunks) where
    abbrev PlacesX : List Place
    PlacesX = node_places (length x.chunks) l (2 * j)

    one_call : SameNode H x y l (2 * j) → SameNode H x y l (2 * j + 1) → node_call H x.chunks (l + 1) j ≡ node_call H y.chunks (l + 1) j
    one_call left right =
        call_parent H x.chunks l j in_x
        ∙ ap (λ n. Parent n (node H (leaves H x.chunks) l (2 * j + 1)) (l + 1) j) left
        ∙ ap (λ n. Parent (node H (leaves H y.chunks) l (2 * j)) n (l + 1) j) right
        ∙ sym (call_parent H y.chunks l j in_y)

    pub agrees_parent : SameNode H x y l (2 * j) → SameNode H x y l (2 * j + 1) → Agrees H x y l (2 * j) → Agrees H x y l (2 * j + 1) → Agrees H x y (l + 1) j
    agrees_parent one_left one_right left right = record {
      places = places_parent (length x.chunks) l j in_x
          ∙ ap (λ ps. place.Node (l + 1) j ∷ (ps ++ node_places (length x.chunks) l (2 * j + 1))) left.places
          ∙ ap (λ ps. place.Node (l + 1) j ∷ (node_places (length y.chunks) l (2 * j) ++ ps)) right.places
          ∙ sym (places_parent (length y.chunks) l j in_y);
      equal = subst (λ ps. All SameAtPlace ps) (sym (places_parent (length x.chunks) l j in_x))
          (All-cons SameAtPlace (place.Node (l + 1) j) _ (one_call one_left one_right) (All-append SameAtPlace _ _ left.equal right.equal));
      chunks = λ i from to. elim (cases_lt i ((2 * j + 1) * 2 ^ l)) [
        | inl low ↦ left.chunks i (omega (arith, doubled j l)) low
        | inr high ↦ right.chunks i high (omega (arith, next_doubled j l))
      ];
    }

    pub differs_left : SameNode H x y l (2 * j) → SameNode H x y l (2 * j + 1) → (p : Place) → Differs H x y l (2 * j) p → Differs H x y (l + 1) j p
    differs_left one_left one_right p d = record {
      before = place.Node (l + 1) j ∷ d.before;
      behind_x = d.behind_x ++ node_places (length x.chunks) l (2 * j + 1);
      behind_y = d.behind_y ++ node_places (length y.chunks) l (2 * j + 1);
      in_x = places_parent (length x.chunks) l j in_x
          ∙ ap (λ ps. place.Node (l + 1) j ∷ (ps ++ node_places (length x.chunks) l (2 * j + 1))) d.in_x
          ∙ ap (λ ps. place.Node (l + 1) j ∷ ps) (append_assoc d.before (p ∷ d.behind_x) _);
      in_y = places_parent (length y.chunks) l j in_y
          ∙ ap (λ ps. place.Node (l + 1) j ∷ (ps ++ node_places (length y.chunks) l (2 * j + 1))) d.in_y
          ∙ ap (λ ps. place.Node (l + 1) j ∷ ps) (append_assoc d.before (p ∷ d.behind_y) _);
      equal = All-cons SameAtPlace (place.Node (l + 1) j) d.before (one_call one_left one_right) d.equal;
      differ = d.differ;
      one_answer = d.one_answer;
    }

    pub differs_right : SameNode H x y l (2 * j) → SameNode H x y l (2 * j + 1) → Agrees H x y l (2 * j) → (p : Place) → Differs H x y l (2 * j + 1) p → Differs H x y (l + 1) j p
    differs_right one_left one_right left p d = record {
      before = place.Node (l + 1) j ∷ (node_places (length x.chunks) l (2 * j) ++ d.before);
      behind_x = d.behind_x;
      behind_y = d.behind_y;
      in_x = places_parent (length x.chunks) l j in_x
          ∙ ap (λ ps. place.Node (l + 1) j ∷ (node_places (length x.chunks) l (2 * j) ++ ps)) d.in_x
          ∙ ap (λ ps. place.Node (l + 1) j ∷ ps) (sym (append_assoc (node_places (length x.chunks) l (2 * j)) d.before (p ∷ d.behind_x)));
      in_y = places_parent (length y.chunks) l j in_y
          ∙ ap (λ ps. place.Node (l + 1) j ∷ (node_places (length y.chunks) l (2 * j) ++ ps)) d.in_y
          ∙ ap (λ ps. place.Node (l + 1) j ∷ (ps ++ (d.before ++ p ∷ d.behind_y))) (sym left.places)
          ∙ ap (λ ps. place.Node (l + 1) j ∷ ps) (sym (append_assoc (node_places (length x.chunks) l (2 * j)) d.before (p ∷ d.behind_y)));
      equal = All-cons SameAtPlace (place.Node (l + 1) j) _ (one_call one_left one_right) (All-append SameAtPlace _ _ left.equal d.equal);
      differ = d.differ;
      one_answer = d.one_answer;
    }
