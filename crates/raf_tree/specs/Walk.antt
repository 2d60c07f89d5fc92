-- The walk down two trees of one height, left before right (this project's own).
use Rattle.std.specs.Prelude.{◌≡◌, ◌≢◌, ◌⊎◌, ◌↔◌, ℕ, ◌+◌, ◌*◌, ◌^◌, ◌<◌, ◌≤◌, List, [], ◌∷◌, ◌++◌, length, get_or, Option, Some, None}
use Rattle.std.specs.List.{All}
use Rattle.raf_tree.specs.Hashing.{Hashing}
use Rattle.raf_tree.specs.Tree.{leaves, node}
use Rattle.raf_tree.specs.Calls.{Content, answer, call_at, commitment_call, content_height, node_call, node_places}
use Rattle.raf_tree.specs.Clash.{SameContent, Fits, FirstClash}
use Rattle.raf_tree.specs.declared.place.Place.{Place}
use Rattle.raf_tree.specs.declared.place.Place.TheVariants as place

-- the node of a place is the same in both trees
abbrev pub SameNode : Hashing → Content → Content → ℕ → ℕ → Type 0
SameNode H x y l j = node H (leaves H x.chunks) l j ≡ node H (leaves H y.chunks) l j

-- its call is
abbrev pub SameCall : Hashing → Content → Content → ℕ → ℕ → Type 0
SameCall H x y l j = node_call H x.chunks l j ≡ node_call H y.chunks l j

-- a chunk is below the place
abbrev pub IsFilled : Content → ℕ → ℕ → Type 0
IsFilled x l j = j * 2 ^ l < length x.chunks

-- the chunks of an index are equal, or both aren't there
pub record SameAt (xs ys : List (List ℕ)) (i : ℕ) : Type 0 where
  pub there : (i < length xs) ↔ (i < length ys)
  pub same : get_or xs i [] ≡ get_or ys i []

-- from a place down, two contents have the same places and calls, and the same chunks
pub record Agrees (H : Hashing) (x y : Content) (l j : ℕ) : Type 0 where
  pub places : node_places (length x.chunks) l j ≡ node_places (length y.chunks) l j
  pub equal : All (λ r. call_at H x r ≡ call_at H y r) (node_places (length x.chunks) l j)
  pub chunks : (i : ℕ) → j * 2 ^ l ≤ i → i < (j + 1) * 2 ^ l → SameAt x.chunks y.chunks i

-- from a place down, this is the first place at which their calls differ, and these calls have one answer
pub record Differs (H : Hashing) (x y : Content) (l j : ℕ) (p : Place) : Type 0 where
  pub before : List Place
  pub behind_x : List Place
  pub behind_y : List Place
  pub in_x : node_places (length x.chunks) l j ≡ before ++ p ∷ behind_x
  pub in_y : node_places (length y.chunks) l j ≡ before ++ p ∷ behind_y
  pub equal : All (λ r. call_at H x r ≡ call_at H y r) before
  pub differ : call_at H x p ≢ call_at H y p
  pub one_answer : answer H (call_at H x p) ≡ answer H (call_at H y p)

-- what a walk from a place down finds
abbrev pub Finds : Hashing → Content → Content → ℕ → ℕ → Option Place → Type 0
Finds H x y l j None = Agrees H x y l j
Finds H x y l j (Some p) = Differs H x y l j p

-- what holds of two trees, for those that walk down them
pub record WalkLaws (H : Hashing) (x y : Content) : Type 0 where
  -- the calls of a place are the same where no chunk is below it in both, and differ where that is so in one
  pub both_empty : (l j : ℕ) → (IsFilled x l j → ⊥) → (IsFilled y l j → ⊥) → SameCall H x y l j
  pub one_empty : (l j : ℕ) → SameCall H x y l j → IsFilled x l j ↔ IsFilled y l j
  -- those of leaves where the chunks are, and those of parents where both nodes below are
  pub leaf : (j : ℕ) → IsFilled x 0 j → IsFilled y 0 j → SameCall H x y 0 j ↔ (get_or x.chunks j [] ≡ get_or y.chunks j [])
  pub parent : (l j : ℕ) → IsFilled x (l + 1) j → IsFilled y (l + 1) j
      → SameCall H x y (l + 1) j ↔ (SameNode H x y l (2 * j) × SameNode H x y l (2 * j + 1))
  -- a walk stops where calls differ, or behind a leaf or an empty place,
  pub stops : (l j : ℕ) → SameNode H x y l j → (SameCall H x y l j → ⊥) → Finds H x y l j (Some (place.Node l j))
  pub ends : (l j : ℕ) → SameCall H x y l j → (l ≡ 0) ⊎ (IsFilled x l j → ⊥) → Finds H x y l j None
  -- and else goes on from both places below
  pub left : (l j : ℕ) (p : Place) → IsFilled x (l + 1) j → SameCall H x y (l + 1) j → Finds H x y l (2 * j) (Some p) → Finds H x y (l + 1) j (Some p)
  pub right : (l j : ℕ) (found : Option Place) → IsFilled x (l + 1) j → SameCall H x y (l + 1) j → Finds H x y l (2 * j) None
      → Finds H x y l (2 * j + 1) found → Finds H x y (l + 1) j found

-- what equal commitments are to
pub record BindingLaws (H : Hashing) (x y : Content) (one : answer H (commitment_call H x) ≡ answer H (commitment_call H y)) : Type 0 where
  pub commitments : (commitment_call H x ≡ commitment_call H y → ⊥) → FirstClash H x y place.Commitment place.Commitment
  pub roots : commitment_call H x ≡ commitment_call H y → (content_height x ≡ content_height y → ⊥)
      → FirstClash H x y (place.Node (content_height x) 0) (place.Node (content_height y) 0)
  pub below : commitment_call H x ≡ commitment_call H y → content_height x ≡ content_height y → (p : Place)
      → Finds H x y (content_height x) 0 (Some p) → FirstClash H x y p p
  -- a walk that finds none was over the same chunks
  pub same : Fits x → Fits y → content_height x ≡ content_height y → Finds H x y (content_height x) 0 None → x.chunks ≡ y.chunks
  -- equal contents, or two calls that differ and have one answer
  pub either : Fits x → Fits y → SameContent x y ⊎ ((p : Place) × (q : Place) × FirstClash H x y p q)
