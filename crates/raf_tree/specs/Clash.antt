-- Two contents under one hasher: where their calls differ first (this project's own).
use Rattle.std.specs.Prelude.{◌≡◌, ◌≢◌, ◌⊎◌, ◌≤◌, List, ◌∷◌, ◌++◌, length}
use Rattle.std.specs.List.{All}
use Rattle.raf_tree.specs.Hashing.{Hashing}
use Rattle.raf_tree.specs.Calls.{Content, answer, call_at, places, content_height}
use Rattle.raf_tree.specs.declared.place.Place.{Place}
use Rattle.raf_tree.specs.declared.place.Place.TheVariants as place

-- the context, the size and the chunks are equal
pub record SameContent (x y : Content) : Type 0 where
  pub context : x.context ≡ y.context
  pub size : x.size ≡ y.size
  pub chunks : x.chunks ≡ y.chunks

-- the tree has room for the chunks
abbrev pub Fits : Content → Type 0
Fits x = length x.chunks ≤ x.max_chunks

-- two places have one level and index, or are the roots
abbrev pub Beside : Content → Content → Place → Place → Type 0
Beside x y p q = (p ≡ q) ⊎ ((p ≡ place.Node (content_height x) 0) × (q ≡ place.Node (content_height y) 0))

-- a place of each of two contents, in the order of places, is the first whose calls differ, and these calls have one answer
pub record FirstClash (H : Hashing) (x y : Content) (p q : Place) : Type 0 where
  pub before : List Place
  pub behind_x : List Place
  pub behind_y : List Place
  pub in_x : places x ≡ before ++ p ∷ behind_x
  pub in_y : places y ≡ before ++ q ∷ behind_y
  pub beside : Beside x y p q
  pub equal : All (λ r. call_at H x r ≡ call_at H y r) before
  pub differ : call_at H x p ≢ call_at H y q
  pub one_answer : answer H (call_at H x p) ≡ answer H (call_at H y q)
