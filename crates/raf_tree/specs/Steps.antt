-- What a call makes of a kept tree, and how many hashes it asks (this project's own).
use Rattle.std.specs.Prelude.{◌≡◌, ℕ, ◌+◌, ◌-◌, ◌*◌, ◌^◌, ◌<◌, ◌≤◌, List, length, Result, OnErr}
use Rattle.counts.specs.Counts.{raised, Rose}
use Rattle.raf_tree.specs.Hashing.{Hashing}
use Rattle.raf_tree.specs.Kept.{Kept, Keeps, KeepsBeside, LeavesPut, kept, tree_height}

-- a tree of the same size
pub record SameShape (old new : Kept) : Type 0 where
  pub hash_len : new.hash_len ≡ old.hash_len
  pub max_chunks : new.max_chunks ≡ old.max_chunks

-- a leaf put, and every other node as it was
pub record LeafPut (index : ℕ) (hash : List ℕ) (old new : Kept) : Type 0 where
  pub leaf : kept new 0 index ≡ hash
  pub others : (l j : ℕ) → l ≤ tree_height old → j < 2 ^ (tree_height old - l) → ((l ≡ 0) × (j ≡ index) → ⊥) → kept new l j ≡ kept old l j
  pub shape : SameShape old new
  pub count : new.count ≡ old.count

-- the tree of whatever leaves, so many, were put and right beside the range
abbrev pub Updated : Hashing → ℕ → ℕ → ℕ → Kept → Kept → Type 0
Updated H count first end old new = (leaves : List (List ℕ)) → length leaves ≡ count → KeepsBeside H old leaves first end → Keeps H new leaves

-- the tree of whatever leaves, so many, were put
abbrev pub Built : Hashing → ℕ → Kept → Kept → Type 0
Built H count old new = (leaves : List (List ℕ)) → length leaves ≡ count → LeavesPut old leaves → Keeps H new leaves

-- hashes asked to make the nodes above the leaves from `first` to `end - 1` of `count` anew, in a tree of height h: one without chunks;
-- else at most two for each node on each leaf's path, at most one for each leaf and three for each level, and over a range from the
-- first leaf on at most one for each leaf and two for each level
pub record UpdateCalls {T E : Type 0} (count first end h before now : ℕ) (result : Result T E) : Type 0 where
  pub later : before ≤ now
  pub failed : OnErr result (Rose before now)
  pub none : count ≡ 0 → now ≡ raised before 1
  pub paths : 0 < count → now ≤ before + 2 * (end - first) * h
  pub pass : 0 < count → now ≤ before + (end - first) + 3 * h
  pub whole : 0 < count → first ≡ 0 → now ≤ before + end + 2 * h

-- hashes asked to make every node of `count` leaves in a tree of height h: one without chunks, and at most one for each leaf, two for
-- each level and one
pub record BuildCalls {T E : Type 0} (count h before now : ℕ) (result : Result T E) : Type 0 where
  pub later : before ≤ now
  pub failed : OnErr result (Rose before now)
  pub none : count ≡ 0 → now ≡ raised before 1
  pub all : now ≤ before + count + 2 * h + 1
