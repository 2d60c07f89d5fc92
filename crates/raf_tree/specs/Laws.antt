-- What holds of the tree of chunks, for those that carry one through the changes of a file (this project's own).
use Rattle.std.specs.Prelude.{◌≡◌, ℕ, ◌+◌, ◌<◌, ◌≤◌, List, [], length, get_or}
use Rattle.raf_tree.specs.Hashing.{Hashing}
use Rattle.raf_tree.specs.Tree.{leaves, node}
use Rattle.raf_tree.specs.Kept.{Kept, Keeps, KeepsBeside, IsKept, kept, tree_height}
use Rattle.raf_tree.specs.Steps.{LeafPut}
use Rattle.raf_tree.specs.Since.{Since, SameBeside}

pub record TreeLaws (H : Hashing) : Type 0 where
  -- there is one leaf for each chunk: its hash under its index
  pub leaf_count : (chunks : List (List ℕ)) → length (leaves H chunks) ≡ length chunks
  pub leaf : (chunks : List (List ℕ)) (i : ℕ) → i < length chunks → get_or (leaves H chunks) i [] ≡ H.leaf (get_or chunks i []) i
  -- a kept place has its node, and any other place of the tree is empty
  pub kept : (T : Kept) (all : List (List ℕ)) (l j : ℕ) → Keeps H T all → IsKept T l j → kept T l j ≡ node H all l j
  pub empty : (T : Kept) (all : List (List ℕ)) (l j : ℕ) → Keeps H T all → l ≤ tree_height T → (IsKept T l j → ⊥) → node H all l j ≡ H.empty l j
  -- chunks that are the same beside a range have leaves that are
  pub beside : (first end : ℕ) (before after : List (List ℕ)) → SameBeside first end before after → SameBeside first end (leaves H before) (leaves H after)
  -- a change of leaves begins with none of them put,
  pub begins : (before after : List (List ℕ)) (first : ℕ) (T : Kept) → Keeps H T before → Since H before after first first T
  -- goes on with each leaf put in turn,
  pub goes_on : (before after : List (List ℕ)) (first mid : ℕ) (T U : Kept)
      → Since H before after first mid T → length before ≤ T.max_chunks → first ≤ mid → mid < T.max_chunks
      → LeafPut mid (get_or after mid []) T U → Since H before after first (mid + 1) U
  -- and ends, with all leaves of the range put, ready for an update of the range
  pub ends : (before after : List (List ℕ)) (first mid end : ℕ) (T : Kept)
      → Since H before after first mid T → SameBeside first end before after → mid ≤ end
      → ((j : ℕ) → first ≤ j → j < end → j < length after → j < mid) → KeepsBeside H T after first end
