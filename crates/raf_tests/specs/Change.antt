-- A change of a file's chunks, and its tree (this project's own).
use Rattle.std.specs.Prelude.{◌≡◌, ℕ, ◌+◌, ◌-◌, ◌*◌, ◌<◌, ◌≤◌, List, [], length, get_or, take, drop}
use Rattle.raf_tree.specs.Hashing.{Hashing}
use Rattle.raf_tree.specs.Tree.{leaves}
use Rattle.raf_tree.specs.Kept.{Kept, Keeps}
use Rattle.raf_tree.specs.Since.{SameBeside}

-- beside the range the chunks stay, those from `first` to `mid - 1` are the text's, and of the range there are no others
pub record IsChange (text : List ℕ) (chunk_size first mid end : ℕ) (before after : List (List ℕ)) : Type 0 where
  pub beside : SameBeside first end before after
  pub there : mid ≤ length after
  pub touched : (i : ℕ) → first ≤ i → i < mid → get_or after i [] ≡ take chunk_size (drop (i * chunk_size) text)
  pub removed : (i : ℕ) → first ≤ i → i < end → i < length after → i < mid

-- the tree of the chunks before has become that of the chunks after
abbrev pub Carried : Hashing → List ℕ → ℕ → ℕ → ℕ → ℕ → ℕ → Kept → Kept → Type 0
Carried H text chunk_size count first mid end old new =
    (before after : List (List ℕ))
    → length before ≤ old.max_chunks → length after ≡ count → IsChange text chunk_size first mid end before after
    → Keeps H old (leaves H before) → Keeps H new (leaves H after)

-- hashes asked by a change: one for each touched chunk, and those of the update
pub record ChangeCalls (count first mid end h before now : ℕ) : Type 0 where
  pub later : before ≤ now
  pub none : count ≡ 0 → now ≤ before + (mid - first) + 1
  pub paths : 0 < count → now ≤ before + (mid - first) + 2 * (end - first) * h
  pub pass : 0 < count → now ≤ before + (mid - first) + (end - first) + 3 * h
