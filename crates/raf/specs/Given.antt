-- A node of an open file's tree, as it is given away (this project's own).
use Rattle.std.specs.Prelude.{◌≡◌, ℕ, ◌+◌, ◌-◌, ◌^◌, ◌<◌, ◌≤◌, true, false, List, length, take, drop, None, Result, IfErr, OnOk}
use Rattle.counts.specs.Counts.{Rose}
use Rattle.raf_io.specs.Kinds.{kind_of}
use Rattle.raf_tree.specs.Hashing.{Hashing}
use Rattle.raf_tree.specs.Tree.{node}
use Rattle.raf_tree.specs.Kept.{Kept, Keeps, IsKept, tree_height}
use Rattle.raf.specs.Outside.{Outside}
use Rattle.raf.specs.Handle.{Handle, OfTree, WithTree, hash_len_of}
use Rattle.raf_io.specs.declared.errors.Error.{Error}
use Rattle.raf_io.specs.declared.errors.ErrorKind.{ErrorKind}
use Rattle.raf_io.specs.declared.errors.ErrorKind.TheVariants.{InvalidArgument, MerkleNotEnabled, Hash, Broken}
use Rattle.raf_io.specs.declared.errors.Reason.TheVariants.{CommitmentBuffer}

-- the place is in the tree
abbrev pub IsPlace : Kept → ℕ → ℕ → Type 0
IsPlace t level index = (level ≤ tree_height t) × (index < 2 ^ (tree_height t - level))

-- nothing but the counts of the hasher moved, by at most so many calls
pub record Asked (most : ℕ) (old new : Outside) : Type 0 where
  pub same : new ≡ record old { hash_faults = new.hash_faults; calls = new.calls }
  pub faults_later : old.hash_faults ≤ new.hash_faults
  pub calls_later : old.calls ≤ new.calls
  pub calls_most : new.calls ≤ old.calls + most

-- of a file nothing else moved
pub record OnlyAsked (most : ℕ) (old new : Handle) : Type 0 where
  pub same : new ≡ record old { outside = new.outside }
  pub asked : Asked most old.outside new.outside

-- why a node isn't given, where there is room for so many bytes: the first of these that stands. A hash is asked for an empty place alone
abbrev pub WhyNoNode : (List ℕ → Hashing) → ℕ → ℕ → ℕ → Handle → Handle → ErrorKind → Type 0
WhyNoNode E room level index old new Broken = (old.broken ≡ true) × (new ≡ old)
WhyNoNode E room level index old new MerkleNotEnabled = (old.broken ≡ false) × (old.tree ≡ None) × (new ≡ old)
WhyNoNode E room level index old new (InvalidArgument CommitmentBuffer) = (old.broken ≡ false) × OfTree E old (λ H t. room < H.len) × (new ≡ old)
WhyNoNode E room level index old new Hash = (old.broken ≡ false)
    × OfTree E old (λ H t. (H.len ≤ room) × (IsKept t level index → ⊥) × Rose old.outside.hash_faults new.outside.hash_faults)
WhyNoNode E room level index old new _ = ⊥

-- the node of a place: of whatever leaves the tree keeps
abbrev pub IsNodeOf : Hashing → Kept → ℕ → ℕ → List ℕ → Type 0
IsNodeOf H t level index bytes = (leaves : List (List ℕ)) → Keeps H t leaves → bytes ≡ node H leaves level index

-- the node of a place, in front of a buffer whose other bytes stay
pub record Given (E : List ℕ → Hashing) (level index : ℕ) (old new : Handle) (out out' : List ℕ) (result : Result (Unit {0}) Error) : Type 0 where
  pub given : OnOk result ((old.broken ≡ false)
      × OfTree E old (λ H t. (H.len ≤ length out) × IsNodeOf H t level index (take H.len out')))
  pub refused : IfErr result (λ e. WhyNoNode E (length out) level index old new (kind_of e))
  pub rest : drop (hash_len_of E old.outside.setting) out' ≡ drop (hash_len_of E old.outside.setting) out
  pub asked : OnlyAsked 1 old new
  pub quiet : OnOk result (new.outside.hash_faults ≡ old.outside.hash_faults)
  pub kept : WithTree E old (λ H t. IsKept t level index → new.outside.calls ≡ old.outside.calls)
