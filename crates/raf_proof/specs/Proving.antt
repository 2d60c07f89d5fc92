-- What proving gives (this project's own).
use Rattle.std.specs.Prelude.{◌≡◌, ℕ, ◌+◌, ◌*◌, ◌^◌, ◌<◌, ◌≤◌, ◌↔◌, true, false, List, [], length, get_or, Option, Some, None, is_some, Result, IfOk, IfErr, OnOk, ⊤}
use Rattle.std.specs.Option.{unwrap_or, option_map}
use Rattle.counts.specs.Counts.{Rose}
use Rattle.raf_io.specs.Kinds.{kind_of}
use Rattle.raf_tree.specs.Hashing.{Hashing}
use Rattle.raf_tree.specs.Kept.{Kept, Keeps, tree_height}
use Rattle.raf_tree.specs.Tree.{leaves, commitment}
use Rattle.raf_tree.specs.Made.{IsHashLen}
use Rattle.raf_format.specs.Cipher.{Cipher}
use Rattle.raf_format.specs.File.{File, chunk_count}
use Rattle.raf.specs.Handle.{Handle, Holds, Grown, OfTree, WithTree}
use Rattle.raf.specs.Given.{OnlyAsked}
use Rattle.raf_io.specs.declared.errors.Error.{Error}
use Rattle.raf_io.specs.declared.errors.ErrorKind.{ErrorKind}
use Rattle.raf_io.specs.declared.errors.ErrorKind.TheVariants.{MerkleNotEnabled, Hash, Broken, OutOfMemory}
use Rattle.raf_check.specs.Claim.{Claim}
use Rattle.raf_check.specs.Binding.{Accepted, CanBeChecked}
use Rattle.raf_check.specs.Siblings.{SiblingsTo}

-- why there is no proof: the first of these that stands
abbrev pub WhyNoProof : Handle → Handle → ErrorKind → Type 0
WhyNoProof old new Broken = (old.broken ≡ true) × (new ≡ old)
WhyNoProof old new MerkleNotEnabled = (old.broken ≡ false) × (old.tree ≡ None) × (new ≡ old)
WhyNoProof old new Hash = (old.broken ≡ false) × (is_some old.tree ≡ true) × Rose old.outside.hash_faults new.outside.hash_faults
WhyNoProof old new OutOfMemory = (old.broken ≡ false) × (is_some old.tree ≡ true)
WhyNoProof old new _ = ⊥

-- what a proof says of an open file and of the tree that it keeps; it can be checked
pub record Tells (h : Handle) (i : ℕ) (p : Claim) (H : Hashing) (t : Kept) : Type 0 where
  pub index : p.index ≡ i
  pub size : p.size ≡ h.header.file_size
  pub id : p.id ≡ h.header.id
  pub height : p.height ≡ tree_height t
  pub can : CanBeChecked H.len p.index p.height p.siblings

-- a proof of the chunk at an index, none exactly where there is no such chunk, or why not. Over a storage that tells its bytes, with no
-- chunk missing and the tree that of its chunks, it is accepted for the file's commitment with the chunk
pub record Proves (C : Cipher) (E : List ℕ → Hashing) (index : ℕ) (old new : Handle) (result : Result (Option Claim) Error) : Type 0 where
  pub refused : IfErr result (λ e. WhyNoProof old new (kind_of e))
  pub answered : OnOk result ((old.broken ≡ false) × (is_some old.tree ≡ true))
  pub some : IfOk result (λ found. (is_some found ≡ true) ↔ (index < chunk_count old.header.chunk_size old.header.file_size))
  pub tells : (p : Claim) → IfOk result (λ found. found ≡ Some p → OfTree E old (Tells old index p))
  pub accepted : (p : Claim) (F : File) → Holds C old F → IfOk result (λ found. found ≡ Some p → WithTree E old (λ H t. (grown : Grown F H t)
      → Accepted H (commitment H t.max_chunks grown.chunks F.id F.size) (get_or grown.chunks index []) p))
  pub asked : OnlyAsked (unwrap_or (option_map tree_height old.tree) 0) old new
  pub quiet : OnOk result (new.outside.hash_faults ≡ old.outside.hash_faults)

-- the siblings on the path of a chunk may be asked for: these are the height of the tree and the length of a hash, and the index is in it
pub record Ready (height len index : ℕ) (H : Hashing) (t : Kept) : Type 0 where
  pub is_height : height ≡ tree_height t
  pub low : height ≤ 27
  pub is_len : len ≡ H.len
  pub bounds : IsHashLen len
  pub inside : index < 2 ^ height

-- the siblings below a level were gathered, by at most one hash for each
pub record Gathered (E : List ℕ → Hashing) (index len level : ℕ) (old new : Handle) (siblings : List ℕ) : Type 0 where
  pub long : length siblings ≡ level * len
  pub right : WithTree E old (λ H t. (chunks : List (List ℕ)) → Keeps H t (leaves H chunks) → SiblingsTo H chunks index level siblings)
  pub quiet : new.outside.hash_faults ≡ old.outside.hash_faults

-- why not all siblings were gathered
abbrev pub Ungathered : Handle → Handle → ErrorKind → Type 0
Ungathered old new Hash = Rose old.outside.hash_faults new.outside.hash_faults
Ungathered old new OutOfMemory = ⊤
Ungathered old new _ = ⊥
