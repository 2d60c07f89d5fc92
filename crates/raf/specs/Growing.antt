-- A tree is made anew from the chunks of a file (this project's own).
use Rattle.std.specs.Prelude.{◌≡◌, ℕ, ◌+◌, ◌-◌, ◌*◌, ◌<◌, ◌≤◌, ◌⊎◌, min, Bool, true, false, List, [], length, Option, Some, None, Result}
use Rattle.std.specs.Prelude.{IfErr, OnOk, OnErr}
use Rattle.counts.specs.Counts.{Rose}
use Rattle.raf_io.specs.Kinds.{kind_of}
use Rattle.raf_tree.specs.Hashing.{Hashing}
use Rattle.raf_tree.specs.Tree.{leaves}
use Rattle.raf_tree.specs.Kept.{Kept as Tree, Keeps, tree_height}
use Rattle.raf_tree.specs.Since.{Since}
use Rattle.raf_format.specs.Cipher.{Cipher}
use Rattle.raf_format.specs.File.{shape_of, layout_len, record_start, chunk_count, chunk_at}
use Rattle.raf_format.specs.declared.header.Header.{Header}
use Rattle.raf_io.specs.declared.errors.Error.{Error}
use Rattle.raf_io.specs.declared.errors.ErrorKind.{ErrorKind}
use Rattle.raf_io.specs.declared.errors.ErrorKind.TheVariants.{Io, AuthenticationFailed, Hash}
use Rattle.raf.specs.Outside.{Outside, Kept, Quiet, Caused, Moved}
use Rattle.raf.specs.Read.{chunks_of}
use Rattle.raf.specs.Session.{present}
use Rattle.raf.specs.Carry.{SameTree, OfTrees}

-- why no tree was made: the storage or the hasher failed, or a chunk is missing
abbrev pub Ungrown : ErrorKind → Outside → Outside → Type 0
Ungrown Io old new = Caused Io old new
Ungrown Hash old new = Caused Hash old new
Ungrown AuthenticationFailed old new = Quiet old new
Ungrown _ old new = ⊥

-- the leaves of the chunks before an index were put, and each of these chunks is there
pub record LeavesSoFar (C : Cipher) (E : List ℕ → Hashing) (chunk_key : List ℕ) (h : Header) (index : ℕ) (old now : Outside)
    (before tree : Option Tree) (begun : Bool) : Type 0 where
  pub there : (b : List ℕ) → old.bytes ≡ Some b → (i : ℕ) → i < index → (m : List ℕ) × (chunk_at C chunk_key h b i ≡ Some m)
  pub put : (b : List ℕ) → old.bytes ≡ Some b → OfTrees E old.setting before tree
      (λ H _ u. Since H [] (leaves H (present (chunks_of C chunk_key h b))) 0 index u)
  pub shapes : SameTree before tree
  pub quiet : Quiet old now
  pub kept : Kept old now
  pub moved : Moved old now (layout_len (shape_of C h) h.file_size)
      (min (record_start (shape_of C h) index) (layout_len (shape_of C h) h.file_size) - 96) 0 0 index
  pub none : index ≡ 0 → (begun ≡ false) × (tree ≡ before)
  pub some : 0 < index → (begun ≡ true) × Rose old.calls now.calls
  pub strays : (b : List ℕ) → old.bytes ≡ Some b → layout_len (shape_of C h) h.file_size ≤ length b → now.strays ≡ old.strays

-- why not all leaves were put
pub record LeavesStopped (C : Cipher) (chunk_key : List ℕ) (h : Header) (old now : Outside) (before tree : Option Tree) (begun : Bool)
    (e : Error) : Type 0 where
  pub missing : (b : List ℕ) → old.bytes ≡ Some b → kind_of e ≡ AuthenticationFailed → (i : ℕ)
      × (i < chunk_count h.chunk_size h.file_size) × (chunk_at C chunk_key h b i ≡ None)
  pub kind : Ungrown (kind_of e) old now
  pub some : 1 ≤ chunk_count h.chunk_size h.file_size
  pub shapes : SameTree before tree
  pub kept : Kept old now
  pub moved : Moved old now (layout_len (shape_of C h) h.file_size) (layout_len (shape_of C h) h.file_size - 96) 0 0
      (chunk_count h.chunk_size h.file_size)
  pub strays : (b : List ℕ) → old.bytes ≡ Some b → layout_len (shape_of C h) h.file_size ≤ length b → now.strays ≡ old.strays
  pub stopped : ((begun ≡ true) × Rose old.calls now.calls) ⊎ ((begun ≡ false) × (now.calls ≡ old.calls) × (tree ≡ before))

-- the tree was made anew, or why not. `begun` says that a hash was asked
pub record Grew (C : Cipher) (E : List ℕ → Hashing) (chunk_key : List ℕ) (h : Header) (old new : Outside) (before tree : Option Tree)
    (begun : Bool) (result : Result (Unit {0}) Error) : Type 0 where
  pub there : (b : List ℕ) → old.bytes ≡ Some b → OnOk result
      ((i : ℕ) → i < chunk_count h.chunk_size h.file_size → (m : List ℕ) × (chunk_at C chunk_key h b i ≡ Some m))
  pub grown : (b : List ℕ) → old.bytes ≡ Some b → OnOk result
      (OfTrees E old.setting before tree (λ H _ u. Keeps H u (leaves H (present (chunks_of C chunk_key h b)))))
  pub missing : (b : List ℕ) → old.bytes ≡ Some b
      → IfErr result (λ e. kind_of e ≡ AuthenticationFailed → (i : ℕ) × (i < chunk_count h.chunk_size h.file_size)
      × (chunk_at C chunk_key h b i ≡ None))
  pub kinds : IfErr result (λ e. Ungrown (kind_of e) old new)
  pub some : IfErr result (λ e. (kind_of e ≡ Hash → ⊥) → 1 ≤ chunk_count h.chunk_size h.file_size)
  pub quiet : OnOk result (Quiet old new)
  pub shapes : SameTree before tree
  pub kept : Kept old new
  pub moved : Moved old new (layout_len (shape_of C h) h.file_size) (layout_len (shape_of C h) h.file_size - 96) 0 0 (new.calls - old.calls)
  pub calls : (t : Tree) → before ≡ Some t → new.calls ≤ old.calls + 2 * chunk_count h.chunk_size h.file_size + 2 * tree_height t + 1
  pub strays : (b : List ℕ) → old.bytes ≡ Some b → layout_len (shape_of C h) h.file_size ≤ length b → new.strays ≡ old.strays
  pub stopped : OnErr result (((begun ≡ true) × Rose old.calls new.calls) ⊎ ((begun ≡ false) × (new.calls ≡ old.calls) × (tree ≡ before)))
