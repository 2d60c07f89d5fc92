-- The chunks of a file are compared with the tree that is kept, and opened one after the other (this project's own).
use Rattle.std.specs.Prelude.{◌≡◌, ℕ, ◌-◌, ◌<◌, ◌≤◌, min, Bool, true, false, List, length, Option, Some, None, Result, IfOk, IfErr, OnOk}
use Rattle.raf_io.specs.Kinds.{kind_of}
use Rattle.raf_tree.specs.Hashing.{Hashing}
use Rattle.raf_tree.specs.Kept.{Kept as Tree}
use Rattle.raf_format.specs.Cipher.{Cipher}
use Rattle.raf_format.specs.File.{shape_of, layout_len, record_start, record_len, chunk_count, chunk_at}
use Rattle.raf_format.specs.declared.header.Header.{Header}
use Rattle.raf_io.specs.declared.errors.Error.{Error}
use Rattle.raf_io.specs.declared.errors.ErrorKind.{ErrorKind}
use Rattle.raf_io.specs.declared.errors.ErrorKind.TheVariants.{Io, AuthenticationFailed, Hash}
use Rattle.raf.specs.Outside.{Outside, Kept, Quiet, Caused, Moved}
use Rattle.raf.specs.Handle.{Matches}
use Rattle.raf.specs.Loaded.{Unopened}

-- where there is a hasher under this setting, this holds of its answers
abbrev pub UnderSetting : (List ℕ → Hashing) → Option (List ℕ) → (Hashing → Type 0) → Type 0
UnderSetting E setting P = (x : List ℕ) → setting ≡ Some x → P (E x)

-- the storage or the hasher failed
abbrev pub Unanswered : ErrorKind → Outside → Outside → Type 0
Unanswered Io old new = Caused Io old new
Unanswered Hash old new = Caused Hash old new
Unanswered _ old new = ⊥

-- one chunk was compared
pub record Compares (C : Cipher) (E : List ℕ → Hashing) (chunk_key : List ℕ) (h : Header) (t : Tree) (index : ℕ) (old new : Outside)
    (result : Result Bool Error) : Type 0 where
  pub same : (b : List ℕ) → old.bytes ≡ Some b
      → IfOk result (λ r. UnderSetting E old.setting (λ H. (r ≡ true → Matches H t index (chunk_at C chunk_key h b index))
      × (r ≡ false → Matches H t index (chunk_at C chunk_key h b index) → ⊥)))
  pub kinds : IfErr result (λ e. Unanswered (kind_of e) old new)
  pub quiet : OnOk result (Quiet old new)
  pub kept : Kept old new
  pub moved : Moved old new (layout_len (shape_of C h) h.file_size) (record_len (shape_of C h) h.file_size index) 0 0 1
  pub strays : (b : List ℕ) → old.bytes ≡ Some b → layout_len (shape_of C h) h.file_size ≤ length b → new.strays ≡ old.strays

-- the chunks before an index match
pub record MatchedSoFar (C : Cipher) (E : List ℕ → Hashing) (chunk_key : List ℕ) (h : Header) (t : Tree) (index : ℕ) (old now : Outside) :
    Type 0 where
  pub same : (b : List ℕ) → old.bytes ≡ Some b → UnderSetting E old.setting
      (λ H. (i : ℕ) → i < index → Matches H t i (chunk_at C chunk_key h b i))
  pub quiet : Quiet old now
  pub kept : Kept old now
  pub moved : Moved old now (layout_len (shape_of C h) h.file_size)
      (min (record_start (shape_of C h) index) (layout_len (shape_of C h) h.file_size) - 96) 0 0 index
  pub strays : (b : List ℕ) → old.bytes ≡ Some b → layout_len (shape_of C h) h.file_size ≤ length b → now.strays ≡ old.strays

-- the first chunk was found that doesn't match, or there is none
pub record Verifies (C : Cipher) (E : List ℕ → Hashing) (chunk_key : List ℕ) (h : Header) (t : Tree) (old new : Outside)
    (result : Result (Option ℕ) Error) : Type 0 where
  pub all : (b : List ℕ) → old.bytes ≡ Some b
      → IfOk result (λ found. UnderSetting E old.setting (λ H. found ≡ None → (i : ℕ) → i < chunk_count h.chunk_size h.file_size
      → Matches H t i (chunk_at C chunk_key h b i)))
  pub first : (b : List ℕ) → old.bytes ≡ Some b
      → IfOk result (λ found. UnderSetting E old.setting (λ H. (n : ℕ) → found ≡ Some n
      → (n < chunk_count h.chunk_size h.file_size) × ((i : ℕ) → i < n → Matches H t i (chunk_at C chunk_key h b i))
      × (Matches H t n (chunk_at C chunk_key h b n) → ⊥)))
  pub kinds : IfErr result (λ e. Unanswered (kind_of e) old new)
  pub some : IfErr result (λ _. 1 ≤ chunk_count h.chunk_size h.file_size)
  pub quiet : OnOk result (Quiet old new)
  pub kept : Kept old new
  pub moved : Moved old new (layout_len (shape_of C h) h.file_size) (layout_len (shape_of C h) h.file_size - 96) 0 0
      (chunk_count h.chunk_size h.file_size)
  pub strays : (b : List ℕ) → old.bytes ≡ Some b → layout_len (shape_of C h) h.file_size ≤ length b → new.strays ≡ old.strays

-- the chunks before an index are there
pub record ThereSoFar (C : Cipher) (chunk_key : List ℕ) (h : Header) (index : ℕ) (old now : Outside) : Type 0 where
  pub there : (b : List ℕ) → old.bytes ≡ Some b → (i : ℕ) → i < index → (m : List ℕ) × (chunk_at C chunk_key h b i ≡ Some m)
  pub quiet : Quiet old now
  pub kept : Kept old now
  pub moved : Moved old now (layout_len (shape_of C h) h.file_size)
      (min (record_start (shape_of C h) index) (layout_len (shape_of C h) h.file_size) - 96) 0 0 0
  pub strays : (b : List ℕ) → old.bytes ≡ Some b → layout_len (shape_of C h) h.file_size ≤ length b → now.strays ≡ old.strays

-- all chunks are there, or why not
pub record AllThere (C : Cipher) (chunk_key : List ℕ) (h : Header) (old new : Outside) (result : Result (Unit {0}) Error) : Type 0 where
  pub there : (b : List ℕ) → old.bytes ≡ Some b → OnOk result
      ((i : ℕ) → i < chunk_count h.chunk_size h.file_size → (m : List ℕ) × (chunk_at C chunk_key h b i ≡ Some m))
  pub missing : (b : List ℕ) → old.bytes ≡ Some b
      → IfErr result (λ e. kind_of e ≡ AuthenticationFailed → (i : ℕ) × (i < chunk_count h.chunk_size h.file_size)
      × (chunk_at C chunk_key h b i ≡ None))
  pub kinds : IfErr result (λ e. Unopened (kind_of e) old new)
  pub some : IfErr result (λ _. 1 ≤ chunk_count h.chunk_size h.file_size)
  pub quiet : OnOk result (Quiet old new)
  pub kept : Kept old new
  pub moved : Moved old new (layout_len (shape_of C h) h.file_size) (layout_len (shape_of C h) h.file_size - 96) 0 0 0
  pub strays : (b : List ℕ) → old.bytes ≡ Some b → layout_len (shape_of C h) h.file_size ≤ length b → new.strays ≡ old.strays
