-- A chunk that is read from the storage and opened (this project's own).
use Rattle.std.specs.Prelude.{◌≡◌, ℕ, ◌+◌, ◌^◌, ◌<◌, ◌≤◌, List, length, take, Some, None, Result, OnOk, IfErr}
use Rattle.raf_format.specs.Cipher.{Cipher}
use Rattle.raf_format.specs.File.{shape_of, layout_len, record_start, record_len, chunk_at}
use Rattle.raf.specs.Outside.{Outside, Kept, Quiet, Caused, Moved}
use Rattle.raf_io.specs.Kinds.{kind_of}
use Rattle.raf_format.specs.declared.header.Header.{Header}
use Rattle.raf_io.specs.declared.errors.Error.{Error}
use Rattle.raf_io.specs.declared.errors.ErrorKind.{ErrorKind}
use Rattle.raf_io.specs.declared.errors.ErrorKind.TheVariants.{Io, AuthenticationFailed}

-- the first 96 bytes
pub record Front (b got : List ℕ) : Type 0 where
  pub is : got ≡ take 96 b
  pub long : 96 ≤ length b

-- a header of this algorithm, with numbers that a storage can have
pub record Sound (C : Cipher) (h : Header) : Type 0 where
  pub version_least : 1 ≤ h.version
  pub version_most : h.version ≤ 2
  pub algorithm : h.algorithm ≡ C.id
  pub least : 16 ≤ h.chunk_size
  pub most : h.chunk_size ≤ 1048576
  pub below : layout_len (shape_of C h) h.file_size < 2 ^ 64

-- the storage failed, or the record is the sealed form of no chunk
abbrev pub Unopened : ErrorKind → Outside → Outside → Type 0
Unopened Io old new = Caused Io old new
Unopened AuthenticationFailed old new = Quiet old new
Unopened _ old new = ⊥

-- the record of a chunk was read and opened, under the chunk key: this is the chunk
pub record Loads (C : Cipher) (chunk_key : List ℕ) (h : Header) (index : ℕ) (old new : Outside) (m : List ℕ)
    (result : Result (Unit {0}) Error) : Type 0 where
  pub loaded : (b : List ℕ) → old.bytes ≡ Some b → OnOk result
      (chunk_at C chunk_key h b index ≡ Some m)
  pub missing : (b : List ℕ) → old.bytes ≡ Some b → IfErr result
      (λ e. kind_of e ≡ AuthenticationFailed → chunk_at C chunk_key h b index ≡ None)
  pub kinds : IfErr result (λ e. Unopened (kind_of e) old new)
  pub quiet : OnOk result (Quiet old new)
  pub kept : Kept old new
  pub moved : Moved old new (record_start (shape_of C h) index + record_len (shape_of C h) h.file_size index)
      (record_len (shape_of C h) h.file_size index) 0 0 0
  pub strays : (b : List ℕ) → old.bytes ≡ Some b → layout_len (shape_of C h) h.file_size ≤ length b → new.strays ≡ old.strays
