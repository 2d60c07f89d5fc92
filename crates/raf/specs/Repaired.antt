-- How a storage gets the length that its header says (this project's own).
use Rattle.std.specs.Prelude.{◌≡◌, ◌≢◌, ◌⊎◌, ◌↔◌, ℕ, ◌^◌, ◌<◌, ◌≤◌, max, Bool, false, List, length, Some, Result, IfOk, IfErr, OnOk, ⊤}
use Rattle.counts.specs.Counts.{Rose}
use Rattle.raf_format.specs.Cipher.{Cipher}
use Rattle.raf_format.specs.Header.{Says, Tagged}
use Rattle.raf_format.specs.File.{Opens, shape_of, layout_len, file_of}
use Rattle.raf_format.specs.declared.header.Header.{Header}
use Rattle.raf_io.specs.Storage.{Told, Cut, resized}
use Rattle.raf_io.specs.Kinds.{kind_of}
use Rattle.raf_io.specs.declared.errors.Error.{Error}
use Rattle.raf_io.specs.declared.errors.ErrorKind.{ErrorKind}
use Rattle.raf_io.specs.declared.errors.ErrorKind.TheVariants.{Io, InvalidArgument, AuthenticationFailed}
use Rattle.raf_io.specs.declared.errors.Reason.TheVariants as reason
use Rattle.raf.specs.Outside.{Outside, Kept, Quiet, Moved}
use Rattle.raf.specs.Opening.{RefusalFault}
use Rattle.raf.specs.declared.repairing.Lengths.{Lengths}

-- how many bytes the storage of a file with this header has
abbrev pub length_of : Cipher → Header → ℕ
length_of C h = layout_len (shape_of C h) h.file_size

-- the bytes begin with a header of this algorithm, whose storage can be and whose tag fits under the key
pub record IsHeaded (C : Cipher) (key b : List ℕ) (h : Header) : Type 0 where
  pub says : Says b h
  pub algorithm : h.algorithm ≡ C.id
  pub below : length_of C h < 2 ^ 64
  pub tagged : Tagged C key b

-- why they don't, each cause where none before it stands
abbrev pub WhyNotHeaded : Cipher → List ℕ → List ℕ → ErrorKind → Type 0
WhyNotHeaded C key b Io = ⊤
WhyNotHeaded C key b (InvalidArgument reason.Header) = (h : Header) → Says b h → ⊥
WhyNotHeaded C key b (InvalidArgument reason.AlgorithmMismatch) = (h : Header) × Says b h × (h.algorithm ≢ C.id)
WhyNotHeaded C key b (InvalidArgument reason.Layout) = (h : Header) × Says b h × (h.algorithm ≡ C.id) × (2 ^ 64 ≤ length_of C h)
WhyNotHeaded C key b AuthenticationFailed = (h : Header) × Says b h × (h.algorithm ≡ C.id) × (length_of C h < 2 ^ 64) × (Tagged C key b → ⊥)
WhyNotHeaded C key b _ = ⊥

-- the kinds of it
abbrev pub IsHeadKind : ErrorKind → Type 0
IsHeadKind Io = ⊤
IsHeadKind (InvalidArgument reason.Header) = ⊤
IsHeadKind (InvalidArgument reason.AlgorithmMismatch) = ⊤
IsHeadKind (InvalidArgument reason.Layout) = ⊤
IsHeadKind AuthenticationFailed = ⊤
IsHeadKind _ = ⊥

-- a look at a storage's length and its header
pub record Measured (C : Cipher) (key : List ℕ) (old new : Outside) (result : Result Lengths Error) : Type 0 where
  pub found : (b : List ℕ) → old.bytes ≡ Some b
      → IfOk result (λ l. (length b ≡ l.has) × ((h : Header) × IsHeaded C key b h × (l.says ≡ length_of C h)))
  pub why : (b : List ℕ) → old.bytes ≡ Some b → IfErr result (λ e. WhyNotHeaded C key b (kind_of e))
  pub kinds : IfErr result (λ e. IsHeadKind (kind_of e))
  pub fault : IfErr result (λ e. RefusalFault (kind_of e) old new)
  pub quiet : OnOk result (Quiet old new)
  pub kept : Kept old new
  pub moved : Moved old new 96 96 0 0 0
  pub strays : (b : List ℕ) → old.bytes ≡ Some b → new.strays ≡ old.strays

-- the storage has the length that its header says, and opens to the file of that header; it had that length before exactly where the
-- answer is false
pub record HasLength (C : Cipher) (key b : List ℕ) (new : Outside) (changed : Bool) : Type 0 where
  pub header : Header
  pub headed : IsHeaded C key b header
  pub bytes : new.bytes ≡ Some (resized (length_of C header) b)
  pub opens : Opens C key (resized (length_of C header) b) (file_of C key header (resized (length_of C header) b))
  pub had : (changed ≡ false) ↔ (length b ≡ length_of C header)

-- a repair: with an answer the storage has its header's length, and false has changed nothing; a refusal leaves the storage as it was, but
-- for a resize that failed, which leaves the bytes that both lengths have
pub record Repaired (C : Cipher) (key : List ℕ) (old new : Outside) (result : Result Bool Error) : Type 0 where
  pub done : (b : List ℕ) → old.bytes ≡ Some b → IfOk result (HasLength C key b new)
  pub idle : IfOk result (λ changed. changed ≡ false → Kept old new × (new.changes ≡ old.changes))
  pub why : (b : List ℕ) → old.bytes ≡ Some b → IfErr result (λ e. WhyNotHeaded C key b (kind_of e))
  pub kinds : IfErr result (λ e. IsHeadKind (kind_of e))
  pub fault : IfErr result (λ e. RefusalFault (kind_of e) old new)
  pub quiet : OnOk result (Quiet old new)
  pub kept : IfErr result (λ e. (Kept old new × (new.changes ≡ old.changes))
      ⊎ ((kind_of e ≡ Io) × Rose old.changes new.changes
      × ((b : List ℕ) → old.bytes ≡ Some b → (h : Header) × IsHeaded C key b h × Told (Cut (length_of C h)) old.bytes new.bytes)))
  pub moved : (b : List ℕ) (h : Header) → old.bytes ≡ Some b → Says b h → Moved old new (max 96 (length_of C h)) 96 0 1 0
  pub bounded : Moved old new (2 ^ 64) 96 0 1 0
  pub strays : (b : List ℕ) → old.bytes ≡ Some b → new.strays ≡ old.strays
