-- How two open files are compared, call by call (this project's own).
use Rattle.std.specs.Prelude.{◌≡◌, ◌⊎◌, ℕ, zero, suc, ◌+◌, ◌-◌, ◌*◌, ◌^◌, ◌<◌, min, ◌&&◌}
use Rattle.std.specs.Prelude.{if◌then◌else◌, nat_lt, nat_le, List, [], length, get_or}
use Rattle.std.specs.Prelude.{Option, Some, None, Result, OnOk, IfOk, IfErr, IsErrAnd}
use Rattle.raf_io.specs.Kinds.{kind_of}
use Rattle.raf_tree.specs.Hashing.{Hashing}
use Rattle.raf_tree.specs.Kept.{Kept as Tree, Keeps}
use Rattle.raf_tree.specs.Calls.{Content}
use Rattle.raf_tree.specs.Walk.{Finds}
use Rattle.raf_format.specs.Cipher.{Cipher}
use Rattle.raf_format.specs.File.{shape_of, record_start, chunk_count, chunk_at}
use Rattle.raf.specs.Outside.{Outside, Kept, Quiet, Moved}
use Rattle.raf.specs.Handle.{Handle}
use Rattle.raf.specs.Clash.{HasContent, Looked, OneFailed, long}
use Rattle.raf.specs.declared.clashing.Verdict.{Verdict}
use Rattle.raf.specs.declared.clashing.Verdict.TheVariants.{Unequal, Same, Clash}
use Rattle.raf_io.specs.declared.errors.Error.{Error}
use Rattle.raf_io.specs.declared.errors.ErrorKind.{ErrorKind}
use Rattle.raf_io.specs.declared.errors.ErrorKind.TheVariants.{Io, AuthenticationFailed, MerkleNotEnabled, Hash}

-- how many chunks a tree has, where there is one
abbrev pub count_in : Option Tree → ℕ
count_in None = 0
count_in (Some t) = t.count

-- how many bytes the records before an index have
abbrev pub records_before : Cipher → Handle → ℕ → ℕ
records_before C h index = min (record_start (shape_of C h.header) index) (long C h) - 96

-- those of the records from an index to another
abbrev pub records_between : Cipher → Handle → ℕ → ℕ → ℕ
records_between C h first end = records_before C h end - records_before C h first

-- those of the records that are read at a place: that of a leaf's chunk
unfoldable pub reads_at : Cipher → Handle → ℕ → ℕ → ℕ
reads_at C h zero index = records_between C h index (index + 1)
reads_at C h (suc l) index = 0

-- hashes that are asked at most at a place of a tree with n chunks: one where the place on the right below it is the first empty one
unfoldable pub asked_at : ℕ → ℕ → ℕ → ℕ
asked_at n zero j = 0
asked_at n (suc l) j = if nat_lt (2 * j * 2 ^ l) n && nat_le n ((2 * j + 1) * 2 ^ l) then 1 else 0

-- those from a place down: one a level, where some of the leaves below the place are there and some aren't
unfoldable pub asked_below : ℕ → ℕ → ℕ → ℕ
asked_below n l j = if nat_lt (j * 2 ^ l) n && nat_lt n ((j + 1) * 2 ^ l) then l else 0

-- a chunk of the file doesn't open
abbrev pub Unreadable : Cipher → Handle → Type 0
Unreadable C h = (b : List ℕ) → h.outside.bytes ≡ Some b → (i : ℕ) × (i < chunk_count h.header.chunk_size h.header.file_size)
    × (chunk_at C (C.chunk_key h.key h.header.id) h.header b i ≡ None)

-- why a comparison stopped
abbrev pub Halts : Cipher → Cipher → (a b c d : Handle) → ErrorKind → Type 0
Halts C D a b c d Io = OneFailed Io a.outside b.outside c.outside d.outside
Halts C D a b c d AuthenticationFailed = (Unreadable C a ⊎ Unreadable D b) × Quiet a.outside c.outside × Quiet b.outside d.outside
Halts C D a b c d Hash = OneFailed Hash a.outside b.outside c.outside d.outside
Halts C D a b c d _ = ⊥

-- a step of a comparison, by at most so many bytes and hashes of each file
pub record Steps {T : Type 0} (C D : Cipher) (traffic calls traffic' calls' : ℕ) (a b c d : Handle) (result : Result T Error) : Type 0 where
  pub first : Looked C traffic calls a c
  pub second : Looked D traffic' calls' b d
  pub quiet : OnOk result (Quiet a.outside c.outside × Quiet b.outside d.outside)
  pub halted : IfErr result (λ e. Halts C D a b c d (kind_of e))

-- whatever the contents of both files are, under one setting, this holds of what was found
abbrev pub OfContents : {T : Type 0} (C D : Cipher) (E : List ℕ → Hashing) (a b : Handle) (result : Result T Error)
    → (Hashing → Content → Content → T → Type 0) → Type 0
OfContents C D E a b result P = (setting : List ℕ) (x y : Content) → HasContent C E setting a x → HasContent D E setting b y
    → IfOk result (P (E setting) x y)

-- both have a chunk of an index, and it is the same
abbrev pub SameChunk : ℕ → Content → Content → Type 0
SameChunk index x y = (index < length x.chunks) × (index < length y.chunks) × (get_or x.chunks index [] ≡ get_or y.chunks index [])

-- hashes were asked of both hashers, at most so many of each
pub record Asks {T : Type 0} (calls calls' : ℕ) (a b c d : Outside) (result : Result T Error) : Type 0 where
  pub kept : Kept a c × Kept b d
  pub first : Moved a c 0 0 0 0 calls
  pub second : Moved b d 0 0 0 0 calls'
  pub strays : (c.strays ≡ a.strays) × (d.strays ≡ b.strays)
  pub quiet : OnOk result (Quiet a c × Quiet b d)
  pub failed : IfErr result (λ e. (kind_of e ≡ Hash) × OneFailed Hash a b c d)

-- whatever leaves two kept trees are of, under one setting, this holds of what was found
abbrev pub OfKept : {T : Type 0} (E : List ℕ → Hashing) (a b : Outside) (t u : Tree) (result : Result T Error)
    → (Hashing → List (List ℕ) → List (List ℕ) → T → Type 0) → Type 0
OfKept E a b t u result P = (setting : List ℕ) (xs ys : List (List ℕ)) → a.setting ≡ Some setting → b.setting ≡ Some setting
    → Keeps (E setting) t xs → Keeps (E setting) u ys → IfOk result (P (E setting) xs ys)

-- both trees are there, and one hash was asked of each, or a tree isn't there, and nothing was asked
abbrev pub AsksBoth : {T : Type 0} (t u : Option Tree) (a b c d : Outside) (result : Result T Error) → Type 0
AsksBoth t u a b c d result =
    (((k : Tree) × (m : Tree) × (t ≡ Some k) × (u ≡ Some m)) × Asks 1 1 a b c d result)
    ⊎ (((t ≡ None) ⊎ (u ≡ None)) × (c ≡ a) × (d ≡ b) × IsErrAnd result (λ e. kind_of e ≡ MerkleNotEnabled))

-- so far, both files were looked at up to an index, and had the same chunks
pub record SameSoFar (C D : Cipher) (E : List ℕ → Hashing) (index : ℕ) (a b c d : Handle) : Type 0 where
  pub first : Looked C (records_before C a index) 0 a c
  pub second : Looked D (records_before D b index) 0 b d
  pub quiet : Quiet a.outside c.outside × Quiet b.outside d.outside
  pub same : (setting : List ℕ) (x y : Content) → HasContent C E setting a x → HasContent D E setting b y
      → (i : ℕ) → i < index → SameChunk i x y

-- what a walk from the roots down, at this level, finds, as a verdict
abbrev pub FoundBelow : Hashing → Content → Content → ℕ → Verdict → Type 0
FoundBelow H x y l Unequal = ⊥
FoundBelow H x y l Same = Finds H x y l 0 None
FoundBelow H x y l (Clash p q) = (p ≡ q) × Finds H x y l 0 (Some p)
