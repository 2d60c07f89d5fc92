-- Two open files under one hasher: what is said of them by their commitments (this project's own).
use Rattle.std.specs.Prelude.{◌≡◌, ◌≢◌, ◌⊎◌, ℕ, ◌+◌, ◌-◌, ◌≤◌, true, false, List, length, Option, Some, None, Result, OnOk, IfOk, IfErr}
use Rattle.raf_io.specs.Kinds.{kind_of}
use Rattle.raf_tree.specs.Hashing.{Hashing}
use Rattle.raf_tree.specs.Kept.{Kept as Tree, tree_height}
use Rattle.raf_tree.specs.Calls.{Content, answer, commitment_call}
use Rattle.raf_tree.specs.Clash.{SameContent, FirstClash}
use Rattle.raf_format.specs.Cipher.{Cipher}
use Rattle.raf_format.specs.File.{File, shape_of, layout_len}
use Rattle.raf.specs.Concern.{none_missing}
use Rattle.raf.specs.Outside.{Outside, Kept, Quiet, Caused, Moved}
use Rattle.raf.specs.Handle.{Handle, Holds, Grown}
use Rattle.raf.specs.declared.clashing.Verdict.{Verdict}
use Rattle.raf.specs.declared.clashing.Verdict.TheVariants.{Unequal, Same, Clash}
use Rattle.raf_io.specs.declared.errors.Error.{Error}
use Rattle.raf_io.specs.declared.errors.ErrorKind.{ErrorKind}
use Rattle.raf_io.specs.declared.errors.ErrorKind.TheVariants.{Io, AuthenticationFailed, MerkleNotEnabled, Hash, Broken}

-- the commitment to a content
abbrev pub committed : Hashing → Content → List ℕ
committed H x = answer H (commitment_call H x)

-- the verdict on two contents. The commitments differ; or they are equal, and so are ids, sizes and chunks; or they are equal and the
-- contents aren't, and the first two different hasher calls with one answer are at these places
abbrev pub Judges : Hashing → Content → Content → Verdict → Type 0
Judges H x y Unequal = committed H x ≢ committed H y
Judges H x y Same = (committed H x ≡ committed H y) × SameContent x y
Judges H x y (Clash p q) = (committed H x ≡ committed H y) × (SameContent x y → ⊥) × FirstClash H x y p q

-- what a file's tree commits to: these chunks, its id and its size
abbrev pub content_of : File → Tree → List (List ℕ) → Content
content_of F t chunks = record { max_chunks = t.max_chunks; chunks = chunks; context = F.id; size = F.size }

-- an open file has this content, under this setting of its hasher: its storage tells and opens to a file none of whose chunks is missing,
-- and the tree that is kept is theirs
pub record HasContent (C : Cipher) (E : List ℕ → Hashing) (setting : List ℕ) (h : Handle) (x : Content) : Type 0 where
  pub file : File
  pub tree : Tree
  pub holds : Holds C h file
  pub hashed : h.outside.setting ≡ Some setting
  pub kept : h.tree ≡ Some tree
  pub grown : Grown file (E setting) tree
  pub is : x ≡ content_of file tree grown.chunks

-- the height of the tree, where there is one
abbrev pub height_in : Option Tree → ℕ
height_in None = 0
height_in (Some t) = tree_height t

-- how many bytes the storage of a file has
abbrev pub long : Cipher → Handle → ℕ
long C h = layout_len (shape_of C h.header) h.header.file_size

-- a file was looked at, by at most so many bytes that were asked of the storage and hashes that were asked: nothing of it changed, no byte
-- was asked past its end, and no random byte at all
pub record Looked (C : Cipher) (traffic calls : ℕ) (old new : Handle) : Type 0 where
  pub key : new.key ≡ old.key
  pub header : new.header ≡ old.header
  pub tree : new.tree ≡ old.tree
  pub broken : new.broken ≡ old.broken
  pub kept : Kept old.outside new.outside
  pub moved : Moved old.outside new.outside (long C old) traffic 0 0 calls
  pub strays : (b : List ℕ) → old.outside.bytes ≡ Some b → long C old ≤ length b → new.outside.strays ≡ old.outside.strays

-- the storage or the hasher of one of them failed, and nothing of the other
abbrev pub OneFailed : ErrorKind → (a b c d : Outside) → Type 0
OneFailed kind a b c d = (Caused kind a c × Quiet b d) ⊎ (Quiet a c × Caused kind b d)

-- a chunk of the file that is held is missing
abbrev pub Lacks : Cipher → Handle → Type 0
Lacks C h = (F : File) → Holds C h F → none_missing (λ _. true) 0 F.chunks ≡ false

-- neither is marked, and both have a hasher
pub record Comparable (a b : Handle) : Type 0 where
  pub unmarked : (a.broken ≡ false) × (b.broken ≡ false)
  pub hashed : (t : Tree) × (u : Tree) × (a.tree ≡ Some t) × (b.tree ≡ Some u)

-- why two files weren't compared. A mark, and then a hasher that isn't there, are found before anything is asked
abbrev pub WhyNotCompared : Cipher → Cipher → (a b c d : Handle) → ErrorKind → Type 0
WhyNotCompared C D a b c d Broken = ((a.broken ≡ true) ⊎ (b.broken ≡ true)) × (c ≡ a) × (d ≡ b)
WhyNotCompared C D a b c d MerkleNotEnabled =
    (a.broken ≡ false) × (b.broken ≡ false) × ((a.tree ≡ None) ⊎ (b.tree ≡ None)) × (c ≡ a) × (d ≡ b)
WhyNotCompared C D a b c d Io = Comparable a b × OneFailed Io a.outside b.outside c.outside d.outside
WhyNotCompared C D a b c d AuthenticationFailed =
    Comparable a b × (Lacks C a ⊎ Lacks D b) × Quiet a.outside c.outside × Quiet b.outside d.outside
WhyNotCompared C D a b c d Hash = Comparable a b × OneFailed Hash a.outside b.outside c.outside d.outside
WhyNotCompared C D a b c d _ = ⊥

-- two files, `a` and `b` before and `c` and `d` afterwards, were compared: over storages that tell, with every chunk there, trees that are
-- theirs and hashers under one setting, the verdict is right; the cause of each refusal; and what was asked of each file, of which
-- nothing changed
pub record Compared (C D : Cipher) (E : List ℕ → Hashing) (a b c d : Handle) (result : Result Verdict Error) : Type 0 where
  pub judged : (setting : List ℕ) (x y : Content) → HasContent C E setting a x → HasContent D E setting b y
      → IfOk result (Judges (E setting) x y)
  pub comparable : OnOk result (Comparable a b)
  pub quiet : OnOk result (Quiet a.outside c.outside × Quiet b.outside d.outside)
  pub refused : IfErr result (λ e. WhyNotCompared C D a b c d (kind_of e))
  pub first : Looked C (long C a - 96) (height_in a.tree + 1) a c
  pub second : Looked D (long D b - 96) (height_in b.tree + 1) b d
