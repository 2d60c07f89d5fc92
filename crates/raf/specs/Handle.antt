-- An open file as its caller sees it, and the file that it holds (this project's own).
use Rattle.std.specs.Prelude.{◌≡◌, ℕ, ◌+◌, ◌≤◌, Bool, true, if◌then◌else◌, List, [], ◌∷◌, length, take, map, Option, Some, None, ⊤, ◌⊎◌}
use Rattle.std.specs.Option.{option_map}
use Rattle.raf_tree.specs.Hashing.{Hashing}
use Rattle.raf_tree.specs.Kept.{Kept, Keeps, kept, tree_height}
use Rattle.raf_tree.specs.Tree.{leaves}
use Rattle.raf_format.specs.Cipher.{Cipher}
use Rattle.raf_format.specs.File.{File, IsFile, shape_of, file_of}
use Rattle.raf.specs.Concern.{none_missing}
use Rattle.raf.specs.Outside.{Outside}
use Rattle.raf_format.specs.declared.header.Header.{Header}
use Rattle.raf.specs.declared.command.Command.{Command}
use Rattle.raf.specs.declared.command.Command.TheVariants as command
use Rattle.raf.specs.declared.command.Reply.{Reply}
use Rattle.raf.specs.declared.command.Reply.TheVariants.{Done, Verified, Commitment, Refused}
use Rattle.raf_io.specs.declared.errors.ErrorKind.TheVariants.{AuthenticationFailed}

-- what storage, random source and hasher tell and count; the file's key; the header that is kept; the tree that is kept, where there is
-- a hasher; and the kept mark, which a change sets that was cut short
pub record Handle : Type 0 where
  pub outside : Outside
  pub key : List ℕ
  pub header : Header
  pub tree : Option Kept
  pub broken : Bool

abbrev pub handle_of : Outside → List ℕ → Header → Option Kept → Bool → Handle
handle_of outside key header tree broken = record { outside = outside; key = key; header = header; tree = tree; broken = broken }

-- the most chunks that the file may have, where a hasher sets it
abbrev pub limit_of : Handle → Option ℕ
limit_of h = option_map (λ t. t.max_chunks) h.tree

-- the storage tells its bytes and opens to the file, and the header that is kept is the one that is stored
pub record Holds (C : Cipher) (h : Handle) (F : File) : Type 0 where
  pub bytes : List ℕ
  pub tells : h.outside.bytes ≡ Some bytes
  pub is_file : IsFile C h.key bytes h.header
  pub file : F ≡ file_of C h.key h.header bytes

-- where the storage's first 96 bytes and its length are as before, and key and header are those kept, a handle holds the file that the
-- bytes are now
abbrev pub HoldsAgain : Cipher → Type 0
HoldsAgain C = (old new : Handle) (F : File) (b : List ℕ) (held : Holds C old F) → new.key ≡ old.key → new.header ≡ old.header
    → new.outside.bytes ≡ Some b → take 96 b ≡ take 96 held.bytes → length b ≡ length held.bytes → Holds C new (file_of C new.key new.header b)

-- the file of these numbers, of whose chunks nothing is known
abbrev pub outline : Cipher → Header → File
outline C h = record { shape = shape_of C h; id = h.id; size = h.file_size; chunks = [] }

-- the file that is held, or, whatever the storage tells, the one of the same numbers
abbrev pub Measures : Cipher → Handle → File → Type 0
Measures C h F = Holds C h F ⊎ (F ≡ outline C h.header)

-- the hasher's answers under its setting and the kept tree, where there is a hasher, meet this
abbrev pub WithTree : (List ℕ → Hashing) → Handle → (Hashing → Kept → Type 0) → Type 0
WithTree E h P = (setting : List ℕ) (t : Kept) → h.outside.setting ≡ Some setting → h.tree ≡ Some t → P (E setting) t

-- there is a hasher, whose answers under its setting and the kept tree meet this
abbrev pub OfTree : (List ℕ → Hashing) → Handle → (Hashing → Kept → Type 0) → Type 0
OfTree E h P = (setting : List ℕ) × (t : Kept) × (h.outside.setting ≡ Some setting) × (h.tree ≡ Some t) × P (E setting) t

-- no chunk of the file is missing, and the tree keeps that of its chunks
pub record Grown (F : File) (H : Hashing) (t : Kept) : Type 0 where
  pub chunks : List (List ℕ)
  pub present : F.chunks ≡ map (λ m. Some m) chunks
  pub keeps : Keeps H t (leaves H chunks)

-- the chunk is there, and its leaf is the kept one
abbrev pub Matches : Hashing → Kept → ℕ → Option (List ℕ) → Type 0
Matches H t index None = ⊥
Matches H t index (Some m) = H.leaf m index ≡ kept t 0 index

-- the first of the chunks from an index on that is missing or has another leaf
abbrev pub FirstBad : Hashing → Kept → ℕ → List (Option (List ℕ)) → Option ℕ → Type 0
FirstBad H t index [] answer = answer ≡ None
FirstBad H t index (c ∷ chunks) answer =
    (Matches H t index c × FirstBad H t (index + 1) chunks answer) ⊎ ((Matches H t index c → ⊥) × (answer ≡ Some index))

-- what the kept tree answers: it is made anew exactly where no chunk is missing; the first chunk that is missing or has another leaf;
-- and the commitment of the kept root
abbrev pub KeptAnswer : File → Command → Reply → Hashing → Kept → Type 0
KeptAnswer F command.Rebuild reply H t = reply ≡ (if none_missing (λ _. true) 0 F.chunks then Done else Refused AuthenticationFailed)
KeptAnswer F command.Verify reply H t = (found : Option ℕ) × (reply ≡ Verified found) × FirstBad H t 0 F.chunks found
KeptAnswer F command.Commitment reply H t = reply ≡ Commitment (H.commitment (kept t (tree_height t) 0) F.id F.size)
KeptAnswer F _ reply H t = ⊥

-- how long a hash is, and 0 without a hasher
abbrev pub hash_len_of : (List ℕ → Hashing) → Option (List ℕ) → ℕ
hash_len_of E None = 0
hash_len_of E (Some setting) = (E setting).len

-- hasher and tree are there together, and the hasher's answers are as long as the tree's nodes
abbrev pub Paired : (List ℕ → Hashing) → Option (List ℕ) → Option Kept → Type 0
Paired E None None = ⊤
Paired E None (Some t) = ⊥
Paired E (Some setting) None = ⊥
Paired E (Some setting) (Some t) = (E setting).len ≡ t.hash_len

-- a tree, where there is one, has room for so many chunks
abbrev pub HasRoom : ℕ → Option Kept → Type 0
HasRoom count tree = (t : Kept) → tree ≡ Some t → count ≤ t.max_chunks
