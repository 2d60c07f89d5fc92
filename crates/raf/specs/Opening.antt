-- How a file is opened and made, and why not (this project's own).
use Rattle.std.specs.Prelude.{◌≡◌, ◌≢◌, ℕ, ◌+◌, ◌*◌, ◌<◌, ◌≤◌, min, Bool, true, false, List, [], length, max, Option, Some, None}
use Rattle.std.specs.Prelude.{Result, IfOk, IfErr, OnOk, ⊤, ◌⊎◌, is_some}
use Rattle.raf_tree.specs.Hashing.{Hashing}
use Rattle.raf_tree.specs.Tree.{height}
use Rattle.raf_tree.specs.Made.{CanBeMade, RefusesTree}
use Rattle.raf_tree.specs.declared.tree.TreeError.TheVariants as tree
use Rattle.raf_format.specs.Cipher.{Cipher}
use Rattle.raf_format.specs.Header.{Says, Tagged, sealed_header}
use Rattle.raf_format.specs.File.{File, IsFile, Opens, shape_of, layout_len, chunk_count, file_of}
use Rattle.counts.specs.Counts.{Rose}
use Rattle.raf_io.specs.Kinds.{kind_of}
use Rattle.raf_io.specs.declared.errors.Error.{Error}
use Rattle.raf_io.specs.Storage.{IsLengthOf}
use Rattle.raf_io.specs.Source.{Takes, TakesAtMost, IsShort}
use Rattle.raf_format.specs.Version.{version_number}
use Rattle.raf.specs.declared.creating.Fresh.{Fresh}
use Rattle.raf.specs.Concern.{none_missing}
use Rattle.raf.specs.Outside.{Outside, Kept, Quiet, Caused, Moved}
use Rattle.raf.specs.Loaded.{Sound}
use Rattle.raf.specs.Handle.{Handle, Holds, WithTree, Grown, Paired, HasRoom, limit_of}
use Rattle.std.specs.Option.{option_map}
use Rattle.raf_tree.specs.Kept.{Kept as Tree}
use Rattle.raf_format.specs.declared.header.Header.{Header}
use Rattle.raf_io.specs.declared.errors.ErrorKind.{ErrorKind}
use Rattle.raf_io.specs.declared.errors.ErrorKind.TheVariants.{Io, InvalidArgument, AuthenticationFailed, AlreadyExists, Overflow, Rng}
use Rattle.raf_io.specs.declared.errors.ErrorKind.TheVariants.{Hash, OutOfMemory}
use Rattle.raf_io.specs.declared.errors.Reason.TheVariants as reason

-- what a builder was told: the version and the chunk size of a new file, and whether it may take the place of what is there; the most
-- chunks, where there is a hasher; and the random source and the hasher, beside a storage that is not there yet
pub record Settings : Type 0 where
  pub version : ℕ
  pub chunk_size : ℕ
  pub truncate : Bool
  pub most : Option ℕ
  pub outside : Outside

-- a builder without a hasher, as it begins: a new file is of version 1 and has chunks of 65536 bytes, and takes the place of none
pub record IsNewBuilder (left : Option (List ℕ)) (rng_faults asked : ℕ) (exact : Bool) (s : Settings) : Type 0 where
  pub version : s.version ≡ 1
  pub chunk_size : s.chunk_size ≡ 65536
  pub truncate : s.truncate ≡ false
  pub most : s.most ≡ None
  pub setting : s.outside.setting ≡ None
  pub left_is : s.outside.left ≡ left
  pub faults_are : s.outside.rng_faults ≡ rng_faults
  pub asked_is : s.outside.asked ≡ asked
  pub exact_is : s.outside.exact ≡ exact

-- why a file was not opened or made, with what was handed in
pub record Refusal : Type 0 where
  pub kind : ErrorKind
  pub outside : Outside

-- there is a hasher, and the length of its hashes under its setting and the limit of chunks meet this
abbrev pub OfHasher : (List ℕ → Hashing) → Option (List ℕ) → Option ℕ → (ℕ → ℕ → Type 0) → Type 0
OfHasher E setting most P = (x : List ℕ) × (n : ℕ) × (setting ≡ Some x) × (most ≡ Some n) × P (E x).len n

-- where there is a hasher, its tree can be made, and has room for so many chunks
abbrev pub Room : (List ℕ → Hashing) → Option (List ℕ) → Option ℕ → ℕ → Type 0
Room E setting most count = (x : List ℕ) (n : ℕ) → setting ≡ Some x → most ≡ Some n → CanBeMade (E x).len n × (count ≤ n)

-- why a hasher gets no tree for so many chunks, each cause where none before it stands
abbrev pub WhyNoTree : (List ℕ → Hashing) → Option (List ℕ) → Option ℕ → ℕ → ErrorKind → Type 0
WhyNoTree E setting most count (InvalidArgument reason.HashLen) = OfHasher E setting most (λ len n. RefusesTree len n tree.HashLen)
WhyNoTree E setting most count (InvalidArgument reason.MaxChunks) = OfHasher E setting most (λ len n. RefusesTree len n tree.MaxChunks)
WhyNoTree E setting most count Overflow = OfHasher E setting most
    (λ len n. RefusesTree len n tree.Overflow ⊎ (CanBeMade len n × (n < count)))
WhyNoTree E setting most count OutOfMemory = ⊤
WhyNoTree E setting most count _ = ⊥

-- the header is of this algorithm, and the length fits it
pub record LaidOut (C : Cipher) (b : List ℕ) (h : Header) : Type 0 where
  pub says : Says b h
  pub algorithm : h.algorithm ≡ C.id
  pub length_fits : length b ≡ layout_len (shape_of C h) h.file_size

-- why bytes are no header of this algorithm with a length that fits it, each cause where none before it stands
abbrev pub WhyNotLaidOut : Cipher → List ℕ → ErrorKind → Type 0
WhyNotLaidOut C b Io = ⊤
WhyNotLaidOut C b (InvalidArgument reason.Header) = (h : Header) → Says b h → ⊥
WhyNotLaidOut C b (InvalidArgument reason.AlgorithmMismatch) = (h : Header) × Says b h × (h.algorithm ≢ C.id)
WhyNotLaidOut C b (InvalidArgument reason.Layout) = (h : Header) × Says b h × (h.algorithm ≡ C.id)
    × (length b ≢ layout_len (shape_of C h) h.file_size)
WhyNotLaidOut C b _ = ⊥

-- why bytes with such a header and length were not opened, each cause where none before it stands
abbrev pub WhyNotRead : Cipher → (List ℕ → Hashing) → List ℕ → Option (List ℕ) → Option ℕ → List ℕ → Header → ErrorKind → Type 0
WhyNotRead C E key setting most b h AuthenticationFailed =
    Room E setting most (chunk_count h.chunk_size h.file_size)
    × ((Tagged C key b → ⊥) ⊎ (Tagged C key b × (is_some setting ≡ true) × (none_missing (λ _. true) 0 (file_of C key h b).chunks ≡ false)))
WhyNotRead C E key setting most b h Hash = Room E setting most (chunk_count h.chunk_size h.file_size) × Tagged C key b
    × (is_some setting ≡ true)
WhyNotRead C E key setting most b h kind = WhyNoTree E setting most (chunk_count h.chunk_size h.file_size) kind

-- why the bytes that a storage tells were not opened, each cause where none before it stands
abbrev pub WhyNotOpened : Cipher → (List ℕ → Hashing) → List ℕ → Option (List ℕ) → Option ℕ → List ℕ → ErrorKind → Type 0
WhyNotOpened C E key setting most b kind = WhyNotLaidOut C b kind
    ⊎ ((h : Header) × LaidOut C b h × WhyNotRead C E key setting most b h kind)

-- what numbers alone say of a refusal, whatever the storage tells
abbrev pub NumbersRefuse : (List ℕ → Hashing) → Option (List ℕ) → Option ℕ → ErrorKind → Type 0
NumbersRefuse E setting most (InvalidArgument reason.Header) = ⊤
NumbersRefuse E setting most (InvalidArgument reason.AlgorithmMismatch) = ⊤
NumbersRefuse E setting most (InvalidArgument reason.Layout) = ⊤
NumbersRefuse E setting most Io = ⊤
NumbersRefuse E setting most AuthenticationFailed = Room E setting most 0
NumbersRefuse E setting most Hash = Room E setting most 0 × (is_some setting ≡ true)
NumbersRefuse E setting most kind = (count : ℕ) × WhyNoTree E setting most count kind

-- the one that a fault names has failed, and with any other kind none
abbrev pub RefusalFault : ErrorKind → Outside → Outside → Type 0
RefusalFault Io old new = Caused Io old new
RefusalFault Rng old new = Caused Rng old new
RefusalFault Hash old new = Caused Hash old new
RefusalFault _ old new = Quiet old new

-- the most bytes that an opening reads of a storage of this length, and the most hashes that it asks: those of a header alone, or with a
-- hasher all
abbrev pub opening_traffic : Option ℕ → ℕ → ℕ
opening_traffic None len = min 96 len
opening_traffic (Some most) len = len

abbrev pub opening_calls : Option ℕ → ℕ → ℕ
opening_calls None count = 0
opening_calls (Some most) count = 2 * count + 2 * height most + 1

-- what an opening leaves, whether or not it was refused: all bytes; and the most that it asks
pub record Looked (old new : Outside) (most : Option ℕ) : Type 0 where
  pub kept : Kept old new
  pub later : Moved old new new.reach new.traffic 0 0 new.calls
  pub moved : (b : List ℕ) → old.bytes ≡ Some b → Moved old new (length b) (opening_traffic most (length b)) 0 0 new.calls
  pub calls : (b : List ℕ) (h : Header) → old.bytes ≡ Some b → Says b h
      → new.calls ≤ old.calls + opening_calls most (chunk_count h.chunk_size h.file_size)
  pub unhashed : (b : List ℕ) → old.bytes ≡ Some b → ((h : Header) → Says b h → ⊥) → new.calls ≡ old.calls
  pub header_alone : most ≡ None → Moved old new 96 96 0 0 0
  pub strays : (b : List ℕ) → old.bytes ≡ Some b → new.strays ≡ old.strays

-- a tree for so many chunks goes with a hasher under this setting, where there is one
pub record TreeMade (E : List ℕ → Hashing) (setting : Option (List ℕ)) (most : Option ℕ) (count : ℕ) (made : Option Tree) : Type 0 where
  pub paired : Paired E setting made
  pub limit : option_map (λ t. t.max_chunks) made ≡ most
  pub has_room : HasRoom count made
  pub room : Room E setting most count

-- an opening that was refused, under the limit of chunks that a builder has
pub record NotOpened (C : Cipher) (E : List ℕ → Hashing) (key : List ℕ) (most : Option ℕ) (old new : Outside) (kind : ErrorKind) : Type 0
  where
    pub why : (b : List ℕ) → old.bytes ≡ Some b → WhyNotOpened C E key old.setting most b kind
    pub numbers : NumbersRefuse E old.setting most kind
    pub fault : RefusalFault kind old new
    pub looked : Looked old new most

-- no more was asked of a storage of this many bytes than a header that lies in them
pub record Within (old new : Outside) (len : ℕ) : Type 0 where
  pub reach : new.reach ≤ max old.reach len
  pub traffic : new.traffic ≤ old.traffic + min 96 len
  pub strays : new.strays ≡ old.strays

-- an opening up to the tree, which has no leaves yet
pub record OpenedBare (C : Cipher) (E : List ℕ → Hashing) (key : List ℕ) (most : Option ℕ) (old : Outside) (now : Handle) : Type 0 where
  pub key_is : now.key ≡ key
  pub unmarked : now.broken ≡ false
  pub made : TreeMade E old.setting most (chunk_count now.header.chunk_size now.header.file_size) now.tree
  pub sound : Sound C now.header
  pub is_file : (b : List ℕ) → old.bytes ≡ Some b → IsFile C key b now.header
  pub quiet : Quiet old now.outside
  pub kept : Kept old now.outside
  pub moved : Moved old now.outside 96 96 0 0 0
  pub within : (b : List ℕ) → old.bytes ≡ Some b → Within old now.outside (length b)

-- an opening: the new handle has this key, no kept mark, a header with numbers that can be, and the builder's limit, in which its chunks
-- have room; no more was asked than these numbers say; the storage opens to the file that it holds; and with a hasher the kept tree is that
-- of its chunks
pub record Opened (C : Cipher) (E : List ℕ → Hashing) (key : List ℕ) (most : Option ℕ) (old : Outside) (now : Handle) : Type 0 where
  pub key_is : now.key ≡ key
  pub unmarked : now.broken ≡ false
  pub limit : limit_of now ≡ most
  pub room : Room E old.setting most (chunk_count now.header.chunk_size now.header.file_size)
  pub sound : Sound C now.header
  pub quiet : Quiet old now.outside
  pub looked : Looked old now.outside most
  pub moved : Moved old now.outside (layout_len (shape_of C now.header) now.header.file_size)
      (opening_traffic most (layout_len (shape_of C now.header) now.header.file_size)) 0 0
      (opening_calls most (chunk_count now.header.chunk_size now.header.file_size))
  pub holds : (b : List ℕ) → old.bytes ≡ Some b → (F : File) × Opens C key b F × Holds C now F × WithTree E now (Grown F)

-- the chunk sizes of a file
abbrev pub IsChunkSize : ℕ → Type 0
IsChunkSize n = (16 ≤ n) × (n ≤ 1048576)

-- the numbers of a new file are right
pub record CanMake (E : List ℕ → Hashing) (s : Settings) : Type 0 where
  pub chunk_size : IsChunkSize s.chunk_size
  pub room : Room E s.outside.setting s.most 0

-- a builder's settings, from what it holds: how a new file is to be, the limit of a hasher's tree, and what was handed in
pub record FreshOf (fresh : Fresh) (max_chunks : ℕ) (old : Outside) (s : Settings) : Type 0 where
  pub version : s.version ≡ version_number fresh.version
  pub chunk_size : s.chunk_size ≡ fresh.chunk_size
  pub truncate : s.truncate ≡ fresh.truncate
  pub most : s.most ≡ option_map (λ _. max_chunks) old.setting
  pub setting : s.outside.setting ≡ old.setting

-- the storage may become a new file: it is empty, or may be written over
abbrev pub IsFree : Settings → Outside → Type 0
IsFree s old = s.truncate ≡ false → (b : List ℕ) → old.bytes ≡ Some b → b ≡ []

-- a header was put in place of what a storage of this many bytes holds, or the storage failed
pub record PutNew (header : List ℕ) (size : ℕ) (old new : Outside) (result : Result (Unit {0}) Error) : Type 0 where
  pub put : (b : List ℕ) → old.bytes ≡ Some b → length b ≡ size → OnOk result (new.bytes ≡ Some header)
  pub failed : IfErr result (λ e. (kind_of e ≡ Io) × Caused Io old new)
  pub quiet : OnOk result (Quiet old new)
  pub left : new.left ≡ old.left
  pub moved : Moved old new 96 96 0 2 0
  pub began : Rose old.changes new.changes
  pub strays : new.strays ≡ old.strays

-- how many bytes a storage holds that a new file may be made in, or why there may be none
pub record Freed (truncate : Bool) (old new : Outside) (result : Result ℕ Error) : Type 0 where
  pub size : IfOk result (λ n. IsLengthOf old.bytes n × (truncate ≡ false → n ≡ 0))
  pub failed : IfErr result (λ e. kind_of e ≡ Io → Caused Io old new)
  pub exists : IfErr result (λ e. (kind_of e ≡ Io) ⊎ ((kind_of e ≡ AlreadyExists) × (truncate ≡ false)
      × ((b : List ℕ) → old.bytes ≡ Some b → b ≢ []) × Quiet old new))
  pub quiet : OnOk result (Quiet old new)
  pub kept : Kept old new
  pub moved : Moved old new 0 0 0 0 0
  pub strays : new.strays ≡ old.strays

-- why no file was made, each cause where none before it stands
abbrev pub WhyNotMade : (List ℕ → Hashing) → Settings → Outside → ErrorKind → Type 0
WhyNotMade E s old (InvalidArgument reason.ChunkSize) = IsChunkSize s.chunk_size → ⊥
WhyNotMade E s old Io = CanMake E s
WhyNotMade E s old AlreadyExists = CanMake E s × (s.truncate ≡ false) × ((b : List ℕ) → old.bytes ≡ Some b → b ≢ [])
WhyNotMade E s old Rng = CanMake E s × IsFree s old × (old.exact ≡ true → IsShort old.left 32)
WhyNotMade E s old Hash = CanMake E s × IsFree s old × (is_some s.outside.setting ≡ true)
WhyNotMade E s old kind = IsChunkSize s.chunk_size × WhyNoTree E s.outside.setting s.most 0 kind

-- a making that was refused: unless the storage failed after it was written to, it has its bytes; and where the random source failed, no
-- hash was asked
pub record NotMade (E : List ℕ → Hashing) (s : Settings) (old new : Outside) (kind : ErrorKind) : Type 0 where
  pub why : WhyNotMade E s old kind
  pub fault : RefusalFault kind old new
  pub kept : ((kind ≡ Io) × Rose old.changes new.changes → ⊥) → (new.bytes ≡ old.bytes) × (new.durable ≡ old.durable)
  pub left : TakesAtMost old.left 32 new.left
  pub unhashed : kind ≡ Rng → new.calls ≡ old.calls
  pub moved : Moved old new 96 96 32 2 1
  pub strays : new.strays ≡ old.strays

-- a file that was made: the storage is the header of an empty file of the builder's version and chunk size, under the id that stood in
-- front of the random source; and with a hasher the kept tree is that of no chunks
pub record Made (C : Cipher) (E : List ℕ → Hashing) (key : List ℕ) (s : Settings) (old : Outside) (now : Handle) : Type 0 where
  pub can : CanMake E s
  pub free : IsFree s old
  pub key_is : now.key ≡ key
  pub unmarked : now.broken ≡ false
  pub limit : limit_of now ≡ s.most
  pub quiet : Quiet old now.outside
  pub header : now.header ≡ record { version = s.version; algorithm = C.id; chunk_size = s.chunk_size; file_size = 0; id = now.header.id }
  pub taken : Takes old.left now.header.id now.outside.left
  pub bytes : (b : List ℕ) → old.bytes ≡ Some b → now.outside.bytes ≡ Some (sealed_header C key now.header)
  pub holds : (b : List ℕ) → old.bytes ≡ Some b → (F : File) × Holds C now F × (F.chunks ≡ [])
  pub grown : (F : File) → F.chunks ≡ [] → WithTree E now (Grown F)
  pub moved : Moved old now.outside 96 96 32 2 1
  pub strays : now.outside.strays ≡ old.strays
