-- A file that is moved, piece by piece, into an empty one (this project's own).
use Rattle.std.specs.Prelude.{◌≡◌, ℕ, ◌+◌, ◌-◌, ◌<◌, ◌≤◌, min, true, false, List, [], ◌∷◌, length, map, slice_index, Option, Some, Result, Ok}
use Rattle.std.specs.Prelude.{Err, IsErrAnd, ⊤, ◌⊎◌}
use Rattle.std.specs.List.{concat}
use Rattle.raf_io.specs.Kinds.{kind_of}
use Rattle.raf_io.specs.Source.{Takes}
use Rattle.raf_tree.specs.Hashing.{Hashing}
use Rattle.raf_format.specs.Cipher.{Cipher}
use Rattle.raf_format.specs.File.{File, file_layout}
use Rattle.raf.specs.Apply.{file_after, longest}
use Rattle.raf.specs.Concern.{can_have, needed, none_missing}
use Rattle.raf.specs.Due.{is_fault}
use Rattle.raf.specs.Image.{traced, asked_in, changes_in, traffic_by, traffic_in, calls_in}
use Rattle.raf.specs.Outside.{Quiet, Caused, Moved}
use Rattle.raf.specs.Handle.{Handle, handle_of, limit_of, outline, Holds, WithTree, Grown}
use Rattle.raf.specs.Read.{IsByteOf}
use Rattle.raf.specs.Stepped.{Stepped, with_size}
use Rattle.raf.specs.Ran.{NumbersSoFar}
use Rattle.raf.specs.declared.command.Command.{Command}
use Rattle.raf.specs.declared.command.Command.TheVariants as command
use Rattle.raf.specs.declared.command.Reply.TheVariants.{Bytes, Wrote, Refused}
use Rattle.raf.specs.declared.converting.Side.{Side}
use Rattle.raf.specs.declared.converting.Side.TheVariants as side
use Rattle.raf.specs.declared.converting.ConvertError.{ConvertError}
use Rattle.raf_io.specs.declared.errors.ErrorKind.{ErrorKind}
use Rattle.raf_io.specs.declared.errors.ErrorKind.TheVariants.{Io, AuthenticationFailed, Overflow, Broken}

-- the file begins with these bytes: each of them is the byte of its chunk, which is there
abbrev pub Begins : File → List ℕ → Type 0
Begins F bytes = (k : ℕ) → k < length bytes → IsByteOf F.shape.chunk_size F.chunks k (slice_index bytes k)

-- these are all bytes of the file, of which no chunk is missing
pub record HasBytes (F : File) (bytes : List ℕ) : Type 0 where
  pub size : F.size ≡ length bytes
  pub begins : Begins F bytes

-- pieces from the front of so many bytes: each has `room` bytes, and the last one as few as are left
abbrev pub ArePieces : ℕ → ℕ → List (List ℕ) → Type 0
ArePieces room left [] = ⊤
ArePieces room left (piece ∷ pieces) = (0 < left) × (length piece ≡ min room left) × ArePieces room (left - room) pieces

-- a write of each piece, one behind the other from an offset on
abbrev pub writes : ℕ → List (List ℕ) → List Command
writes offset [] = []
writes offset (piece ∷ pieces) = command.Write offset piece ∷ writes (offset + length piece) pieces

-- the most bytes that reads of these pieces fetch, one behind the other from an offset on
abbrev pub reads_traffic : Option ℕ → File → ℕ → List (List ℕ) → ℕ
reads_traffic limit F offset [] = 0
reads_traffic limit F offset (piece ∷ pieces) =
    traffic_by limit F (command.Read offset (length piece)) + reads_traffic limit F (offset + length piece) pieces

-- an open file that was only read of: it is as it was, but for what its storage and its hasher count
pub record OnlyRead (C : Cipher) (old new : Handle) : Type 0 where
  pub same : new ≡ handle_of new.outside old.key old.header old.tree old.broken
  pub bytes : new.outside.bytes ≡ old.outside.bytes
  pub durable : new.outside.durable ≡ old.outside.durable
  pub moved : Moved old.outside new.outside (file_layout (outline C old.header)) new.outside.traffic 0 0 0
  pub left : (F : File) → Holds C old F → new.outside.left ≡ old.outside.left
  pub strays : (F : File) → Holds C old F → new.outside.strays ≡ old.outside.strays

-- commands that wrote to a file that was empty, over a storage that tells: the file holds these bytes, and has its own version, chunk
-- size and id; each write's nonces stood in front of the random source; and the kept tree goes with the file
pub record Filled (C : Cipher) (E : List ℕ → Hashing) (old now : Handle) (F : File) (b : List ℕ) (commands : List Command) (bytes : List ℕ) :
    Type 0 where
  pub holds : Holds C now (file_after (limit_of old) F commands)
  pub has : HasBytes (file_after (limit_of old) F commands) bytes
  pub shape : (file_after (limit_of old) F commands).shape ≡ F.shape
  pub id : (file_after (limit_of old) F commands).id ≡ F.id
  pub nonces : List ℕ
  pub drawn : length nonces ≡ asked_in (limit_of old) F commands
  pub taken : Takes old.outside.left nonces now.outside.left
  pub tells : now.outside.bytes ≡ Some (traced (limit_of old) C old.key F commands nonces b)
  pub grown : WithTree E old (Grown F) → WithTree E now (Grown (file_after (limit_of old) F commands))
  pub moved : Moved old.outside now.outside (longest (limit_of old) F commands) (traffic_in (limit_of old) F commands)
      (asked_in (limit_of old) F commands) (changes_in (limit_of old) F commands) (calls_in (limit_of old) F commands)
  pub strays : now.outside.strays ≡ old.outside.strays

-- pieces that were moved, over any storages: the old file begins with them, and was only read of; the new one holds them, and else is as
-- it was
pub record Moves (C D : Cipher) (H : List ℕ → Hashing) (room : ℕ) (from here to there : Handle) (pieces : List (List ℕ)) : Type 0 where
  pub are : ArePieces room from.header.file_size pieces
  pub only_read : OnlyRead C from here
  pub read : (F : File) → Holds C from F → Begins F (concat pieces)
  pub traffic : here.outside.traffic ≤ from.outside.traffic + reads_traffic (limit_of from) (outline C from.header) 0 pieces
  pub key : there.key ≡ to.key
  pub header : there.header ≡ with_size to.header (length (concat pieces))
  pub limit : limit_of there ≡ limit_of to
  pub unmarked : there.broken ≡ false
  pub written : (G : File) (held : Holds D to G) → Filled D H to there G held.bytes (writes 0 pieces) (concat pieces)
  pub numbers : NumbersSoFar D to there (writes 0 pieces) (map (λ piece. Wrote (length piece)) pieces)
  pub quiet : Quiet from.outside here.outside × Quiet to.outside there.outside

-- the next piece was refused as it was read: the storage failed, or a chunk that the piece meets is missing
pub record Unread (C : Cipher) (E : List ℕ → Hashing) (here after : Handle) (offset len : ℕ) (kind : ErrorKind) : Type 0 where
  pub stepped : Stepped C E here after (command.Read offset len) (Refused kind)
  pub cause : ((kind ≡ Io) × Caused Io here.outside after.outside) ⊎ (kind ≡ AuthenticationFailed)
  pub missing : (F : File) → Holds C here F → kind ≡ AuthenticationFailed → none_missing (needed F (command.Read offset len)) 0 F.chunks ≡ false

-- the next piece was read, and refused as it was written: storage, random source or hasher failed; or the storage, which doesn't tell its
-- bytes, has others than were written to it
pub record Unwritten (C D : Cipher) (E H : List ℕ → Hashing) (from here from' to there after : Handle) (offset : ℕ) (piece : List ℕ)
    (kind : ErrorKind) : Type 0 where
  pub read : Stepped C E here from' (command.Read offset (length piece)) (Bytes piece)
  pub bytes : (F : File) → Holds C from F → (k : ℕ) → k < length piece
      → IsByteOf F.shape.chunk_size F.chunks (offset + k) (slice_index piece k)
  pub stepped : Stepped D H there after (command.Write offset piece) (Refused kind)
  pub cause : ((is_fault (Refused kind) ≡ true) × Caused kind there.outside after.outside) ⊎ (kind ≡ AuthenticationFailed)
  pub told : (G : File) → Holds D to G → is_fault (Refused kind) ≡ true

module _ (C D : Cipher) (E H : List ℕ → Hashing) (room : ℕ) (from from' to to' : Handle) where
  -- why no more than these pieces were moved
  abbrev pub Stopped : Handle → Handle → List (List ℕ) → Side → ErrorKind → Type 0
  Stopped here there pieces side.From kind =
      Unread C E here from' (length (concat pieces)) (min room (from.header.file_size - length (concat pieces))) kind × (to' ≡ there)
  Stopped here there pieces side.To kind = (piece : List ℕ) × (length piece ≡ min room (from.header.file_size - length (concat pieces)))
      × Unwritten C D E H from here from' to there to' (length (concat pieces)) piece kind × Quiet from.outside from'.outside

  -- all pieces were moved, or the next one was refused
  abbrev pub Ends : Handle → Handle → List (List ℕ) → Result (Unit {0}) ConvertError → Type 0
  Ends here there pieces (Ok _) = (length (concat pieces) ≡ from.header.file_size) × (from' ≡ here) × (to' ≡ there)
  Ends here there pieces (Err e) =
      (length (concat pieces) < from.header.file_size) × Stopped here there pieces e.side (kind_of e.error)

  -- as many pieces were moved as could be
  pub record Goes (result : Result (Unit {0}) ConvertError) : Type 0 where
    pub pieces : List (List ℕ)
    pub here : Handle
    pub there : Handle
    pub moves : Moves C D H room from here to there pieces
    pub ends : Ends here there pieces result

  -- refused before any piece, by this cause: nothing happened
  abbrev pub Barred : Side → ErrorKind → Result (Unit {0}) ConvertError → Type 0
  Barred s kind result = IsErrAnd result (λ e. (e.side ≡ s) × (kind_of e.error ≡ kind)) × (from' ≡ from) × (to' ≡ to)

  -- a conversion of an open file into an empty one, by pieces of `room` bytes: it is refused where the old file has the kept mark, then
  -- where the new one has it, then where the new one can't have the old one's size; else it goes on up to a piece that is refused. The
  -- old file is only read of
  pub record Converted (result : Result (Unit {0}) ConvertError) : Type 0 where
    pub from_marked : from.broken ≡ true → Barred side.From Broken result
    pub to_marked : from.broken ≡ false → to.broken ≡ true → Barred side.To Broken result
    pub too_long : from.broken ≡ false → to.broken ≡ false → can_have (limit_of to) (outline D to.header) from.header.file_size ≡ false
        → Barred side.To Overflow result
    pub goes : from.broken ≡ false → to.broken ≡ false → can_have (limit_of to) (outline D to.header) from.header.file_size ≡ true
        → Goes result
    pub only_read : OnlyRead C from from'
