-- One command on an open file: what every call on it states, each of its own command and reply (this project's own).
use Rattle.std.specs.Prelude.{◌≡◌, ℕ, ◌+◌, ◌-◌, ◌≤◌, min, max, Bool, true, false, if◌then◌else◌, List, length, take, Option, Some, Result}
use Rattle.std.specs.Prelude.{Ok, Err, ◌⊎◌, ⊤}
use Rattle.raf_io.specs.Storage.{Told, SyncedTo}
use Rattle.raf_io.specs.Source.{Takes, TakesAtMost, IsShort}
use Rattle.raf_tree.specs.Hashing.{Hashing}
use Rattle.raf_tree.specs.Kept.{kept, tree_height}
use Rattle.raf_format.specs.Cipher.{Cipher}
use Rattle.raf_format.specs.File.{File, chunk_count, file_layout}
use Rattle.raf.specs.Due.{Answers, is_refused}
use Rattle.raf.specs.Concern.{size_after, needed, fits, sum_where}
use Rattle.raf.specs.Apply.{apply}
use Rattle.raf.specs.Image.{bytes_after, asked_by, changes_by, traffic_by, calls_by}
use Rattle.raf.specs.Outside.{Outside, Quiet, Caused, Moved, Began, MayHaveBegun}
use Rattle.raf.specs.Handle.{Handle, limit_of, Holds, Measures, outline, WithTree, OfTree, Grown, KeptAnswer}
use Rattle.raf.specs.Meaning.{Spares, Starved, Faultable, Authentic}
use Rattle.raf_io.specs.Kinds.{kind_of}
use Rattle.raf.specs.Due.{is_fault}
use Rattle.raf_format.specs.declared.header.Header.{Header}
use Rattle.raf.specs.declared.command.Command.{Command}
use Rattle.raf.specs.declared.command.Command.TheVariants as command
use Rattle.raf.specs.declared.command.Reply.{Reply}
use Rattle.raf.specs.declared.command.Reply.TheVariants.{Bytes, Wrote, Done, Size, Verified, Commitment, Refused}
use Rattle.raf_io.specs.declared.errors.Error.{Error}
use Rattle.raf_io.specs.declared.errors.ErrorKind.{ErrorKind}
use Rattle.raf_io.specs.declared.errors.ErrorKind.TheVariants.{AuthenticationFailed, MerkleNotEnabled, Rng, Broken}

-- the header of the same file at another size
abbrev pub with_size : Header → ℕ → Header
with_size h n = record { version = h.version; algorithm = h.algorithm; chunk_size = h.chunk_size; file_size = n; id = h.id }

-- what a call answered, as the reply to its command
abbrev pub read_reply : List ℕ → Result ℕ Error → Reply
read_reply buf (Ok n) = Bytes (take n buf)
read_reply buf (Err e) = Refused (kind_of e)

abbrev pub write_reply : Result ℕ Error → Reply
write_reply (Ok n) = Wrote n
write_reply (Err e) = Refused (kind_of e)

abbrev pub done_reply : Result (Unit {0}) Error → Reply
done_reply (Ok _) = Done
done_reply (Err e) = Refused (kind_of e)

abbrev pub verify_reply : Result (Option ℕ) Error → Reply
verify_reply (Ok found) = Verified found
verify_reply (Err e) = Refused (kind_of e)

abbrev pub commitment_reply : List ℕ → Result (Unit {0}) Error → Reply
commitment_reply out (Ok _) = Commitment out
commitment_reply out (Err e) = Refused (kind_of e)

-- the command was refused
abbrev pub refuses : Reply → Bool
refuses (Refused kind) = true
refuses _ = false

-- a change or a rebuild, which writes to storage or tree
abbrev pub may_mark : Command → Bool
may_mark (command.Write offset bytes) = true
may_mark (command.Truncate size) = true
may_mark command.Rebuild = true
may_mark _ = false

-- what is durable may be another afterwards
abbrev pub may_settle : Command → Bool
may_settle (command.Write offset bytes) = true
may_settle (command.Truncate size) = true
may_settle command.Sync = true
may_settle _ = false

-- a command that was answered without a fault, over a storage that tells: the reply is the one that is due; storage and random source
-- are those of the image; the new handle holds the new file and has no kept mark; what was read is authentic; and the kept tree goes with
-- the file
pub record Answered (C : Cipher) (E : List ℕ → Hashing) (old new : Handle) (F : File) (b : List ℕ) (c : Command) (reply : Reply) : Type 0
  where
    pub due : Answers (λ r. OfTree E old (KeptAnswer F c r)) (apply (limit_of old) F c).0 reply
    pub nonces : List ℕ
    pub drawn : length nonces ≡ asked_by (limit_of old) F c
    pub taken : Takes old.outside.left nonces new.outside.left
    pub tells : new.outside.bytes ≡ Some (bytes_after (limit_of old) C old.key F c nonces b)
    pub holds : Holds C new (apply (limit_of old) F c).1
    pub authentic : Authentic C old.key b F c (apply (limit_of old) F c).0
    pub grown : WithTree E old (Grown F) ⊎ ((c ≡ command.Rebuild) × (reply ≡ Done)) → WithTree E new (Grown (apply (limit_of old) F c).1)
    pub unmarked : new.broken ≡ false
    pub still : refuses reply ≡ true → (new.outside.changes ≡ old.outside.changes) × (new.outside.calls ≡ old.outside.calls)

-- one that a fault cut short, over a storage that tells
pub record Cut (old new : Handle) (F : File) (b : List ℕ) (c : Command) : Type 0 where
  pub left : TakesAtMost old.outside.left (asked_by (limit_of old) F c) new.outside.left
  pub bytes : List ℕ
  pub tells : new.outside.bytes ≡ Some bytes
  pub spares : Spares F c b bytes

-- a fault by its count, and where it may come: by the file that is held, and by its numbers alone. A source that fails only where fewer
-- bytes are left than are asked has fewer than the command asks
pub record Failed (C : Cipher) (old new : Handle) (c : Command) (reply : Reply) : Type 0 where
  pub kind : ErrorKind
  pub is : reply ≡ Refused kind
  pub cause : Caused kind old.outside new.outside
  pub may : (F : File) → Measures C old F → Faultable (limit_of old) kind F c
  pub short : (F : File) → Measures C old F → kind ≡ Rng → old.outside.exact ≡ true → IsShort old.outside.left (asked_by (limit_of old) F c)

-- the most that a command asked
abbrev pub Bounded : Option ℕ → Outside → Outside → File → Command → Type 0
Bounded limit old new F c =
    Moved old new (max (file_layout F) (file_layout (apply limit F c).1)) (traffic_by limit F c) (asked_by limit F c)
    (changes_by limit F c) (calls_by limit F c)

-- by numbers it needs a chunk
abbrev pub Needs : File → Command → Type 0
Needs F c = 1 ≤ sum_where (needed F c) (λ _. 1) 0 (chunk_count F.shape.chunk_size F.size)

-- what a tree answers, by its form
abbrev pub HasForm : Command → Reply → Type 0
HasForm command.Verify reply = (found : Option ℕ) × (reply ≡ Verified found)
HasForm command.Commitment reply = (out : List ℕ) × (reply ≡ Commitment out)
HasForm _ reply = ⊥

-- the reply that no fault cut short, by numbers alone
abbrev pub Shaped : Option ℕ → File → Command → Reply → Type 0
Shaped limit F (command.Read offset len) reply =
    ((reply ≡ Refused AuthenticationFailed) × Needs F (command.Read offset len))
    ⊎ ((got : List ℕ) × (reply ≡ Bytes got) × (length got ≡ min (offset + len) F.size - offset))
Shaped limit F command.Rebuild reply = (is_refused (apply limit F command.Rebuild).0 ≡ true → reply ≡ Refused MerkleNotEnabled)
    × (is_refused (apply limit F command.Rebuild).0 ≡ false
    → (reply ≡ Done) ⊎ ((reply ≡ Refused AuthenticationFailed) × (1 ≤ chunk_count F.shape.chunk_size F.size)))
Shaped limit F c reply =
    ((reply ≡ Refused AuthenticationFailed) × (fits limit F c ≡ true) × Needs F c) ⊎ Answers (HasForm c) (apply limit F c).0 reply

-- the kept mark, where it wasn't set: a change or a rebuild that is refused sets it where storage or tree was written to, and nothing
-- else does. Without a fault only a rebuild of a chunk that didn't open any more sets it
pub record Marked (old new : Handle) (c : Command) (reply : Reply) : Type 0 where
  pub sets : may_mark c ≡ true → refuses reply ≡ true → Began old.outside new.outside → new.broken ≡ true
  pub cause : new.broken ≡ true → (may_mark c ≡ true) × (refuses reply ≡ true) × MayHaveBegun old.outside new.outside
  pub calmly : new.broken ≡ true → is_fault reply ≡ false → (c ≡ command.Rebuild) × (reply ≡ Refused AuthenticationFailed)

-- what stays: the key, the header but for the size, which a change without a refusal alone sets; the limit; and the storage's bytes, what
-- of it is durable, and the tree where a change or a rebuild is refused and sets no mark
pub record Stays (C : Cipher) (old new : Handle) (c : Command) (reply : Reply) : Type 0 where
  pub key : new.key ≡ old.key
  pub limit : limit_of new ≡ limit_of old
  pub header : new.header ≡ (if refuses reply then old.header else with_size old.header (size_after (outline C old.header) c))
  pub bytes : may_mark c ≡ false ⊎ ((refuses reply ≡ true) × (new.broken ≡ false)) → (new.outside.bytes ≡ old.outside.bytes)
      × (new.tree ≡ old.tree)
  pub durable : (may_settle c ≡ false) ⊎ ((may_mark c ≡ true) × (refuses reply ≡ true) × (new.broken ≡ false))
      → new.outside.durable ≡ old.outside.durable
  pub synced : c ≡ command.Sync → reply ≡ Done → Told (SyncedTo old.outside.bytes) old.outside.durable new.outside.durable

-- a commitment is that of the kept root, the file's id and its size, whatever the storage tells
abbrev pub Committed : (List ℕ → Hashing) → Handle → Command → Reply → Type 0
Committed E old command.Commitment (Commitment out) =
    OfTree E old (λ H t. out ≡ H.commitment (kept t (tree_height t) 0) old.header.id old.header.file_size)
Committed E old _ _ = ⊤

-- a command on a file without the kept mark
pub record Went (C : Cipher) (E : List ℕ → Hashing) (old new : Handle) (c : Command) (reply : Reply) : Type 0 where
  pub answered : (F : File) (held : Holds C old F) → is_fault reply ≡ false → Answered C E old new F held.bytes c reply
  pub cut : (F : File) (held : Holds C old F) → is_fault reply ≡ true → Cut old new F held.bytes c
  pub starved : (F : File) (held : Holds C old F) → reply ≡ Refused Rng
      → Starved C old.key F c held.bytes old.outside.exact old.outside.left new.outside.bytes
  pub failed : is_fault reply ≡ true → Failed C old new c reply
  pub quiet : is_fault reply ≡ false → Quiet old.outside new.outside
  pub shaped : is_fault reply ≡ false → Shaped (limit_of old) (outline C old.header) c reply
  pub bounded : (F : File) → Measures C old F → Bounded (limit_of old) old.outside new.outside F c
  pub strays : (F : File) → Holds C old F → new.outside.strays ≡ old.outside.strays
  pub committed : Committed E old c reply
  pub marked : Marked old new c reply
  pub stays : Stays C old new c reply

-- the reply where the kept mark is set: the size that is kept, and else `Broken`
abbrev pub broken_at : ℕ → Command → Reply
broken_at size command.Size = Size size
broken_at size _ = Refused Broken

abbrev pub broken_reply : Handle → Command → Reply
broken_reply h c = broken_at h.header.file_size c

-- a command on an open file: where the kept mark is set nothing happens
pub record Stepped (C : Cipher) (E : List ℕ → Hashing) (old new : Handle) (c : Command) (reply : Reply) : Type 0 where
  pub barred : old.broken ≡ true → (reply ≡ broken_reply old c) × (new ≡ old)
  pub went : old.broken ≡ false → Went C E old new c reply
