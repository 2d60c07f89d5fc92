-- What a command may ask, leave and read (this project's own).
use Rattle.std.specs.Prelude.{◌≡◌, ℕ, ◌+◌, ◌-◌, ◌*◌, ◌<◌, ◌≤◌, false, if◌then◌else◌, nat_eq, List, length, take, slice_index, Option}
use Rattle.std.specs.Prelude.{Some, Bool, true, is_some, ⊤}
use Rattle.raf_io.specs.Source.{Takes, IsShort}
use Rattle.raf_format.specs.Cipher.{Cipher}
use Rattle.raf_format.specs.File.{File, tag_len, IsSealedFor, record_at, chunk_count}
use Rattle.raf.specs.Due.{Due, is_refused, is_barred}
use Rattle.raf.specs.Due.Due.{Exactly}
use Rattle.raf.specs.Change.{Change, change_of}
use Rattle.raf.specs.Concern.{size_after, touched, needed, sum_where}
use Rattle.raf.specs.Apply.{apply}
use Rattle.raf.specs.Image.{asked_by, calls_by, stopped_after}
use Rattle.raf.specs.declared.command.Command.{Command}
use Rattle.raf.specs.declared.command.Command.TheVariants as command
use Rattle.raf.specs.declared.command.Reply.TheVariants.{Bytes}
use Rattle.raf_io.specs.declared.errors.ErrorKind.{ErrorKind}
use Rattle.raf_io.specs.declared.errors.ErrorKind.TheVariants.{Io, Rng, Hash}

-- calls of the storage beside those for the chunks that are needed and touched: a sync, and those for the chunks that a tree is made of or
-- compared with
abbrev pub other_calls : File → Command → ℕ
other_calls F command.Sync = 1
other_calls F command.Rebuild = chunk_count F.shape.chunk_size F.size
other_calls F command.Verify = chunk_count F.shape.chunk_size F.size
other_calls F _ = 0

-- the command makes calls of the storage
abbrev pub Concerned : File → Command → Type 0
Concerned F c =
    1 ≤ sum_where (needed F c) (λ _. 1) 0 (chunk_count F.shape.chunk_size F.size)
    + sum_where (touched F c) (λ _. 1) 0 (chunk_count F.shape.chunk_size (size_after F c))
    + (if nat_eq (size_after F c) F.size then 0 else 1) + other_calls F c

-- a fault that may come at a command: of the storage where it makes calls of it and numbers don't refuse it; of the random source where
-- nothing refuses it and it asks for nonces; of the hasher where nothing refuses it and it asks for hashes
abbrev pub Faultable : Option ℕ → ErrorKind → File → Command → Type 0
Faultable limit Io F c = (is_barred (apply limit F c).0 ≡ false) × Concerned F c
Faultable limit Rng F c = (is_refused (apply limit F c).0 ≡ false) × (1 ≤ asked_by limit F c)
Faultable limit Hash F c = (is_refused (apply limit F c).0 ≡ false) × (1 ≤ calls_by limit F c)
Faultable limit _ F c = ⊥

-- what a command leaves, also where a fault cuts it short: all bytes where it changes nothing, and the header where the size stays;
-- and each record that it neither touches nor removes
pub record Spares (F : File) (c : Command) (old new : List ℕ) : Type 0 where
  pub untouched : is_some (change_of F c) ≡ false → new ≡ old
  pub header : size_after F c ≡ F.size → take 96 new ≡ take 96 old
  pub records : (index : ℕ) → index < chunk_count F.shape.chunk_size F.size → index < chunk_count F.shape.chunk_size (size_after F c)
      → touched F c index ≡ false
      → record_at F.shape F.size index new ≡ record_at F.shape F.size index old

-- a command that changes a file and stopped where the random source failed, which had told what was left: so many of its records were put,
-- from the first one on, each under a nonce that had stood in front of the source, and a source that fails only where bytes lack had no
-- further one. So what the storage tells now is one function of file, command, those random bytes and the bytes before
pub record Starved (C : Cipher) (key : List ℕ) (F : File) (c : Command) (b : List ℕ) (exact : Bool) (left now : Option (List ℕ)) : Type 0
  where
    pub change : Change
    pub changes : change_of F c ≡ Some change
    pub count : ℕ
    pub nonces : List ℕ
    pub drawn : length nonces ≡ count * C.nonce_len
    pub rest : Option (List ℕ)
    pub taken : Takes left nonces rest
    pub short : exact ≡ true → IsShort rest C.nonce_len
    pub tells : now ≡ Some (stopped_after C key F change count nonces b)

-- each byte that a read answers is a byte of a chunk whose record, in this storage, is its sealed form
abbrev pub Authentic : Cipher → List ℕ → List ℕ → File → Command → Due → Type 0
Authentic C key b F (command.Read offset len) (Exactly (Bytes got)) = (k : ℕ) → k < length got →
    (index : ℕ) × (m : List ℕ) × (index * F.shape.chunk_size ≤ offset + k) × (offset + k < index * F.shape.chunk_size + length m)
    × (slice_index got k ≡ slice_index m (offset + k - index * F.shape.chunk_size))
    × IsSealedFor C (tag_len F.shape) (C.chunk_key key F.id) F.id index (record_at F.shape F.size index b) m
Authentic C key b F c due = ⊤
