-- How a run over a script's content may end (this project's own).
use Rattle.std.specs.Prelude.{◌≡◌, ◌⊎◌, [], ℕ, true, List, Option, Some, None, Result, Err}
use Rattle.raf_format.specs.Cipher.{Cipher, cipher_of}
use Rattle.raf_format.specs.Numbers.{variant_of}
use Rattle.raf_format.specs.Version.{version_number}
use Rattle.raf_io.specs.Kinds.{kind_of}
use Rattle.raf_io.specs.declared.errors.Error.{Error}
use Rattle.raf_tree.specs.Hashing.{Hashing, zeros}
use Rattle.raf_tree.specs.Sha.{sha_hashing}
use Rattle.raf.specs.Outside.{Outside}
use Rattle.raf.specs.Handle.{Handle}
use Rattle.raf.specs.Opening.{Settings, Made, NotMade}
use Rattle.raf.specs.Session.{Meets}
use Rattle.raf.specs.declared.command.Command.{Command}
use Rattle.raf.specs.declared.command.Reply.{Reply}
use Rattle.raf_script.specs.declared.script.Randomness.{Randomness}
use Rattle.raf_script.specs.declared.script.Randomness.TheVariants.{Random, Seed}
use Rattle.raf_script.specs.declared.script.Start.{Start}
use Rattle.raf_script.specs.declared.script.Start.TheVariants.{Storage, Create}
use Rattle.raf_script.specs.declared.script.Script.{Script}
use Rattle.raf_run.specs.Disk.{Disk, memory_of, over, disk_in}
use Rattle.raf_run.specs.declared.answer.End.{End}

-- what a file stands on: its algorithm and key; the hasher's answers; the most chunks of its tree and the hasher's setting, where there is
-- a hasher; and the bytes of the random source, where it tells them
pub record Ground : Type 0 where
  pub cipher : Cipher
  pub key : List ℕ
  pub answers : List ℕ → Hashing
  pub most : Option ℕ
  pub setting : Option (List ℕ)
  pub random : Option (List ℕ)

-- the hasher is SHA-256, where there is one
abbrev pub answers_of : Option ℕ → List ℕ → Hashing
answers_of None = λ _. zeros 8
answers_of (Some most) = λ _. sha_hashing

abbrev pub setting_of : Option ℕ → Option (List ℕ)
setting_of None = None
setting_of (Some most) = Some []

-- a generator doesn't tell its bytes
abbrev pub told_by : Randomness → Option (List ℕ)
told_by (Random bytes) = Some bytes
told_by (Seed seed) = None

abbrev pub ground_of : Script → Ground
ground_of s = record {
  cipher = cipher_of (variant_of s.algorithm);
  key = s.key;
  answers = answers_of s.max_chunks;
  most = s.max_chunks;
  setting = setting_of s.max_chunks;
  random = told_by s.randomness;
}

-- a builder with the ground's hasher
pub record HasherOf (G : Ground) (b : Settings) : Type 0 where
  pub most : b.most ≡ G.most
  pub setting : b.outside.setting ≡ G.setting

-- a builder with the ground's hasher and random source, which was asked nothing, and fails only where it tells fewer bytes than are asked.
-- A new file takes the place of what the storage holds
pub record BuilderOf (G : Ground) (b : Settings) : Type 0 where
  pub truncate : b.truncate ≡ true
  pub most : b.most ≡ G.most
  pub setting : b.outside.setting ≡ G.setting
  pub left : b.outside.left ≡ G.random
  pub rng_faults : b.outside.rng_faults ≡ 0
  pub asked : b.outside.asked ≡ 0
  pub exact : b.outside.exact ≡ true

-- no hasher has failed, and no random source that doesn't tell its bytes
pub record IsSure (G : Ground) (o : Outside) : Type 0 where
  pub hash : o.hash_faults ≡ 0
  pub rng : G.random ≡ None → o.rng_faults ≡ 0

-- a session by a builder, over this disk, may end so: its outcome meets what is proved of sessions, and the disk is handed back like this
pub record Served (G : Ground) (b : Settings) (commands : List Command) (disk : Disk) (outcome : Result (List Reply) Error) (back : Disk) : Type 0 where
  pub after : Outside
  pub meets : Meets G.cipher G.answers G.key b commands (over disk b.outside) after outcome
  pub sure : IsSure G after
  pub handed : back ≡ disk_in after

-- a file was made, and a session served on its storage, with what its random source had left
pub record ServedAnew (G : Ground) (b : Settings) (commands : List Command) (disk : Disk) (outcome : Result (List Reply) Error) (back : Disk) : Type 0 where
  pub file : Handle
  pub made : Made G.cipher G.answers G.key b (over disk b.outside) file
  pub opener : Settings
  pub hasher : HasherOf G opener
  pub left : opener.outside.left ≡ file.outside.left
  pub rng_faults : opener.outside.rng_faults ≡ file.outside.rng_faults
  pub asked : opener.outside.asked ≡ file.outside.asked
  pub exact : opener.outside.exact ≡ file.outside.exact
  pub served : Served G opener commands (disk_in file.outside) outcome back

-- no file was made, and that is the outcome
pub record RefusedAnew (G : Ground) (b : Settings) (disk : Disk) (outcome : Result (List Reply) Error) (back : Disk) : Type 0 where
  pub after : Outside
  pub error : Error
  pub refusal : outcome ≡ Err error
  pub refused : NotMade G.answers b (over disk b.outside) after (kind_of error)
  pub sure : IsSure G after
  pub handed : back ≡ disk_in after

-- how a run of these commands may end: over what the disk holds, or over a file that is made there first, unless that is refused
abbrev pub EndsOn : Ground → Start → List Command → Disk → Result (List Reply) Error → Disk → Type 0
EndsOn G (Storage bytes) commands disk outcome back = (b : Settings) × BuilderOf G b × Served G b commands disk outcome back
EndsOn G (Create size version) commands disk outcome back =
    (b : Settings) × BuilderOf G b × (b.chunk_size ≡ size) × (b.version ≡ version_number version)
    × (ServedAnew G b commands disk outcome back ⊎ RefusedAnew G b disk outcome back)

abbrev pub Ends : Script → Disk → Result (List Reply) Error → Disk → Type 0
Ends s disk outcome back = EndsOn (ground_of s) s.start s.commands disk outcome back

-- what memory holds at first
abbrev pub first_bytes : Start → List ℕ
first_bytes (Storage bytes) = bytes
first_bytes (Create size version) = []

-- the same start, of which the bytes were taken
abbrev pub without_bytes : Start → Start
without_bytes (Storage bytes) = Storage []
without_bytes (Create size version) = Create size version

-- how a run in memory may end, with the bytes that the storage was handed back with
abbrev pub EndsInMemory : Script → End → Type 0
EndsInMemory s end = (back : Disk) × Ends s (memory_of (first_bytes s.start)) end.outcome back × (back.bytes ≡ Some end.storage)
