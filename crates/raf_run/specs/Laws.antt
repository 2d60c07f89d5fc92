-- What holds of runs of scripts (this project's own).
use Rattle.std.specs.Prelude.{◌≡◌, ◌⊎◌, ℕ, ◌^◌, ◌<◌, ◌≤◌, ◌-◌, List, length, take, drop, Some, Result, Ok, Err, is_some, true, slice_get}
use Rattle.counts.specs.Counts.{Rose}
use Rattle.raf_format.specs.Header.{sealed_header}
use Rattle.raf_format.specs.File.{File, IsFile, Opens, file_of, chunk_count}
use Rattle.raf_format.specs.Version.{version_number}
use Rattle.raf_format.specs.declared.header.Header.{Header}
use Rattle.raf_io.specs.Kinds.{kind_of}
use Rattle.raf_io.specs.declared.errors.Error.{Error}
use Rattle.raf_io.specs.declared.errors.ErrorKind.TheVariants.{Rng}
use Rattle.raf.specs.Concern.{none_missing}
use Rattle.raf.specs.Handle.{hash_len_of}
use Rattle.raf.specs.Image.{asked_in}
use Rattle.raf.specs.Opening.{Room, IsChunkSize}
use Rattle.raf.specs.Session.{room_total}
use Rattle.raf.specs.declared.command.Command.{Command}
use Rattle.raf.specs.declared.command.Reply.{Reply}
use Rattle.raf.specs.declared.command.Reply.TheVariants.{Refused}
use Rattle.raf_script.specs.declared.script.Randomness.{Randomness}
use Rattle.raf_script.specs.declared.script.Randomness.TheVariants.{Random, Seed}
use Rattle.raf_script.specs.declared.script.Start.{Start}
use Rattle.raf_script.specs.declared.script.Start.TheVariants.{Storage, Create}
use Rattle.raf_script.specs.declared.script.Script.{Script}
use Rattle.raf_run.specs.Disk.{Disk}
use Rattle.raf_run.specs.Ends.{Ground, Ends, EndsInMemory, ground_of, first_bytes}
use Rattle.raf_run.specs.Text.{end_text}
use Rattle.raf_run.specs.Answers.{outcome_status, memory_status, tells_io}
use Rattle.raf_run.specs.declared.answer.End.{End}

-- where the script tells its random bytes, two runs over disks that tell the same bytes, both with status 0, have the same replies and leave
-- the same bytes
abbrev pub OneEnd : Type 0
OneEnd = (s : Script) (random b : List ℕ) (disk disk' back back' : Disk) (o o' : Result (List Reply) Error)
    → s.randomness ≡ Random random → disk.bytes ≡ Some b → disk'.bytes ≡ Some b → Ends s disk o back → Ends s disk' o' back'
    → outcome_status o ≡ 0 → outcome_status o' ≡ 0 → (o ≡ o') × (back.bytes ≡ back'.bytes)

-- so what is written of a run in memory with status 0 is one function of the script
abbrev pub OneText : Type 0
OneText = (s : Script) (random : List ℕ) (e f : End) → s.randomness ≡ Random random → EndsInMemory s e → EndsInMemory s f
    → memory_status e.outcome ≡ 0 → memory_status f.outcome ≡ 0 → end_text e ≡ end_text f

-- these bytes are a file that opens, with a hasher none of its chunks missing; and the replies have room
pub record IsReadyOn (G : Ground) (b : List ℕ) (commands : List Command) : Type 0 where
  pub header : Header
  pub is_file : IsFile G.cipher G.key b header
  pub room : Room G.answers G.setting G.most (chunk_count header.chunk_size header.file_size)
  pub present : is_some G.setting ≡ true → none_missing (λ _. true) 0 (file_of G.cipher G.key header b).chunks ≡ true
  pub replies : room_total (hash_len_of G.answers G.setting) commands < 2 ^ 64

-- and the commands ask no more random bytes than these
pub record IsValidOn (G : Ground) (b : List ℕ) (commands : List Command) (random : List ℕ) : Type 0 where
  pub ready : IsReadyOn G b commands
  pub enough : asked_in G.most (file_of G.cipher G.key ready.header b) commands ≤ length random

-- the header of a new file, whose id stood in front of the random bytes
abbrev pub new_header : Ground → ℕ → ℕ → List ℕ → List ℕ
new_header G size version random = sealed_header G.cipher G.key (record { version = version; algorithm = G.cipher.id; chunk_size = size; file_size = 0; id = take 32 random })

-- the numbers of a new file are right
pub record CanCreate (G : Ground) (size : ℕ) : Type 0 where
  pub chunk_size : IsChunkSize size
  pub room : Room G.answers G.setting G.most 0

-- a new file can be made, there are random bytes for its id, and it is valid with the others
pub record IsValidAnew (G : Ground) (size version : ℕ) (commands : List Command) (random : List ℕ) : Type 0 where
  pub can : CanCreate G size
  pub id : 32 ≤ length random
  pub valid : IsValidOn G (new_header G size version random) commands (drop 32 random)

-- a new file can be made, and the replies have room
pub record IsReadyAnew (G : Ground) (size : ℕ) (commands : List Command) : Type 0 where
  pub can : CanCreate G size
  pub replies : room_total (hash_len_of G.answers G.setting) commands < 2 ^ 64

-- the content of a script is valid over these bytes; the bytes of a seeded generator are always enough
abbrev pub IsValid : Ground → Start → List Command → List ℕ → Randomness → Type 0
IsValid G (Storage bytes) commands b (Random random) = IsValidOn G b commands random
IsValid G (Create size version) commands b (Random random) = IsValidAnew G size (version_number version) commands random
IsValid G (Storage bytes) commands b (Seed seed) = IsReadyOn G b commands
IsValid G (Create size version) commands b (Seed seed) = IsReadyAnew G size commands

-- the storage failed, or memory ran out
abbrev pub IsExcused : Disk → Result (List Reply) Error → Disk → Type 0
IsExcused disk outcome back = (outcome_status outcome ≡ 7) ⊎ ((tells_io outcome ≡ true) × Rose disk.faults back.faults)

-- where the content of a script is valid over what the disk tells, its run has status 0, unless it is excused
abbrev pub Completes : Type 0
Completes = (s : Script) (b : List ℕ) (disk back : Disk) (outcome : Result (List Reply) Error)
    → disk.bytes ≡ Some b → IsValid (ground_of s) s.start s.commands b s.randomness → Ends s disk outcome back
    → (outcome_status outcome ≡ 0) ⊎ IsExcused disk outcome back

-- so in memory it has status 0, or 7 for want of memory
abbrev pub CompletesInMemory : Type 0
CompletesInMemory = (s : Script) (e : End)
    → IsValid (ground_of s) s.start s.commands (first_bytes s.start) s.randomness → EndsInMemory s e
    → (memory_status e.outcome ≡ 0) ⊎ (memory_status e.outcome ≡ 7)

-- the last reply, or the refusal, says that the random source failed
abbrev pub FaultsRng : List Reply → Type 0
FaultsRng replies = slice_get replies (length replies - 1) ≡ Some (Refused Rng)

-- commands over these bytes were answered: the random bytes fail exactly where the commands ask for more than there are, unless the run is
-- excused
pub record RunsShortOn (G : Ground) (b : List ℕ) (commands : List Command) (random : List ℕ) (disk : Disk) (replies : List Reply) (back : Disk) : Type 0 where
  pub file : File
  pub opens : Opens G.cipher G.key b file
  pub only : FaultsRng replies → length random < asked_in G.most file commands
  pub there : length random < asked_in G.most file commands → FaultsRng replies ⊎ IsExcused disk (Ok replies) back

abbrev pub RunsShortBy : Ground → Start → List Command → List ℕ → List ℕ → Disk → Result (List Reply) Error → Disk → Type 0
RunsShortBy G (Storage bytes) commands b random disk (Ok replies) back = RunsShortOn G b commands random disk replies back
RunsShortBy G (Storage bytes) commands b random disk (Err e) back = kind_of e ≡ Rng → ⊥
RunsShortBy G (Create size version) commands b random disk (Ok replies) back =
    (32 ≤ length random) × RunsShortOn G (new_header G size (version_number version) random) commands (drop 32 random) disk replies back
RunsShortBy G (Create size version) commands b random disk (Err e) back =
    (kind_of e ≡ Rng → CanCreate G size × (length random < 32))
    × (CanCreate G size → length random < 32 → (kind_of e ≡ Rng) ⊎ IsExcused disk (Err e) back)

-- where the script tells its random bytes and the disk its bytes, the random source fails exactly where those run out
abbrev pub RunsShort : Type 0
RunsShort = (s : Script) (random b : List ℕ) (disk back : Disk) (outcome : Result (List Reply) Error)
    → s.randomness ≡ Random random → disk.bytes ≡ Some b → Ends s disk outcome back
    → RunsShortBy (ground_of s) s.start s.commands b random disk outcome back
