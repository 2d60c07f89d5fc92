-- The storage, the random source and the hasher of a file, as their traits' meanings tell of them, and how they move (this project's own).
use Rattle.std.specs.Prelude.{◌≡◌, ℕ, ◌+◌, ◌≤◌, ◌<◌, ◌⊎◌, max, Bool, List, Option, Some, None}
use Rattle.counts.specs.Counts.{Rose}
use Rattle.raf_io.specs.declared.errors.ErrorKind.{ErrorKind}
use Rattle.raf_io.specs.declared.errors.ErrorKind.TheVariants.{Io, Rng, Hash}

-- what the storage holds and what is durable, where it tells, and its counts; what the random source has left, where it tells, its
-- counts, and whether it fails only where fewer bytes are left than are asked; the hasher's setting, where there is one, on which all its
-- answers depend, and its counts
pub record Outside : Type 0 where
  pub bytes : Option (List ℕ)
  pub durable : Option (List ℕ)
  pub io_faults : ℕ
  pub reach : ℕ
  pub traffic : ℕ
  pub changes : ℕ
  pub strays : ℕ
  pub left : Option (List ℕ)
  pub rng_faults : ℕ
  pub asked : ℕ
  pub exact : Bool
  pub setting : Option (List ℕ)
  pub hash_faults : ℕ
  pub calls : ℕ

-- the same random source and hasher, beside a storage that tells and counts this
abbrev pub over_storage : (bytes durable : Option (List ℕ)) (io_faults reach traffic changes strays : ℕ) → Outside → Outside
over_storage bytes durable io_faults reach traffic changes strays o = record {
  bytes = bytes;
  durable = durable;
  io_faults = io_faults;
  reach = reach;
  traffic = traffic;
  changes = changes;
  strays = strays;
  left = o.left;
  rng_faults = o.rng_faults;
  asked = o.asked;
  exact = o.exact;
  setting = o.setting;
  hash_faults = o.hash_faults;
  calls = o.calls;
}

-- a count of the hasher, where there is one
abbrev pub counted : {H : Type 0} → (H → ℕ) → Option H → ℕ
counted count None = 0
counted count (Some hasher) = count hasher

-- no byte changed, and no random byte was taken
pub record Kept (old new : Outside) : Type 0 where
  pub bytes : new.bytes ≡ old.bytes
  pub durable : new.durable ≡ old.durable
  pub left : new.left ≡ old.left

-- none failed
pub record Quiet (old new : Outside) : Type 0 where
  pub io : new.io_faults ≡ old.io_faults
  pub rng : new.rng_faults ≡ old.rng_faults
  pub hash : new.hash_faults ≡ old.hash_faults

-- the one that a fault names has failed, and the others haven't
abbrev pub Caused : ErrorKind → Outside → Outside → Type 0
Caused Io old new = Rose old.io_faults new.io_faults × (new.rng_faults ≡ old.rng_faults) × (new.hash_faults ≡ old.hash_faults)
Caused Rng old new = Rose old.rng_faults new.rng_faults × (new.io_faults ≡ old.io_faults) × (new.hash_faults ≡ old.hash_faults)
Caused Hash old new = Rose old.hash_faults new.hash_faults × (new.io_faults ≡ old.io_faults) × (new.rng_faults ≡ old.rng_faults)
Caused _ old new = ⊥

-- no count fell, what no call changes stayed, and these are the most that was asked: the greatest end of a range, the bytes of reads
-- and writes, the random bytes, the writes and resizes, and the hashes
pub record Moved (old new : Outside) (end traffic asked changes calls : ℕ) : Type 0 where
  pub exact : new.exact ≡ old.exact
  pub setting : new.setting ≡ old.setting
  pub io_later : old.io_faults ≤ new.io_faults
  pub rng_later : old.rng_faults ≤ new.rng_faults
  pub hash_later : old.hash_faults ≤ new.hash_faults
  pub reach_later : old.reach ≤ new.reach
  pub reach_most : new.reach ≤ max old.reach end
  pub traffic_later : old.traffic ≤ new.traffic
  pub traffic_most : new.traffic ≤ old.traffic + traffic
  pub asked_later : old.asked ≤ new.asked
  pub asked_most : new.asked ≤ old.asked + asked
  pub changes_later : old.changes ≤ new.changes
  pub changes_most : new.changes ≤ old.changes + changes
  pub calls_later : old.calls ≤ new.calls
  pub calls_most : new.calls ≤ old.calls + calls
  pub strays_later : old.strays ≤ new.strays

-- storage or tree was written to: a count of it is larger than before
abbrev pub Began : Outside → Outside → Type 0
Began old new = (old.changes < new.changes) ⊎ (old.calls < new.calls)

-- the same, or a count of it stands at its last value
abbrev pub MayHaveBegun : Outside → Outside → Type 0
MayHaveBegun old new = Rose old.changes new.changes ⊎ Rose old.calls new.calls
