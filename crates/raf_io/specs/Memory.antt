-- What a storage in memory holds, when its calls fail, and what a source in memory has left (this project's own).
use Rattle.std.specs.Prelude.{◌≡◌, ℕ, List, Bool, cond, drop, nat_eq}
use Rattle.std.specs.List.{list_any}
use Rattle.counts.specs.Counts.{raised}
use Rattle.raf_io.specs.declared.memory.MemIo.{MemIo}
use Rattle.raf_io.specs.declared.source.VecRng.{VecRng}

-- what it holds
abbrev pub memory_bytes : MemIo → List ℕ
memory_bytes m = m.bytes.items

-- what is durable
abbrev pub durable_bytes : MemIo → List ℕ
durable_bytes m = m.durable.items

-- the numbers of the calls that are to fail
abbrev pub failing : MemIo → List ℕ
failing m = m.fail.items

-- the next call is to fail: its number is in the list
abbrev pub fails_now : MemIo → Bool
fails_now m = list_any (λ number. nat_eq number m.calls) (failing m)

-- nothing was asked of it
pub record IsFresh (m : MemIo) : Type 0 where
  pub calls : m.calls ≡ 0
  pub faults : m.faults ≡ 0
  pub reach : m.reach ≡ 0
  pub traffic : m.traffic ≡ 0
  pub changes : m.changes ≡ 0
  pub strays : m.strays ≡ 0

-- a fault more, and all else as before
pub record Faulted (old new : MemIo) : Type 0 where
  pub bytes : new.bytes ≡ old.bytes
  pub durable : new.durable ≡ old.durable
  pub fail : new.fail ≡ old.fail
  pub calls : new.calls ≡ old.calls
  pub faults : new.faults ≡ raised old.faults 1
  pub reach : new.reach ≡ old.reach
  pub traffic : new.traffic ≡ old.traffic
  pub changes : new.changes ≡ old.changes
  pub strays : new.strays ≡ old.strays

-- a call more, which counts a fault where it is to fail
pub record Turn (old new : MemIo) (fails : Bool) : Type 0 where
  pub turn : fails ≡ fails_now old
  pub bytes : new.bytes ≡ old.bytes
  pub durable : new.durable ≡ old.durable
  pub fail : new.fail ≡ old.fail
  pub calls : new.calls ≡ raised old.calls 1
  pub faults : new.faults ≡ cond fails (raised old.faults 1) old.faults
  pub reach : new.reach ≡ old.reach
  pub traffic : new.traffic ≡ old.traffic
  pub changes : new.changes ≡ old.changes
  pub strays : new.strays ≡ old.strays

-- the bytes that a source still has
abbrev pub left_of : VecRng → List ℕ
left_of s = drop s.at s.bytes.items

-- nothing was asked of it
pub record IsUnasked (s : VecRng) : Type 0 where
  pub faults : s.faults ≡ 0
  pub asked : s.asked ≡ 0
