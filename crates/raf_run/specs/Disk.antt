-- What contracts see of a storage that a run is handed (this project's own).
use Rattle.std.specs.Prelude.{[], ℕ, List, Option, Some}
use Rattle.raf.specs.Outside.{Outside, over_storage}

-- what a storage holds and what is durable, where it tells, and its counts
pub record Disk : Type 0 where
  pub bytes : Option (List ℕ)
  pub durable : Option (List ℕ)
  pub faults : ℕ
  pub reach : ℕ
  pub traffic : ℕ
  pub changes : ℕ
  pub strays : ℕ

-- the same, by its meanings
abbrev pub disk_of : {D : Type 0} (bytes durable : D → Option (List ℕ)) (faults reach traffic changes strays : D → ℕ) → D → Disk
disk_of bytes durable faults reach traffic changes strays d = record {
  bytes = bytes d;
  durable = durable d;
  faults = faults d;
  reach = reach d;
  traffic = traffic d;
  changes = changes d;
  strays = strays d;
}

-- memory that holds these bytes, none of them durable, of which nothing was asked
abbrev pub memory_of : List ℕ → Disk
memory_of bytes = record { bytes = Some bytes; durable = Some []; faults = 0; reach = 0; traffic = 0; changes = 0; strays = 0 }

-- a disk beside the random source and the hasher of a builder
abbrev pub over : Disk → Outside → Outside
over d o = over_storage d.bytes d.durable d.faults d.reach d.traffic d.changes d.strays o

-- the disk among what a file stands on
abbrev pub disk_in : Outside → Disk
disk_in o = record {
  bytes = o.bytes;
  durable = o.durable;
  faults = o.io_faults;
  reach = o.reach;
  traffic = o.traffic;
  changes = o.changes;
  strays = o.strays;
}
