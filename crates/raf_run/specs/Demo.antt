-- The demo: commands that a number stands for, and what they leave (this project's own).
use Rattle.std.specs.Prelude.{◌≡◌, ◌∷◌, [], ◌++◌, ℕ, zero, suc, ◌+◌, ◌*◌, ◌-◌, ◌%◌, List, length, replicate, Some, None, slice_get}
use Rattle.std.specs.List.{sum}
use Rattle.raf_io.specs.Storage.{spliced}
use Rattle.raf_format.specs.File.{layout_by}
use Rattle.raf.specs.declared.command.Command.{Command}
use Rattle.raf.specs.declared.command.Command.TheVariants as command
use Rattle.raf.specs.declared.command.Reply.{Reply}
use Rattle.raf.specs.declared.command.Reply.TheVariants.{Bytes, Size, Verified}
use Rattle.raf_run.specs.declared.answer.Report.{Report}

-- where write i stands, and its bytes: a hundred times one
abbrev pub write_offset : ℕ → ℕ
write_offset i = (7919 * i) % 199901

abbrev pub write_bytes : ℕ → List ℕ
write_bytes i = replicate 100 (i % 251 + 1)

abbrev pub demo_write : ℕ → Command
demo_write i = command.Write (write_offset i) (write_bytes i)

-- the first n writes
abbrev pub demo_writes : ℕ → List Command
demo_writes zero = []
demo_writes (suc i) = demo_writes i ++ demo_write i ∷ []

-- a file of 200000 zeros, the writes over them, and a look at all
abbrev pub demo_commands : ℕ → List Command
demo_commands n = command.Truncate 200000 ∷ demo_writes n ++ command.Sync ∷ command.Verify ∷ command.Size ∷ command.Read 0 200000 ∷ []

-- the bytes after n writes
abbrev pub demo_bytes : ℕ → List ℕ
demo_bytes zero = replicate 200000 0
demo_bytes (suc i) = spliced (write_offset i) (write_bytes i) (demo_bytes i)

-- what the demo tells: the size, the sum of these bytes, and the length of a storage of that size with nonces and tags of 16 bytes and
-- chunks of 65536
abbrev pub demo_report : ℕ → Report
demo_report n = record { size = 200000; sum = sum (demo_bytes n); storage = layout_by 16 16 65536 200000 }

-- the last three replies tell this, and the storage has so many bytes
pub record Tells (replies : List Reply) (storage : ℕ) (report : Report) : Type 0 where
  pub bytes : List ℕ
  pub verified : slice_get replies (length replies - 3) ≡ Some (Verified None)
  pub size : slice_get replies (length replies - 2) ≡ Some (Size report.size)
  pub read : slice_get replies (length replies - 1) ≡ Some (Bytes bytes)
  pub sum : report.sum ≡ sum bytes
  pub stored : report.storage ≡ storage
