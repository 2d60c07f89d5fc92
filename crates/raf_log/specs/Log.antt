-- An open log, and the entries that it keeps (this project's own).
use Rattle.std.specs.Prelude.{◌≡◌, ℕ, ◌+◌, ◌≤◌, List, [], ◌∷◌, Some, slice_get, unwrap_or}
use Rattle.raf_format.specs.Cipher.{Cipher}
use Rattle.raf_format.specs.File.{File}
use Rattle.raf.specs.Handle.{Handle, Holds}
use Rattle.raf.specs.Content.{IsWhole, content}
use Rattle.raf_log.specs.Entries.{Entries, starts_from}

-- where the entries of a log begin, and how long its file is
pub record Extent : Type 0 where
  pub starts : List ℕ
  pub size : ℕ

-- the open file; where each entry begins in it; and how many entries can still be appended
pub record LogHandle : Type 0 where
  pub file : Handle
  pub starts : List ℕ
  pub spare : ℕ

abbrev pub log_handle : Handle → List ℕ → ℕ → LogHandle
log_handle file starts spare = record { file = file; starts = starts; spare = spare }

abbrev pub extent_of : LogHandle → Extent
extent_of l = record { starts = l.starts; size = l.file.header.file_size }

-- a file and the entries that its bytes are
pub record LogFile : Type 0 where
  pub file : File
  pub entries : List (List ℕ)

abbrev pub extent_in : LogFile → Extent
extent_in L = record { starts = starts_from 0 L.entries; size = L.file.size }

-- no chunk of the file is missing, and its bytes are these entries
pub record IsLog (L : LogFile) : Type 0 where
  pub whole : IsWhole L.file
  pub entries : Entries (content L.file) (Some L.entries)

-- the storage tells its bytes and opens to such a file, and where its entries begin is kept
pub record KeepsLog (C : Cipher) (l : LogHandle) (L : LogFile) : Type 0 where
  pub holds : Holds C l.file L.file
  pub is_log : IsLog L
  pub starts : l.starts ≡ starts_from 0 L.entries

-- where an entry ends: where the next one begins, or the file ends
abbrev pub entry_end : Extent → ℕ → ℕ
entry_end e index = unwrap_or (slice_get e.starts (index + 1)) e.size

-- entries begin at these places, the first one here, one right after the other up to the end
abbrev pub Spaced : ℕ → List ℕ → ℕ → Type 0
Spaced at [] end = end ≡ at
Spaced at (o ∷ os) end = (n : ℕ) × (o ≡ at) × (n ≤ 65536) × Spaced (o + 4 + n) os end
