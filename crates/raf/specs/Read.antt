-- What a read of many chunks does (this project's own).
use Rattle.std.specs.Prelude.{◌≡◌, ℕ, ◌+◌, ◌-◌, ◌*◌, ◌<◌, ◌≤◌, min, true, List, ◌++◌, length, take, drop, slice_index, slice_get, Option}
use Rattle.std.specs.Prelude.{Some, None, ◌⊎◌}
use Rattle.raf_format.specs.Cipher.{Cipher}
use Rattle.raf_format.specs.File.{File, shape_of, layout_len, chunk_count, record_len, chunks_from}
use Rattle.raf.specs.Concern.{sum_where}
use Rattle.raf.specs.Apply.{bytes_between}
use Rattle.raf.specs.Outside.{Outside, Kept, Quiet, Moved}
use Rattle.raf.specs.Loaded.{Unopened}
use Rattle.raf_io.specs.Kinds.{kind_of}
use Rattle.raf_format.specs.declared.header.Header.{Header}
use Rattle.raf_io.specs.declared.errors.Error.{Error}
use Rattle.raf_io.specs.declared.errors.ErrorKind.TheVariants.{AuthenticationFailed}

-- the byte at a position is that of a chunk that opened
abbrev pub IsByteOf : ℕ → List (Option (List ℕ)) → ℕ → ℕ → Type 0
IsByteOf chunk_size chunks position byte =
    (index : ℕ) × (m : List ℕ) × (slice_get chunks index ≡ Some (Some m)) × (index * chunk_size ≤ position)
    × (position < index * chunk_size + length m)
    × (byte ≡ slice_index m (position - index * chunk_size))

-- each place of the buffer has its old byte, or the byte of a chunk that opened
abbrev pub OldOrOpened : File → ℕ → List ℕ → List ℕ → Type 0
OldOrOpened F offset old new =
    (k : ℕ) → k < length old → (slice_index new k ≡ slice_index old k)
    ⊎ IsByteOf F.shape.chunk_size F.chunks (offset + k) (slice_index new k)

-- the chunks of these bytes, computed, under the chunk key
abbrev pub chunks_of : Cipher → List ℕ → Header → List ℕ → List (Option (List ℕ))
chunks_of C chunk_key h b = chunks_from C chunk_key h b 0 (chunk_count h.chunk_size h.file_size)

-- a buffer with a chunk's part of the range from an offset on
abbrev pub with_chunk : ℕ → ℕ → ℕ → List ℕ → List ℕ → List ℕ
with_chunk chunk_size offset index m buf =
    let from = offset - index * chunk_size in
    let at = index * chunk_size - offset in
    let n = min (length m - from) (length buf - at) in
    take at buf ++ take n (drop from m) ++ drop (at + n) buf

-- how many bytes of a range are there once the chunks before an index are
abbrev pub reached : ℕ → ℕ → ℕ → ℕ → ℕ
reached chunk_size offset len index = min (index * chunk_size - offset) len

-- the buffer once the chunks before an index are there: their bytes of the range, each of a chunk that opened, and then what stood there
pub record Filled (chunk_size : ℕ) (chunks : List (Option (List ℕ))) (offset first index : ℕ) (old now : List ℕ) : Type 0 where
  pub len : length now ≡ length old
  pub bytes : take (reached chunk_size offset (length old) index) now
      ≡ bytes_between chunk_size offset (offset + reached chunk_size offset (length old) index) 0 chunks
  pub opened : (k : ℕ) → k < reached chunk_size offset (length old) index → IsByteOf chunk_size chunks (offset + k) (slice_index now k)
  pub rest : drop (reached chunk_size offset (length old) index) now ≡ drop (reached chunk_size offset (length old) index) old
  pub there : (i : ℕ) → first ≤ i → i < index → (m : List ℕ) × (slice_get chunks i ≡ Some (Some m))

-- the chunks of a range from a first one up to an index were opened
pub record ReadSoFar (C : Cipher) (chunk_key : List ℕ) (h : Header) (offset first index : ℕ) (old now : Outside) (before buf : List ℕ) :
    Type 0 where
  pub filled : (b : List ℕ) → old.bytes ≡ Some b → length b ≡ layout_len (shape_of C h) h.file_size
      → Filled h.chunk_size (chunks_of C chunk_key h b) offset first index before buf
  pub quiet : Quiet old now
  pub kept : Kept old now
  pub moved : Moved old now (layout_len (shape_of C h) h.file_size)
      (sum_where (λ _. true) (record_len (shape_of C h) h.file_size) first (index - first)) 0 0 0
  pub strays : (b : List ℕ) → old.bytes ≡ Some b → layout_len (shape_of C h) h.file_size ≤ length b → now.strays ≡ old.strays

-- the chunks from a first one up to an index were opened, and then one wasn't
pub record Unread (C : Cipher) (chunk_key : List ℕ) (h : Header) (offset first stop : ℕ) (old now : Outside) (before buf : List ℕ)
    (e : Error) : Type 0 where
  pub index : ℕ
  pub among : (first ≤ index) × (index < stop)
  pub filled : (b : List ℕ) → old.bytes ≡ Some b → length b ≡ layout_len (shape_of C h) h.file_size
      → Filled h.chunk_size (chunks_of C chunk_key h b) offset first index before buf
  pub missing : (b : List ℕ) → old.bytes ≡ Some b → kind_of e ≡ AuthenticationFailed
      → slice_get (chunks_of C chunk_key h b) index ≡ Some None
  pub kind : Unopened (kind_of e) old now
  pub kept : Kept old now
  pub moved : Moved old now (layout_len (shape_of C h) h.file_size)
      (sum_where (λ _. true) (record_len (shape_of C h) h.file_size) first (stop - first)) 0 0 0
  pub strays : (b : List ℕ) → old.bytes ≡ Some b → layout_len (shape_of C h) h.file_size ≤ length b → now.strays ≡ old.strays
