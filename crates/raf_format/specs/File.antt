-- An encrypted file: a header, and a record for each chunk (this project's own layout).
use Rattle.std.specs.Prelude.{◌≡◌, ℕ, zero, suc, ◌+◌, ◌-◌, ◌*◌, ◌/◌, ◌^◌, ◌<◌, min, List, [], ◌∷◌, ◌++◌, length, take, drop, Option, Some, None, ⊤}
use Rattle.std.specs.Int.{w64, to_le_bytes}
use Rattle.raf_format.specs.Cipher.{Cipher}
use Rattle.raf_format.specs.Version.{tag_len_of}
use Rattle.raf_format.specs.Header.{Says, Tagged}
use Rattle.raf_format.specs.declared.header.Header.{Header}

-- how a file is laid out: the numbers that no command changes
pub record Shape : Type 0 where
  pub version : ℕ
  pub nonce_len : ℕ
  pub chunk_size : ℕ

-- how many bytes the tag of a record has
abbrev pub tag_len : Shape → ℕ
tag_len s = tag_len_of s.version

-- the layout of a file with this header
abbrev pub shape_of : Cipher → Header → Shape
shape_of C h = record { version = h.version; nonce_len = C.nonce_len; chunk_size = h.chunk_size }

-- A file as it is seen through its key. A chunk whose record is the sealed form of no message is missing.
pub record File : Type 0 where
  pub shape : Shape
  pub id : List ℕ
  pub size : ℕ
  pub chunks : List (Option (List ℕ))

-- how many chunks have this many bytes: the least number that is enough
abbrev pub chunk_count : ℕ → ℕ → ℕ
chunk_count chunk_size size = (size + chunk_size - 1) / chunk_size

-- how many bytes a chunk has: the last one is as short as the size says
abbrev pub chunk_len : ℕ → ℕ → ℕ → ℕ
chunk_len chunk_size size index = min chunk_size (size - index * chunk_size)

-- how many bytes the storage of a file has, by the lengths of nonces and tags
abbrev pub layout_by : ℕ → ℕ → ℕ → ℕ → ℕ
layout_by nonce_len tag_len chunk_size size = 96 + size + chunk_count chunk_size size * (nonce_len + tag_len)

abbrev pub layout_len : Shape → ℕ → ℕ
layout_len s size = layout_by s.nonce_len (tag_len s) s.chunk_size size

abbrev pub file_layout : File → ℕ
file_layout F = layout_len F.shape F.size

-- where the record of a chunk stands, and how many bytes it has
abbrev pub record_start : Shape → ℕ → ℕ
record_start s index = 96 + index * (s.nonce_len + s.chunk_size + tag_len s)

abbrev pub record_len : Shape → ℕ → ℕ → ℕ
record_len s size index = s.nonce_len + chunk_len s.chunk_size size index + tag_len s

-- the record of a chunk
abbrev pub record_at : Shape → ℕ → ℕ → List ℕ → List ℕ
record_at s size index b = take (record_len s size index) (drop (record_start s index) b)

-- what is sealed beside a chunk: the file's id and the chunk's index
abbrev pub beside : List ℕ → ℕ → List ℕ
beside id index = id ++ to_le_bytes w64 index

-- a record: the nonce, and what the chunk is sealed to under it and the file's chunk key
abbrev pub sealed : Cipher → ℕ → List ℕ → List ℕ → ℕ → List ℕ → List ℕ → List ℕ
sealed C t chunk_key id index nonce m = nonce ++ C.seal t chunk_key nonce (beside id index) m

-- a record is the sealed form of a chunk, under the nonce that it begins with
abbrev pub IsSealedFor : Cipher → ℕ → List ℕ → List ℕ → ℕ → List ℕ → List ℕ → Type 0
IsSealedFor C t chunk_key id index r m = sealed C t chunk_key id index (take C.nonce_len r) m ≡ r

-- what a record stands for: the chunk whose sealed form it is, or none where it is that of no chunk
abbrev pub StandsFor : Cipher → ℕ → List ℕ → List ℕ → ℕ → List ℕ → Option (List ℕ) → Type 0
StandsFor C t chunk_key id index r (Some m) = IsSealedFor C t chunk_key id index r m
StandsFor C t chunk_key id index r None = (m : List ℕ) → IsSealedFor C t chunk_key id index r m → ⊥

-- the chunks from an index on are what their records stand for
abbrev pub StandFrom : Cipher → List ℕ → Header → List ℕ → ℕ → List (Option (List ℕ)) → Type 0
StandFrom C chunk_key h b index [] = ⊤
StandFrom C chunk_key h b index (c ∷ chunks) =
    StandsFor C (tag_len (shape_of C h)) chunk_key h.id index (record_at (shape_of C h) h.file_size index b) c
    × StandFrom C chunk_key h b (index + 1) chunks

-- the header is of this algorithm and right under the key, and the length fits it
pub record IsFile (C : Cipher) (key : List ℕ) (b : List ℕ) (h : Header) : Type 0 where
  pub says : Says b h
  pub algorithm : h.algorithm ≡ C.id
  pub length_fits : length b ≡ layout_len (shape_of C h) h.file_size
  pub below : length b < 2 ^ 64
  pub tagged : Tagged C key b

-- the bytes open to the file
pub record Opens (C : Cipher) (key : List ℕ) (b : List ℕ) (F : File) : Type 0 where
  pub header : Header
  pub is_file : IsFile C key b header
  pub shape : F.shape ≡ shape_of C header
  pub id : F.id ≡ header.id
  pub size : F.size ≡ header.file_size
  pub count : length F.chunks ≡ chunk_count header.chunk_size header.file_size
  pub chunks : StandFrom C (C.chunk_key key header.id) header b 0 F.chunks

-- the message that a record is sealed for, computed
abbrev pub unsealed : Cipher → ℕ → List ℕ → List ℕ → ℕ → List ℕ → Option (List ℕ)
unsealed C t chunk_key id index r = C.unseal t chunk_key (take C.nonce_len r) (beside id index) (drop C.nonce_len r)

-- the chunk at an index, computed, under the chunk key
abbrev pub chunk_at : Cipher → List ℕ → Header → List ℕ → ℕ → Option (List ℕ)
chunk_at C chunk_key h b index = unsealed C (tag_len (shape_of C h)) chunk_key h.id index (record_at (shape_of C h) h.file_size index b)

-- n chunks from an index on
abbrev pub chunks_from : Cipher → List ℕ → Header → List ℕ → ℕ → ℕ → List (Option (List ℕ))
chunks_from C chunk_key h b index zero = []
chunks_from C chunk_key h b index (suc n) = chunk_at C chunk_key h b index ∷ chunks_from C chunk_key h b (index + 1) n

-- the file that these bytes are, if their header says this
abbrev pub file_of : Cipher → List ℕ → Header → List ℕ → File
file_of C key h b = record {
  shape = shape_of C h;
  id = h.id;
  size = h.file_size;
  chunks = chunks_from C (C.chunk_key key h.id) h b 0 (chunk_count h.chunk_size h.file_size);
}
