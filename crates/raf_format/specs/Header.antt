-- The header of an encrypted file: its first 96 bytes (this project's own).
use Rattle.std.specs.Prelude.{◌≡◌, ℕ, ◌-◌, ◌^◌, ◌<◌, ◌≤◌, List, [], ◌∷◌, ◌++◌, length, take, drop}
use Rattle.std.specs.Int.{w32, w64, to_le_bytes}
use Rattle.raf_format.specs.Cipher.{Cipher}
use Rattle.raf_format.specs.Version.{IsVersion}
use Rattle.raf_format.specs.declared.header.Header.{Header}

-- the bytes from one offset up to another
abbrev pub between : ℕ → ℕ → List ℕ → List ℕ
between from end b = take (end - from) (drop from b)

-- the first 64 bytes: `SEALRAF1`, version, algorithm, two zeros, chunk size, file size, eight zeros, id
abbrev pub head : ℕ → ℕ → ℕ → ℕ → List ℕ → List ℕ
head version algorithm chunk_size size id =
    (83 ∷ 69 ∷ 65 ∷ 76 ∷ 82 ∷ 65 ∷ 70 ∷ 49 ∷ version ∷ algorithm ∷ 0 ∷ 0 ∷ [])
    ++ to_le_bytes w32 chunk_size ++ to_le_bytes w64 size ++ (0 ∷ 0 ∷ 0 ∷ 0 ∷ 0 ∷ 0 ∷ 0 ∷ 0 ∷ []) ++ id

abbrev pub head_of : Header → List ℕ
head_of h = head h.version h.algorithm h.chunk_size h.file_size h.id

-- the fields of a header that can be: version 1 or 2, a chunk size of 16 to 1048576 bytes. Any algorithm is possible
pub record InRange (h : Header) : Type 0 where
  pub version : IsVersion h.version
  pub id : length h.id ≡ 32
  pub least : 16 ≤ h.chunk_size
  pub most : h.chunk_size ≤ 1048576
  pub size : h.file_size < 2 ^ 64

-- the bytes begin with a header of these fields
pub record Says (b : List ℕ) (h : Header) : Type 0 where
  pub long : 96 ≤ length b
  pub head : take 64 b ≡ head_of h
  pub fields : InRange h

-- the tag of a header's first 64 bytes, under the header key that the key and the id in them give
abbrev pub header_tag : Cipher → List ℕ → List ℕ → List ℕ
header_tag C key text = C.header_mac (C.header_key key (between 32 64 text)) text

-- bytes 64 to 95 are the tag of those before
abbrev pub Tagged : Cipher → List ℕ → List ℕ → Type 0
Tagged C key b = between 64 96 b ≡ header_tag C key (take 64 b)

-- a header and its tag
abbrev pub sealed_header : Cipher → List ℕ → Header → List ℕ
sealed_header C key h = head_of h ++ header_tag C key (head_of h)
