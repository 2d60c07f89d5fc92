-- What holds of headers, records and files, for the proofs of callers (this project's own).
use Rattle.std.specs.Prelude.{◌≡◌, ℕ, List, Option}
use Rattle.raf_format.specs.Cipher.{Cipher, IsTagLen}
use Rattle.raf_format.specs.Header.{Says}
use Rattle.raf_format.specs.File.{File, IsFile, Opens, StandsFor, unsealed, file_of}
use Rattle.raf_format.specs.declared.header.Header.{Header}

pub record AreLawful (C : Cipher) : Type 0 where
  -- bytes say one header at most
  pub one_header : (b : List ℕ) (h k : Header) → Says b h → Says b k → h ≡ k
  -- a record stands for what it opens to, and for nothing else
  pub stands : (t : ℕ) → IsTagLen t → (chunk_key id r : List ℕ) (index : ℕ) → StandsFor C t chunk_key id index r (unsealed C t chunk_key id index r)
  pub one_chunk : (t : ℕ) → IsTagLen t → (chunk_key id r : List ℕ) (index : ℕ) (o : Option (List ℕ))
      → StandsFor C t chunk_key id index r o → unsealed C t chunk_key id index r ≡ o
  -- the bytes of a file open to the computed one, and to no other
  pub opens : (key b : List ℕ) (h : Header) → IsFile C key b h → Opens C key b (file_of C key h b)
  pub one_file : (key b : List ℕ) (F G : File) → Opens C key b F → Opens C key b G → F ≡ G
