-- The chunks of a file, one by one.
use Rattle.std.proofs.Common.{◌≡◌, ℕ, zero, suc, ◌+◌, ◌<◌, ◌≤◌, List, length, take, drop, Option, Some, refl, sym, ◌∙◌, ap, arith, length-take, length-drop}
use Rattle.std.specs.Prelude.{slice_get}
use Rattle.std.proofs.lemmas.Option.{slice_get_within}
use Rattle.raf_format.specs.Cipher.{Cipher, IsLawful}
use Rattle.raf_format.specs.File.{shape_of, layout_len, chunk_count, chunk_len, record_start, record_len, record_at, chunk_at, chunks_from, beside}
use Rattle.raf_format.specs.Version.{tag_len_of}
use Rattle.raf.specs.Read.{chunks_of}
use Rattle.raf_format.specs.declared.header.Header.{Header}
use Rattle.raf.proofs.Between.{Short}
use Rattle.raf.proofs.Places.{within_layout}
use Rattle.raf_format.proofs.Versions.{is_tag_len}

pub length-chunks : (C : Cipher) (K : List ℕ) (h : Header) (b : List ℕ) (index n : ℕ) → length (chunks_from C K h b index n) ≡ n
length-chunks C K h b index zero = refl
length-chunks C K h b index (suc n) = omega (arith, length-chunks C K h b (index + 1) n)

pub get_from : (C : Cipher) (K : List ℕ) (h : Header) (b : List ℕ) (index n k : ℕ) → k < n → slice_get (chunks_from C K h b index n) k ≡ Some (chunk_at C K h b (index + k))
get_from C K h b index zero k lt = absurd (omega (arith, lt))
get_from C K h b index (suc n) zero lt = let e : index ≡ index + 0 = omega arith in ap (λ (i : ℕ). Some (chunk_at C K h b i)) e
get_from C K h b index (suc n) (suc k) lt =
    let e : index + 1 + k ≡ index + suc k = omega arith in
    get_from C K h b (index + 1) n k (omega (arith, lt)) ∙ ap (λ (i : ℕ). Some (chunk_at C K h b i)) e

pub get_chunk : (C : Cipher) (K : List ℕ) (h : Header) (b : List ℕ) (index : ℕ) → index < chunk_count h.chunk_size h.file_size → slice_get (chunks_of C K h b) index ≡ Some (chunk_at C K h b index)
get_chunk C K h b index lt =
    let e : 0 + index ≡ index = omega arith in
    get_from C K h b 0 (chunk_count h.chunk_size h.file_size) index lt ∙ ap (λ (i : ℕ). Some (chunk_at C K h b i)) e

module _ (C : Cipher) (lawful : IsLawful C) (K : List ℕ) (h : Header) (b : List ℕ) (long : length b ≡ layout_len (shape_of C h) h.file_size) (some : 1 ≤ h.chunk_size) where
  -- a chunk that opens has its length
  pub chunk_length : (index : ℕ) (m : List ℕ) → index < chunk_count h.chunk_size h.file_size → chunk_at C K h b index ≡ Some m → length m ≡ chunk_len h.chunk_size h.file_size index
  chunk_length index m lt is =
      let t = tag_len_of h.version in
      let r = record_at (shape_of C h) h.file_size index b in
      let sealing : C.seal t K (take C.nonce_len r) (beside h.id index) m ≡ drop C.nonce_len r = lawful.only t K (take C.nonce_len r) (beside h.id index) m (drop C.nonce_len r) (is_tag_len h.version) is in
      omega (
        arith,
        ap length sealing,
        lawful.longer t K (take C.nonce_len r) (beside h.id index) m (is_tag_len h.version),
        length-drop C.nonce_len r,
        length-take (record_len (shape_of C h) h.file_size index) (drop (record_start (shape_of C h) index) b),
        length-drop (record_start (shape_of C h) index) b,
        long,
        within_layout (shape_of C h) h.file_size index some lt,
      )

  pub chunks_short : Short h.chunk_size (chunks_of C K h b)
  chunks_short i m found =
      let n = chunk_count h.chunk_size h.file_size in
      let lt : i < n = omega (arith, slice_get_within (chunks_of C K h b) i (Some m) found, length-chunks C K h b 0 n) in
      let same : Some (chunk_at C K h b i) ≡ Some (Some m) = sym (get_chunk C K h b i lt) ∙ found in
      omega (arith, chunk_length i m lt (inner (chunk_at C K h b i) m same))
    where
      inner : (o : Option (List ℕ)) (m : List ℕ) → Some o ≡ Some (Some m) → o ≡ Some m
      inner o m same = cc
