-- What a record stands for is what it opens to, and bytes open to one file at most.
use Rattle.std.proofs.Common.{◌≡◌, ℕ, zero, suc, ◌+◌, List, [], ◌∷◌, ◌++◌, length, take, drop, Option, Some, None, refl, sym, ◌∙◌, ap, arith, length-append, length-take, take-append-drop}
use Rattle.std.proofs.lemmas.List.{drop_at}
use Rattle.raf_format.specs.Cipher.{Cipher, IsLawful, IsTagLen}
use Rattle.raf_format.specs.Version.{tag_len_of}
use Rattle.raf_format.specs.File.{File, IsFile, Opens, StandsFor, StandFrom, IsSealedFor, shape_of, beside, record_at, chunk_count, chunk_at, chunks_from, file_of, unsealed}
use Rattle.raf_format.specs.declared.header.Header.{Header}
use Rattle.raf_format.proofs.Headers.{says_one}
use Rattle.raf_format.proofs.Versions.{is_tag_len, tag_least}

module _ (C : Cipher) (lawful : IsLawful C) (t : ℕ) (l : IsTagLen t) (chunk_key id r : List ℕ) (index : ℕ) where
  -- a record that opens is the sealed form of what it opens to
  pub sealed_for : (m : List ℕ) → unsealed C t chunk_key id index r ≡ Some m → IsSealedFor C t chunk_key id index r m
  sealed_for m is =
      ap (λ (s : List ℕ). take C.nonce_len r ++ s) (lawful.only t chunk_key (take C.nonce_len r) (beside id index) m (drop C.nonce_len r) l is)
      ∙ take-append-drop C.nonce_len r

  -- and the sealed form of a chunk opens to it
  pub unsealed_for : (m : List ℕ) → IsSealedFor C t chunk_key id index r m → unsealed C t chunk_key id index r ≡ Some m
  unsealed_for m is = ap (λ (s : List ℕ). C.unseal t chunk_key (take C.nonce_len r) (beside id index) s) rest ∙ lawful.opens t chunk_key (take C.nonce_len r) (beside id index) m l
    where
      made : List ℕ
      made = C.seal t chunk_key (take C.nonce_len r) (beside id index) m

      long : length (take C.nonce_len r) ≡ C.nonce_len
      long =
          let sum : length (take C.nonce_len r) + (length m + t) ≡ length r =
          sym (length-append (take C.nonce_len r) (C.seal t chunk_key (take C.nonce_len r) (beside id index) m)
          ∙ ap (λ (n : ℕ). length (take C.nonce_len r) + n) (lawful.longer t chunk_key (take C.nonce_len r) (beside id index) m l)) ∙ ap length is in
          omega (arith, sum, length-take C.nonce_len r, tag_least t l)

      rest : drop C.nonce_len r ≡ C.seal t chunk_key (take C.nonce_len r) (beside id index) m
      rest = ap (λ (x : List ℕ). drop C.nonce_len x) (sym is) ∙ drop_at (take C.nonce_len r) (C.seal t chunk_key (take C.nonce_len r) (beside id index) m) C.nonce_len long

  pub stands : StandsFor C t chunk_key id index r (unsealed C t chunk_key id index r)
  stands = go (unsealed C t chunk_key id index r) refl
    where
      go : (o : Option (List ℕ)) → unsealed C t chunk_key id index r ≡ o → StandsFor C t chunk_key id index r o
      go (Some m) is = sealed_for m is
      go None is = λ m s. let e : Some m ≡ None = sym (unsealed_for m s) ∙ is in cc

  -- what stands for a record is what it opens to
  pub one_answer : (o : Option (List ℕ)) → StandsFor C t chunk_key id index r o → unsealed C t chunk_key id index r ≡ o
  one_answer (Some m) s = unsealed_for m s
  one_answer None s = go (unsealed C t chunk_key id index r) refl
    where
      go : (o : Option (List ℕ)) → unsealed C t chunk_key id index r ≡ o → unsealed C t chunk_key id index r ≡ None
      go (Some m) is = absurd (s m (sealed_for m is))
      go None is = is

module _ (C : Cipher) (lawful : IsLawful C) (key b : List ℕ) where
  stand_from : (chunk_key : List ℕ) (h : Header) (index n : ℕ) → StandFrom C chunk_key h b index (chunks_from C chunk_key h b index n)
  stand_from chunk_key h index zero = tt
  stand_from chunk_key h index (suc n) = (
    stands C lawful (tag_len_of h.version) (is_tag_len h.version) chunk_key h.id (record_at (shape_of C h) h.file_size index b) index,
    stand_from chunk_key h (index + 1) n,
  )

  length-chunks : (chunk_key : List ℕ) (h : Header) (index n : ℕ) → length (chunks_from C chunk_key h b index n) ≡ n
  length-chunks chunk_key h index zero = refl
  length-chunks chunk_key h index (suc n) = omega (arith, length-chunks chunk_key h (index + 1) n)

  pub opens_of : (h : Header) → IsFile C key b h → Opens C key b (file_of C key h b)
  opens_of h is_file = record {
    header = h;
    is_file = is_file;
    shape = refl;
    id = refl;
    size = refl;
    count = length-chunks (C.chunk_key key h.id) h 0 (chunk_count h.chunk_size h.file_size);
    chunks = stand_from (C.chunk_key key h.id) h 0 (chunk_count h.chunk_size h.file_size);
  }

  chunks_are : (chunk_key : List ℕ) (h : Header) (index n : ℕ) (chunks : List (Option (List ℕ))) → length chunks ≡ n → StandFrom C chunk_key h b index chunks
      → chunks ≡ chunks_from C chunk_key h b index n
  chunks_are chunk_key h index zero [] len s = refl
  chunks_are chunk_key h index zero (c ∷ chunks) len s = absurd (omega (arith, len))
  chunks_are chunk_key h index (suc n) [] len s = absurd (omega (arith, len))
  chunks_are chunk_key h index (suc n) (c ∷ chunks) len s =
      ap (λ (o : Option (List ℕ)). o ∷ chunks)
      (sym (one_answer C lawful (tag_len_of h.version) (is_tag_len h.version) chunk_key h.id (record_at (shape_of C h) h.file_size index b) index c s.0))
      ∙ ap (λ (l : List (Option (List ℕ))). chunk_at C chunk_key h b index ∷ l) (chunks_are chunk_key h (index + 1) n chunks (omega (arith, len)) s.1)

  pub opens_is : (F : File) (o : Opens C key b F) → F ≡ file_of C key o.header b
  opens_is F o = (λ i. record {
    shape = o.shape i;
    id = o.id i;
    size = o.size i;
    chunks = chunks_are (C.chunk_key key o.header.id) o.header 0 (chunk_count o.header.chunk_size o.header.file_size) F.chunks o.count o.chunks i;
  })

  -- bytes open to one file at most
  pub opens_one : (F G : File) → Opens C key b F → Opens C key b G → F ≡ G
  opens_one F G o p =
      opens_is F o ∙ ap (λ (h : Header). file_of C key h b) (says_one b o.header p.header o.is_file.says p.is_file.says) ∙ sym (opens_is G p)
