-- The image of the new file opens to it.
use Rattle.std.proofs.Common.{◌≡◌, inl, inr, ℕ, ◌+◌, ◌-◌, ◌*◌, ◌/◌, ◌^◌, ◌<◌, ◌≤◌, Bool, true, false, cond, ◌&&◌, List, [], ◌++◌, length, take, drop, get_or, Option, Some, None, refl, sym, ◌∙◌, ap, arith, length-take, length-drop}
use Rattle.std.specs.Prelude.{nat_lt, nat_le, unwrap_or, ◌⊎◌}
use Rattle.std.proofs.lemmas.List.{ext_get_or, take-take, drop-take, take_at, drop_at}
use Rattle.std.proofs.lemmas.Bool.{cases_lt}
use Rattle.std.proofs.lemmas.Bool.Decides.{nat_tests}
use Rattle.std.proofs.lemmas.Nat.{mul-le}
use Rattle.raf_format.specs.Cipher.{Cipher, IsLawful}
use Rattle.raf_format.specs.Header.{Says, InRange, Tagged, between, header_tag, sealed_header}
use Rattle.raf_format.specs.File.{File, Shape, IsFile, shape_of, tag_len, beside, sealed, record_at, record_start, chunk_count, chunk_len, layout_len, unsealed, chunk_at, chunks_from, file_of}
use Rattle.raf.specs.Concern.{is_touched}
use Rattle.raf.specs.Apply.{renewed, after}
use Rattle.raf.specs.Image.{image}
use Rattle.raf.specs.Change.{Change}
use Rattle.raf.specs.Stepped.{with_size}
use Rattle.raf.specs.Plan.{Ranged, Spans}
use Rattle.raf.specs.Put.{nonce_at}
use Rattle.raf_format.specs.declared.header.Header.{Header}
use Rattle.raf_format.proofs.Versions.{is_tag_len}
use Rattle.raf_format.proofs.SealedHeaders.{sealed_says, sealed_tagged}
use Rattle.raf.proofs.AfterChange.{Parts, image_parts}
use Rattle.raf.proofs.Pictures.{length-rebuilt, length-new, chunks_at, new_header, tests, chunk_is, chunk_stays, front_same, old_is, old_at as old_of, made as made_of}
use Rattle.raf.proofs.Chunks.{length-chunks}
use Rattle.raf.proofs.Ranges.{planned_spans}
use Rattle.raf.proofs.Spans.{kept_front, kept_back}

module _ (C : Cipher) (lawful : IsLawful C) (key b : List ℕ) (h : Header) (K : Change) (is_file : IsFile C key b h) (ranged : Ranged h.chunk_size h.file_size K)
    (nonces : List ℕ) (drawn : length nonces ≡ (chunk_count h.chunk_size K.end - K.from / h.chunk_size) * C.nonce_len) (fits : layout_len (shape_of C h) K.size < 2 ^ 64) where
  abbrev F : File
  F = file_of C key h b

  abbrev s : Shape
  s = shape_of C h

  abbrev pub pictured : List ℕ
  pictured = image C key b (after F K) (is_touched F K) nonces

  abbrev old_at : ℕ → Option (List ℕ)
  old_at = old_of C lawful key b h K is_file ranged

  abbrev made : ℕ → List ℕ
  made = made_of C lawful key b h K is_file ranged

  least : 16 ≤ h.chunk_size
  least = is_file.says.fields.least

  spans : Spans h.chunk_size h.file_size K.size (K.from / h.chunk_size) (chunk_count h.chunk_size K.end)
  spans = planned_spans s least h.file_size K ranged

  parts : Parts C lawful key b (after F K) h.file_size (K.from / h.chunk_size) (chunk_count h.chunk_size K.end) nonces made (is_touched F K) refl least spans (tests C lawful key b h K is_file ranged)
      is_file.length_fits drawn (λ i. length-new h.chunk_size K i (unwrap_or (old_at i) [])) is_file.says.fields.id
      (length-rebuilt (renewed F K) 0 (chunk_count h.chunk_size K.size) F.chunks) (chunk_is C lawful key b h K is_file ranged) (image C key b (after F K) (is_touched F K) nonces)
  parts = image_parts C lawful key b (after F K) h.file_size (K.from / h.chunk_size) (chunk_count h.chunk_size K.end) nonces made (is_touched F K) refl least spans (tests C lawful key b h K is_file ranged)
      is_file.length_fits drawn (λ i. length-new h.chunk_size K i (unwrap_or (old_at i) [])) is_file.says.fields.id
      (length-rebuilt (renewed F K) 0 (chunk_count h.chunk_size K.size) F.chunks) (chunk_is C lawful key b h K is_file ranged) (front_same C lawful key b h K is_file ranged)

  long : 96 ≤ length pictured
  long = omega (arith, parts.len)

  fields : InRange (with_size h K.size)
  fields = record {
    version = is_file.says.fields.version;
    id = is_file.says.fields.id;
    least = is_file.says.fields.least;
    most = is_file.says.fields.most;
    size = omega (arith, fits);
  }

  front_is : take 96 pictured ≡ sealed_header C key (with_size h K.size)
  front_is = parts.front ∙ ap (sealed_header C key) (sym (new_header C lawful key b h K is_file ranged))

  says : Says (take 96 pictured) (with_size h K.size)
  says = sealed_says C lawful key (take 96 pictured) (with_size h K.size) front_is fields

  tagged : Tagged C key (take 96 pictured)
  tagged = sealed_tagged C lawful key (take 96 pictured) (with_size h K.size) front_is is_file.says.fields.id

  head : take 64 (take 96 pictured) ≡ take 64 pictured
  head = take-take 64 96 pictured (omega arith)

  pub image_is_file : IsFile C key pictured (with_size h K.size)
  image_is_file = record {
    says = record { long = long; head = sym head ∙ says.head; fields = fields };
    algorithm = is_file.algorithm;
    length_fits = parts.len;
    below = omega (arith, parts.len, fits);
    tagged = sym back ∙ tagged ∙ ap (header_tag C key) head;
  }
    where
      back : between 64 96 (take 96 pictured) ≡ between 64 96 pictured
      back = ap (λ (x : List ℕ). take 32 x) (drop-take 64 32 pictured) ∙ take-take 32 32 (drop 64 pictured) (omega arith)

  nonce_len_at : (i : ℕ) → K.from / h.chunk_size ≤ i → i < chunk_count h.chunk_size K.end → length (nonce_at C.nonce_len (K.from / h.chunk_size) nonces i) ≡ C.nonce_len
  nonce_len_at i le lt =
      omega (
        arith,
        length-take C.nonce_len (drop ((i - K.from / h.chunk_size) * C.nonce_len) nonces),
        length-drop ((i - K.from / h.chunk_size) * C.nonce_len) nonces,
        drawn,
        mul-le (i - K.from / h.chunk_size + 1) C.nonce_len (chunk_count h.chunk_size K.end - K.from / h.chunk_size) C.nonce_len (omega (arith, le, lt)) (omega arith),
      )

  untouched : (i : ℕ) → i < chunk_count h.chunk_size K.size → (i < K.from / h.chunk_size) ⊎ (chunk_count h.chunk_size K.end ≤ i) → (i < chunk_count h.chunk_size h.file_size) × (chunk_len h.chunk_size K.size i ≡ chunk_len h.chunk_size h.file_size i)
  untouched i lt off = elim off [
    | inl low ↦ let k = kept_front h.chunk_size h.file_size K.size (K.from / h.chunk_size) (chunk_count h.chunk_size K.end) least spans i low in (k.0, omega (arith, k.1, k.2))
    | inr high ↦
        let s = kept_back h.chunk_size h.file_size K.size (K.from / h.chunk_size) (chunk_count h.chunk_size K.end) least spans i high lt in
        (omega (arith, lt, ap (chunk_count h.chunk_size) s), ap (λ (n : ℕ). chunk_len h.chunk_size n i) s)
  ]

  -- a record that was sealed opens to its chunk
  opens : (i : ℕ) (nonce m : List ℕ) → length nonce ≡ C.nonce_len → unsealed C (tag_len s) (C.chunk_key key h.id) h.id i (sealed C (tag_len s) (C.chunk_key key h.id) h.id i nonce m) ≡ Some m
  opens i nonce m len =
      let t = tag_len s in
      let k = C.chunk_key key h.id in
      let sealing = C.seal t k nonce (beside h.id i) m in
      ap (λ (l : List ℕ). C.unseal t k l (beside h.id i) (drop C.nonce_len (nonce ++ sealing))) (take_at nonce sealing C.nonce_len len)
      ∙ ap (λ (l : List ℕ). C.unseal t k nonce (beside h.id i) l) (drop_at nonce sealing C.nonce_len len)
      ∙ lawful.opens t k nonce (beside h.id i) m (is_tag_len h.version)

  -- each chunk is what its record stands for
  chunk_same : (i : ℕ) → i < chunk_count h.chunk_size K.size → get_or (after F K).chunks i None ≡ get_or (chunks_from C (C.chunk_key key h.id) (with_size h K.size) pictured 0 (chunk_count h.chunk_size K.size)) i None
  chunk_same i lt = elim (cases_lt i (K.from / h.chunk_size)) [
    | inl low ↦ left (inl low) (grind (arith, nat_tests))
    | inr up ↦ elim (cases_lt i (chunk_count h.chunk_size K.end)) [
      | inr high ↦ left (inr high) (grind (arith, nat_tests))
      | inl inside ↦ anew up inside (grind (arith, nat_tests))
    ]
  ]
    where
      opened : get_or (chunks_from C (C.chunk_key key h.id) (with_size h K.size) pictured 0 (chunk_count h.chunk_size K.size)) i None ≡ chunk_at C (C.chunk_key key h.id) (with_size h K.size) pictured i
      opened =
          let e : 0 + i ≡ i = omega arith in
          chunks_at C (C.chunk_key key h.id) pictured (with_size h K.size) 0 (chunk_count h.chunk_size K.size) i lt ∙ ap (chunk_at C (C.chunk_key key h.id) (with_size h K.size) pictured) e

      anew : K.from / h.chunk_size ≤ i → i < chunk_count h.chunk_size K.end → (nat_le (K.from / h.chunk_size) i && nat_lt i (chunk_count h.chunk_size K.end)) ≡ true
          → get_or (after F K).chunks i None ≡ get_or (chunks_from C (C.chunk_key key h.id) (with_size h K.size) pictured 0 (chunk_count h.chunk_size K.size)) i None
      anew le inside on =
          let is = chunk_is C lawful key b h K is_file ranged i le inside in
          is
          ∙ sym (opened
          ∙ ap (unsealed C (tag_len s) (C.chunk_key key h.id) h.id i) (parts.records i lt
          ∙ ap (λ (t : Bool). cond t (sealed C (tag_len s) (C.chunk_key key h.id) h.id i (nonce_at C.nonce_len (K.from / h.chunk_size) nonces i) (unwrap_or (get_or (after F K).chunks i None) [])) (record_at s K.size i b)) (tests C lawful key b h K is_file ranged i ∙ on)
          ∙ ap (λ (o : Option (List ℕ)). sealed C (tag_len s) (C.chunk_key key h.id) h.id i (nonce_at C.nonce_len (K.from / h.chunk_size) nonces i) (unwrap_or o [])) is)
          ∙ opens i (nonce_at C.nonce_len (K.from / h.chunk_size) nonces i) (made i) (nonce_len_at i le inside))

      left : (i < K.from / h.chunk_size) ⊎ (chunk_count h.chunk_size K.end ≤ i) → (nat_le (K.from / h.chunk_size) i && nat_lt i (chunk_count h.chunk_size K.end)) ≡ false
          → get_or (after F K).chunks i None ≡ get_or (chunks_from C (C.chunk_key key h.id) (with_size h K.size) pictured 0 (chunk_count h.chunk_size K.size)) i None
      left off out =
          let u = untouched i lt off in
          chunk_stays C lawful key b h K is_file ranged i lt off
          ∙ old_is C lawful key b h K is_file ranged i u.0
          ∙ sym (opened
          ∙ ap (unsealed C (tag_len s) (C.chunk_key key h.id) h.id i) (parts.records i lt
          ∙ ap (λ (t : Bool). cond t (sealed C (tag_len s) (C.chunk_key key h.id) h.id i (nonce_at C.nonce_len (K.from / h.chunk_size) nonces i) (unwrap_or (get_or (after F K).chunks i None) [])) (record_at s K.size i b)) (tests C lawful key b h K is_file ranged i ∙ out)
          ∙ ap (λ (n : ℕ). take (C.nonce_len + n + tag_len s) (drop (record_start s i) b)) u.1))

  -- the image holds the new file
  pub image_holds : after F K ≡ file_of C key (with_size h K.size) pictured
  image_holds = (λ j. record { shape = s; id = h.id; size = K.size; chunks = chunks j })
    where
      chunks : (after F K).chunks ≡ chunks_from C (C.chunk_key key h.id) (with_size h K.size) pictured 0 (chunk_count h.chunk_size K.size)
      chunks = ext_get_or None (after F K).chunks (chunks_from C (C.chunk_key key h.id) (with_size h K.size) pictured 0 (chunk_count h.chunk_size K.size))
          (length-rebuilt (renewed F K) 0 (chunk_count h.chunk_size K.size) F.chunks ∙ sym (length-chunks C (C.chunk_key key h.id) (with_size h K.size) pictured 0 (chunk_count h.chunk_size K.size)))
          (λ i lt. chunk_same i (omega (arith, lt, length-rebuilt (renewed F K) 0 (chunk_count h.chunk_size K.size) F.chunks)))
