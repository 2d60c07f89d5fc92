-- A change that was carried out leaves the image of the new file.
use Rattle.std.proofs.Common.{◌≡◌, inl, inr, ℕ, zero, suc, ◌+◌, ◌-◌, ◌*◌, ◌/◌, ◌<◌, ◌≤◌, Bool, true, false, cond, ◌&&◌, List, [], ◌∷◌, ◌++◌, length, take, drop, get_or, Option, Some, None, refl, sym, ◌∙◌, ap, arith, length-take, take-append-drop}
use Rattle.std.specs.Prelude.{nat_lt, nat_le, unwrap_or, ◌⊎◌}
use Rattle.std.proofs.lemmas.List.{take-take, drop-take, nil_from_length}
use Rattle.std.proofs.lemmas.Bool.{cases_lt}
use Rattle.std.proofs.lemmas.Bool.Decides.{nat_tests}
use Rattle.raf_io.specs.Storage.{resized}
use Rattle.raf_tree.specs.Hashing.{Hashing}
use Rattle.raf_format.specs.Cipher.{Cipher, IsLawful}
use Rattle.raf_format.specs.Header.{head_of, header_tag, sealed_header}
use Rattle.raf_format.specs.File.{File, Shape, IsFile, shape_of, tag_len, sealed, chunk_count, chunk_len, layout_len, chunk_at, chunks_from, file_of}
use Rattle.raf.specs.Concern.{is_touched}
use Rattle.raf.specs.Apply.{overlaid, rebuilt, new_chunk, renewed, after}
use Rattle.raf.specs.Image.{header_of, image}
use Rattle.raf.specs.Change.{Change}
use Rattle.raf.specs.Handle.{Handle}
use Rattle.raf.specs.Stepped.{with_size}
use Rattle.raf.specs.Plan.{Ranged, Spans, plan_of, kept_len}
use Rattle.raf.specs.Put.{Carried, KeptOf, stride, placed, nonce_at, finished, record_for}
use Rattle.raf.specs.declared.planning.Plan.{Plan}
use Rattle.raf_format.specs.declared.header.Header.{Header}
use Rattle.raf_io.proofs.Splices.{length-resized}
use Rattle.raf.proofs.Chunks.{chunk_length}
use Rattle.raf.proofs.Placed.{placed_same}
use Rattle.raf.proofs.AfterChange.{finished_is}
use Rattle.raf.proofs.Fills.{kept_enough, kept_short}
use Rattle.raf.proofs.Ranges.{planned_spans, touched_ranged}
use Rattle.raf.proofs.Spans.{count_above}

-- the chunks that were made anew, one by one
pub rebuilt_at : (make : ℕ → Option (List ℕ) → Option (List ℕ)) (index n k : ℕ) (chunks : List (Option (List ℕ))) → k < n → get_or (rebuilt make index n chunks) k None ≡ make (index + k) (get_or chunks k None)
rebuilt_at make index zero k chunks lt = absurd (omega (arith, lt))
rebuilt_at make index (suc n) zero [] lt = let e : index ≡ index + 0 = omega arith in ap (λ (i : ℕ). make i None) e
rebuilt_at make index (suc n) zero (c ∷ chunks) lt = let e : index ≡ index + 0 = omega arith in ap (λ (i : ℕ). make i c) e
rebuilt_at make index (suc n) (suc k) [] lt =
    let e : index + 1 + k ≡ index + suc k = omega arith in
    rebuilt_at make (index + 1) n k [] (omega (arith, lt)) ∙ ap (λ (i : ℕ). make i None) e
rebuilt_at make index (suc n) (suc k) (c ∷ chunks) lt =
    let e : index + 1 + k ≡ index + suc k = omega arith in
    rebuilt_at make (index + 1) n k chunks (omega (arith, lt)) ∙ ap (λ (i : ℕ). make i (get_or chunks k None)) e

pub length-rebuilt : (make : ℕ → Option (List ℕ) → Option (List ℕ)) (index n : ℕ) (chunks : List (Option (List ℕ))) → length (rebuilt make index n chunks) ≡ n
length-rebuilt make index zero chunks = refl
length-rebuilt make index (suc n) [] = ap suc (length-rebuilt make (index + 1) n [])
length-rebuilt make index (suc n) (c ∷ chunks) = ap suc (length-rebuilt make (index + 1) n chunks)

pub length-overlaid : (position offset : ℕ) (bytes xs : List ℕ) → length (overlaid position offset bytes xs) ≡ length xs
length-overlaid position offset bytes [] = refl
length-overlaid position offset bytes (x ∷ xs) = ap suc (length-overlaid (position + 1) offset bytes xs)

pub length-new : (chunk_size : ℕ) (K : Change) (index : ℕ) (old : List ℕ) → length (new_chunk chunk_size K index old) ≡ chunk_len chunk_size K.size index
length-new chunk_size K index old =
    length-overlaid (index * chunk_size) K.offset K.bytes (resized (chunk_len chunk_size K.size index) old) ∙ length-resized (chunk_len chunk_size K.size index) old

-- the old chunks are what their records stand for
pub chunks_at : (C : Cipher) (chunk_key b : List ℕ) (h : Header) (index n k : ℕ) → k < n → get_or (chunks_from C chunk_key h b index n) k None ≡ chunk_at C chunk_key h b (index + k)
chunks_at C chunk_key b h index zero k lt = absurd (omega (arith, lt))
chunks_at C chunk_key b h index (suc n) zero lt = let e : index ≡ index + 0 = omega arith in ap (chunk_at C chunk_key h b) e
chunks_at C chunk_key b h index (suc n) (suc k) lt =
    let e : index + 1 + k ≡ index + suc k = omega arith in
    chunks_at C chunk_key b h (index + 1) n k (omega (arith, lt)) ∙ ap (chunk_at C chunk_key h b) e

pub chunks_past : (C : Cipher) (chunk_key b : List ℕ) (h : Header) (index n k : ℕ) → n ≤ k → get_or (chunks_from C chunk_key h b index n) k None ≡ None
chunks_past C chunk_key b h index zero k le = refl
chunks_past C chunk_key b h index (suc n) zero le = absurd (omega (arith, le))
chunks_past C chunk_key b h index (suc n) (suc k) le = chunks_past C chunk_key b h (index + 1) n k (omega (arith, le))

module _ (C : Cipher) (lawful : IsLawful C) (key b : List ℕ) (h : Header) (K : Change) (is_file : IsFile C key b h) (ranged : Ranged h.chunk_size h.file_size K) where
  abbrev pub F : File
  F = file_of C key h b

  abbrev s : Shape
  s = shape_of C h

  abbrev p : Plan
  p = plan_of (shape_of C h) h.file_size K

  abbrev chunk_key : List ℕ
  chunk_key = C.chunk_key key h.id

  -- the old chunk at an index
  abbrev pub old_at : ℕ → Option (List ℕ)
  old_at i = get_or (chunks_from C (C.chunk_key key h.id) h b 0 (chunk_count h.chunk_size h.file_size)) i None

  abbrev pub made : ℕ → List ℕ
  made i = new_chunk h.chunk_size K i (unwrap_or (old_at i) [])

  least : 16 ≤ h.chunk_size
  least = is_file.says.fields.least

  pub old_is : (i : ℕ) → i < chunk_count h.chunk_size h.file_size → old_at i ≡ chunk_at C (C.chunk_key key h.id) h b i
  old_is i lt =
      let e : 0 + i ≡ i = omega arith in
      chunks_at C (C.chunk_key key h.id) b h 0 (chunk_count h.chunk_size h.file_size) i lt ∙ ap (chunk_at C (C.chunk_key key h.id) h b) e

  -- a chunk that is there has its length
  old_len : (i : ℕ) (m : List ℕ) → old_at i ≡ Some m → length m ≡ chunk_len h.chunk_size h.file_size i
  old_len i m is = elim (cases_lt i (chunk_count h.chunk_size h.file_size)) [
    | inl lt ↦ chunk_length C lawful (C.chunk_key key h.id) h b is_file.length_fits (omega (arith, least)) i m lt (sym (old_is i lt) ∙ is)
    | inr past ↦ let e : None ≡ Some m = sym (chunks_past C (C.chunk_key key h.id) b h 0 (chunk_count h.chunk_size h.file_size) i past) ∙ is in absurd (none_some m e)
  ]
    where
      none_some : (m : List ℕ) → None ≡ Some m → ⊥
      none_some m e = cc

  enough : (i : ℕ) (o : Option (List ℕ)) → old_at i ≡ o → new_chunk h.chunk_size K i (take (kept_len h.chunk_size p (length K.bytes) i) (unwrap_or o [])) ≡ new_chunk h.chunk_size K i (unwrap_or o [])
  enough i (Some m) is = kept_enough h.chunk_size p K.bytes i m (old_len i m is)
  enough i None is = ap (new_chunk h.chunk_size K i) (none (kept_len h.chunk_size p (length K.bytes) i))
    where
      none : (n : ℕ) → take {A = ℕ} n [] ≡ []
      none n = nil_from_length (take {A = ℕ} n []) (omega (arith, length-take {A = ℕ} n []))

  -- each touched chunk becomes what it should
  pub all_made : (kept : ℕ → List ℕ) → KeptOf C (C.chunk_key key h.id) h p (length K.bytes) b kept → (i : ℕ) → p.first ≤ i → i < p.end
      → new_chunk h.chunk_size K i (kept i) ≡ made i
  all_made kept right i le lt = elim (cases_lt 0 (kept_len h.chunk_size p (length K.bytes) i)) [
    | inl some ↦
        let found = (right i le lt).1 some in
        let had : i < chunk_count h.chunk_size h.file_size = count_above h.chunk_size h.file_size least i (omega (arith, some, kept_short h.chunk_size p K.bytes i)) in
        let is : old_at i ≡ Some found.0 = old_is i had ∙ found.1 in
        ap (new_chunk h.chunk_size K i)
        (found.2 ∙ sym (ap (λ (o : Option (List ℕ)). take (kept_len h.chunk_size p (length K.bytes) i) (unwrap_or o [])) is))
        ∙ enough i (old_at i) refl
    | inr none ↦
        let z : kept_len h.chunk_size p (length K.bytes) i ≡ 0 = omega (arith, none) in
        ap (new_chunk h.chunk_size K i) ((right i le lt).0 z)
        ∙ sym (ap (λ (n : ℕ). new_chunk h.chunk_size K i (take n (unwrap_or (old_at i) []))) z)
        ∙ enough i (old_at i) refl
  ]

  pub new_header : with_size h K.size ≡ header_of C (after F K)
  new_header = (λ j. record { version = h.version; algorithm = is_file.algorithm j; chunk_size = h.chunk_size; file_size = K.size; id = h.id })

  spans : Spans h.chunk_size h.file_size K.size (K.from / h.chunk_size) (chunk_count h.chunk_size K.end)
  spans = planned_spans s least h.file_size K ranged

  pub tests : (i : ℕ) → is_touched F K i ≡ (nat_le (K.from / h.chunk_size) i && nat_lt i (chunk_count h.chunk_size K.end))
  tests = touched_ranged s least h.file_size K ranged F refl

  pub renewed_at : (i : ℕ) → i < chunk_count h.chunk_size K.size → get_or (after F K).chunks i None ≡ renewed F K i (old_at i)
  renewed_at i lt =
      let e : 0 + i ≡ i = omega arith in
      rebuilt_at (renewed F K) 0 (chunk_count h.chunk_size K.size) i F.chunks lt ∙ ap (λ (j : ℕ). renewed F K j (old_at i)) e

  -- a touched chunk is the new one, and any other stays
  pub chunk_is : (i : ℕ) → K.from / h.chunk_size ≤ i → i < chunk_count h.chunk_size K.end → get_or (after F K).chunks i None ≡ Some (made i)
  chunk_is i le lt =
      let inside : nat_le (K.from / h.chunk_size) i && nat_lt i (chunk_count h.chunk_size K.end) ≡ true = grind (arith, nat_tests) in
      renewed_at i (omega (arith, lt, spans.below)) ∙ ap (λ (t : Bool). cond {A = Option (List ℕ)} t (Some (made i)) (old_at i)) (tests i ∙ inside)

  pub chunk_stays : (i : ℕ) → i < chunk_count h.chunk_size K.size → (i < K.from / h.chunk_size) ⊎ (chunk_count h.chunk_size K.end ≤ i) → get_or (after F K).chunks i None ≡ old_at i
  chunk_stays i lt off =
      let out : nat_le (K.from / h.chunk_size) i && nat_lt i (chunk_count h.chunk_size K.end) ≡ false = elim off [ inl low ↦ grind (arith, nat_tests) | inr high ↦ grind (arith, nat_tests) ] in
      renewed_at i lt ∙ ap (λ (t : Bool). cond {A = Option (List ℕ)} t (Some (made i)) (old_at i)) (tests i ∙ out)

  front_is : take 96 b ≡ sealed_header C key h
  front_is =
      sym (take-append-drop 64 (take 96 b))
      ∙ ap (λ (l : List ℕ). l ++ drop 64 (take 96 b)) (take-take 64 96 b (omega arith) ∙ is_file.says.head)
      ∙ ap (λ (l : List ℕ). head_of h ++ l) (drop-take 64 32 b ∙ is_file.tagged ∙ ap (header_tag C key) is_file.says.head)

  pub front_same : K.size ≡ h.file_size → take 96 b ≡ sealed_header C key (header_of C (after F K))
  front_same eq =
      front_is
      ∙ ap (λ (n : ℕ). sealed_header C key (with_size h n)) (sym eq)
      ∙ ap (sealed_header C key) new_header

-- the storage that a change leaves is the image of the new file
pub carried_is_image : (C : Cipher) (lawful : IsLawful C) (E : List ℕ → Hashing) (b : List ℕ) (old new : Handle) (K : Change)
    (is_file : IsFile C old.key b old.header) (ranged : Ranged old.header.chunk_size old.header.file_size K) → old.outside.bytes ≡ Some b
    → (c : Carried C E (C.chunk_key old.key old.header.id) (plan_of (shape_of C old.header) old.header.file_size K) K.bytes old new)
    → new.outside.bytes ≡ Some (image C old.key b (after (file_of C old.key old.header b) K) (is_touched (file_of C old.key old.header b) K) c.nonces)
carried_is_image C lawful E b old new K is_file ranged told c =
    c.bytes_are b told
    ∙ ap (λ (l : List ℕ). Some (finished (sealed_header C key (with_size h K.size)) h.file_size K.size (layout_len s K.size) l)) same
    ∙ ap (λ (x : Header). Some (finished (sealed_header C key x) h.file_size K.size (layout_len s K.size) (placed (stride s) anew (K.from / h.chunk_size) n b))) (new_header C lawful key b h K is_file ranged)
    ∙ ap (λ (l : List ℕ). Some l)
    (finished_is C lawful key b (after F K) h.file_size (K.from / h.chunk_size) (chunk_count h.chunk_size K.end) c.nonces (made C lawful key b h K is_file ranged) (is_touched F K) refl
    is_file.says.fields.least (planned_spans s is_file.says.fields.least h.file_size K ranged) (tests C lawful key b h K is_file ranged)
    is_file.length_fits c.drawn (λ i. length-new h.chunk_size K i (unwrap_or (old_at C lawful key b h K is_file ranged i) [])) is_file.says.fields.id
    (length-rebuilt (renewed F K) 0 (chunk_count h.chunk_size K.size) F.chunks) (chunk_is C lawful key b h K is_file ranged) (front_same C lawful key b h K is_file ranged))
  where
    key : List ℕ
    key = old.key

    h : Header
    h = old.header

    s : Shape
    s = shape_of C old.header

    F : File
    F = file_of C old.key old.header b

    n : ℕ
    n = chunk_count old.header.chunk_size K.end - K.from / old.header.chunk_size

    anew : ℕ → List ℕ
    anew i = sealed C (tag_len (shape_of C old.header)) (C.chunk_key old.key old.header.id) old.header.id i (nonce_at C.nonce_len (K.from / old.header.chunk_size) c.nonces i) (made C lawful old.key b old.header K is_file ranged i)

    put : ℕ → List ℕ
    put i = record_for C (C.chunk_key old.key old.header.id) old.header (plan_of (shape_of C old.header) old.header.file_size K) K.bytes i (nonce_at C.nonce_len (K.from / old.header.chunk_size) c.nonces i) (c.kept i)

    same : placed (stride s) put (K.from / old.header.chunk_size) n b ≡ placed (stride s) anew (K.from / old.header.chunk_size) n b
    same = placed_same (stride s) put anew (K.from / old.header.chunk_size) n b
        (λ i le lt. ap (λ (m : List ℕ). sealed C (tag_len (shape_of C old.header)) (C.chunk_key old.key old.header.id) old.header.id i (nonce_at C.nonce_len (K.from / old.header.chunk_size) c.nonces i) m)
        (all_made C lawful old.key b old.header K is_file ranged c.kept (c.right b told) i le (omega (arith, le, lt))))
