-- The tree that was kept for a file keeps the new one after a change.
use Rattle.std.proofs.Common.{◌≡◌, inl, inr, ℕ, ◌+◌, ◌/◌, ◌<◌, ◌≤◌, List, [], length, get_or, Option, Some, None, sym, ◌∙◌, ap, arith}
use Rattle.std.specs.Prelude.{◌⊎◌, unwrap_or}
use Rattle.std.proofs.lemmas.List.{length-map, get_or_past}
use Rattle.std.proofs.lemmas.Bool.{cases_lt, cases_eq}
use Rattle.std.proofs.lemmas.Nat.{mul-le}
use Rattle.raf_tree.specs.Hashing.{Hashing}
use Rattle.raf_tree.specs.Kept.{Kept}
use Rattle.raf_tree.specs.Laws.{TreeLaws}
use Rattle.raf_tree.specs.Since.{SameBeside}
use Rattle.raf_format.specs.Cipher.{Cipher, IsLawful}
use Rattle.raf_format.specs.File.{File, Shape, IsFile, shape_of, chunk_count, file_of}
use Rattle.raf.specs.Apply.{renewed, after}
use Rattle.raf.specs.Change.{Change}
use Rattle.raf.specs.Handle.{Grown}
use Rattle.raf.specs.Plan.{Spans, Ranged, plan_of}
use Rattle.raf.specs.Put.{KeptOf, TreeCarried, put_chunk}
use Rattle.raf.specs.declared.planning.Plan.{Plan}
use Rattle.raf_format.specs.declared.header.Header.{Header}
use Rattle.raf.proofs.Chunks.{length-chunks}
use Rattle.raf.proofs.Pictures.{length-rebuilt, chunk_is, chunk_stays, made as made_of, old_at as old_of, all_made}
use Rattle.raf.proofs.Spans.{count_above, count_more, kept_front}
use Rattle.raf.proofs.Plans.{spans as spans_of, end_until, until_less, until_more}
use Rattle.raf.proofs.Grows.{found, found_all, found_at, present_at, tree_keeps}

module _ (C : Cipher) (lawful : IsLawful C) (key b : List ℕ) (h : Header) (K : Change) (is_file : IsFile C key b h) (ranged : Ranged h.chunk_size h.file_size K)
    (kept : ℕ → List ℕ) (right : KeptOf C (C.chunk_key key h.id) h (plan_of (shape_of C h) h.file_size K) (length K.bytes) b kept)
    (H : Hashing) (laws : TreeLaws H) (T U : Kept) (grown : Grown (file_of C key h b) H T) where
  abbrev F : File
  F = file_of C key h b

  abbrev s : Shape
  s = shape_of C h

  abbrev p : Plan
  p = plan_of (shape_of C h) h.file_size K

  abbrev made : ℕ → List ℕ
  made = made_of C lawful key b h K is_file ranged

  abbrev old_at : ℕ → Option (List ℕ)
  old_at = old_of C lawful key b h K is_file ranged

  least : 16 ≤ h.chunk_size
  least = is_file.says.fields.least

  spans : Spans h.chunk_size h.file_size K.size (K.from / h.chunk_size) (chunk_count h.chunk_size K.end)
  spans = spans_of s least h.file_size K ranged

  abbrev before : List (List ℕ)
  before = grown.chunks

  abbrev new_chunks : List (List ℕ)
  new_chunks = found (after F K).chunks

  long_before : length before ≡ chunk_count h.chunk_size h.file_size
  long_before =
      sym (length-map before (λ m. Some m)) ∙ sym (ap length grown.present) ∙ length-chunks C (C.chunk_key key h.id) h b 0 (chunk_count h.chunk_size h.file_size)

  long_all : length (after F K).chunks ≡ chunk_count h.chunk_size K.size
  long_all = length-rebuilt (renewed F K) 0 (chunk_count h.chunk_size K.size) F.chunks

  long_after : length new_chunks ≡ chunk_count h.chunk_size K.size
  long_after = length-map (after F K).chunks (λ c. unwrap_or c []) ∙ long_all

  was : (i : ℕ) → i < chunk_count h.chunk_size h.file_size → old_at i ≡ Some (get_or before i [])
  was i lt = ap (λ (l : List (Option (List ℕ))). get_or l i None) grown.present ∙ present_at before i (omega (arith, lt, long_before))

  -- an index off the range is one of both files or of none
  off_range : (i : ℕ) → (i < p.first) ⊎ (p.until ≤ i) → ((i < chunk_count h.chunk_size h.file_size) × (i < chunk_count h.chunk_size K.size))
      ⊎ ((chunk_count h.chunk_size h.file_size ≤ i) × (chunk_count h.chunk_size K.size ≤ i))
  off_range i off = elim off [
    | inl low ↦
        let m = mul-le (i + 1) h.chunk_size (K.from / h.chunk_size) h.chunk_size (omega (arith, low)) (omega arith) in
        inl (
          (kept_front h.chunk_size h.file_size K.size (K.from / h.chunk_size) (chunk_count h.chunk_size K.end) least spans i low).0,
          count_above h.chunk_size K.size least i (omega (arith, m, spans.in_new, least)),
        )
    | inr high ↦ elim (cases_lt K.size h.file_size) [
      | inl less ↦ inr (omega (arith, high, until_less s least h.file_size K ranged less), omega (arith, high, until_less s least h.file_size K ranged less, count_more h.chunk_size K.size h.file_size least (omega (arith, less))))
      | inr more ↦ elim (cases_eq K.size h.file_size) [
        | inl same ↦ elim (cases_lt i (chunk_count h.chunk_size K.size)) [
          | inl lt ↦ inl (omega (arith, lt, ap (chunk_count h.chunk_size) same), lt)
          | inr past ↦ inr (omega (arith, past, ap (chunk_count h.chunk_size) same), past)
        ]
        | inr other ↦
            let u = until_more s least h.file_size K ranged more in
            let w = spans.whole other in
            inr (omega (arith, high, u, w, count_more h.chunk_size h.file_size K.size least more), omega (arith, high, u, w))
      ]
    ]
  ]

  off_end : (i : ℕ) → (i < p.first) ⊎ (p.until ≤ i) → (i < p.first) ⊎ (p.end ≤ i)
  off_end i off = elim off [ inl low ↦ inl low | inr high ↦ inr (omega (arith, high, end_until s least h.file_size K ranged)) ]

  beside : SameBeside p.first p.until before new_chunks
  beside = record {
    there = λ i off. elim (off_range i off) [
      | inl both ↦ (λ _. omega (arith, both.1, long_after), λ _. omega (arith, both.0, long_before))
      | inr none ↦ (λ lt. absurd (omega (arith, lt, none.0, long_before)), λ lt. absurd (omega (arith, lt, none.1, long_after)))
    ];
    same = λ i off. elim (off_range i off) [
      | inl both ↦
          sym (found_at (after F K).chunks i (omega (arith, both.1, long_all))
          ∙ ap (λ (o : Option (List ℕ)). unwrap_or o []) (chunk_stays C lawful key b h K is_file ranged i both.1 (off_end i off) ∙ was i both.0))
      | inr none ↦ get_or_past before i [] (omega (arith, none.0, long_before)) ∙ sym (get_or_past new_chunks i [] (omega (arith, none.1, long_after)))
    ];
  }

  -- each new chunk is there
  each : (i : ℕ) → i < length (after F K).chunks → (m : List ℕ) × (get_or (after F K).chunks i None ≡ Some m)
  each i has =
      let lt : i < chunk_count h.chunk_size K.size = omega (arith, has, long_all) in
      elim (cases_lt i p.first) [
        | inl low ↦ stays i lt (inl low)
        | inr up ↦ elim (cases_lt i p.end) [
          | inl inside ↦ (made i, chunk_is C lawful key b h K is_file ranged i up inside)
          | inr high ↦ stays i lt (inr high)
        ]
      ]
    where
      stays : (i : ℕ) → i < chunk_count h.chunk_size K.size → (i < p.first) ⊎ (p.end ≤ i) → (m : List ℕ) × (get_or (after F K).chunks i None ≡ Some m)
      stays i lt off = (get_or before i [], chunk_stays C lawful key b h K is_file ranged i lt off ∙ was i (had i lt off))
        where
          had : (i : ℕ) → i < chunk_count h.chunk_size K.size → (i < p.first) ⊎ (p.end ≤ i) → i < chunk_count h.chunk_size h.file_size
          had i lt off = elim off [
            | inl low ↦ (kept_front h.chunk_size h.file_size K.size (K.from / h.chunk_size) (chunk_count h.chunk_size K.end) least spans i low).0
            | inr high ↦ elim (cases_eq K.size h.file_size) [
              | inl same ↦ omega (arith, lt, ap (chunk_count h.chunk_size) same)
              | inr other ↦ absurd (omega (arith, lt, high, spans.whole other))
            ]
          ]

  none_left : (i : ℕ) → i < p.until → i < length new_chunks → i < p.end
  none_left i to has = elim (cases_lt K.size h.file_size) [
    | inl less ↦ omega (arith, has, long_after, spans.whole (λ e. omega (arith, e, less)))
    | inr more ↦ omega (arith, to, until_more s least h.file_size K ranged more)
  ]

  pub grows_on : chunk_count h.chunk_size h.file_size ≤ T.max_chunks → p.count ≤ T.max_chunks → TreeCarried H (λ i. put_chunk s p K.bytes i (kept i)) p T U → Grown (after F K) H U
  grows_on fits room (mid, puts, updated) = record {
    chunks = new_chunks;
    present = found_all (after F K).chunks each;
    keeps = tree_keeps H laws before new_chunks (λ i. put_chunk s p K.bytes i (kept i)) p.first p.end p.until p.count T mid U grown.keeps
        (omega (arith, long_before, fits)) spans.order (end_until s least h.file_size K ranged) (omega (arith, spans.below, room)) (omega (arith, spans.below, long_after)) long_after
        (λ i le lt. found_at (after F K).chunks i (omega (arith, lt, spans.below, long_all)) ∙ ap (λ (o : Option (List ℕ)). unwrap_or o []) (chunk_is C lawful key b h K is_file ranged i le lt)
        ∙ sym (all_made C lawful key b h K is_file ranged kept right i le lt))
        none_left beside puts updated;
  }
