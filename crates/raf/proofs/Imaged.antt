-- The storage of a file from its header and its records.
use Rattle.std.proofs.Common.{◌≡◌, inl, inr, ℕ, suc, ◌+◌, ◌-◌, ◌*◌, ◌<◌, ◌≤◌, min, Bool, true, false, cond, ◌&&◌, List, [], ◌∷◌, ◌++◌, length, take, drop, get_or, Option, None, refl, sym, ◌∙◌, ap, arith, take-append-drop}
use Rattle.std.specs.Prelude.{nat_lt, nat_le, unwrap_or}
use Rattle.std.proofs.lemmas.List.{drop-drop}
use Rattle.std.proofs.lemmas.Bool.{cases_lt, cases_Bool}
use Rattle.std.proofs.lemmas.Bool.Decides.{nat_tests}
use Rattle.raf_format.specs.Cipher.{Cipher}
use Rattle.raf_format.specs.Header.{sealed_header}
use Rattle.raf_format.specs.File.{File, tag_len, sealed, record_at, record_len, chunk_count, layout_len}
use Rattle.raf.specs.Image.{header_of, image_records, image}
use Rattle.raf.specs.Put.{stride, nonce_at}
use Rattle.raf.proofs.Placed.{joined, rejoined_all}
use Rattle.raf.proofs.Spans.{chunk_full, layout_ends, layout_empty}

module _ (C : Cipher) (key b : List ℕ) (F : File) (test : ℕ → Bool) (first end : ℕ) (nonces : List ℕ) (order : first ≤ end)
    (ranged : (i : ℕ) → test i ≡ (nat_le first i && nat_lt i end)) where
  -- the record that an image has at an index
  abbrev pub piece : ℕ → Option (List ℕ) → List ℕ
  piece i c = cond (test i) (sealed C (tag_len F.shape) (C.chunk_key key F.id) F.id i (nonce_at C.nonce_len first nonces i) (unwrap_or c [])) (record_at F.shape F.size i b)

  -- the nonces that are left at an index
  abbrev left_at : ℕ → List ℕ
  left_at index = drop ((min index end - first) * C.nonce_len) nonces

  abbrev records_at : Bool → List ℕ → ℕ → Option (List ℕ) → List (Option (List ℕ)) → List ℕ
  records_at t ns index c chunks =
      cond t (sealed C (tag_len F.shape) (C.chunk_key key F.id) F.id index (take C.nonce_len ns) (unwrap_or c [])) (record_at F.shape F.size index b)
      ++ image_records C key b F test (cond t (drop C.nonce_len ns) ns) (index + 1) chunks

  pub image_joined : (chunks : List (Option (List ℕ))) (f : ℕ → List ℕ) (index : ℕ) (ns : List ℕ) → ns ≡ left_at index
      → ((k : ℕ) → k < length chunks → f (index + k) ≡ piece (index + k) (get_or chunks k None))
      → image_records C key b F test ns index chunks ≡ joined f index (length chunks)
  image_joined [] f index ns is same = refl
  image_joined (c ∷ chunks) f index ns is same =
      let here : index + 0 ≡ index = omega arith in
      let at : f index ≡ piece index c = ap f (sym here) ∙ same 0 (omega arith) ∙ ap (λ (i : ℕ). piece i c) here in
      let rest : (k : ℕ) → k < length chunks → f (index + 1 + k) ≡ piece (index + 1 + k) (get_or chunks k None) =
      λ k lt. let e : index + 1 + k ≡ index + suc k = omega arith in ap f e ∙ same (suc k) (omega (arith, lt)) ∙ sym (ap (λ (i : ℕ). piece i (get_or chunks k None)) e) in
      elim (cases_Bool (test index)) [
        | inl on ↦
            let inside : nat_le first index && nat_lt index end ≡ true = sym (ranged index) ∙ on in
            let lo : first ≤ index = grind (arith, nat_tests) in
            let hi : index < end = grind (arith, nat_tests) in
            let n0 : min index end - first ≡ index - first = omega arith in
            let n1 : (min index end - first) * C.nonce_len + C.nonce_len ≡ (min (index + 1) end - first) * C.nonce_len = omega (arith, steps index lo hi) in
            ap (λ (t : Bool). records_at t ns index c chunks) on
            ∙ ap (λ (l : List ℕ). sealed C (tag_len F.shape) (C.chunk_key key F.id) F.id index (take C.nonce_len l) (unwrap_or c []) ++ image_records C key b F test (drop C.nonce_len ns) (index + 1) chunks)
            (is ∙ ap (λ (k : ℕ). drop (k * C.nonce_len) nonces) n0)
            ∙ ap (λ (l : List ℕ). sealed C (tag_len F.shape) (C.chunk_key key F.id) F.id index (nonce_at C.nonce_len first nonces index) (unwrap_or c []) ++ l)
            (image_joined chunks f (index + 1) (drop C.nonce_len ns)
            (ap (λ (l : List ℕ). drop C.nonce_len l) is ∙ drop-drop C.nonce_len ((min index end - first) * C.nonce_len) nonces ∙ ap (λ (k : ℕ). drop k nonces) n1) rest)
            ∙ ap (λ (l : List ℕ). l ++ joined f (index + 1) (length chunks)) (sym (at ∙ ap (λ (t : Bool). cond t (sealed C (tag_len F.shape) (C.chunk_key key F.id) F.id index (nonce_at C.nonce_len first nonces index) (unwrap_or c [])) (record_at F.shape F.size index b)) on))
        | inr off ↦
            let outside : nat_le first index && nat_lt index end ≡ false = sym (ranged index) ∙ off in
            let n1 : min index end - first ≡ min (index + 1) end - first = stays index outside in
            ap (λ (t : Bool). records_at t ns index c chunks) off
            ∙ ap (λ (l : List ℕ). record_at F.shape F.size index b ++ l)
            (image_joined chunks f (index + 1) ns (is ∙ ap (λ (k : ℕ). drop (k * C.nonce_len) nonces) n1) rest)
            ∙ ap (λ (l : List ℕ). l ++ joined f (index + 1) (length chunks)) (sym (at ∙ ap (λ (t : Bool). cond t (sealed C (tag_len F.shape) (C.chunk_key key F.id) F.id index (nonce_at C.nonce_len first nonces index) (unwrap_or c [])) (record_at F.shape F.size index b)) off))
      ]
    where
      steps : (index : ℕ) → first ≤ index → index < end → (min index end - first) * C.nonce_len + C.nonce_len ≡ (min (index + 1) end - first) * C.nonce_len
      steps index lo hi =
          let e : min (index + 1) end - first ≡ (min index end - first) + 1 = omega arith in
          omega (arith, ap (λ (k : ℕ). k * C.nonce_len) e)

      stays : (index : ℕ) → nat_le first index && nat_lt index end ≡ false → min index end - first ≡ min (index + 1) end - first
      stays index out = elim (cases_lt index first) [
        | inl low ↦ omega arith
        | inr past ↦ elim (cases_lt index end) [
          | inl inside ↦ absurd (true≢false' (sym (both index past inside) ∙ out))
          | inr over ↦ omega arith
        ]
      ]
        where
          both : (index : ℕ) → first ≤ index → index < end → nat_le first index && nat_lt index end ≡ true
          both index lo hi = grind (arith, nat_tests)

          true≢false' : true ≡ false → ⊥
          true≢false' e = cc

  -- bytes of the layout's length that begin with the header and have these records
  pub imaged : (x : List ℕ) → 16 ≤ F.shape.chunk_size → length F.chunks ≡ chunk_count F.shape.chunk_size F.size → length x ≡ layout_len F.shape F.size
      → take 96 x ≡ sealed_header C key (header_of C F)
      → ((i : ℕ) → i < chunk_count F.shape.chunk_size F.size → record_at F.shape F.size i x ≡ piece i (get_or F.chunks i None))
      → x ≡ image C key b F test nonces
  imaged x least count len front same =
      sym (take-append-drop 96 x)
      ∙ ap (λ (l : List ℕ). l ++ drop 96 x) front
      ∙ ap (λ (l : List ℕ). sealed_header C key (header_of C F) ++ l)
      (rejoined_all (stride F.shape) (λ i. record_len F.shape F.size i) x (chunk_count F.shape.chunk_size F.size)
      (λ i lt. ap (λ (k : ℕ). F.shape.nonce_len + k + tag_len F.shape) (chunk_full F.shape.chunk_size F.size least i lt)) (λ i. omega arith)
      (λ none. len ∙ layout_empty F.shape F.size least none)
      (λ i last. len ∙ layout_ends F.shape F.size least i last)
      ∙ ap (λ (n : ℕ). joined (λ i. record_at F.shape F.size i x) 0 n) (sym count)
      ∙ sym (image_joined F.chunks (λ i. record_at F.shape F.size i x) 0 nonces none_dropped at_start))
    where
      at_start : (k : ℕ) → k < length F.chunks → record_at F.shape F.size (0 + k) x ≡ piece (0 + k) (get_or F.chunks k None)
      at_start k lt =
          let e : 0 + k ≡ k = omega arith in
          ap (λ (i : ℕ). record_at F.shape F.size i x) e ∙ same k (omega (arith, lt, count)) ∙ sym (ap (λ (i : ℕ). piece i (get_or F.chunks k None)) e)

      none_dropped : nonces ≡ drop ((min 0 end - first) * C.nonce_len) nonces
      none_dropped = let e : (min 0 end - first) * C.nonce_len ≡ 0 = zero_times (min 0 end - first) C.nonce_len (omega arith) in sym (ap (λ (k : ℕ). drop k nonces) e)
        where
          zero_times : (k n : ℕ) → k ≡ 0 → k * n ≡ 0
          zero_times k n is = omega (arith, ap (λ (j : ℕ). j * n) is)
