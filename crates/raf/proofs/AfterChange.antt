-- The storage after a change: its records, its header and its length.
use Rattle.std.proofs.Common.{◌≡◌, inl, inr, ℕ, suc, ◌+◌, ◌-◌, ◌*◌, ◌<◌, ◌≤◌, max, Bool, true, false, cond, ◌&&◌, ◌⊎◌, List, [], length, take, drop, get_or, Option, Some, None, sym, ◌∙◌, ap, subst, arith, length-append, length-take, length-drop}
use Rattle.std.specs.Prelude.{nat_lt, nat_le, nat_eq, unwrap_or}
use Rattle.std.proofs.lemmas.List.{take-take, drop-take}
use Rattle.std.proofs.lemmas.Bool.{cases_lt, cases_eq}
use Rattle.std.proofs.lemmas.Bool.Decides.{nat_tests}
use Rattle.std.proofs.lemmas.Nat.{mul-le}
use Rattle.raf_io.specs.Storage.{resized, spliced, Torn}
use Rattle.raf_format.specs.Cipher.{Cipher, IsLawful}
use Rattle.raf_format.specs.Header.{sealed_header}
use Rattle.raf_format.specs.File.{Shape, File, tag_len, sealed, beside, record_at, record_len, chunk_count, chunk_len, layout_len}
use Rattle.raf.specs.Image.{header_of, image}
use Rattle.raf.specs.Put.{stride, placed, nonce_at, finished}
use Rattle.raf_io.proofs.Splices.{resized_cut, length-resized}
use Rattle.raf_format.proofs.SealedHeaders.{length_header}
use Rattle.raf_format.proofs.Versions.{is_tag_len}
use Rattle.raf.proofs.Placed.{length-spliced, torn_part, spliced_there, torn_before, torn_behind, placed_torn, length-placed, placed_there}
use Rattle.raf.specs.Plan.{Spans}
use Rattle.raf.proofs.Spans.{kept_front, record_inside, layout_ends, layout_more, count_covers}
use Rattle.raf.proofs.Imaged.{piece, imaged}

-- records outside the range of a change stay
module _ (s : Shape) (before size first end : ℕ) (least : 16 ≤ s.chunk_size) (spans : Spans s.chunk_size before size first end) where
  range_end : 96 + first * (stride s) + (end - first) * (stride s) ≡ 96 + end * (stride s)
  range_end =
      let e : end ≡ first + (end - first) = omega (arith, spans.order) in
      omega (arith, ap (λ (k : ℕ). k * (stride s)) e)

  pub spared_record : (b x : List ℕ) (i : ℕ) → length b ≡ layout_len s before
      → Torn (96 + first * (stride s)) ((end - first) * (stride s)) b x
      → i < chunk_count s.chunk_size size → (i < first) ⊎ (end ≤ i)
      → record_at s size i x ≡ record_at s size i b
  spared_record b x i len t lt off = elim off [
    | inl low ↦
        let k = kept_front s.chunk_size before size first end least spans i low in
        let m = mul-le (i + 1) (stride s) first (stride s) (omega (arith, low)) (omega arith) in
        let inside = record_inside s before least i k.0 in
        torn_before (96 + first * (stride s)) ((end - first) * (stride s)) (96 + i * (stride s)) (record_len s size i) b x t
        (omega (arith, m, k.2)) (omega (arith, inside, k.1, k.2, len))
    | inr high ↦
        let m = mul-le end (stride s) i (stride s) high (omega arith) in
        ap (λ (l : List ℕ). take (record_len s size i) l)
        (torn_behind (96 + first * (stride s)) ((end - first) * (stride s)) (96 + i * (stride s)) b x t (omega (arith, range_end, m)))
  ]

-- pieces behind the header stay where it is written, and pieces within a length where the storage is cut to it
pub piece_behind : (header x : List ℕ) (at len : ℕ) → length header ≡ 96 → take len (drop (96 + at) (spliced 0 header x)) ≡ take len (drop (96 + at) x)
piece_behind header x at len is =
    ap (λ (l : List ℕ). take len l)
    (torn_behind 0 (length header) (96 + at) x (spliced 0 header x) (torn_part 0 (length header) header x (omega arith)) (omega (arith, is)))

pub piece_within : (n at len : ℕ) (y : List ℕ) → at + len ≤ n → n ≤ length y → take len (drop at (resized n y)) ≡ take len (drop at y)
piece_within n at len y le fits =
    ap (λ (l : List ℕ). take len (drop at l)) (resized_cut n y fits)
    ∙ sym (drop-take at len (take n y))
    ∙ ap (λ (l : List ℕ). drop at l) (take-take (at + len) n y le)
    ∙ drop-take at len y

module _ (C : Cipher) (lawful : IsLawful C) (key b : List ℕ) (F : File) (before first end : ℕ) (nonces : List ℕ) (made : ℕ → List ℕ) (test : ℕ → Bool) (nonce : F.shape.nonce_len ≡ C.nonce_len)
    (least : 16 ≤ F.shape.chunk_size) (spans : Spans F.shape.chunk_size before F.size first end) (ranged : (i : ℕ) → test i ≡ (nat_le first i && nat_lt i end))
    (len_b : length b ≡ layout_len F.shape before) (drawn : length nonces ≡ (end - first) * C.nonce_len)
    (lens : (i : ℕ) → length (made i) ≡ chunk_len F.shape.chunk_size F.size i) (id : length F.id ≡ 32) (count : length F.chunks ≡ chunk_count F.shape.chunk_size F.size)
    (chunks : (i : ℕ) → first ≤ i → i < end → get_or F.chunks i None ≡ Some (made i)) where
  abbrev pub record_of : ℕ → List ℕ
  record_of i = sealed C (tag_len F.shape) (C.chunk_key key F.id) F.id i (nonce_at C.nonce_len first nonces i) (made i)

  abbrev step : ℕ
  step = stride F.shape

  abbrev pub written : List ℕ
  written = placed step record_of first (end - first) b

  length_record : (i : ℕ) → length (record_of i) ≡ length (nonce_at C.nonce_len first nonces i) + chunk_len F.shape.chunk_size F.size i + tag_len F.shape
  length_record i =
      let n = nonce_at C.nonce_len first nonces i in
      let t = tag_len F.shape in
      let k = C.chunk_key key F.id in
      omega (arith, length-append (nonce_at C.nonce_len first nonces i) (C.seal t k n (beside F.id i) (made i)), lawful.longer t k n (beside F.id i) (made i) (is_tag_len F.shape.version), lens i)

  length_nonce : (i : ℕ) → length (nonce_at C.nonce_len first nonces i) ≤ C.nonce_len
  length_nonce i = omega (arith, length-take C.nonce_len (drop ((i - first) * C.nonce_len) nonces))

  whole_nonce : (i : ℕ) → first ≤ i → i < end → length (nonce_at C.nonce_len first nonces i) ≡ C.nonce_len
  whole_nonce i le lt =
      omega (
        arith,
        length-take C.nonce_len (drop ((i - first) * C.nonce_len) nonces),
        length-drop ((i - first) * C.nonce_len) nonces,
        drawn,
        mul-le (i - first + 1) C.nonce_len (end - first) C.nonce_len (omega (arith, le, lt)) (omega arith),
      )

  short : (i : ℕ) → length (record_of i) ≤ step
  short i = omega (arith, length_record i, length_nonce i, nonce)

  torn : Torn (96 + first * step) ((end - first) * step) b written
  torn = placed_torn step record_of first (end - first) b short

  length_written : length written ≡ max (layout_len F.shape before) (layout_len F.shape F.size)
  length_written = elim (cases_lt first end) [
    | inl some ↦
        let n = end - first - 1 in
        let e : end - first ≡ suc (end - first - 1) = omega (arith, some) in
        let l = ap (λ (k : ℕ). length (placed step record_of first k b)) e ∙ length-placed step record_of first (end - first - 1) b short in
        let at : first + (end - first - 1) ≡ end - 1 = omega (arith, some) in
        let r = ap (λ (k : ℕ). 96 + k * step + length (record_of k)) at in
        let lr = length_record (end - 1) in
        let ln = whole_nonce (end - 1) (omega (arith, some)) (omega (arith, some)) in
        elim (cases_eq F.size before) [
          | inl same ↦
              let inside = record_inside F.shape F.size least (end - 1) (omega (arith, some, spans.below)) in
              omega (arith, l, r, lr, ln, inside, len_b, nonce, ap (layout_len F.shape) same)
          | inr other ↦
              let ends = layout_ends F.shape F.size least (end - 1) (omega (arith, some, spans.whole other)) in
              omega (arith, l, r, lr, ln, ends, len_b, nonce)
        ]
    | inr none ↦
        let e : end - first ≡ 0 = omega (arith, none) in
        let l = ap (λ (k : ℕ). length (placed step record_of first k b)) e in
        elim (cases_eq F.size before) [
          | inl same ↦ omega (arith, l, len_b, ap (layout_len F.shape) same)
          | inr other ↦
              let is : first ≡ chunk_count F.shape.chunk_size F.size = omega (arith, none, spans.order, spans.whole other) in
              let smaller : F.size ≤ before = omega (arith, count_covers F.shape.chunk_size F.size least, spans.in_old, ap (λ (k : ℕ). k * F.shape.chunk_size) is) in
              omega (arith, l, len_b, layout_more F.shape F.size before least smaller)
        ]
  ]

  -- what stands at each index before the header is written
  record_written : (i : ℕ) → i < chunk_count F.shape.chunk_size F.size → record_at F.shape F.size i written ≡ piece C key b F test first end nonces spans.order ranged i (get_or F.chunks i None)
  record_written i lt = elim (cases_lt i first) [
    | inl low ↦ untouched (inl low) (grind (arith, nat_tests))
    | inr up ↦ elim (cases_lt i end) [
      | inl inside ↦ touched up inside (grind (arith, nat_tests))
      | inr high ↦ untouched (inr high) (grind (arith, nat_tests))
    ]
  ]
    where
      untouched : (i < first) ⊎ (end ≤ i) → (nat_le first i && nat_lt i end) ≡ false
          → record_at F.shape F.size i written ≡ piece C key b F test first end nonces spans.order ranged i (get_or F.chunks i None)
      untouched off out =
          spared_record F.shape before F.size first end least spans b written i len_b torn lt off
          ∙ sym (ap (λ (t : Bool). cond t (sealed C (tag_len F.shape) (C.chunk_key key F.id) F.id i (nonce_at C.nonce_len first nonces i) (unwrap_or (get_or F.chunks i None) [])) (record_at F.shape F.size i b)) (ranged i ∙ out))

      touched : first ≤ i → i < end → (nat_le first i && nat_lt i end) ≡ true
          → record_at F.shape F.size i written ≡ piece C key b F test first end nonces spans.order ranged i (get_or F.chunks i None)
      touched le inside on =
          let len : record_len F.shape F.size i ≡ length (record_of i) = omega (arith, length_record i, whole_nonce i le inside, nonce) in
          ap (λ (k : ℕ). take k (drop (96 + i * step) written)) len
          ∙ placed_there step record_of first (end - first) b i short le (omega (arith, inside))
          ∙ sym (ap (λ (o : Option (List ℕ)). sealed C (tag_len F.shape) (C.chunk_key key F.id) F.id i (nonce_at C.nonce_len first nonces i) (unwrap_or o [])) (chunks i le inside))
          ∙ sym (ap (λ (t : Bool). cond t (sealed C (tag_len F.shape) (C.chunk_key key F.id) F.id i (nonce_at C.nonce_len first nonces i) (unwrap_or (get_or F.chunks i None) [])) (record_at F.shape F.size i b)) (ranged i ∙ on))

  abbrev pub header : List ℕ
  header = sealed_header C key (header_of C F)

  length_of_header : length header ≡ 96
  length_of_header = length_header C lawful key (header_of C F) id

  -- the parts of a storage of the new file
  pub record Parts (x : List ℕ) : Type 0 where
    pub len : length x ≡ layout_len F.shape F.size
    pub front : take 96 x ≡ header
    pub records : (i : ℕ) → i < chunk_count F.shape.chunk_size F.size → record_at F.shape F.size i x ≡ piece C key b F test first end nonces spans.order ranged i (get_or F.chunks i None)

  abbrev branches : Bool → Bool → List ℕ
  branches less same = cond {A = List ℕ} less (resized (layout_len F.shape F.size) (spliced 0 header written)) (cond {A = List ℕ} same written (spliced 0 header written))

  pub finished_parts : (F.size ≡ before → take 96 b ≡ header) → Parts (finished header before F.size (layout_len F.shape F.size) written)
  finished_parts same_front = elim (cases_eq F.size before) [
    | inl same ↦
        let lt : nat_lt F.size before ≡ false = grind (arith, nat_tests) in
        let eq : nat_eq F.size before ≡ true = grind (arith, nat_tests) in
        subst Parts (sym (ap (λ (t : Bool). branches t (nat_eq F.size before)) lt ∙ ap (branches false) eq)) (record {
          len = omega (arith, length_written, ap (layout_len F.shape) same);
          front = torn_before (96 + first * step) ((end - first) * step) 0 96 b written torn (omega arith) (omega (arith, len_b)) ∙ same_front same;
          records = record_written;
        })
    | inr other ↦ elim (cases_lt F.size before) [
      | inl shrinks ↦
          let lt : nat_lt F.size before ≡ true = grind (arith, nat_tests) in
          let longer = layout_more F.shape F.size before least (omega (arith, shrinks)) in
          subst Parts (sym (ap (λ (t : Bool). branches t (nat_eq F.size before)) lt)) (record {
            len = length-resized (layout_len F.shape F.size) (spliced 0 header written);
            front = piece_within (layout_len F.shape F.size) 0 96 (spliced 0 header written) (omega arith) (omega (arith, length_headed, longer)) ∙ front;
            records = λ i lt. piece_within (layout_len F.shape F.size) (96 + i * step) (record_len F.shape F.size i) (spliced 0 header written)
                (record_inside F.shape F.size least i lt) (omega (arith, length_headed, longer)) ∙ record_headed i lt;
          })
      | inr grows ↦
          let lt : nat_lt F.size before ≡ false = grind (arith, nat_tests) in
          let eq : nat_eq F.size before ≡ false = grind (arith, nat_tests) in
          let longer = layout_more F.shape before F.size least (omega (arith, grows)) in
          subst Parts (sym (ap (λ (t : Bool). branches t (nat_eq F.size before)) lt ∙ ap (branches false) eq)) (record {
            len = omega (arith, length_headed, longer);
            front = front;
            records = record_headed;
          })
    ]
  ]
    where
      length_headed : length (spliced 0 header written) ≡ max (layout_len F.shape before) (layout_len F.shape F.size)
      length_headed = omega (arith, length-spliced 0 header written, length_written, length_of_header)

      front : take 96 (spliced 0 header written) ≡ header
      front = ap (λ (k : ℕ). take k (spliced 0 header written)) (sym length_of_header) ∙ spliced_there 0 header written

      record_headed : (i : ℕ) → i < chunk_count F.shape.chunk_size F.size → record_at F.shape F.size i (spliced 0 header written) ≡ piece C key b F test first end nonces spans.order ranged i (get_or F.chunks i None)
      record_headed i lt = piece_behind header written (i * step) (record_len F.shape F.size i) length_of_header ∙ record_written i lt

  -- it is the image of the new file
  pub finished_is : (F.size ≡ before → take 96 b ≡ header)
      → finished header before F.size (layout_len F.shape F.size) written ≡ image C key b F test nonces
  finished_is same_front =
      let f = finished_parts same_front in
      imaged C key b F test first end nonces spans.order ranged (finished header before F.size (layout_len F.shape F.size) written) least count f.len f.front f.records

  -- and that has these parts
  pub image_parts : (F.size ≡ before → take 96 b ≡ header) → Parts (image C key b F test nonces)
  image_parts same_front = subst Parts (finished_is same_front) (finished_parts same_front)
