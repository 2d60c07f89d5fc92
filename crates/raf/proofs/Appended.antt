-- A file goes on by a write at its end, byte for byte.
use Rattle.std.proofs.Common.{◌≡◌, inl, inr, ℕ, zero, suc, ◌+◌, ◌-◌, ◌*◌, ◌/◌, ◌<◌, ◌≤◌, min, max, Bool, true, false, cond, not, ◌&&◌, ◌||◌, List, [], ◌∷◌, ◌++◌, length, take, get_or, replicate, Option, Some, None, refl, sym, ◌∙◌, ap, subst, arith, length-append, length-take}
use Rattle.std.specs.Prelude.{nat_lt, nat_le, slice_get, unwrap_or}
use Rattle.std.proofs.Math.Nat.{div-mul-le_self, lt-div-mul-add, mul-le-mul_left}
use Rattle.std.proofs.lemmas.Bool.{cases_lt}
use Rattle.std.proofs.lemmas.Bool.Decides.{nat_tests}
use Rattle.std.proofs.lemmas.List.{get_or_append_left, get_or-append_right, get_or-take}
use Rattle.std.proofs.lemmas.Option.{slice_get-get_or, get_or_from_slice_get}
use Rattle.raf_io.specs.Storage.{resized}
use Rattle.raf_io.proofs.Splices.{length-resized}
use Rattle.raf_format.specs.File.{File, chunk_count, chunk_len}
use Rattle.raf.specs.Change.{Change, write_change}
use Rattle.raf.specs.Concern.{is_touched, none_missing}
use Rattle.raf.specs.Apply.{overlaid, rebuilt, renewed, new_chunk, after}
use Rattle.raf.specs.Read.{IsByteOf}
use Rattle.raf.specs.Converted.{HasBytes}
use Rattle.raf.proofs.Between.{Short}
use Rattle.raf.proofs.Pictures.{rebuilt_at, length-rebuilt, length-new}
use Rattle.raf.proofs.Places.{counts_below, starts_below}

-- the byte at a place, where data lies over bytes
get-overlaid : (k p o : ℕ) (d xs : List ℕ) → k < length xs
    → get_or (overlaid p o d xs) k 0 ≡ cond {A = ℕ} (nat_le o (p + k) && nat_lt (p + k) (o + length d)) (get_or d (p + k - o) 0) (get_or xs k 0)
get-overlaid k p o d [] lt = absurd (omega (arith, lt))
get-overlaid zero p o d (x ∷ xs) lt = let e : p ≡ p + 0 = omega arith in ap (λ (n : ℕ). cond {A = ℕ} (nat_le o n && nat_lt n (o + length d)) (get_or d (n - o) 0) x) e
get-overlaid (suc k) p o d (x ∷ xs) lt =
    let e : p + 1 + k ≡ p + suc k = omega arith in
    get-overlaid k (p + 1) o d xs (omega (arith, lt)) ∙ ap (λ (n : ℕ). cond {A = ℕ} (nat_le o n && nat_lt n (o + length d)) (get_or d (n - o) 0) (get_or xs k 0)) e

get-resized : (n k : ℕ) (m : List ℕ) → k < n → k < length m → get_or (resized n m) k 0 ≡ get_or m k 0
get-resized n k m lt within =
    get_or_append_left (take n m) (replicate (n - length m) 0) 0 k (omega (arith, lt, within, length-take n m)) ∙ get_or-take n m k 0 lt

-- data is put behind the bytes of a file
module _ (F : File) (xs d : List ℕ) (offset : ℕ) (short : Short F.shape.chunk_size F.chunks) (some : 0 < F.shape.chunk_size) (has : HasBytes F xs) (at : offset ≡ length xs) (busy : 0 < length d) where
  abbrev pub K : Change
  K = write_change F.size offset d

  abbrev pub s : ℕ
  s = F.shape.chunk_size

  abbrev pub old_at : ℕ → Option (List ℕ)
  old_at i = get_or F.chunks i None

  size : max F.size (offset + length d) ≡ length xs + length d
  size = omega (arith, has.size, at)

  count_at : (i : ℕ) → i * F.shape.chunk_size < length xs + length d → i < chunk_count F.shape.chunk_size (max F.size (offset + length d))
  count_at i lt = counts_below F.shape.chunk_size (max F.size (offset + length d)) i some (omega (arith, size, lt))

  at_index : (i : ℕ) → i * F.shape.chunk_size < length xs + length d → slice_get (after F K).chunks i ≡ Some (renewed F K i (old_at i))
  at_index i lt =
      let e : 0 + i ≡ i = omega arith in
      let n = chunk_count F.shape.chunk_size (max F.size (offset + length d)) in
      slice_get-get_or (rebuilt (renewed F K) 0 n F.chunks) i None (omega (arith, count_at i lt, length-rebuilt (renewed F K) 0 n F.chunks))
      ∙ ap (λ (c : Option (List ℕ)). Some c) (rebuilt_at (renewed F K) 0 n i F.chunks (count_at i lt) ∙ ap (λ (j : ℕ). renewed F K j (old_at i)) e)

  when : (i : ℕ) (t : Bool) → is_touched F K i ≡ t → renewed F K i (old_at i) ≡ cond {A = Option (List ℕ)} t (Some (new_chunk s K i (unwrap_or (old_at i) []))) (old_at i)
  when i t is = ap (λ (t : Bool). cond {A = Option (List ℕ)} t (Some (new_chunk s K i (unwrap_or (old_at i) []))) (old_at i)) is

  len : (i : ℕ) (old : List ℕ) → length (new_chunk s K i old) ≡ min F.shape.chunk_size (max F.size (offset + length d) - i * F.shape.chunk_size)
  len i old = length-new s K i old

  byte_at : (i k : ℕ) (old : List ℕ) → i * F.shape.chunk_size ≤ k → k < (i + 1) * F.shape.chunk_size → k < length xs + length d
      → get_or (new_chunk s K i old) (k - i * F.shape.chunk_size) 0
      ≡ cond {A = ℕ} (nat_le offset (i * F.shape.chunk_size + (k - i * F.shape.chunk_size)) && nat_lt (i * F.shape.chunk_size + (k - i * F.shape.chunk_size)) (offset + length d))
      (get_or d (i * F.shape.chunk_size + (k - i * F.shape.chunk_size) - offset) 0) (get_or (resized (chunk_len s (max F.size (offset + length d)) i) old) (k - i * F.shape.chunk_size) 0)
  byte_at i k old le lt within =
      let next : (i + 1) * F.shape.chunk_size ≡ i * F.shape.chunk_size + F.shape.chunk_size = omega arith in
      get-overlaid (k - i * s) (i * s) offset d (resized (chunk_len s (max F.size (offset + length d)) i) old)
      (omega (arith, length-resized (chunk_len s (max F.size (offset + length d)) i) old, size, le, lt, next, within))

  -- a byte that was there
  kept : (k : ℕ) → k < length xs → IsByteOf F.shape.chunk_size F.chunks k (get_or xs k 0) → IsByteOf F.shape.chunk_size (after F K).chunks k (get_or (xs ++ d) k 0)
  kept k early (i, m, found, lo, hi, byte) = go (is_touched F K i) refl
    where
      next : (i + 1) * F.shape.chunk_size ≡ i * F.shape.chunk_size + F.shape.chunk_size
      next = omega arith

      wide : length m ≤ F.shape.chunk_size
      wide = short i m found

      old : old_at i ≡ Some m
      old = get_or_from_slice_get F.chunks i (Some m) None found

      in_new : i * F.shape.chunk_size < length xs + length d
      in_new = omega (arith, lo, early, busy)

      same : get_or (xs ++ d) k 0 ≡ get_or m (k - i * F.shape.chunk_size) 0
      same = get_or_append_left xs d 0 k early ∙ byte

      go : (t : Bool) → is_touched F K i ≡ t → IsByteOf F.shape.chunk_size (after F K).chunks k (get_or (xs ++ d) k 0)
      go false is = (i, m, at_index i in_new ∙ ap (λ (c : Option (List ℕ)). Some c) (when i false is ∙ old), lo, hi, same)
      go true is = (
        i,
        new_chunk s K i m,
        at_index i in_new ∙ ap (λ (c : Option (List ℕ)). Some c) (when i true is ∙ ap (λ (c : Option (List ℕ)). Some (new_chunk s K i (unwrap_or c []))) old),
        lo,
        omega (arith, len i m, size, hi, wide, lo, early),
        same ∙ sym (byte_at i k m lo (omega (arith, next, hi, wide)) (omega (arith, early))
            ∙ ap (λ (t : Bool). cond {A = ℕ} t (get_or d (i * F.shape.chunk_size + (k - i * F.shape.chunk_size) - offset) 0) (get_or (resized (chunk_len s (max F.size (offset + length d)) i) m) (k - i * F.shape.chunk_size) 0)) before
            ∙ get-resized (chunk_len s (max F.size (offset + length d)) i) (k - i * F.shape.chunk_size) m (omega (arith, size, lo, hi, wide, early, busy)) (omega (arith, lo, hi))),
      )
        where
          before : nat_le offset (i * F.shape.chunk_size + (k - i * F.shape.chunk_size)) && nat_lt (i * F.shape.chunk_size + (k - i * F.shape.chunk_size)) (offset + length d) ≡ false
          before = let p : i * F.shape.chunk_size + (k - i * F.shape.chunk_size) < offset = omega (arith, lo, early, at) in grind (arith, nat_tests)

  -- a byte of the data
  added : (k : ℕ) → length xs ≤ k → k < length xs + length d → IsByteOf F.shape.chunk_size (after F K).chunks k (get_or (xs ++ d) k 0)
  added k late within = (
    i,
    new_chunk s K i (unwrap_or (old_at i) []),
    at_index i (omega (arith, below, within)) ∙ ap (λ (c : Option (List ℕ)). Some c) (when i true touched),
    below,
    omega (arith, len i (unwrap_or (old_at i) []), size, below, above, within),
    get_or-append_right xs d (length xs) k 0 refl late
        ∙ sym (byte_at i k (unwrap_or (old_at i) []) below (omega (arith, next, above)) within
        ∙ ap (λ (t : Bool). cond {A = ℕ} t (get_or d (i * F.shape.chunk_size + (k - i * F.shape.chunk_size) - offset) 0) (get_or (resized (chunk_len s (max F.size (offset + length d)) i) (unwrap_or (old_at i) [])) (k - i * F.shape.chunk_size) 0)) inside
        ∙ ap (λ (n : ℕ). get_or d n 0) (let e : i * F.shape.chunk_size + (k - i * F.shape.chunk_size) - offset ≡ k - length xs = omega (arith, below, at) in e)),
  )
    where
      i : ℕ
      i = k / F.shape.chunk_size

      next : (k / F.shape.chunk_size + 1) * F.shape.chunk_size ≡ k / F.shape.chunk_size * F.shape.chunk_size + F.shape.chunk_size
      next = omega arith

      below : k / F.shape.chunk_size * F.shape.chunk_size ≤ k
      below = div-mul-le_self k F.shape.chunk_size

      above : k < k / F.shape.chunk_size * F.shape.chunk_size + F.shape.chunk_size
      above = lt-div-mul-add some

      touched : is_touched F K (k / F.shape.chunk_size) ≡ true
      touched =
          let a : min offset F.size < offset + length d = omega (arith, busy) in
          let b : k / F.shape.chunk_size * F.shape.chunk_size < offset + length d = omega (arith, below, within, at) in
          let c : min offset F.size < k / F.shape.chunk_size * F.shape.chunk_size + min F.shape.chunk_size (max F.size (offset + length d) - k / F.shape.chunk_size * F.shape.chunk_size) =
          omega (arith, size, at, has.size, below, above, late, within) in
          grind (arith, nat_tests)

      inside : nat_le offset (k / F.shape.chunk_size * F.shape.chunk_size + (k - k / F.shape.chunk_size * F.shape.chunk_size))
          && nat_lt (k / F.shape.chunk_size * F.shape.chunk_size + (k - k / F.shape.chunk_size * F.shape.chunk_size)) (offset + length d) ≡ true
      inside =
          let a : offset ≤ k / F.shape.chunk_size * F.shape.chunk_size + (k - k / F.shape.chunk_size * F.shape.chunk_size) = omega (arith, below, at, late) in
          let b : k / F.shape.chunk_size * F.shape.chunk_size + (k - k / F.shape.chunk_size * F.shape.chunk_size) < offset + length d = omega (arith, below, at, within) in
          grind (arith, nat_tests)

  pub has_more : HasBytes (after F K) (xs ++ d)
  has_more = record {
    size = omega (arith, size, length-append xs d);
    begins = λ k lt. elim (cases_lt k (length xs)) [
      | inl early ↦ kept k early (has.begins k early)
      | inr late ↦ added k late (omega (arith, lt, length-append xs d))
    ];
  }

-- ---- no chunk of a file with all its bytes is missing

abbrev pub There : List (Option (List ℕ)) → ℕ → Type 0
There chunks i = (m : List ℕ) × (slice_get chunks i ≡ Some (Some m))

pub all_there : (F : File) (xs : List ℕ) → Short F.shape.chunk_size F.chunks → 0 < F.shape.chunk_size → length F.chunks ≡ chunk_count F.shape.chunk_size F.size → HasBytes F xs
    → (i : ℕ) → i < length F.chunks → There F.chunks i
all_there F xs short some count has i lt =
    let start : i * F.shape.chunk_size < F.size = starts_below F.shape.chunk_size F.size i some (omega (arith, lt, count)) in
    go (has.begins (i * F.shape.chunk_size) (omega (arith, start, has.size)))
  where
    go : IsByteOf F.shape.chunk_size F.chunks (i * F.shape.chunk_size) (get_or xs (i * F.shape.chunk_size) 0) → There F.chunks i
    go (j, m, found, lo, hi, byte) = (m, subst (λ (n : ℕ). slice_get F.chunks n ≡ Some (Some m)) same found)
      where
        wide : length m ≤ F.shape.chunk_size
        wide = short j m found

        same : j ≡ i
        same = elim (cases_lt j i) [
          | inl less ↦
              let up : (j + 1) * F.shape.chunk_size ≤ i * F.shape.chunk_size = mul_le (j + 1) i F.shape.chunk_size (omega (arith, less)) in
              let next : (j + 1) * F.shape.chunk_size ≡ j * F.shape.chunk_size + F.shape.chunk_size = omega arith in
              absurd (omega (arith, up, next, hi, wide))
          | inr more ↦ elim (cases_lt i j) [
            | inl less ↦
                let up : (i + 1) * F.shape.chunk_size ≤ j * F.shape.chunk_size = mul_le (i + 1) j F.shape.chunk_size (omega (arith, less)) in
                let next : (i + 1) * F.shape.chunk_size ≡ i * F.shape.chunk_size + F.shape.chunk_size = omega arith in
                absurd (omega (arith, up, next, lo, some))
            | inr least ↦ omega (arith, more, least)
          ]
        ]
          where
            mul_le : (a b n : ℕ) → a ≤ b → a * n ≤ b * n
            mul_le a b n le =
                let x : a * n ≡ n * a = omega arith in
                let y : b * n ≡ n * b = omega arith in
                let step : n * a ≤ n * b = mul-le-mul_left n le in
                omega (arith, x, y, step)

or_true : (t : Bool) → t || true ≡ true
or_true true = refl
or_true false = refl

pub none_missing_of : (test : ℕ → Bool) (j : ℕ) (chunks : List (Option (List ℕ))) → ((i : ℕ) → i < length chunks → There chunks i) → none_missing test j chunks ≡ true
none_missing_of test j [] there = refl
none_missing_of test j (None ∷ chunks) there = absurd (none (there 0 (omega arith)))
  where
    none : There (None ∷ chunks) 0 → ⊥
    none (m, is) = cc
none_missing_of test j (Some c ∷ chunks) there =
    ap (λ (t : Bool). t && none_missing test (j + 1) chunks) (or_true (not (test j)))
    ∙ none_missing_of test (j + 1) chunks (λ i lt. there (suc i) (omega (arith, lt)))
