-- The numbers of chunks and records.
use Rattle.std.proofs.Common.{◌≡◌, inl, inr, ℕ, ◌+◌, ◌-◌, ◌*◌, ◌<◌, ◌≤◌, ap, arith}
use Rattle.std.proofs.lemmas.Bool.{cases_lt, cases_eq}
use Rattle.std.proofs.lemmas.Nat.{div_below, le-div, mul-le}
use Rattle.raf_format.specs.File.{Shape, tag_len, chunk_count, chunk_len, layout_len, record_start, record_len}
use Rattle.raf.specs.Plan.{Spans}

module _ (chunk_size size : ℕ) (least : 16 ≤ chunk_size) where
  pub count_above : (index : ℕ) → index * chunk_size < size → index < chunk_count chunk_size size
  count_above index lt = omega (arith, le-div (index + 1) (size + chunk_size - 1) chunk_size (omega arith) (omega arith))

  pub count_below : (index : ℕ) → index < chunk_count chunk_size size → index * chunk_size < size
  count_below index lt = elim (cases_lt (index * chunk_size) size) [
    | inl inside ↦ inside
    | inr past ↦ absurd (omega (arith, div_below (size + chunk_size - 1) chunk_size (index + 1) (omega arith) (omega arith), lt))
  ]

  pub count_covers : size ≤ chunk_count chunk_size size * chunk_size
  count_covers = elim (cases_lt (chunk_count chunk_size size * chunk_size) size) [
    | inl inside ↦ absurd (omega (arith, count_above (chunk_count chunk_size size) inside))
    | inr past ↦ past
  ]

  -- all chunks but the last one are full
  pub chunk_full : (index : ℕ) → index + 1 < chunk_count chunk_size size → chunk_len chunk_size size index ≡ chunk_size
  chunk_full index lt = omega (arith, count_below (index + 1) lt)

  pub chunk_last : (index : ℕ) → index + 1 ≡ chunk_count chunk_size size → chunk_len chunk_size size index ≡ size - index * chunk_size
  chunk_last index is = omega (arith, count_covers, ap (λ (k : ℕ). k * chunk_size) is)

-- the layout of so many bytes
module _ (s : Shape) (size : ℕ) (least : 16 ≤ s.chunk_size) where
  pub layout_ends : (index : ℕ) → index + 1 ≡ chunk_count s.chunk_size size → layout_len s size ≡ record_start s index + record_len s size index
  layout_ends index is =
      let a = ap (λ (k : ℕ). k * (s.nonce_len + tag_len s)) is in
      omega (arith, a, chunk_last s.chunk_size size least index is, count_below s.chunk_size size least index (omega (arith, is)))

  pub layout_empty : chunk_count s.chunk_size size ≡ 0 → layout_len s size ≡ 96
  layout_empty is = omega (arith, ap (λ (k : ℕ). k * (s.nonce_len + tag_len s)) is, ap (λ (k : ℕ). k * s.chunk_size) is, count_covers s.chunk_size size least)

  -- a record lies in the layout
  pub record_inside : (index : ℕ) → index < chunk_count s.chunk_size size → record_start s index + record_len s size index ≤ layout_len s size
  record_inside index lt =
      let last = chunk_count s.chunk_size size - 1 in
      let ends = layout_ends (chunk_count s.chunk_size size - 1) (omega (arith, lt)) in
      elim (cases_lt (index + 1) (chunk_count s.chunk_size size)) [
        | inl more ↦
            let le : (index + 1) * (s.nonce_len + s.chunk_size + tag_len s) ≤ (chunk_count s.chunk_size size - 1) * (s.nonce_len + s.chunk_size + tag_len s) =
            mul-le (index + 1) (s.nonce_len + s.chunk_size + tag_len s) (chunk_count s.chunk_size size - 1) (s.nonce_len + s.chunk_size + tag_len s) (omega (arith, more)) (omega arith) in
            let room : chunk_len s.chunk_size size index ≤ s.chunk_size = omega arith in
            omega (arith, ends, le, room)
        | inr end ↦ let e = layout_ends index (omega (arith, lt, end)) in omega (arith, e)
      ]

-- a larger file has no fewer chunks, and is no shorter
pub count_more : (chunk_size size more : ℕ) → 16 ≤ chunk_size → size ≤ more → chunk_count chunk_size size ≤ chunk_count chunk_size more
count_more chunk_size size more least le = elim (cases_lt (chunk_count chunk_size more) (chunk_count chunk_size size)) [
  | inl fewer ↦ absurd (omega (arith, fewer, count_below chunk_size size least (chunk_count chunk_size more) fewer, count_covers chunk_size more least))
  | inr fine ↦ fine
]

pub layout_more : (s : Shape) (size more : ℕ) → 16 ≤ s.chunk_size → size ≤ more → layout_len s size ≤ layout_len s more
layout_more s size more least le =
    omega (arith, le, mul-le (chunk_count s.chunk_size size) (s.nonce_len + tag_len s) (chunk_count s.chunk_size more) (s.nonce_len + tag_len s) (count_more s.chunk_size size more least le) (omega arith))

module _ (chunk_size before size first end : ℕ) (least : 16 ≤ chunk_size) (s : Spans chunk_size before size first end) where
  pub kept_front : (i : ℕ) → i < first → (i < chunk_count chunk_size before) × (chunk_len chunk_size before i ≡ chunk_size) × (chunk_len chunk_size size i ≡ chunk_size)
  kept_front i lt =
      let m = mul-le (i + 1) chunk_size first chunk_size (omega arith) (omega arith) in
      (count_above chunk_size before least i (omega (arith, s.in_old, m)), omega (arith, s.in_old, m), omega (arith, s.in_new, m))

  pub kept_back : (i : ℕ) → end ≤ i → i < chunk_count chunk_size size → size ≡ before
  kept_back i le lt = elim (cases_eq size before) [
    | inl eq ↦ eq
    | inr ne ↦ absurd (omega (arith, s.whole ne, le, lt))
  ]
