-- The plan of a change whose numbers fit.
use Rattle.std.proofs.Common.{◌≡◌, inl, inr, ℕ, ◌+◌, ◌-◌, ◌*◌, ◌/◌, ◌^◌, ◌<◌, ◌≤◌, Bool, cond, length, refl, ap, arith}
use Rattle.std.proofs.lemmas.Bool.{cases_lt, lt-ltb, le-ltb}
use Rattle.std.proofs.lemmas.Nat.{div-add-mod'}
use Rattle.raf_format.specs.File.{Shape, chunk_count, layout_len}
use Rattle.raf.specs.Change.{Change}
use Rattle.raf.specs.Plan.{Spans, Ranged, Planned, plan_of}
use Rattle.raf.specs.declared.planning.Plan.{Plan}
use Rattle.raf.proofs.Ranges.{planned_spans, middle_kept}
use Rattle.raf.proofs.Spans.{count_above, count_more}

module _ (s : Shape) (least : 16 ≤ s.chunk_size) (before : ℕ) (K : Change) (r : Ranged s.chunk_size before K) where
  abbrev p : Plan
  p = plan_of s before K

  pub spans : Spans s.chunk_size before K.size (K.from / s.chunk_size) (chunk_count s.chunk_size K.end)
  spans = planned_spans s least before K r

  floor : K.from / s.chunk_size * s.chunk_size ≤ K.from
  floor = omega (arith, div-add-mod' K.from s.chunk_size)

  -- a file that shrinks loses the chunks behind the last that it touches
  pub until_less : K.size < before → p.until ≡ chunk_count s.chunk_size before
  until_less less = ap (λ (t : Bool). cond {A = ℕ} t (chunk_count s.chunk_size before) (chunk_count s.chunk_size K.end)) (lt-ltb K.size before less)

  pub until_more : before ≤ K.size → p.until ≡ p.end
  until_more more = ap (λ (t : Bool). cond {A = ℕ} t (chunk_count s.chunk_size before) (chunk_count s.chunk_size K.end)) (le-ltb K.size before more)

  pub end_until : p.end ≤ p.until
  end_until = elim (cases_lt K.size before) [
    | inl less ↦ omega (arith, until_less less, count_more s.chunk_size K.end before least (omega (arith, r.ends, less)))
    | inr more ↦ omega (arith, until_more more)
  ]

  -- a change touches or removes a chunk
  pub some_moved : p.first < p.until
  some_moved = elim (cases_lt K.from K.end) [
    | inl some ↦ omega (arith, count_above s.chunk_size K.end least (K.from / s.chunk_size) (omega (arith, floor, some)), end_until)
    | inr none ↦
        let same : K.from ≡ K.end = omega (arith, none, r.order) in
        let other = r.some same in
        elim (cases_lt K.size before) [
          | inl less ↦ omega (arith, count_above s.chunk_size before least (K.from / s.chunk_size) (omega (arith, floor, r.begins_new, less)), until_less less)
          | inr more ↦ absurd (other (omega (arith, r.whole other, same, r.begins, more)))
        ]
  ]

  -- how many: those that are touched, and those that are there no more
  pub until_parts : p.until - p.first ≡ (p.end - p.first) + (chunk_count s.chunk_size before - chunk_count s.chunk_size K.size)
  until_parts = elim (cases_lt K.size before) [
    | inl less ↦ omega (arith, until_less less, count_more s.chunk_size K.size before least (omega (arith, less)), ap (chunk_count s.chunk_size) (r.whole (λ e. omega (arith, e, less))), spans.order)
    | inr more ↦ omega (arith, until_more more, count_more s.chunk_size before K.size least more)
  ]

  pub planned : s.chunk_size ≤ 1048576 → layout_len s before < 2 ^ 64 → layout_len s K.size < 2 ^ 64 → K.offset + length K.bytes < 2 ^ 64 → Planned s (plan_of s before K) (length K.bytes)
  planned most old_fits new_fits data_fits = record {
    least = least;
    most = most;
    spans = spans;
    old_fits = old_fits;
    new_fits = new_fits;
    layout = refl;
    count = refl;
    until = refl;
    some = some_moved;
    data_fits = data_fits;
    covered = middle_kept s least before K r;
  }
