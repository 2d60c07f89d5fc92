-- Sums over the touched chunks, and over those that are needed.
use Rattle.std.proofs.Common.{◌≡◌, inl, inr, ℕ, zero, suc, ◌+◌, ◌-◌, ◌*◌, ◌/◌, ◌<◌, ◌≤◌, min, max, Bool, true, false, cond, not, ◌&&◌, length, refl, sym, ◌∙◌, ap, arith}
use Rattle.std.specs.Prelude.{nat_lt, nat_le, if◌then◌else◌}
use Rattle.std.proofs.lemmas.Bool.{cases_lt, cases_Bool, lt-ltb, le-ltb}
use Rattle.std.proofs.lemmas.Bool.Decides.{nat_tests}
use Rattle.std.proofs.lemmas.Nat.{mul-le}
use Rattle.raf_format.specs.File.{Shape, File, chunk_count, chunk_len, record_len}
use Rattle.raf.specs.Concern.{is_touched, is_needed, sum_where}
use Rattle.raf.specs.Change.{Change}
use Rattle.raf.specs.Plan.{Ranged, Spans, plan_of, kept_len}
use Rattle.raf.specs.Put.{stride, needed_record, needed_records, new_records}
use Rattle.raf.specs.declared.planning.Plan.{Plan}
use Rattle.raf.proofs.Spans.{chunk_full, count_covers}
use Rattle.raf.proofs.Fills.{kept_short}
use Rattle.raf.proofs.Ranges.{planned_spans, touched_ranged, needed_kept, middle_kept}

-- a sum over a range, by what has come together before each index
module _ (test : ℕ → Bool) (f P : ℕ → ℕ) (first end : ℕ) (order : first ≤ end) (ranged : (i : ℕ) → test i ≡ (nat_le first i && nat_lt i end))
    (step : (i : ℕ) → first ≤ i → i < end → P (i + 1) ≡ P i + f i) where
  abbrev pub within_range : ℕ → ℕ
  within_range x = max first (min x end)

  pub sum_ranged : (n index : ℕ) → sum_where test f index n + P (within_range index) ≡ P (within_range (index + n))
  sum_ranged zero index =
      let e : index + 0 ≡ index = omega arith in
      let last = ap (λ (i : ℕ). P (within_range i)) e in
      omega (arith, last)
  sum_ranged (suc n) index =
      let next = sum_ranged n (index + 1) in
      let e : index + 1 + n ≡ index + suc n = omega arith in
      let last = ap (λ (i : ℕ). P (within_range i)) e in
      elim (cases_Bool (test index)) [
        | inl on ↦
            let t : nat_le first index && nat_lt index end ≡ true = sym (ranged index) ∙ on in
            let lo : first ≤ index = grind (arith, nat_tests) in
            let hi : index < end = grind (arith, nat_tests) in
            let a : within_range index ≡ index = omega arith in
            let b : within_range (index + 1) ≡ index + 1 = omega arith in
            let s : sum_where test f index (suc n) ≡ f index + sum_where test f (index + 1) n = ap (λ (t : Bool). cond t (f index) 0 + sum_where test f (index + 1) n) on in
            omega (arith, s, next, last, step index lo hi, ap P a, ap P b)
        | inr off ↦
            let t : nat_le first index && nat_lt index end ≡ false = sym (ranged index) ∙ off in
            let a : within_range index ≡ within_range (index + 1) = same t in
            let s : sum_where test f index (suc n) ≡ 0 + sum_where test f (index + 1) n = ap (λ (t : Bool). cond t (f index) 0 + sum_where test f (index + 1) n) off in
            omega (arith, s, next, last, ap P a)
      ]
    where
      same : nat_le first index && nat_lt index end ≡ false → within_range index ≡ within_range (index + 1)
      same out = elim (cases_lt index first) [
        | inl low ↦ omega arith
        | inr up ↦ elim (cases_lt index end) [
          | inl inside ↦ let t : nat_le first index && nat_lt index end ≡ true = grind (arith, nat_tests) in absurd (let u : true ≡ false = sym t ∙ out in cc)
          | inr over ↦ omega arith
        ]
      ]

  pub sum_total : (n : ℕ) → end ≤ n → sum_where test f 0 n + P first ≡ P end
  sum_total n le =
      let a : within_range 0 ≡ first = omega arith in
      let b : within_range (0 + n) ≡ end = omega (arith, le) in
      omega (arith, sum_ranged n 0, ap P a, ap P b)

pub sum_pointwise : (s t : ℕ → Bool) (f g : ℕ → ℕ) → ((i : ℕ) → cond {A = ℕ} (s i) (f i) 0 ≡ cond {A = ℕ} (t i) (g i) 0) → (index n : ℕ) → sum_where s f index n ≡ sum_where t g index n
sum_pointwise s t f g same index zero = refl
sum_pointwise s t f g same index (suc n) =
    ap (λ (k : ℕ). k + sum_where s f (index + 1) n) (same index) ∙ ap (λ (k : ℕ). cond {A = ℕ} (t index) (g index) 0 + k) (sum_pointwise s t f g same (index + 1) n)

module _ (s : Shape) (before : ℕ) (least : 16 ≤ s.chunk_size) (K : Change) (r : Ranged s.chunk_size before K) (F : File) (is : F.shape.chunk_size ≡ s.chunk_size) where
  abbrev first : ℕ
  first = K.from / s.chunk_size

  abbrev end : ℕ
  end = chunk_count s.chunk_size K.end

  spans : Spans s.chunk_size before K.size first end
  spans = planned_spans s least before K r

  -- the same for each touched chunk
  pub touched_each : (v : ℕ) → sum_where (is_touched F K) (λ _. v) 0 (chunk_count s.chunk_size K.size) ≡ (end - first) * v
  touched_each v =
      let t = sum_total (is_touched F K) (λ _. v) (λ i. i * v) first end spans.order (touched_ranged s least before K r F is) (λ i lo hi. omega arith) (chunk_count s.chunk_size K.size) spans.below in
      let e : end ≡ first + (end - first) = omega (arith, spans.order) in
      omega (arith, t, ap (λ (k : ℕ). k * v) e)

  -- the new records
  touched_some : first < end
      → sum_where (is_touched F K) (λ i. record_len s K.size i) 0 (chunk_count s.chunk_size K.size) ≡ new_records s (plan_of s before K)
  touched_some some =
      let t = sum_total (is_touched F K) (λ i. record_len s K.size i) P first end spans.order (touched_ranged s least before K r F is) step (chunk_count s.chunk_size K.size) spans.below in
      let e : end - 1 ≡ first + (end - 1 - first) = omega (arith, some) in
      let whole : new_records s (plan_of s before K) ≡ (end - 1 - first) * (stride s) + record_len s K.size (end - 1) =
      ap (λ (t : Bool). cond {A = ℕ} t ((end - 1 - first) * (stride s) + record_len s K.size (end - 1)) 0) (lt-ltb first end some) in
      omega (arith, t, inside first some, outside end (omega arith), ap (λ (k : ℕ). k * (stride s)) e, whole)
    where
      P : ℕ → ℕ
      P i = cond {A = ℕ} (nat_lt i end) (i * (stride s))
          ((end - 1) * (stride s) + (record_len s K.size (end - 1)))

      inside : (i : ℕ) → i < end → P i ≡ i * (stride s)
      inside i lt = ap (λ (t : Bool). cond {A = ℕ} t (i * (stride s)) ((end - 1) * (stride s) + (record_len s K.size (end - 1)))) (lt-ltb i end lt)

      outside : (i : ℕ) → end ≤ i → P i ≡ (end - 1) * (stride s) + (record_len s K.size (end - 1))
      outside i le = ap (λ (t : Bool). cond {A = ℕ} t (i * (stride s)) ((end - 1) * (stride s) + (record_len s K.size (end - 1)))) (le-ltb i end le)

      step : (i : ℕ) → first ≤ i → i < end → P (i + 1) ≡ P i + (record_len s K.size i)
      step i lo hi = elim (cases_lt (i + 1) end) [
        | inl more ↦ omega (arith, inside i hi, inside (i + 1) more, chunk_full s.chunk_size K.size least i (omega (arith, more, spans.below)))
        | inr last ↦
            let e : end - 1 ≡ i = omega (arith, last, hi) in
            omega (arith, inside i hi, outside (i + 1) last, ap (λ (k : ℕ). k * (stride s)) e, ap (chunk_len s.chunk_size K.size) e)
      ]

  abbrev plan : Plan
  plan = plan_of s before K

  abbrev needs_at : ℕ → ℕ
  needs_at i = needed_record s (plan_of s before K) (length K.bytes) i

  none_kept : (i : ℕ) → kept_len s.chunk_size (plan_of s before K) (length K.bytes) i ≡ 0 → needs_at i ≡ 0
  none_kept i z = ap (λ (k : ℕ). cond {A = ℕ} (nat_lt 0 k) (record_len s before i) 0) z

  past_old : (i : ℕ) → chunk_count s.chunk_size before ≤ i → needs_at i ≡ 0
  past_old i le =
      none_kept i (omega (arith, kept_short s.chunk_size (plan_of s before K) K.bytes i, count_covers s.chunk_size before least, mul-le (chunk_count s.chunk_size before) s.chunk_size i s.chunk_size le (omega arith)))

  needed_each : F.size ≡ before → (i : ℕ) → cond {A = ℕ} (is_needed F K i) (record_len s before i) 0 ≡ cond {A = ℕ} (is_touched F K i) (needs_at i) 0
  needed_each same i = elim (cases_Bool (is_touched F K i)) [
    | inl on ↦
        ap (λ (t : Bool). cond {A = ℕ} t (record_len s before i) 0) (needed_kept s least before K r F is same i on)
        ∙ sym (ap (λ (t : Bool). cond {A = ℕ} t (needs_at i) 0) on)
    | inr off ↦
        ap (λ (t : Bool). cond {A = ℕ} (t && nat_lt (i * F.shape.chunk_size) (min (i * F.shape.chunk_size + F.shape.chunk_size) (min F.size K.size)) && not (nat_le K.offset (i * F.shape.chunk_size) && nat_le (min (i * F.shape.chunk_size + F.shape.chunk_size) (min F.size K.size)) (K.offset + length K.bytes))) (record_len s before i) 0) off
        ∙ sym (ap (λ (t : Bool). cond {A = ℕ} t (needs_at i) 0) off)
  ]

  -- the old records that are needed
  needed_some : F.size ≡ before → first < end
      → sum_where (is_needed F K) (λ i. record_len s before i) 0 (chunk_count s.chunk_size before) ≡ needed_records s (plan_of s before K) (length K.bytes)
  needed_some same some =
      let t = sum_ranged (is_touched F K) needs_at P first end spans.order (touched_ranged s least before K r F is) step (chunk_count s.chunk_size before) 0 in
      let a : max first (min 0 end) ≡ first = omega arith in
      let whole : needed_records s (plan_of s before K) (length K.bytes) ≡ A + needs_at (end - 1) =
      ap (λ (t : Bool). cond {A = ℕ} t (A + needs_at (end - 1)) 0) (lt-ltb first end some) in
      sum_pointwise (is_needed F K) (is_touched F K) (λ i. record_len s before i) needs_at (needed_each same) 0 (chunk_count s.chunk_size before)
      ∙ omega (arith, t, ap P a, P_first, P_last, whole)
    where
      A : ℕ
      A = cond {A = ℕ} (nat_lt (first + 1) end) (needs_at first) 0

      P : ℕ → ℕ
      P i = cond {A = ℕ} (nat_lt first i) A 0 + cond {A = ℕ} (nat_lt (end - 1) i) (needs_at (end - 1)) 0

      P_is : (i : ℕ) (x y : ℕ) → cond {A = ℕ} (nat_lt first i) A 0 ≡ x → cond {A = ℕ} (nat_lt (end - 1) i) (needs_at (end - 1)) 0 ≡ y → P i ≡ x + y
      P_is i x y a b = ap (λ (k : ℕ). k + cond {A = ℕ} (nat_lt (end - 1) i) (needs_at (end - 1)) 0) a ∙ ap (λ (k : ℕ). x + k) b

      taken : (n i v : ℕ) → n < i → cond {A = ℕ} (nat_lt n i) v 0 ≡ v
      taken n i v lt = ap (λ (t : Bool). cond {A = ℕ} t v 0) (lt-ltb n i lt)

      left : (n i v : ℕ) → i ≤ n → cond {A = ℕ} (nat_lt n i) v 0 ≡ 0
      left n i v le = ap (λ (t : Bool). cond {A = ℕ} t v 0) (le-ltb n i le)

      P_first : P first ≡ 0 + 0
      P_first = P_is first 0 0 (left first first A (omega arith)) (left (end - 1) first (needs_at (end - 1)) (omega (arith, some)))

      A_zero : first + 1 ≡ end → A ≡ 0
      A_zero one = left' (omega (arith, one))
        where
          left' : end ≤ first + 1 → A ≡ 0
          left' le = ap (λ (t : Bool). cond {A = ℕ} t (needs_at first) 0) (le-ltb (first + 1) end le)

      A_is : first + 1 < end → A ≡ needs_at first
      A_is more = ap (λ (t : Bool). cond {A = ℕ} t (needs_at first) 0) (lt-ltb (first + 1) end more)

      step : (i : ℕ) → first ≤ i → i < end → P (i + 1) ≡ P i + needs_at i
      step i lo hi = elim (cases_lt first i) [
        | inr at_first ↦
            let is : first ≡ i = omega (arith, lo, at_first) in
            let before_i = P_is i 0 0 (left first i A at_first) (left (end - 1) i (needs_at (end - 1)) (omega (arith, hi))) in
            elim (cases_lt (i + 1) end) [
              | inl more ↦
                  let after_i = P_is (i + 1) A 0 (taken first (i + 1) A (omega (arith, is))) (left (end - 1) (i + 1) (needs_at (end - 1)) (omega (arith, more))) in
                  omega (arith, before_i, after_i, A_is (omega (arith, is, more)), ap needs_at is)
              | inr last ↦
                  let after_i = P_is (i + 1) A (needs_at (end - 1)) (taken first (i + 1) A (omega (arith, is))) (taken (end - 1) (i + 1) (needs_at (end - 1)) (omega (arith, last, hi))) in
                  let e : end - 1 ≡ i = omega (arith, last, hi) in
                  omega (arith, before_i, after_i, A_zero (omega (arith, is, last, hi)), ap needs_at e)
            ]
        | inl past ↦
            let before_i = P_is i A 0 (taken first i A past) (left (end - 1) i (needs_at (end - 1)) (omega (arith, hi))) in
            elim (cases_lt (i + 1) end) [
              | inl more ↦
                  let after_i = P_is (i + 1) A 0 (taken first (i + 1) A (omega (arith, past))) (left (end - 1) (i + 1) (needs_at (end - 1)) (omega (arith, more))) in
                  omega (arith, before_i, after_i, none_kept i (middle_kept s least before K r i past more))
              | inr last ↦
                  let after_i = P_is (i + 1) A (needs_at (end - 1)) (taken first (i + 1) A (omega (arith, past))) (taken (end - 1) (i + 1) (needs_at (end - 1)) (omega (arith, last, hi))) in
                  let e : end - 1 ≡ i = omega (arith, last, hi) in
                  omega (arith, before_i, after_i, ap needs_at e)
            ]
      ]

      P_last : P (max first (min (0 + chunk_count s.chunk_size before) end)) ≡ A + needs_at (end - 1)
      P_last = elim (cases_lt (chunk_count s.chunk_size before) end) [
        | inr all ↦
            let e : max first (min (0 + chunk_count s.chunk_size before) end) ≡ end = omega (arith, all, some) in
            ap P e ∙ P_is end A (needs_at (end - 1)) (taken first end A some) (taken (end - 1) end (needs_at (end - 1)) (omega (arith, some)))
        | inl fewer ↦
            let last_zero = past_old (end - 1) (omega (arith, fewer)) in
            elim (cases_lt first (chunk_count s.chunk_size before)) [
              | inl had ↦
                  let e : max first (min (0 + chunk_count s.chunk_size before) end) ≡ chunk_count s.chunk_size before = omega (arith, fewer, had) in
                  let q = P_is (chunk_count s.chunk_size before) A 0 (taken first (chunk_count s.chunk_size before) A had) (left (end - 1) (chunk_count s.chunk_size before) (needs_at (end - 1)) (omega (arith, fewer))) in
                  omega (arith, ap P e, q, last_zero)
              | inr none ↦
                  let e : max first (min (0 + chunk_count s.chunk_size before) end) ≡ first = omega (arith, fewer, none) in
                  let z = past_old first none in
                  elim (cases_lt (first + 1) end) [
                    | inl more ↦ omega (arith, ap P e, P_first, last_zero, A_is more, z)
                    | inr one ↦ omega (arith, ap P e, P_first, last_zero, A_zero (omega (arith, one, some)))
                  ]
            ]
      ]

  -- where no chunk is touched, both are none
  pub touched_records : sum_where (is_touched F K) (λ i. record_len s K.size i) 0 (chunk_count s.chunk_size K.size) ≡ new_records s (plan_of s before K)
  touched_records = elim (cases_lt first end) [
    | inl some ↦ touched_some some
    | inr none ↦
        let t = sum_total (is_touched F K) (λ i. record_len s K.size i) (λ _. 0) first end spans.order (touched_ranged s least before K r F is) (λ i lo hi. absurd (omega (arith, lo, hi, none))) (chunk_count s.chunk_size K.size) spans.below in
        omega (arith, t) ∙ sym (ap (λ (t : Bool). cond {A = ℕ} t ((end - 1 - first) * (stride s) + record_len s K.size (end - 1)) 0) (le-ltb first end none))
  ]

  pub needed_total : F.size ≡ before → sum_where (is_needed F K) (λ i. record_len s before i) 0 (chunk_count s.chunk_size before) ≡ needed_records s (plan_of s before K) (length K.bytes)
  needed_total same = elim (cases_lt first end) [
    | inl some ↦ needed_some same some
    | inr none ↦
        let t = sum_ranged (is_touched F K) needs_at (λ _. 0) first end spans.order (touched_ranged s least before K r F is) (λ i lo hi. absurd (omega (arith, lo, hi, none))) (chunk_count s.chunk_size before) 0 in
        sum_pointwise (is_needed F K) (is_touched F K) (λ i. record_len s before i) needs_at (needed_each same) 0 (chunk_count s.chunk_size before)
        ∙ omega (arith, t)
        ∙ sym (ap (λ (t : Bool). cond {A = ℕ} t ((if nat_lt (first + 1) end then needs_at first else 0) + needs_at (end - 1)) 0) (le-ltb first end none))
  ]
