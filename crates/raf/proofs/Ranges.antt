-- A plan is that of a change: which chunks are touched and needed, and what becomes of them.
use Rattle.std.proofs.Common.{◌≡◌, ◌≢◌, inl, inr, ℕ, ◌+◌, ◌-◌, ◌*◌, ◌/◌, ◌<◌, ◌≤◌, min, Bool, true, false, cond, not, ◌&&◌, List, [], length, refl, sym, ◌∙◌, ap, subst, arith}
use Rattle.std.specs.Prelude.{nat_lt, nat_le}
use Rattle.std.proofs.lemmas.Bool.{cases_lt, cases_eq, le-leb}
use Rattle.std.proofs.lemmas.Bool.Decides.{nat_tests}
use Rattle.std.proofs.lemmas.Nat.{div_below, le-div, mul-le, div-add-mod', mod_below}
use Rattle.raf_format.specs.File.{Shape, File, chunk_count, chunk_len}
use Rattle.raf.specs.Concern.{meets, is_touched, is_needed}
use Rattle.raf.specs.Change.{Change, write_change, truncate_change}
use Rattle.raf.specs.Plan.{Spans, Ranged, kept_len, plan_of}
use Rattle.raf.proofs.Spans.{count_above, count_below, count_covers, count_more}

module _ (s : Shape) (least : 16 ≤ s.chunk_size) where
  floor : (n : ℕ) → n / s.chunk_size * s.chunk_size ≤ n
  floor n = omega (arith, div-add-mod' n s.chunk_size)

  over : (n : ℕ) → n < n / s.chunk_size * s.chunk_size + s.chunk_size
  over n = omega (arith, div-add-mod' n s.chunk_size, mod_below n s.chunk_size (omega arith))

  floor_floor : (n : ℕ) → n / s.chunk_size * s.chunk_size / s.chunk_size * s.chunk_size ≡ n / s.chunk_size * s.chunk_size
  floor_floor n = ap (λ (k : ℕ). k * s.chunk_size) (exact (n / s.chunk_size))
    where
      exact : (k : ℕ) → k * s.chunk_size / s.chunk_size ≡ k
      exact k = omega (arith, le-div k (k * s.chunk_size) s.chunk_size (omega arith) (omega arith), div_below (k * s.chunk_size) s.chunk_size (k + 1) (omega arith) (omega arith))

  -- an index past that of a position stands behind it
  behind : (n i : ℕ) → n / s.chunk_size < i → n < i * s.chunk_size
  behind n i past = omega (arith, over n, mul-le (n / s.chunk_size + 1) s.chunk_size i s.chunk_size (omega (arith, past)) (omega arith))

  pub write_ranged : (before offset : ℕ) (bytes : List ℕ) → 0 < length bytes → Ranged s.chunk_size before (write_change before offset bytes)
  write_ranged before offset bytes some = record {
    ends = omega arith;
    begins = omega arith;
    begins_new = omega arith;
    whole = λ other. omega (arith, other);
    order = omega arith;
    empty = λ same. absurd (omega (arith, same, some));
    some = λ same. absurd (omega (arith, same, some));
    covered = λ i past ends had has. (omega (arith, behind (min offset before) i past, had), ends);
  }

  exact : (k : ℕ) → k * s.chunk_size / s.chunk_size ≡ k
  exact k = omega (arith, le-div k (k * s.chunk_size) s.chunk_size (omega arith) (omega arith), div_below (k * s.chunk_size) s.chunk_size (k + 1) (omega arith) (omega arith))

  pub truncate_ranged : (before size : ℕ) → size ≢ before → Ranged s.chunk_size before (truncate_change s.chunk_size before size)
  truncate_ranged before size other = elim (cases_lt size before) [
    | inl less ↦
        let t : nat_lt size before ≡ true = grind (arith, nat_tests) in
        subst (λ (n : ℕ). Ranged s.chunk_size before (record { size = size; from = n; end = size; offset = 0; bytes = [] })) (sym (ap (λ (t : Bool). cond {A = ℕ} t (size / s.chunk_size * s.chunk_size) before) t)) (record {
          ends = omega arith;
          begins = omega (arith, floor size, less);
          begins_new = floor size;
          whole = λ _. refl;
          order = floor size;
          empty = λ _. sym (floor_floor size);
          some = λ _. other;
          covered = λ i past ends had has. absurd (omega (arith, has, over size, mul-le (size / s.chunk_size + 1) s.chunk_size i s.chunk_size (omega (arith, past, exact (size / s.chunk_size))) (omega arith)));
        })
    | inr more ↦
        let t : nat_lt size before ≡ false = grind (arith, nat_tests) in
        subst (λ (n : ℕ). Ranged s.chunk_size before (record { size = size; from = n; end = size; offset = 0; bytes = [] })) (sym (ap (λ (t : Bool). cond {A = ℕ} t (size / s.chunk_size * s.chunk_size) before) t)) (record {
          ends = omega arith;
          begins = omega arith;
          begins_new = more;
          whole = λ _. refl;
          order = more;
          empty = λ same. absurd (other (sym same));
          some = λ _. other;
          covered = λ i past ends had has. absurd (omega (arith, behind before i past, had));
        })
  ]

  module _ (before : ℕ) (K : Change) (r : Ranged s.chunk_size before K) where
    pub planned_spans : Spans s.chunk_size before K.size (K.from / s.chunk_size) (chunk_count s.chunk_size K.end)
    planned_spans = record {
      order = order;
      below = count_more s.chunk_size K.end K.size least r.ends;
      in_old = omega (arith, floor K.from, r.begins);
      in_new = omega (arith, floor K.from, r.begins_new);
      whole = λ other. ap (chunk_count s.chunk_size) (r.whole other);
    }
      where
        order : K.from / s.chunk_size ≤ chunk_count s.chunk_size K.end
        order = elim (cases_eq K.from K.end) [
          | inl same ↦ elim (cases_lt (chunk_count s.chunk_size K.end) (K.from / s.chunk_size)) [
            | inl fewer ↦ absurd (omega (arith, count_covers s.chunk_size K.end least, r.empty same, same, mul-le (chunk_count s.chunk_size K.end + 1) s.chunk_size (K.from / s.chunk_size) s.chunk_size (omega (arith, fewer)) (omega arith)))
            | inr fine ↦ fine
          ]
          | inr other ↦
              let lt : K.from / s.chunk_size * s.chunk_size < K.end = omega (arith, floor K.from, r.order, other) in
              omega (arith, count_above s.chunk_size K.end least (K.from / s.chunk_size) lt)
        ]

    -- where the old bytes of a chunk that can stay end
    abbrev stop : ℕ → ℕ
    stop i = min (i * s.chunk_size + s.chunk_size) (min before K.size)

    -- between the first touched chunk and the last one nothing is kept
    pub middle_kept : (i : ℕ) → K.from / s.chunk_size < i → i + 1 < chunk_count s.chunk_size K.end → kept_len s.chunk_size (plan_of s before K) (length K.bytes) i ≡ 0
    middle_kept i past inside =
        let below = count_below s.chunk_size K.end least (i + 1) inside in
        elim (cases_lt (i * s.chunk_size) (min before K.size)) [
          | inl some ↦
              let c = r.covered i past (omega (arith, below)) (omega (arith, some)) (omega (arith, some)) in
              let a : nat_le K.offset (i * s.chunk_size) ≡ true = lt_le c.0 in
              let b : nat_le (stop i) (K.offset + length K.bytes) ≡ true = lt_le (omega (arith, c.1)) in
              ap (λ (t : Bool). cond {A = ℕ} (nat_lt (i * s.chunk_size) (stop i) && not (t && nat_le (stop i) (K.offset + length K.bytes))) (stop i - i * s.chunk_size) 0) a
              ∙ ap (λ (t : Bool). cond {A = ℕ} (nat_lt (i * s.chunk_size) (stop i) && not (true && t)) (stop i - i * s.chunk_size) 0) b
              ∙ off (nat_lt (i * s.chunk_size) (stop i)) (stop i - i * s.chunk_size)
          | inr none ↦
              let a : nat_lt (i * s.chunk_size) (stop i) ≡ false = grind (arith, nat_tests) in
              ap (λ (t : Bool). cond {A = ℕ} (t && not (nat_le K.offset (i * s.chunk_size) && nat_le (stop i) (K.offset + length K.bytes))) (stop i - i * s.chunk_size) 0) a
        ]
      where
        lt_le : {a b : ℕ} → a ≤ b → nat_le a b ≡ true
        lt_le {a} {b} le = le-leb a b le

        off : (t : Bool) (n : ℕ) → cond {A = ℕ} (t && false) n 0 ≡ 0
        off true n = refl
        off false n = refl

    -- a chunk is touched exactly where it lies in the plan's range
    pub touched_ranged : (F : File) → F.shape.chunk_size ≡ s.chunk_size → (i : ℕ) → is_touched F K i ≡ (nat_le (K.from / s.chunk_size) i && nat_lt i (chunk_count s.chunk_size K.end))
    touched_ranged F is i =
        ap (λ (n : ℕ). meets (i * n) (chunk_len n K.size i) K.from K.end) is ∙ elim (cases_lt i (K.from / s.chunk_size)) [
          | inl low ↦
              let m = mul-le (i + 1) s.chunk_size (K.from / s.chunk_size) s.chunk_size (omega (arith, low)) (omega arith) in
              let f = floor K.from in
              let a : meets (i * s.chunk_size) (chunk_len s.chunk_size K.size i) K.from K.end ≡ false = misses (omega (arith, m, f)) in
              let b : nat_le (K.from / s.chunk_size) i && nat_lt i (chunk_count s.chunk_size K.end) ≡ false = grind (arith, nat_tests) in
              a ∙ sym b
          | inr up ↦ elim (cases_lt i (chunk_count s.chunk_size K.end)) [
            | inr high ↦
                let c = count_covers s.chunk_size K.end least in
                let m = mul-le (chunk_count s.chunk_size K.end) s.chunk_size i s.chunk_size high (omega arith) in
                let a : meets (i * s.chunk_size) (chunk_len s.chunk_size K.size i) K.from K.end ≡ false = ends (omega (arith, c, m)) in
                let b : nat_le (K.from / s.chunk_size) i && nat_lt i (chunk_count s.chunk_size K.end) ≡ false = grind (arith, nat_tests) in
                a ∙ sym b
            | inl inside ↦
                let below = count_below s.chunk_size K.end least i inside in
                let m = mul-le (K.from / s.chunk_size) s.chunk_size i s.chunk_size up (omega arith) in
                let some : K.from < K.end = some i up below m in
                let reach : K.from < i * s.chunk_size + chunk_len s.chunk_size K.size i = omega (arith, over K.from, m, r.ends, some, below) in
                let a : meets (i * s.chunk_size) (chunk_len s.chunk_size K.size i) K.from K.end ≡ true = both some below reach in
                let b : nat_le (K.from / s.chunk_size) i && nat_lt i (chunk_count s.chunk_size K.end) ≡ true = grind (arith, nat_tests) in
                a ∙ sym b
          ]
        ]
      where
        misses : i * s.chunk_size + s.chunk_size ≤ K.from → meets (i * s.chunk_size) (chunk_len s.chunk_size K.size i) K.from K.end ≡ false
        misses le =
            let t : nat_lt K.from (i * s.chunk_size + chunk_len s.chunk_size K.size i) ≡ false = grind (arith, nat_tests) in
            ap (λ (t : Bool). nat_lt K.from K.end && nat_lt (i * s.chunk_size) K.end && t) t ∙ last (nat_lt K.from K.end) (nat_lt (i * s.chunk_size) K.end)
          where
            last : (s t : Bool) → (s && t && false) ≡ false
            last true true = refl
            last true false = refl
            last false true = refl
            last false false = refl

        ends : K.end ≤ i * s.chunk_size → meets (i * s.chunk_size) (chunk_len s.chunk_size K.size i) K.from K.end ≡ false
        ends le =
            let t : nat_lt (i * s.chunk_size) K.end ≡ false = grind (arith, nat_tests) in
            ap (λ (t : Bool). nat_lt K.from K.end && t && nat_lt K.from (i * s.chunk_size + chunk_len s.chunk_size K.size i)) t ∙ mid (nat_lt K.from K.end) (nat_lt K.from (i * s.chunk_size + chunk_len s.chunk_size K.size i))
          where
            mid : (s t : Bool) → (s && false && t) ≡ false
            mid true t = refl
            mid false t = refl

        some : (i : ℕ) → K.from / s.chunk_size ≤ i → i * s.chunk_size < K.end → K.from / s.chunk_size * s.chunk_size ≤ i * s.chunk_size → K.from < K.end
        some i up below m = elim (cases_eq K.from K.end) [
          | inl same ↦ absurd (omega (arith, r.empty same, same, below, m))
          | inr other ↦ omega (arith, other, r.order)
        ]

        both : K.from < K.end → i * s.chunk_size < K.end → K.from < i * s.chunk_size + chunk_len s.chunk_size K.size i → meets (i * s.chunk_size) (chunk_len s.chunk_size K.size i) K.from K.end ≡ true
        both a b c =
            let ta : nat_lt K.from K.end ≡ true = grind (arith, nat_tests) in
            let tb : nat_lt (i * s.chunk_size) K.end ≡ true = grind (arith, nat_tests) in
            let tc : nat_lt K.from (i * s.chunk_size + chunk_len s.chunk_size K.size i) ≡ true = grind (arith, nat_tests) in
            ap (λ (t : Bool). t && nat_lt (i * s.chunk_size) K.end && nat_lt K.from (i * s.chunk_size + chunk_len s.chunk_size K.size i)) ta
            ∙ ap (λ (t : Bool). true && t && nat_lt K.from (i * s.chunk_size + chunk_len s.chunk_size K.size i)) tb
            ∙ ap (λ (t : Bool). true && true && t) tc

    -- a touched chunk is needed exactly where some of it is kept
    pub needed_kept : (F : File) → F.shape.chunk_size ≡ s.chunk_size → F.size ≡ before → (i : ℕ) → is_touched F K i ≡ true
        → is_needed F K i ≡ nat_lt 0 (kept_len s.chunk_size (plan_of s before K) (length K.bytes) i)
    needed_kept F is same i on =
        ap (λ (t : Bool). t && nat_lt (i * F.shape.chunk_size) (min (i * F.shape.chunk_size + F.shape.chunk_size) (min F.size K.size)) && not (nat_le K.offset (i * F.shape.chunk_size) && nat_le (min (i * F.shape.chunk_size + F.shape.chunk_size) (min F.size K.size)) (K.offset + length K.bytes))) on
        ∙ ap (λ (n : ℕ). true && nat_lt (i * n) (min (i * n + n) (min F.size K.size)) && not (nat_le K.offset (i * n) && nat_le (min (i * n + n) (min F.size K.size)) (K.offset + length K.bytes))) is
        ∙ ap (λ (n : ℕ). true && nat_lt (i * s.chunk_size) (min (i * s.chunk_size + s.chunk_size) (min n K.size)) && not (nat_le K.offset (i * s.chunk_size) && nat_le (min (i * s.chunk_size + s.chunk_size) (min n K.size)) (K.offset + length K.bytes))) same
        ∙ elim (cases_lt (i * s.chunk_size) (stop i)) [
          | inl some ↦
              let ta : nat_lt (i * s.chunk_size) (stop i) ≡ true = grind (arith, nat_tests) in
              go some ta (not (nat_le K.offset (i * s.chunk_size) && nat_le (stop i) (K.offset + length K.bytes)))
          | inr none ↦
              let ta : nat_lt (i * s.chunk_size) (stop i) ≡ false = grind (arith, nat_tests) in
              ap (λ (t : Bool). true && t && not (nat_le K.offset (i * s.chunk_size) && nat_le (stop i) (K.offset + length K.bytes))) ta
              ∙ sym (ap (λ (t : Bool). nat_lt 0 (cond {A = ℕ} (t && not (nat_le K.offset (i * s.chunk_size) && nat_le (stop i) (K.offset + length K.bytes))) (stop i - i * s.chunk_size) 0)) ta)
        ]
      where
        go : i * s.chunk_size < stop i → nat_lt (i * s.chunk_size) (stop i) ≡ true → (t : Bool)
            → (true && nat_lt (i * s.chunk_size) (stop i) && t) ≡ nat_lt 0 (cond {A = ℕ} (nat_lt (i * s.chunk_size) (stop i) && t) (stop i - i * s.chunk_size) 0)
        go some ta true =
            let n : nat_lt 0 (stop i - i * s.chunk_size) ≡ true = grind (arith, nat_tests) in
            ap (λ (t : Bool). true && t && true) ta ∙ sym n
            ∙ sym (ap (λ (t : Bool). nat_lt 0 (cond {A = ℕ} (t && true) (stop i - i * s.chunk_size) 0)) ta)
        go some ta false =
            ap (λ (t : Bool). true && t && false) ta
            ∙ sym (ap (λ (t : Bool). nat_lt 0 (cond {A = ℕ} (t && false) (stop i - i * s.chunk_size) 0)) ta)
