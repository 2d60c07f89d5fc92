-- The records that a change leaves.
use Rattle.std.proofs.Common.{◌≡◌, inl, inr, ℕ, ◌+◌, ◌-◌, ◌*◌, ◌<◌, ◌≤◌, List, length, take, drop, Option, Some, refl, sym, ◌∙◌, ap, arith}
use Rattle.std.specs.Prelude.{◌⊎◌}
use Rattle.std.proofs.lemmas.Nat.{mul-le}
use Rattle.raf_io.specs.Storage.{Torn}
use Rattle.raf_format.specs.File.{Shape, tag_len, chunk_count, chunk_len, layout_len, record_at, record_len, record_start}
use Rattle.raf.specs.Plan.{Spans, Planned}
use Rattle.raf.specs.Put.{SparedTo, stride}
use Rattle.raf.specs.Carry.{TornTo, TrimmedTo}
use Rattle.raf.specs.declared.planning.Plan.{Plan}
use Rattle.raf.proofs.Placed.{torn_before, torn_behind}
use Rattle.raf.proofs.Spans.{kept_front, kept_back, record_inside}

module _ (s : Shape) (before size first end : ℕ) (least : 16 ≤ s.chunk_size) (spans : Spans s.chunk_size before size first end) where
  range_end : record_start s first + (end - first) * stride s ≡ record_start s end
  range_end =
      let e : end ≡ first + (end - first) = omega (arith, spans.order) in
      omega (arith, ap (λ (k : ℕ). k * stride s) e)

  pub spared_record : (b x : List ℕ) (i : ℕ) → length b ≡ layout_len s before → Torn (record_start s first) ((end - first) * stride s) b x
      → i < chunk_count s.chunk_size size → (i < first) ⊎ (end ≤ i) → record_at s size i x ≡ record_at s size i b
  spared_record b x i len t lt off = elim off [
    | inl low ↦
        let k = kept_front s.chunk_size before size first end least spans i low in
        let m = mul-le (i + 1) (stride s) first (stride s) (omega (arith, low)) (omega arith) in
        let inside = record_inside s before least i k.0 in
        torn_before (record_start s first) ((end - first) * stride s) (record_start s i) (record_len s size i) b x t (omega (arith, m, k.2)) (omega (arith, inside, k.1, k.2, len))
    | inr high ↦
        let m = mul-le end (stride s) i (stride s) high (omega arith) in
        ap (λ (l : List ℕ). take (record_len s size i) l) (torn_behind (record_start s first) ((end - first) * stride s) (record_start s i) b x t (omega (arith, range_end, m)))
  ]

module _ (s : Shape) (p : Plan) (len : ℕ) (planned : Planned s p len) where
  pub same_len : (i : ℕ) → i < chunk_count s.chunk_size p.size → (i < p.first) ⊎ (p.end ≤ i) → chunk_len s.chunk_size p.before i ≡ chunk_len s.chunk_size p.size i
  same_len i lt off = elim off [
    | inl low ↦ let k = kept_front s.chunk_size p.before p.size p.first p.end planned.least planned.spans i low in omega (arith, k.1, k.2)
    | inr high ↦ let q = kept_back s.chunk_size p.before p.size p.first p.end planned.least planned.spans i high lt in ap (λ (n : ℕ). chunk_len s.chunk_size n i) (sym q)
  ]

  record_same : (b x : List ℕ) (i : ℕ) → length b ≡ layout_len s p.before → Torn (record_start s p.first) ((p.end - p.first) * stride s) b x → i < chunk_count s.chunk_size p.size → (i < p.first) ⊎ (p.end ≤ i)
      → record_at s p.before i x ≡ record_at s p.before i b
  record_same b x i l t lt off =
      let e = same_len i lt off in
      ap (λ (n : ℕ). take (s.nonce_len + n + tag_len s) (drop (record_start s i) x)) e
      ∙ spared_record s p.before p.size p.first p.end planned.least planned.spans b x i l t lt off
      ∙ sym (ap (λ (n : ℕ). take (s.nonce_len + n + tag_len s) (drop (record_start s i) b)) e)

  pub spared_same : (b : List ℕ) (new : Option (List ℕ)) → new ≡ Some b → SparedTo s p b new
  spared_same b new is = (b, is, (λ same. refl), λ i had lt off. refl)

  pub spared_torn : (b : List ℕ) (new : Option (List ℕ)) → length b ≡ layout_len s p.before → TornTo (record_start s p.first) ((p.end - p.first) * stride s) b new → SparedTo s p b new
  spared_torn b new l t = (
    t.0,
    t.1,
    (λ same. torn_before (record_start s p.first) ((p.end - p.first) * stride s) 0 96 b t.0 t.2 (omega arith) (omega (arith, l))),
    λ i had lt off. record_same b t.0 i l t.2 lt off,
  )

  pub spared_trimmed : (old mid new : Option (List ℕ)) (b : List ℕ) → old ≡ Some b → length b ≡ layout_len s p.before
      → ((b : List ℕ) → old ≡ Some b → TornTo (record_start s p.first) ((p.end - p.first) * stride s) b mid)
      → ((b : List ℕ) → mid ≡ Some b → TrimmedTo p.before p.size p.layout b new) → SparedTo s p b new
  spared_trimmed old mid new b told l torn trimmed =
      let t = torn b told in
      let u = trimmed t.0 t.1 in (
        u.0,
        u.1,
        (λ same. ap (λ (x : List ℕ). take 96 x) (u.2 same) ∙ torn_before (record_start s p.first) ((p.end - p.first) * stride s) 0 96 b t.0 t.2 (omega arith) (omega (arith, l))),
        λ i had lt off.
            let e = same_len i lt off in
            let inside_old = record_inside s p.before planned.least i had in
            let inside_new = record_inside s p.size planned.least i lt in
            let longer = t.2.no_shorter in
            u.3 (record_start s i) (record_len s p.before i) (omega arith) (omega (arith, inside_old, l, longer)) (λ _. omega (arith, inside_new, e, planned.layout))
            ∙ record_same b t.0 i l t.2 lt off,
      )
