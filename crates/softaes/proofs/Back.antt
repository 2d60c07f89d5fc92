-- Two exchanges, and words by their bytes.
use Rattle.std.proofs.Common.{◌≡◌, ℕ, ◌+◌, ◌-◌, ◌*◌, ◌/◌, ◌%◌, ◌^◌, ◌<◌, ◌≤◌, refl, sym, ap, ◌∙◌, arith, inl, inr}
use Rattle.std.proofs.lemmas.Bool.{cases_lt, lt-ltb, le-ltb}
use Rattle.std.proofs.lemmas.Nat.Bits.{same_from_bits_below}
use Rattle.std.specs.Int.{bit_at}
use Rattle.softaes.specs.Places.{swapped_low, swapped_high}
use Rattle.aes_spec.specs.Words.{word_byte}
use Rattle.aes_spec.proofs.Bytes.{bit_of_byte}

module _ (lo hi a b : ℕ) (ea : (i : ℕ) → i < 64 → bit_at a i ≡ swapped_low lo hi i) (eb : (i : ℕ) → i < 64 → bit_at b i ≡ swapped_high lo hi i) where
  pub low_again : (i : ℕ) → i < 64 → swapped_low a b i ≡ bit_at lo i
  low_again i low = elim (cases_lt (i % 8) 4) [
    | inl half ↦ rw (lt-ltb (i % 8) 4 half) (ea i low ∙ rw (lt-ltb (i % 8) 4 half) refl)
    | inr half ↦
        let other : (i - 4) % 8 < 4 = omega arith in
        let back : i - 4 + 4 ≡ i = omega arith in
        rw (le-ltb (i % 8) 4 half) (eb (i - 4) (omega arith) ∙ rw (lt-ltb ((i - 4) % 8) 4 other, back) refl)
  ]

  pub high_again : (i : ℕ) → i < 64 → swapped_high a b i ≡ bit_at hi i
  high_again i low = elim (cases_lt (i % 8) 4) [
    | inl half ↦
        let other : 4 ≤ (i + 4) % 8 = omega arith in
        let back : i + 4 - 4 ≡ i = omega arith in
        rw (lt-ltb (i % 8) 4 half) (ea (i + 4) (omega arith) ∙ rw (le-ltb ((i + 4) % 8) 4 other, back) refl)
    | inr half ↦ rw (le-ltb (i % 8) 4 half) (eb i low ∙ rw (le-ltb (i % 8) 4 half) refl)
  ]

pub same_from_bytes : (x y : ℕ) → x < 2 ^ 64 → y < 2 ^ 64 → ((k : ℕ) → k < 8 → word_byte x k ≡ word_byte y k) → x ≡ y
same_from_bytes x y hx hy same = same_from_bits_below 64 x y hx hy (λ i low.
    let e : 8 * (i / 8) + i % 8 ≡ i = omega arith in
    ap (bit_at x) (sym e) ∙ sym (bit_of_byte x (i / 8) (i % 8) (omega arith))
    ∙ ap (λ b. bit_at b (i % 8)) (same (i / 8) (omega arith)) ∙ bit_of_byte y (i / 8) (i % 8) (omega arith) ∙ ap (bit_at y) e)
