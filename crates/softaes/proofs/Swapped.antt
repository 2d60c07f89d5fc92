-- The two words of `swap_index_bits_6_2`.
use Rattle.std.proofs.Common.{◌≡◌, ℕ, zero, suc, ◌+◌, ◌-◌, ◌/◌, ◌%◌, ◌^◌, ◌<◌, true, cond, nat_lt, refl, sym, ◌∙◌, arith, inl, inr}
use Rattle.std.proofs.lemmas.Bool.{cases_lt, lt-ltb, le-ltb}
use Rattle.std.proofs.lemmas.Nat.Bits.{same_from_bits_below}
use Rattle.std.specs.Int.{bit_at}
use Rattle.aes_spec.proofs.Tables.{all_below}
use Rattle.softaes.specs.Places.{swapped_low, swapped_high}
use Rattle.aes_spec.proofs.Circuits.{Word, input, shl, shr, mask, sum, value, places}
use Rattle.aes_spec.proofs.BitPlaces.{is_place, moved, value-lt}

-- the inputs 0 and 1
abbrev pub two : ℕ → ℕ → ℕ → ℕ
two a b zero = a
two a b (suc k) = b

pub two-lt : (a b : ℕ) → a < 2 ^ 64 → b < 2 ^ 64 → (k : ℕ) → two a b k < 2 ^ 64
two-lt a b ha hb zero = ha
two-lt a b ha hb (suc k) = hb

-- where the upper halves of a differ from the lower halves of b
abbrev differing : Word → Word → Word
differing a b = mask (sum a (shl b 4)) 0xf0f0_f0f0_f0f0_f0f0

-- the two words that `swap_index_bits_6_2` makes of a and b
abbrev pub low_of : Word → Word → Word
low_of a b = sum a (differing a b)

abbrev pub high_of : Word → Word → Word
high_of a b = sum b (shr (differing a b) 4)

abbrev pub low_word : Word
low_word = low_of (input 0) (input 1)

abbrev pub high_word : Word
high_word = high_of (input 0) (input 1)

abbrev low_place : ℕ → ℕ
low_place i = cond (nat_lt (i % 8) 4) i (i + 60)

abbrev high_place : ℕ → ℕ
high_place i = cond (nat_lt (i % 8) 4) (i + 4) (i + 64)

low_right : all_below (λ i. is_place (places low_word i) (low_place i)) 64 ≡ true
low_right = refl

high_right : all_below (λ i. is_place (places high_word i) (high_place i)) 64 ≡ true
high_right = refl

module _ (lo hi : ℕ) (hl : lo < 2 ^ 64) (hh : hi < 2 ^ 64) where
  at_low : (i : ℕ) → i < 64 → bit_at (two lo hi (low_place i / 64)) (low_place i % 64) ≡ swapped_low lo hi i
  at_low i low = elim (cases_lt (i % 8) 4) [
    | inl half ↦
        let row : i / 64 ≡ 0 = omega arith in
        let col : i % 64 ≡ i = omega arith in
        rw (lt-ltb (i % 8) 4 half, row, col) refl
    | inr half ↦
        let row : (i + 60) / 64 ≡ 1 = omega arith in
        let col : (i + 60) % 64 ≡ i - 4 = omega arith in
        rw (le-ltb (i % 8) 4 half, row, col) refl
  ]

  pub bit-swapped_low : (i : ℕ) → i < 64 → bit_at (value (two lo hi) low_word) i ≡ swapped_low lo hi i
  bit-swapped_low i low = moved (two lo hi) (two-lt lo hi hl hh) low_word low_place low_right i low ∙ at_low i low

  at_high : (i : ℕ) → i < 64 → bit_at (two lo hi (high_place i / 64)) (high_place i % 64) ≡ swapped_high lo hi i
  at_high i low = elim (cases_lt (i % 8) 4) [
    | inl half ↦
        let row : (i + 4) / 64 ≡ 0 = omega arith in
        let col : (i + 4) % 64 ≡ i + 4 = omega arith in
        rw (lt-ltb (i % 8) 4 half, row, col) refl
    | inr half ↦
        let row : (i + 64) / 64 ≡ 1 = omega arith in
        let col : (i + 64) % 64 ≡ i = omega arith in
        rw (le-ltb (i % 8) 4 half, row, col) refl
  ]

  pub bit-swapped_high : (i : ℕ) → i < 64 → bit_at (value (two lo hi) high_word) i ≡ swapped_high lo hi i
  bit-swapped_high i low = moved (two lo hi) (two-lt lo hi hl hh) high_word high_place high_right i low ∙ at_high i low

  -- a word with these bits is that word
  pub low_is : (x : ℕ) → x < 2 ^ 64 → ((i : ℕ) → i < 64 → bit_at x i ≡ swapped_low lo hi i) → x ≡ value (two lo hi) low_word
  low_is x fits same = same_from_bits_below 64 x (value (two lo hi) low_word) fits (value-lt (two lo hi) (two-lt lo hi hl hh) low_word)
      (λ i low. same i low ∙ sym (bit-swapped_low i low))

  pub high_is : (x : ℕ) → x < 2 ^ 64 → ((i : ℕ) → i < 64 → bit_at x i ≡ swapped_high lo hi i) → x ≡ value (two lo hi) high_word
  high_is x fits same = same_from_bits_below 64 x (value (two lo hi) high_word) fits (value-lt (two lo hi) (two-lt lo hi hl hh) high_word)
      (λ i low. same i low ∙ sym (bit-swapped_high i low))
