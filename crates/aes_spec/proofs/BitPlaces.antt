-- Bit i of a word is the sum of the bits at its places.
use Rattle.std.proofs.Common.{◌≡◌, ℕ, ◌+◌, ◌-◌, ◌*◌, ◌/◌, ◌%◌, ◌^◌, ◌<◌, ◌≤◌, Bool, true, false, ◌==◌, List, [], ◌∷◌, bit_and, bit_xor, refl, sym, ap, ◌∙◌, arith, inl, inr, add_comm, add-zero}
use Rattle.std.proofs.lemmas.Bool.{cases_lt, cases_eq, eq-eqb, eqb-true, ne_eqb, lt-ltb, le-ltb}
use Rattle.std.proofs.lemmas.Nat.{xor_shr, xor_mod, xor_lt, and_le_l, shr_le, shr-shr, pow_pos, shr_split, xor_comm}
use Rattle.std.proofs.lemmas.Nat.Bits.{bit_at_and, bit_at-lt, bit_at-zero, bit_at_above, bit_at_cat_low, bit_at_cat_high}
use Rattle.std.proofs.Math.Nat.{mod-lt}
use Rattle.std.specs.Int.{bit_at}
use lib.Bits.{xor_self, xor_assoc, xor_zero_r}
use Rattle.aes_spec.proofs.Tables.{all_below, all_below_at}
use Rattle.aes_spec.proofs.Circuits.{Word, input, shl, shr, mask, sum, value, toggled, merged, places, total}

pub bit-xor : (a b i : ℕ) → bit_at (bit_xor a b) i ≡ bit_xor (bit_at a i) (bit_at b i)
bit-xor a b i = ap (λ x. x % 2) (xor_shr a b i) ∙ xor_mod (a / 2 ^ i) (b / 2 ^ i) 1

swap_front : (a b c : ℕ) → bit_xor a (bit_xor b c) ≡ bit_xor b (bit_xor a c)
swap_front a b c = sym (xor_assoc a b c) ∙ ap (λ x. bit_xor x c) (xor_comm a b) ∙ xor_assoc b a c

cancelled : (a c : ℕ) → c ≡ bit_xor a (bit_xor a c)
cancelled a c = ap (λ x. bit_xor x c) (sym (xor_self a)) ∙ xor_assoc a a c

total-toggled : (e : ℕ → ℕ) (s : ℕ) (ts : List ℕ) → total e (toggled s ts) ≡ bit_xor (bit_at (e (s / 64)) (s % 64)) (total e ts)
total-toggled e s [] = refl
total-toggled e s (t ∷ ts) = elim (cases_eq s t) [
  | inl same ↦ rw (eq-eqb s t same, same) (cancelled (bit_at (e (t / 64)) (t % 64)) (total e ts))
  | inr other ↦
      rw (ne_eqb s t other, total-toggled e s ts)
      (swap_front (bit_at (e (t / 64)) (t % 64)) (bit_at (e (s / 64)) (s % 64)) (total e ts))
]

total-merged : (e : ℕ → ℕ) (ss ts : List ℕ) → total e (merged ss ts) ≡ bit_xor (total e ss) (total e ts)
total-merged e [] ts = refl
total-merged e (s ∷ ss) ts =
    total-toggled e s (merged ss ts) ∙ ap (bit_xor (bit_at (e (s / 64)) (s % 64))) (total-merged e ss ts)
    ∙ sym (xor_assoc (bit_at (e (s / 64)) (s % 64)) (total e ss) (total e ts))

pub value-lt : (e : ℕ → ℕ) → ((k : ℕ) → e k < 2 ^ 64) → (w : Word) → value e w < 2 ^ 64
value-lt e h (input k) = h k
value-lt e h (shl w k) = mod-lt (value e w * 2 ^ k) (pow_pos 64)
value-lt e h (shr w k) = omega (arith, value-lt e h w, shr_le (value e w) k)
value-lt e h (mask w m) = omega (arith, value-lt e h w, and_le_l (value e w) m)
value-lt e h (sum v w) = xor_lt 64 (value e v) (value e w) (value-lt e h v) (value-lt e h w)

bit-shr : (n k i : ℕ) → bit_at (n / 2 ^ k) i ≡ bit_at n (i + k)
bit-shr n k i = ap (λ x. x % 2) (shr-shr n k i) ∙ ap (bit_at n) (add_comm k i)

-- the low 64 bits are kept
bit-low : (n i : ℕ) → i < 64 → bit_at (n % 2 ^ 64) i ≡ bit_at n i
bit-low n i low = sym (bit_at_cat_low (n / 2 ^ 64) 64 (n % 2 ^ 64) i low) ∙ ap (λ x. bit_at x i) (shr_split n 64)

bit-shl_low : (n k i : ℕ) → i < 64 → i < k → bit_at (n * 2 ^ k % 2 ^ 64) i ≡ 0
bit-shl_low n k i low below =
    bit-low (n * 2 ^ k) i low ∙ ap (λ x. bit_at x i) (sym (add-zero (n * 2 ^ k))) ∙ bit_at_cat_low n k 0 i below ∙ bit_at-zero i

bit-shl_high : (n k i : ℕ) → i < 64 → k ≤ i → bit_at (n * 2 ^ k % 2 ^ 64) i ≡ bit_at n (i - k)
bit-shl_high n k i low above =
    bit-low (n * 2 ^ k) i low ∙ ap (λ x. bit_at x i) (sym (add-zero (n * 2 ^ k))) ∙ bit_at_cat_high n k 0 i (pow_pos k) above

bit-mask_set : (n m i : ℕ) → bit_at m i ≡ 1 → bit_at (bit_and n m) i ≡ bit_at n i
bit-mask_set n m i set = omega (arith, bit_at_and n m i, bit_at-lt n i)

bit-mask_clear : (n m i : ℕ) → (bit_at m i ≡ 1 → ⊥) → bit_at (bit_and n m) i ≡ 0
bit-mask_clear n m i clear = omega (arith, bit_at_and n m i, bit_at-lt m i)

place-row : (k i : ℕ) → i < 64 → (k * 64 + i) / 64 ≡ k
place-row k i low = omega arith

place-col : (k i : ℕ) → i < 64 → (k * 64 + i) % 64 ≡ i
place-col k i low = omega arith

-- the one place of a sum is t
abbrev pub is_place : List ℕ → ℕ → Bool
is_place [] t = false
is_place (s ∷ []) t = s == t
is_place (s ∷ r ∷ ss) t = false

pub one_place : (e : ℕ → ℕ) (ss : List ℕ) (t : ℕ) → is_place ss t ≡ true → total e ss ≡ bit_at (e (t / 64)) (t % 64)
one_place e [] t h = cc
one_place e (s ∷ []) t h = xor_zero_r (bit_at (e (s / 64)) (s % 64)) ∙ ap (λ p. bit_at (e (p / 64)) (p % 64)) (eqb-true s t h)
one_place e (s ∷ r ∷ ss) t h = cc

abbrev pub is_none : List ℕ → Bool
is_none [] = true
is_none (s ∷ ss) = false

pub no_place : (e : ℕ → ℕ) (ss : List ℕ) → is_none ss ≡ true → total e ss ≡ 0
no_place e [] h = refl
no_place e (s ∷ ss) h = cc

module _ (e : ℕ → ℕ) (h : (k : ℕ) → e k < 2 ^ 64) where
  pub bit_of : (w : Word) (i : ℕ) → i < 64 → bit_at (value e w) i ≡ total e (places w i)
  bit_of (input k) i low = rw (place-row k i low, place-col k i low) (sym (xor_zero_r (bit_at (e k) i)))
  bit_of (shl w k) i low = elim (cases_lt i k) [
    | inl below ↦ rw (lt-ltb i k below) (bit-shl_low (value e w) k i low below)
    | inr above ↦ rw (le-ltb i k above) (bit-shl_high (value e w) k i low above ∙ bit_of w (i - k) (omega arith))
  ]
  bit_of (shr w k) i low = elim (cases_lt (i + k) 64) [
    | inl inside ↦ rw (lt-ltb (i + k) 64 inside) (bit-shr (value e w) k i ∙ bit_of w (i + k) inside)
    | inr past ↦ rw (le-ltb (i + k) 64 past) (bit-shr (value e w) k i ∙ bit_at_above (value e w) 64 (i + k) (value-lt e h w) past)
  ]
  bit_of (mask w m) i low = elim (cases_eq (bit_at m i) 1) [
    | inl set ↦ rw (eq-eqb (bit_at m i) 1 set) (bit-mask_set (value e w) m i set ∙ bit_of w i low)
    | inr clear ↦ rw (ne_eqb (bit_at m i) 1 clear) (bit-mask_clear (value e w) m i clear)
  ]
  bit_of (sum v w) i low =
      bit-xor (value e v) (value e w) i ∙ (λ j. bit_xor (bit_of v i low j) (bit_of w i low j))
      ∙ sym (total-merged e (places v i) (places w i))

  -- a word whose bit i is one bit of an input, at place `to i`
  pub moved : (w : Word) (to : ℕ → ℕ) → all_below (λ i. is_place (places w i) (to i)) 64 ≡ true → (i : ℕ) → i < 64
      → bit_at (value e w) i ≡ bit_at (e (to i / 64)) (to i % 64)
  moved w to test i low = bit_of w i low ∙ one_place e (places w i) (to i) (all_below_at (λ k. is_place (places w k) (to k)) 64 i test low)

  -- bit i is bit j of input k
  pub one_moved : (w : Word) (i k j : ℕ) → i < 64 → j < 64 → is_place (places w i) (k * 64 + j) ≡ true → bit_at (value e w) i ≡ bit_at (e k) j
  one_moved w i k j low inside test =
      bit_of w i low ∙ one_place e (places w i) (k * 64 + j) test
      ∙ (λ x. bit_at (e (place-row k j inside x)) (place-col k j inside x))

  -- bit i is 0
  pub cleared_at : (w : Word) (i : ℕ) → i < 64 → is_none (places w i) ≡ true → bit_at (value e w) i ≡ 0
  cleared_at w i low test = bit_of w i low ∙ no_place e (places w i) test
