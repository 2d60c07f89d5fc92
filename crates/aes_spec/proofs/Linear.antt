-- A word made by shifts, masks and `^` is the sum of what it makes of each byte of its input.
use Rattle.std.proofs.Common.{◌≡◌, ℕ, zero, suc, ◌+◌, ◌*◌, ◌/◌, ◌%◌, ◌^◌, ◌<◌, min, bit_and, bit_xor, refl, sym, ap, ◌∙◌, arith, add-zero}
use Rattle.std.proofs.lemmas.Nat.{xor_shr, xor_mod, xor_block, pow_pos, mod-pow-add, xor_comm}
use Rattle.std.proofs.lemmas.Nat.Bits.{bit_at_and, bit_at_xor, bit_at-lt, same_from_bits}
use Rattle.std.proofs.Math.Nat.{mod-lt}
use lib.Bits.{xor_assoc, xor_shifted}
use Rattle.aes_spec.specs.Words.{word_byte}
use Rattle.aes_spec.specs.Columns.{xor_sum}
use Rattle.aes_spec.proofs.Circuits.{Word, input, shl, shr, mask, sum, value}

xor_shl : (a b k : ℕ) → bit_xor a b * 2 ^ k ≡ bit_xor (a * 2 ^ k) (b * 2 ^ k)
xor_shl a b k =
    sym (add-zero (bit_xor a b * 2 ^ k)) ∙ sym (xor_block k a b 0 0 (pow_pos k) (pow_pos k))
    ∙ (λ i. bit_xor (add-zero (a * 2 ^ k) i) (add-zero (b * 2 ^ k) i))

masked_bit : (p q r : ℕ) → p < 2 → q < 2 → r < 2 → min ((p + q) % 2) r ≡ (min p r + min q r) % 2
masked_bit p q r hp hq hr = omega arith

xor_and : (a b m : ℕ) → bit_and (bit_xor a b) m ≡ bit_xor (bit_and a m) (bit_and b m)
xor_and a b m = same_from_bits _ _ (λ i.
    rw (
      bit_at_and (bit_xor a b) m i,
      bit_at_xor a b i,
      bit_at_xor (bit_and a m) (bit_and b m) i,
      bit_at_and a m i,
      bit_at_and b m i,
    )
    (masked_bit _ _ _ (bit_at-lt a i) (bit_at-lt b i) (bit_at-lt m i)))

pub exchanged : (a b c d : ℕ) → bit_xor (bit_xor a b) (bit_xor c d) ≡ bit_xor (bit_xor a c) (bit_xor b d)
exchanged a b c d =
    xor_assoc a b (bit_xor c d) ∙ ap (bit_xor a) (sym (xor_assoc b c d) ∙ ap (λ x. bit_xor x d) (xor_comm b c) ∙ xor_assoc c b d)
    ∙ sym (xor_assoc a c (bit_xor b d))

pub linear : (e f : ℕ → ℕ) (w : Word) → value (λ k. bit_xor (e k) (f k)) w ≡ bit_xor (value e w) (value f w)
linear e f (input k) = refl
linear e f (shl w k) =
    ap (λ x. x * 2 ^ k % 2 ^ 64) (linear e f w) ∙ ap (λ x. x % 2 ^ 64) (xor_shl (value e w) (value f w) k)
    ∙ xor_mod (value e w * 2 ^ k) (value f w * 2 ^ k) 64
linear e f (shr w k) = ap (λ x. x / 2 ^ k) (linear e f w) ∙ xor_shr (value e w) (value f w) k
linear e f (mask w m) = ap (λ x. bit_and x m) (linear e f w) ∙ xor_and (value e w) (value f w) m
linear e f (sum v w) = (λ i. bit_xor (linear e f v i) (linear e f w i)) ∙ exchanged (value e v) (value f v) (value e w) (value f w)

-- what w makes of the one input x
abbrev pub of : Word → ℕ → ℕ
of w x = value (λ k. x) w

pub byte-xor : (a b j : ℕ) → word_byte (bit_xor a b) j ≡ bit_xor (word_byte a j) (word_byte b j)
byte-xor a b j = ap (λ x. x % 2 ^ 8) (xor_shr a b (8 * j)) ∙ xor_mod (a / 2 ^ (8 * j)) (b / 2 ^ (8 * j)) 8

module _ (w : Word) (none : of w 0 ≡ 0) (x : ℕ) where
  pub of_bytes : (n : ℕ) → of w (x % 2 ^ (8 * n)) ≡ xor_sum (λ k. of w (word_byte x k * 2 ^ (8 * k))) n
  of_bytes zero = ap (of w) (omega arith) ∙ none
  of_bytes (suc n) =
      let low : ℕ = x % 2 ^ (8 * n) in
      let high : ℕ = word_byte x n * 2 ^ (8 * n) in
      let more : 8 * suc n ≡ 8 + 8 * n = omega arith in
      let split : x % 2 ^ (8 * suc n) ≡ bit_xor high low =
      ap (λ k. x % 2 ^ k) more ∙ mod-pow-add x 8 (8 * n) ∙ sym (xor_shifted (word_byte x n) (8 * n) low (mod-lt x (pow_pos (8 * n)))) in
      ap (of w) split ∙ linear (λ k. high) (λ k. low) w ∙ ap (bit_xor (of w high)) (of_bytes n)

zero_byte : (j : ℕ) → word_byte 0 j ≡ 0
zero_byte j = omega (arith, pow_pos (8 * j))

pub byte-xor_sum : (f : ℕ → ℕ) (j n : ℕ) → word_byte (xor_sum f n) j ≡ xor_sum (λ k. word_byte (f k) j) n
byte-xor_sum f j zero = zero_byte j
byte-xor_sum f j (suc n) = byte-xor (f n) (xor_sum f n) j ∙ ap (bit_xor (word_byte (f n) j)) (byte-xor_sum f j n)

pub same_sum : (f g : ℕ → ℕ) (n : ℕ) → ((k : ℕ) → k < n → f k ≡ g k) → xor_sum f n ≡ xor_sum g n
same_sum f g zero h = refl
same_sum f g (suc n) h = (λ i. bit_xor (h n (omega arith) i) (same_sum f g n (λ k lt. h k (omega arith)) i))

pub byte-of : (w : Word) → of w 0 ≡ 0 → (x : ℕ) → x < 2 ^ 64 → (j : ℕ) → word_byte (of w x) j ≡ xor_sum (λ k. word_byte (of w (word_byte x k * 2 ^ (8 * k))) j) 8
byte-of w none x fits j =
    let whole : x % 2 ^ 64 ≡ x = omega arith in
    ap (λ y. word_byte (of w y) j) (sym whole) ∙ ap (λ y. word_byte y j) (of_bytes w none x 8)
    ∙ byte-xor_sum (λ k. of w (word_byte x k * 2 ^ (8 * k))) j 8
