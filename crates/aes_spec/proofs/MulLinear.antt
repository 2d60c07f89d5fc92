-- The product in the field is linear, and so is each row of a matrix.
use Rattle.std.proofs.Common.{◌≡◌, ℕ, zero, suc, ◌+◌, ◌*◌, ◌^◌, ◌<◌, bit_xor, refl, sym, ap, ◌∙◌, arith}
use Rattle.std.proofs.lemmas.Nat.Bits.{bit_at-lt}
use Rattle.std.specs.Int.{bit_at}
use Rattle.std.specs.Int.Bits.{xor_self, xor_zero_r}
use Rattle.aes_spec.specs.Columns.{xor_sum}
use Rattle.aes_spec.specs.Field.{carryless, remainder, mul}
use Rattle.aes_spec.proofs.BitPlaces.{bit-xor}
use Rattle.aes_spec.proofs.Linear.{exchanged, same_sum}

xor_times : (p q m : ℕ) → p < 2 → q < 2 → bit_xor p q * m ≡ bit_xor (p * m) (q * m)
xor_times zero zero m hp hq = let z : 0 * m ≡ 0 = omega arith in rw z refl
xor_times zero (suc zero) m hp hq = let z : 0 * m ≡ 0 = omega arith in rw z refl
xor_times (suc zero) zero m hp hq = let z : 0 * m ≡ 0 = omega arith in rw z (sym (xor_zero_r (1 * m)))
xor_times (suc zero) (suc zero) m hp hq = let z : 0 * m ≡ 0 = omega arith in rw z (sym (xor_self (1 * m)))
xor_times zero (suc (suc q)) m hp hq = absurd (omega arith)
xor_times (suc zero) (suc (suc q)) m hp hq = absurd (omega arith)
xor_times (suc (suc p)) q m hp hq = absurd (omega arith)

-- a bit of a sum times a number
bit_times-xor : (p q i m : ℕ) → bit_at (bit_xor p q) i * m ≡ bit_xor (bit_at p i * m) (bit_at q i * m)
bit_times-xor p q i m = ap (λ b. b * m) (bit-xor p q i) ∙ xor_times (bit_at p i) (bit_at q i) m (bit_at-lt p i) (bit_at-lt q i)

carryless-xor : (a b c n : ℕ) → carryless a (bit_xor b c) n ≡ bit_xor (carryless a b n) (carryless a c n)
unfolding carryless
carryless-xor a b c zero = refl
carryless-xor a b c (suc n) =
    (λ i. bit_xor (bit_times-xor b c n (a * 2 ^ n) i) (carryless-xor a b c n i))
    ∙ exchanged (bit_at b n * (a * 2 ^ n)) (bit_at c n * (a * 2 ^ n)) (carryless a b n) (carryless a c n)

remainder-xor : (n p q : ℕ) → remainder n (bit_xor p q) ≡ bit_xor (remainder n p) (remainder n q)
unfolding remainder
remainder-xor zero p q = refl
remainder-xor (suc n) p q =
    let m : ℕ = 0x11b * 2 ^ n in
    ap (remainder n) (ap (bit_xor (bit_xor p q)) (bit_times-xor p q (n + 8) m) ∙ exchanged p q (bit_at p (n + 8) * m) (bit_at q (n + 8) * m))
    ∙ remainder-xor n (bit_xor p (bit_at p (n + 8) * m)) (bit_xor q (bit_at q (n + 8) * m))

pub mul-xor : (a b c : ℕ) → mul a (bit_xor b c) ≡ bit_xor (mul a b) (mul a c)
unfolding mul
mul-xor a b c = ap (remainder 7) (carryless-xor a b c 8) ∙ remainder-xor 7 (carryless a b 8) (carryless a c 8)

mul-zero : (a : ℕ) → mul a 0 ≡ 0
mul-zero a = mul-xor a 0 0 ∙ xor_self (mul a 0)

pub xor_sum-xor : (f g : ℕ → ℕ) (n : ℕ) → xor_sum (λ k. bit_xor (f k) (g k)) n ≡ bit_xor (xor_sum f n) (xor_sum g n)
xor_sum-xor f g zero = refl
xor_sum-xor f g (suc n) =
    ap (bit_xor (bit_xor (f n) (g n))) (xor_sum-xor f g n) ∙ exchanged (f n) (g n) (xor_sum f n) (xor_sum g n)

pub mul-xor_sum : (a : ℕ) (f : ℕ → ℕ) (n : ℕ) → mul a (xor_sum f n) ≡ xor_sum (λ k. mul a (f k)) n
mul-xor_sum a f zero = mul-zero a
mul-xor_sum a f (suc n) = mul-xor a (f n) (xor_sum f n) ∙ ap (bit_xor (mul a (f n))) (mul-xor_sum a f n)

xor_sum-zero : (n : ℕ) → xor_sum (λ k. 0) n ≡ 0
xor_sum-zero zero = refl
xor_sum-zero (suc n) = xor_sum-zero n

-- the order of two sums
pub xor_sum-xor_sum : (f : ℕ → ℕ → ℕ) (m n : ℕ) → xor_sum (λ c. xor_sum (f c) n) m ≡ xor_sum (λ k. xor_sum (λ c. f c k) m) n
xor_sum-xor_sum f zero n = sym (xor_sum-zero n)
xor_sum-xor_sum f (suc m) n =
    ap (bit_xor (xor_sum (f m) n)) (xor_sum-xor_sum f m n) ∙ sym (xor_sum-xor (f m) (λ k. xor_sum (λ c. f c k) m) n)

-- a row of a sum of columns
pub row_of-xor : (first : ℕ → ℕ) (f g : ℕ → ℕ) (n : ℕ)
    → xor_sum (λ c. mul (first c) (bit_xor (f c) (g c))) n ≡ bit_xor (xor_sum (λ c. mul (first c) (f c)) n) (xor_sum (λ c. mul (first c) (g c)) n)
row_of-xor first f g n =
    same_sum (λ c. mul (first c) (bit_xor (f c) (g c))) (λ c. bit_xor (mul (first c) (f c)) (mul (first c) (g c))) n (λ c h. mul-xor (first c) (f c) (g c))
    ∙ xor_sum-xor (λ c. mul (first c) (f c)) (λ c. mul (first c) (g c)) n
