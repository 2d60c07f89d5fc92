-- InvMixColumns undoes MixColumns on a column of bytes.
use Rattle.std.proofs.Common.{◌≡◌, ℕ, zero, suc, ◌<◌, Bool, true, cond, ◌==◌, nat_lt, refl, ◌∙◌, arith}
use Rattle.std.proofs.lemmas.Bool.{eqb-true, ltb-true}
use Rattle.std.proofs.lemmas.Nat.{xor_lt}
use Rattle.std.specs.Int.Bits.{xor_zero_r}
use Rattle.aes_spec.specs.Columns.{xor_sum, entry, mix_row, mixed, inv_mix_row, inv_mixed}
use Rattle.aes_spec.specs.Field.{carryless, remainder, mul}
use Rattle.aes_spec.proofs.Linear.{same_sum}
use Rattle.aes_spec.proofs.MulLinear.{mul-xor_sum, xor_sum-xor_sum}
use Rattle.aes_spec.proofs.Tables.{all_below, all_below_at}

-- what byte k, which is b, adds to row r: itself where k is r
abbrev share : ℕ → ℕ → ℕ → ℕ
share r k b = xor_sum (λ c. mul (entry inv_mix_row r c) (mul (entry mix_row c k) b)) 4

abbrev share_right : ℕ → ℕ → ℕ → Bool
share_right r k b = share r k b == cond (k == r) b 0

shares_right : all_below (λ r. all_below (λ k. all_below (share_right r k) 256) 4) 4 ≡ true
unfolding carryless remainder mul
shares_right = refl

share_of : (r k b : ℕ) → r < 4 → k < 4 → b < 256 → share r k b ≡ cond (k == r) b 0
share_of r k b hr hk hb =
    eqb-true (share r k b) (cond (k == r) b 0)
    (all_below_at (share_right r k) 256 b
    (all_below_at (λ k. all_below (share_right r k) 256) 4 k
    (all_below_at (λ r. all_below (λ k. all_below (share_right r k) 256) 4) 4 r shares_right hr) hk) hb)

one_left : (b : ℕ → ℕ) (r : ℕ) → r < 4 → xor_sum (λ k. cond (k == r) (b k) 0) 4 ≡ b r
one_left b zero h = xor_zero_r (b 0)
one_left b (suc zero) h = xor_zero_r (b 1)
one_left b (suc (suc zero)) h = xor_zero_r (b 2)
one_left b (suc (suc (suc zero))) h = xor_zero_r (b 3)
one_left b (suc (suc (suc (suc r)))) h = absurd (omega arith)

pub unmixed : (r : ℕ) (b : ℕ → ℕ) → r < 4 → ((k : ℕ) → k < 4 → b k < 256) → inv_mixed r (λ c. mixed c b) ≡ b r
unmixed r b hr small =
    same_sum (λ c. mul (entry inv_mix_row r c) (mixed c b)) (λ c. xor_sum (λ k. mul (entry inv_mix_row r c) (mul (entry mix_row c k) (b k))) 4) 4
    (λ c h. mul-xor_sum (entry inv_mix_row r c) (λ k. mul (entry mix_row c k) (b k)) 4)
    ∙ xor_sum-xor_sum (λ c k. mul (entry inv_mix_row r c) (mul (entry mix_row c k) (b k))) 4 4
    ∙ same_sum (λ k. share r k (b k)) (λ k. cond (k == r) (b k) 0) 4 (λ k h. share_of r k (b k) hr h (small k h))
    ∙ one_left b r hr

abbrev small_right : ℕ → ℕ → ℕ → Bool
small_right r c b = nat_lt (mul (entry mix_row r c) b) 256

all_small : all_below (λ r. all_below (λ c. all_below (small_right r c) 256) 4) 4 ≡ true
unfolding carryless remainder mul
all_small = refl

product-lt : (r c b : ℕ) → r < 4 → c < 4 → b < 256 → mul (entry mix_row r c) b < 256
product-lt r c b hr hc hb =
    ltb-true (mul (entry mix_row r c) b) 256
    (all_below_at (small_right r c) 256 b
    (all_below_at (λ c. all_below (small_right r c) 256) 4 c
    (all_below_at (λ r. all_below (λ c. all_below (small_right r c) 256) 4) 4 r all_small hr) hc) hb)

xor_sum-lt : (f : ℕ → ℕ) (n : ℕ) → ((k : ℕ) → k < n → f k < 256) → xor_sum f n < 256
xor_sum-lt f zero h = omega arith
xor_sum-lt f (suc n) h = xor_lt 8 (f n) (xor_sum f n) (h n (omega arith)) (xor_sum-lt f n (λ k lt. h k (omega arith)))

-- a mixed byte is a byte
pub mixed-lt : (r : ℕ) (b : ℕ → ℕ) → r < 4 → ((k : ℕ) → k < 4 → b k < 256) → mixed r b < 256
mixed-lt r b hr small = xor_sum-lt (λ c. mul (entry mix_row r c) (b c)) 4 (λ c h. product-lt r c (b c) hr h (small c h))
