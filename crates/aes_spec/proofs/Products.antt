-- What one step of the product and of its remainder does.
use Rattle.std.proofs.Common.{◌≡◌, ℕ, zero, suc, ◌+◌, ◌*◌, ◌/◌, ◌%◌, ◌^◌, ◌<◌, ◌≤◌, bit_and, bit_xor, refl, sym, ap, ◌∙◌, subst, arith, add-one}
use Rattle.std.proofs.lemmas.Nat.{pow_pos, pow-add, shl_whole, shl_below, xor_lt, xor_comm, xor_block, shr_split}
use Rattle.std.proofs.lemmas.Nat.Bits.{shr_and_one, bit_at-lt}
use Rattle.std.proofs.Math.Nat.{mod-lt, pow-suc, pow-le-pow_right, suc-mul}
use Rattle.std.specs.Int.{bit_at}
use lib.Bits.{xor_zero_r}
use Rattle.aes_spec.specs.Field.{mul, carryless, remainder}

bit_times-lt : (bit x : ℕ) → bit < 2 → x < 2 ^ 15 → bit * x < 2 ^ 15
bit_times-lt zero x h fits = omega arith
bit_times-lt (suc zero) x h fits = omega arith
bit_times-lt (suc (suc bit)) x h fits = absurd (omega arith)

one_from_odd : (q : ℕ) → q < 2 → q % 2 ≡ 1 → q ≡ 1
one_from_odd q h odd = omega arith

half_below : (p m r q : ℕ) → q * m + r ≡ p → p < m * 2 → q < 2
half_below p m r zero e h = omega arith
half_below p m r (suc zero) e h = omega arith
half_below p m r (suc (suc q)) e h = absurd (omega (arith, suc-mul (suc q) m, suc-mul q m))

-- a byte shifted by at most 7 places
shifted-lt : (a n : ℕ) → a < 2 ^ 8 → n < 8 → a * 2 ^ n < 2 ^ 15
shifted-lt a n fits low =
    let power : 2 ^ (8 + n) ≤ 2 ^ 15 = pow-le-pow_right {n = 2} (pow_pos 1) {i = 8 + n} {j = 15} (omega arith) in
    omega (arith, shl_below a 8 n fits)

pub carryless_set : (a b n : ℕ) → a < 2 ^ 8 → n < 8 → bit_and (b / 2 ^ n) 1 ≡ 1 → bit_xor (carryless a b n) (a * 2 ^ n % 2 ^ 16) ≡ carryless a b (n + 1)
unfolding carryless
carryless_set a b n fits low set =
    let whole : a * 2 ^ n % 2 ^ 16 ≡ a * 2 ^ n = shl_whole a 8 n 16 fits (omega arith) in
    let bit : bit_at b n ≡ 1 = sym (shr_and_one b n) ∙ set in
    let once : bit_at b n * (a * 2 ^ n) ≡ a * 2 ^ n = rw bit (omega arith) in
    rw (add-one n, whole, once) (xor_comm (carryless a b n) (a * 2 ^ n))

pub carryless_clear : (a b n : ℕ) → bit_at b n ≡ 0 → carryless a b n ≡ carryless a b (n + 1)
unfolding carryless
carryless_clear a b n bit =
    let none : bit_at b n * (a * 2 ^ n) ≡ 0 = rw bit (omega arith) in
    rw (add-one n, none) refl

pub carryless-lt : (a b n : ℕ) → a < 2 ^ 8 → n ≤ 8 → carryless a b n < 2 ^ 15
unfolding carryless
carryless-lt a b zero fits low = omega arith
carryless-lt a b (suc n) fits low =
    let shifted : a * 2 ^ n < 2 ^ 15 = shifted-lt a n fits (omega arith) in
    let bit : bit_at b n < 2 = bit_at-lt b n in
    xor_lt 15 (bit_at b n * (a * 2 ^ n)) (carryless a b n) (bit_times-lt (bit_at b n) (a * 2 ^ n) bit shifted) (carryless-lt a b n fits (omega arith))

-- one step of the remainder, where the top bit is set
pub cleared-lt : (p n : ℕ) → p < 2 ^ (n + 9) → bit_at p (n + 8) ≡ 1 → bit_xor p (0x11b * 2 ^ n) < 2 ^ (n + 8)
cleared-lt p n fits set =
    let k : ℕ = n + 8 in
    let r : ℕ = p % 2 ^ k in
    let nine : 2 ^ (n + 9) ≡ 2 ^ k * 2 = ap (λ j. 2 ^ j) (omega arith) ∙ pow-suc 2 k in
    let split : p / 2 ^ k * 2 ^ k + r ≡ p = shr_split p k in
    let high : p / 2 ^ k ≡ 1 = one_from_odd (p / 2 ^ k) (half_below p (2 ^ k) r (p / 2 ^ k) split (subst (λ x. p < x) nine fits)) set in
    let whole : p ≡ 1 * 2 ^ k + r = sym split ∙ ap (λ q. q * 2 ^ k + r) high in
    let eight : 2 ^ k ≡ 2 ^ n * 256 = pow-add 2 n 8 in
    let polynomial : 0x11b * 2 ^ n ≡ 1 * 2 ^ k + 0x1b * 2 ^ n = omega arith in
    let low : 0x1b * 2 ^ n < 2 ^ k = omega (arith, pow_pos n) in
    let rest : r < 2 ^ k = mod-lt p (pow_pos k) in
    let gone : bit_xor 1 1 * 2 ^ k + bit_xor r (0x1b * 2 ^ n) ≡ bit_xor r (0x1b * 2 ^ n) = omega arith in
    let e : bit_xor p (0x11b * 2 ^ n) ≡ bit_xor r (0x1b * 2 ^ n) =
    (λ i. bit_xor (whole i) (polynomial i)) ∙ xor_block k 1 1 r (0x1b * 2 ^ n) rest low ∙ gone in
    rw e (xor_lt k r (0x1b * 2 ^ n) rest low)

-- the loop of the remainder, at the degree that is left
pub remainder_set : (p n : ℕ) → n < 7 → bit_and (p / 2 ^ (n + 8)) 1 ≡ 1 → remainder n (bit_xor p (0x11b * 2 ^ n % 2 ^ 16)) ≡ remainder (n + 1) p
unfolding remainder
remainder_set p n low set =
    let whole : 0x11b * 2 ^ n % 2 ^ 16 ≡ 0x11b * 2 ^ n = shl_whole 0x11b 9 n 16 (omega arith) (omega arith) in
    let bit : bit_at p (n + 8) ≡ 1 = sym (shr_and_one p (n + 8)) ∙ set in
    let once : bit_at p (n + 8) * (0x11b * 2 ^ n) ≡ 0x11b * 2 ^ n = rw bit (omega arith) in
    rw (add-one n, whole, once) refl

pub remainder_clear : (p n : ℕ) → bit_at p (n + 8) ≡ 0 → remainder n p ≡ remainder (n + 1) p
unfolding remainder
remainder_clear p n bit =
    let none : bit_at p (n + 8) * (0x11b * 2 ^ n) ≡ 0 = rw bit (omega arith) in
    rw (add-one n, none) (ap (remainder n) (sym (xor_zero_r p)))

pub remainder_none : (p n : ℕ) → n ≤ 0 → remainder n p ≡ p
unfolding remainder
remainder_none p zero none = refl
remainder_none p (suc n) none = absurd (omega arith)

pub mul-steps : (a b : ℕ) → mul a b ≡ remainder 7 (carryless a b 8)
unfolding mul
mul-steps a b = refl

pub set-lt : (p n : ℕ) → n < 7 → p < 2 ^ (n + 1 + 8) → bit_and (p / 2 ^ (n + 8)) 1 ≡ 1 → bit_xor p (0x11b * 2 ^ n % 2 ^ 16) < 2 ^ (n + 8)
set-lt p n low fits set =
    let whole : 0x11b * 2 ^ n % 2 ^ 16 ≡ 0x11b * 2 ^ n = shl_whole 0x11b 9 n 16 (omega arith) (omega arith) in
    let nine : n + 1 + 8 ≡ n + 9 = omega arith in
    rw whole (cleared-lt p n (subst (λ k. p < 2 ^ k) nine fits) (sym (shr_and_one p (n + 8)) ∙ set))

pub clear-lt : (p n : ℕ) → p < 2 ^ (n + 1 + 8) → bit_at p (n + 8) ≡ 0 → p < 2 ^ (n + 8)
clear-lt p n fits clear =
    let k : ℕ = n + 8 in
    let r : ℕ = p % 2 ^ k in
    let nine : 2 ^ (n + 1 + 8) ≡ 2 ^ k * 2 = ap (λ j. 2 ^ j) (omega arith) ∙ pow-suc 2 k in
    let split : p / 2 ^ k * 2 ^ k + r ≡ p = shr_split p k in
    let high : p / 2 ^ k < 2 = half_below p (2 ^ k) r (p / 2 ^ k) split (subst (λ x. p < x) nine fits) in
    let none : p / 2 ^ k ≡ 0 = omega arith in
    let e : r ≡ p = omega (arith, sym (ap (λ q. q * 2 ^ k + r) none)) in
    subst (λ x. x < 2 ^ k) e (mod-lt p (pow_pos k))
