-- The field of 256 elements (FIPS 197, section 4.2) and the S-box (sections 5.1.1 and 5.3.2). Bit i of a byte is the coefficient of x^i.
use Rattle.std.specs.Prelude.{ℕ, zero, suc, ◌+◌, ◌*◌, ◌^◌, ◌%◌, ◌==◌, cond, map, position, unwrap_or, bit_xor}
use Rattle.std.specs.Int.{bit_at}
use Rattle.std.specs.List.{range_with_len}

-- the product of a and the low n bits of b, added without carries
unfoldable pub carryless : ℕ → ℕ → ℕ → ℕ
carryless a b zero = 0
carryless a b (suc n) = bit_xor (bit_at b n * (a * 2 ^ n)) (carryless a b n)

-- the remainder by x^8 + x^4 + x^3 + x + 1 of a polynomial of degree below 8 + n
unfoldable pub remainder : ℕ → ℕ → ℕ
remainder zero p = p
remainder (suc n) p = remainder n (bit_xor p (bit_at p (n + 8) * (0x11b * 2 ^ n)))

-- the product in the field
unfoldable pub mul : ℕ → ℕ → ℕ
mul a b = remainder 7 (carryless a b 8)

-- the greatest byte up to n whose product with a is 1, and 0 if there is none
unfoldable pub inverse_up_to : ℕ → ℕ → ℕ
inverse_up_to a zero = 0
inverse_up_to a (suc n) = let below = inverse_up_to a n in cond (mul a (suc n) == 1) (suc n) below

-- the byte whose product with a is 1, and 0 for 0
unfoldable pub inv : ℕ → ℕ
inv a = inverse_up_to a 255

-- the number whose bit i is f i, for i below n
abbrev pub from_bits : (ℕ → ℕ) → ℕ → ℕ
from_bits f zero = 0
from_bits f (suc n) = f n * 2 ^ n + from_bits f n

-- bit i of the affine map of the S-box: the sum of the bits i, i + 4, i + 5, i + 6 and i + 7 modulo 8 and of bit i of 0x63
abbrev pub affine_bit : ℕ → ℕ → ℕ
affine_bit b i = (bit_at b i + bit_at b ((i + 4) % 8) + bit_at b ((i + 5) % 8) + bit_at b ((i + 6) % 8) + bit_at b ((i + 7) % 8) + bit_at 0x63 i) % 2

-- the affine map of the S-box
unfoldable pub affine : ℕ → ℕ
affine b = from_bits (affine_bit b) 8

-- the S-box
unfoldable pub S : ℕ → ℕ
S b = affine (inv b)

-- the inverse S-box: the byte x with S x = b
unfoldable pub IS : ℕ → ℕ
IS b = unwrap_or (position (λ s. s == b) (map S (range_with_len 0 256))) 0
