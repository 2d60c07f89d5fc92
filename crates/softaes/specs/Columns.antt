-- What the helpers of MixColumns make of a word of two columns, each of four bytes, little-endian (this project's own).
use Rattle.std.specs.Prelude.{ℕ, ◌*◌, ◌/◌, ◌%◌, ◌^◌, bit_and, bit_xor}

-- each row and the row below it, added
abbrev pub pairs : ℕ → ℕ
pairs x = bit_xor x (bit_xor (bit_and x 0xffff_ff00_ffff_ff00 / 2 ^ 8) (bit_and x 0x0000_00ff_0000_00ff * 2 ^ 24 % 2 ^ 64))

-- in each row the row two below it
abbrev pub opposite : ℕ → ℕ
opposite x = bit_xor (bit_and x 0xffff_0000_ffff_0000 / 2 ^ 16) (bit_and x 0x0000_ffff_0000_ffff * 2 ^ 16 % 2 ^ 64)

-- each byte twice in the field
abbrev pub twice : ℕ → ℕ
twice x =
    let carry : ℕ = bit_and (x / 2 ^ 7) 0x0101_0101_0101_0101 in
    bit_xor
    (bit_xor (bit_xor (bit_xor (bit_and x 0x7f7f_7f7f_7f7f_7f7f * 2 ^ 1 % 2 ^ 64) carry) (carry * 2 ^ 1 % 2 ^ 64)) (carry * 2 ^ 3 % 2 ^ 64))
    (carry * 2 ^ 4 % 2 ^ 64)
