-- MixColumns and InvMixColumns on a word of two columns, over all bytes at all places.
use Rattle.std.proofs.Common.{◌≡◌, ℕ, zero, suc, ◌+◌, ◌*◌, ◌/◌, ◌%◌, ◌^◌, ◌<◌, List, Bool, true, cond, ◌==◌, refl, ◌∙◌, arith}
use Rattle.std.proofs.lemmas.Bool.{eqb-true}
use Rattle.std.proofs.lemmas.Nat.{pow_pos}
use Rattle.std.proofs.Math.Nat.{mod-lt}
use Rattle.aes_spec.specs.Columns.{xor_sum, entry, row_of, mix_row, mixed, inv_mix_row, inv_mixed}
use Rattle.aes_spec.specs.Field.{carryless, remainder, mul}
use Rattle.aes_spec.specs.Words.{word_byte}
use Rattle.aes_spec.proofs.Circuits.{Word, input, shl, shr, mask, sum}
use Rattle.aes_spec.proofs.Linear.{of, byte-of, same_sum}
use Rattle.aes_spec.proofs.Tables.{all_below, all_below_at}

-- what byte k, which is b, adds to byte j
abbrev part : List ℕ → ℕ → ℕ → ℕ → ℕ
part first j k b = cond (j / 4 == k / 4) (mul (entry first (j % 4) (k % 4)) b) 0

abbrev right_at : List ℕ → Word → ℕ → ℕ → ℕ → Bool
right_at first w j k b = word_byte (of w (b * 2 ^ (8 * k))) j == part first j k b

-- the word w makes of each single byte what the matrix with this first row does
abbrev is_right : List ℕ → Word → Bool
is_right first w = all_below (λ j. all_below (λ k. all_below (right_at first w j k) 256) 8) 8

-- the sum over all bytes is the sum over the column
column : (first : List ℕ) (x c r : ℕ) → c < 2 → r < 4 → xor_sum (λ k. part first (4 * c + r) k (word_byte x k)) 8 ≡ row_of first r (λ k. word_byte x (4 * c + k))
column first x zero zero hc hr = refl
column first x zero (suc zero) hc hr = refl
column first x zero (suc (suc zero)) hc hr = refl
column first x zero (suc (suc (suc zero))) hc hr = refl
column first x zero (suc (suc (suc (suc r)))) hc hr = absurd (omega arith)
column first x (suc zero) zero hc hr = refl
column first x (suc zero) (suc zero) hc hr = refl
column first x (suc zero) (suc (suc zero)) hc hr = refl
column first x (suc zero) (suc (suc (suc zero))) hc hr = refl
column first x (suc zero) (suc (suc (suc (suc r)))) hc hr = absurd (omega arith)
column first x (suc (suc c)) r hc hr = absurd (omega arith)

module _ (first : List ℕ) (w : Word) (none : of w 0 ≡ 0) (right : is_right first w ≡ true) where
  part_of : (j k b : ℕ) → j < 8 → k < 8 → b < 256 → word_byte (of w (b * 2 ^ (8 * k))) j ≡ part first j k b
  part_of j k b hj hk hb =
      eqb-true (word_byte (of w (b * 2 ^ (8 * k))) j) (part first j k b)
      (all_below_at (right_at first w j k) 256 b
      (all_below_at (λ k. all_below (right_at first w j k) 256) 8 k
      (all_below_at (λ j. all_below (λ k. all_below (right_at first w j k) 256) 8) 8 j right hj) hk) hb)

  columns : (x : ℕ) → x < 2 ^ 64 → (c r : ℕ) → c < 2 → r < 4 → word_byte (of w x) (4 * c + r) ≡ row_of first r (λ k. word_byte x (4 * c + k))
  columns x fits c r hc hr =
      let j : ℕ = 4 * c + r in
      let hj : j < 8 = omega arith in
      byte-of w none x fits j
      ∙ same_sum (λ k. word_byte (of w (word_byte x k * 2 ^ (8 * k))) j) (λ k. part first j k (word_byte x k)) 8
      (λ k hk. part_of j k (word_byte x k) hj hk (mod-lt (x / 2 ^ (8 * k)) (pow_pos 8)))
      ∙ column first x c r hc hr

-- ---- the words of the code as circuits

abbrev pairs_word : Word → Word
pairs_word w = sum w (sum (shr (mask w 0xffff_ff00_ffff_ff00) 8) (shl (mask w 0x0000_00ff_0000_00ff) 24))

abbrev opposite_word : Word → Word
opposite_word w = sum (shr (mask w 0xffff_0000_ffff_0000) 16) (shl (mask w 0x0000_ffff_0000_ffff) 16)

abbrev twice_word : Word → Word
twice_word w =
    let carry : Word = mask (shr w 7) 0x0101_0101_0101_0101 in
    sum (sum (sum (sum (shl (mask w 0x7f7f_7f7f_7f7f_7f7f) 1) carry) (shl carry 1)) (shl carry 3)) (shl carry 4)

-- the sum of a column, in each of its rows
abbrev all_word : Word → Word
all_word w = sum (pairs_word w) (opposite_word (pairs_word w))

abbrev pub mixed_word : Word
mixed_word = sum (sum (twice_word (pairs_word (input 0))) (all_word (input 0))) (input 0)

-- 8 times all rows, 4 times the rows r and r + 2, twice the rows r and r + 1, and the three other rows
abbrev pub inv_mixed_word : Word
inv_mixed_word =
    let x : Word = input 0 in
    let fours : Word = sum (twice_word (all_word x)) (sum x (opposite_word x)) in
    let twos : Word = sum (twice_word fours) (pairs_word x) in
    sum (sum (twice_word twos) (all_word x)) x

mixed_right : is_right mix_row mixed_word ≡ true
unfolding carryless remainder mul
mixed_right = refl

inv_mixed_right : is_right inv_mix_row inv_mixed_word ≡ true
unfolding carryless remainder mul
inv_mixed_right = refl

pub mixed_columns : (x : ℕ) → x < 2 ^ 64 → (c r : ℕ) → c < 2 → r < 4 → word_byte (of mixed_word x) (4 * c + r) ≡ mixed r (λ k. word_byte x (4 * c + k))
mixed_columns = columns mix_row mixed_word refl mixed_right

pub inv_mixed_columns : (x : ℕ) → x < 2 ^ 64 → (c r : ℕ) → c < 2 → r < 4 → word_byte (of inv_mixed_word x) (4 * c + r) ≡ inv_mixed r (λ k. word_byte x (4 * c + k))
inv_mixed_columns = columns inv_mix_row inv_mixed_word refl inv_mixed_right
