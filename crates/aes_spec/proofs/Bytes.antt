-- A byte of a word by its bits.
use Rattle.std.proofs.Common.{◌≡◌, ℕ, ◌+◌, ◌*◌, ◌/◌, ◌%◌, ◌^◌, ◌<◌, ◌==◌, true, List, [], ◌∷◌, length, slice_index, refl, sym, ap, ◌∙◌, arith}
use Rattle.std.proofs.lemmas.Nat.{pow_pos, shr_split, shr-shr}
use Rattle.std.proofs.lemmas.Nat.Bits.{bit_at_cat_low}
use Rattle.std.proofs.Math.Nat.{mod-lt}
use Rattle.std.specs.Int.{bit_at}
use Rattle.aes_spec.proofs.Tables.{all_below, same_below}
use Rattle.aes_spec.specs.Words.{word_byte}
use Rattle.aes_spec.specs.Planes.{number_of}

byte_bits : ℕ → ℕ
byte_bits b = number_of (bit_at b 7 ∷ bit_at b 6 ∷ bit_at b 5 ∷ bit_at b 4 ∷ bit_at b 3 ∷ bit_at b 2 ∷ bit_at b 1 ∷ bit_at b 0 ∷ [])

bits_right : all_below (λ b. byte_bits b == b) 256 ≡ true
unfolding byte_bits
bits_right = refl

pub bit_of_byte : (x k j : ℕ) → j < 8 → bit_at (word_byte x k) j ≡ bit_at x (8 * k + j)
bit_of_byte x k j low =
    sym (bit_at_cat_low (x / 2 ^ (8 * k) / 2 ^ 8) 8 (word_byte x k) j low)
    ∙ ap (λ y. bit_at y j) (shr_split (x / 2 ^ (8 * k)) 8) ∙ ap (λ y. y % 2) (shr-shr x (8 * k) j)

-- byte k is the number of bits 8k + 7 down to 8k
pub byte-bits : (x k : ℕ) → word_byte x k ≡ number_of (bit_at x (8 * k + 7) ∷ bit_at x (8 * k + 6) ∷ bit_at x (8 * k + 5) ∷ bit_at x (8 * k + 4) ∷ bit_at x (8 * k + 3) ∷ bit_at x (8 * k + 2) ∷ bit_at x (8 * k + 1) ∷ bit_at x (8 * k + 0) ∷ [])
unfolding byte_bits
byte-bits x k =
    sym (same_below byte_bits (λ b. b) 256 bits_right (word_byte x k) (mod-lt (x / 2 ^ (8 * k)) (pow_pos 8)))
    ∙ (λ i. number_of (bit_of_byte x k 7 (omega arith) i ∷ bit_of_byte x k 6 (omega arith) i ∷ bit_of_byte x k 5 (omega arith) i ∷ bit_of_byte x k 4 (omega arith) i ∷ bit_of_byte x k 3 (omega arith) i ∷ bit_of_byte x k 2 (omega arith) i ∷ bit_of_byte x k 1 (omega arith) i ∷ bit_of_byte x k 0 (omega arith) i ∷ []))

-- a list of eight, written out
pub eight : (p : List ℕ) → length p ≡ 8 → p ≡ slice_index p 0 ∷ slice_index p 1 ∷ slice_index p 2 ∷ slice_index p 3 ∷ slice_index p 4 ∷ slice_index p 5 ∷ slice_index p 6 ∷ slice_index p 7 ∷ []
eight (a ∷ b ∷ c ∷ d ∷ e ∷ f ∷ g ∷ h ∷ []) len = refl
eight (a ∷ b ∷ c ∷ d ∷ e ∷ f ∷ g ∷ h ∷ i ∷ p) len = absurd (omega arith)
eight [] len = absurd (omega arith)
eight (a ∷ []) len = absurd (omega arith)
eight (a ∷ b ∷ []) len = absurd (omega arith)
eight (a ∷ b ∷ c ∷ []) len = absurd (omega arith)
eight (a ∷ b ∷ c ∷ d ∷ []) len = absurd (omega arith)
eight (a ∷ b ∷ c ∷ d ∷ e ∷ []) len = absurd (omega arith)
eight (a ∷ b ∷ c ∷ d ∷ e ∷ f ∷ []) len = absurd (omega arith)
eight (a ∷ b ∷ c ∷ d ∷ e ∷ f ∷ g ∷ []) len = absurd (omega arith)
