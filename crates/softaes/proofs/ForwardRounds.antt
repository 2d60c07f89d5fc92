-- The rounds of a block of two words.
use Rattle.std.proofs.Common.{◌≡◌, ℕ, ◌+◌, ◌*◌, ◌<◌, List, [], ◌∷◌, bit_xor, refl, sym, ap, ◌∙◌, arith}
use Rattle.aes_spec.specs.Bytes.{xor_bytes}
use Rattle.aes_spec.specs.Columns.{mixed}
use Rattle.aes_spec.specs.Rounds.{R, RL, mix_columns, shift_rows, sub_bytes}
use Rattle.aes_spec.specs.Words.{word_byte}
use Rattle.softaes.specs.Blocks.{bytes_of}
use Rattle.softaes.proofs.BlockWords.{word_bytes, bytes_of-word_bytes, bytes_of-xor, lifted}

-- m is MixColumns of the columns of the word a
abbrev pub AreMixed : ℕ → ℕ → Type 0
AreMixed a m = (c r : ℕ) → c < 2 → r < 4 → word_byte m (4 * c + r) ≡ mixed r (λ k. word_byte a (4 * c + k))

mixed_words : (a b m n : ℕ) → AreMixed a m → AreMixed b n → word_bytes m n ≡ mix_columns (word_bytes a b)
mixed_words a b m n hm hn = λ i.
    hm 0 0 (omega arith) (omega arith) i
    ∷ hm 0 1 (omega arith) (omega arith) i
    ∷ hm 0 2 (omega arith) (omega arith) i
    ∷ hm 0 3 (omega arith) (omega arith) i
    ∷ hm 1 0 (omega arith) (omega arith) i
    ∷ hm 1 1 (omega arith) (omega arith) i
    ∷ hm 1 2 (omega arith) (omega arith) i
    ∷ hm 1 3 (omega arith) (omega arith) i
    ∷ hn 0 0 (omega arith) (omega arith) i
    ∷ hn 0 1 (omega arith) (omega arith) i
    ∷ hn 0 2 (omega arith) (omega arith) i
    ∷ hn 0 3 (omega arith) (omega arith) i
    ∷ hn 1 0 (omega arith) (omega arith) i
    ∷ hn 1 1 (omega arith) (omega arith) i
    ∷ hn 1 2 (omega arith) (omega arith) i
    ∷ hn 1 3 (omega arith) (omega arith) i
    ∷ []

-- the code moves the rows before it substitutes
swapped_order : (lo hi : ℕ) → sub_bytes (shift_rows (word_bytes lo hi)) ≡ shift_rows (sub_bytes (word_bytes lo hi))
swapped_order lo hi = refl

pub sub_bytes-shift_rows : (lo hi : ℕ) → sub_bytes (shift_rows (bytes_of lo hi)) ≡ shift_rows (sub_bytes (bytes_of lo hi))
sub_bytes-shift_rows lo hi =
    let e : bytes_of lo hi ≡ word_bytes lo hi = bytes_of-word_bytes lo hi in
    ap (λ (v : List ℕ). sub_bytes (shift_rows v)) e ∙ swapped_order lo hi ∙ ap (λ (v : List ℕ). shift_rows (sub_bytes v)) (sym e)

pub whole_round : (lo hi a b m n k l : ℕ) → bytes_of a b ≡ shift_rows (sub_bytes (bytes_of lo hi)) → AreMixed a m → AreMixed b n
    → bytes_of (bit_xor m k) (bit_xor n l) ≡ R (bytes_of lo hi) (bytes_of k l)
unfolding R
whole_round lo hi a b m n k l same hm hn =
    bytes_of-xor m n k l
    ∙ ap (λ (v : List ℕ). xor_bytes v (bytes_of k l)) (lifted mix_columns m n a b (mixed_words a b m n hm hn) ∙ ap mix_columns same)

pub last_round : (lo hi a b k l : ℕ) → bytes_of a b ≡ shift_rows (sub_bytes (bytes_of lo hi))
    → bytes_of (bit_xor a k) (bit_xor b l) ≡ RL (bytes_of lo hi) (bytes_of k l)
unfolding RL
last_round lo hi a b k l same = bytes_of-xor a b k l ∙ ap (λ (v : List ℕ). xor_bytes v (bytes_of k l)) same
