-- The inverse rounds of a block of two words.
use Rattle.std.proofs.Common.{◌≡◌, ℕ, ◌+◌, ◌*◌, ◌<◌, List, [], ◌∷◌, bit_xor, ap, ◌∙◌, arith}
use Rattle.aes_spec.specs.Bytes.{xor_bytes}
use Rattle.aes_spec.specs.Columns.{inv_mixed}
use Rattle.aes_spec.specs.Rounds.{IR, IRL, inv_mix_columns, inv_shift_rows, inv_sub_bytes}
use Rattle.aes_spec.specs.Words.{word_byte}
use Rattle.softaes.specs.Blocks.{bytes_of}
use Rattle.softaes.proofs.BlockWords.{word_bytes, bytes_of-xor, lifted}

-- m is InvMixColumns of the columns of the word a
abbrev pub AreUnmixed : ℕ → ℕ → Type 0
AreUnmixed a m = (c r : ℕ) → c < 2 → r < 4 → word_byte m (4 * c + r) ≡ inv_mixed r (λ k. word_byte a (4 * c + k))

unmixed_words : (a b m n : ℕ) → AreUnmixed a m → AreUnmixed b n → word_bytes m n ≡ inv_mix_columns (word_bytes a b)
unmixed_words a b m n hm hn = λ i.
    hm 0 0 (omega arith) (omega arith) i
    ∷ hm 0 1 (omega arith) (omega arith) i
    ∷ hm 0 2 (omega arith) (omega arith) i
    ∷ hm 0 3 (omega arith) (omega arith) i
    ∷ hm 1 0 (omega arith) (omega arith) i
    ∷ hm 1 1 (omega arith) (omega arith) i
    ∷ hm 1 2 (omega arith) (omega arith) i
    ∷ hm 1 3 (omega arith) (omega arith) i
    ∷ hn 0 0 (omega arith) (omega arith) i
    ∷ hn 0 1 (omega arith) (omega arith) i
    ∷ hn 0 2 (omega arith) (omega arith) i
    ∷ hn 0 3 (omega arith) (omega arith) i
    ∷ hn 1 0 (omega arith) (omega arith) i
    ∷ hn 1 1 (omega arith) (omega arith) i
    ∷ hn 1 2 (omega arith) (omega arith) i
    ∷ hn 1 3 (omega arith) (omega arith) i
    ∷ []

pub unmixed_bytes : (a b m n : ℕ) → AreUnmixed a m → AreUnmixed b n → bytes_of m n ≡ inv_mix_columns (bytes_of a b)
unmixed_bytes a b m n hm hn = lifted inv_mix_columns m n a b (unmixed_words a b m n hm hn)

pub whole_inverse_round : (lo hi a b m n k l : ℕ) → bytes_of a b ≡ inv_sub_bytes (inv_shift_rows (bytes_of lo hi)) → AreUnmixed a m → AreUnmixed b n
    → bytes_of (bit_xor m k) (bit_xor n l) ≡ IR (bytes_of lo hi) (bytes_of k l)
unfolding IR
whole_inverse_round lo hi a b m n k l same hm hn =
    bytes_of-xor m n k l
    ∙ ap (λ (v : List ℕ). xor_bytes v (bytes_of k l)) (unmixed_bytes a b m n hm hn ∙ ap inv_mix_columns same)

pub last_inverse_round : (lo hi a b k l : ℕ) → bytes_of a b ≡ inv_sub_bytes (inv_shift_rows (bytes_of lo hi))
    → bytes_of (bit_xor a k) (bit_xor b l) ≡ IRL (bytes_of lo hi) (bytes_of k l)
unfolding IRL
last_inverse_round lo hi a b k l same = bytes_of-xor a b k l ∙ ap (λ (v : List ℕ). xor_bytes v (bytes_of k l)) same
