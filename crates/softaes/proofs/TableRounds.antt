-- The rounds of a block of four column words.
use Rattle.std.proofs.Common.{◌≡◌, ℕ, ◌<◌, List, [], ◌∷◌, bit_xor, ap, ◌∙◌, arith}
use Rattle.aes_spec.specs.Bytes.{xor_bytes}
use Rattle.aes_spec.specs.Columns.{mixed, inv_mixed}
use Rattle.aes_spec.specs.Field.{S, IS}
use Rattle.aes_spec.specs.Rounds.{R, RL, IR, IRL, sub_bytes, shift_rows, mix_columns, inv_sub_bytes, inv_shift_rows, inv_mix_columns}
use Rattle.aes_spec.specs.Words.{word_byte}
use Rattle.softaes.specs.FourColumns.{columns_of}
use Rattle.softaes.specs.Tables.{four}
use Rattle.softaes.proofs.ColumnWords.{columns_of-xor, word_columns, lifted}

-- m is the substituted and mixed column of these words
abbrev pub IsColumn : ℕ → ℕ → ℕ → ℕ → ℕ → Type 0
IsColumn m w0 w1 w2 w3 = (r : ℕ) → r < 4 → word_byte m r ≡ mixed r (four (S (word_byte w0 0)) (S (word_byte w1 1)) (S (word_byte w2 2)) (S (word_byte w3 3)))

-- m is the substituted column of these words
abbrev pub IsLastColumn : ℕ → ℕ → ℕ → ℕ → ℕ → Type 0
IsLastColumn m w0 w1 w2 w3 = (r : ℕ) → r < 4 → word_byte m r ≡ four (S (word_byte w0 0)) (S (word_byte w1 1)) (S (word_byte w2 2)) (S (word_byte w3 3)) r

-- m is the column of these words through the inverse S-box and InvMixColumns
abbrev pub IsInvColumn : ℕ → ℕ → ℕ → ℕ → ℕ → Type 0
IsInvColumn m w0 w1 w2 w3 = (r : ℕ) → r < 4 → word_byte m r ≡ inv_mixed r (four (IS (word_byte w0 0)) (IS (word_byte w1 1)) (IS (word_byte w2 2)) (IS (word_byte w3 3)))

-- m is the column of these words through the inverse S-box
abbrev pub IsLastInvColumn : ℕ → ℕ → ℕ → ℕ → ℕ → Type 0
IsLastInvColumn m w0 w1 w2 w3 = (r : ℕ) → r < 4 → word_byte m r ≡ four (IS (word_byte w0 0)) (IS (word_byte w1 1)) (IS (word_byte w2 2)) (IS (word_byte w3 3)) r

round_words : (a b c d m0 m1 m2 m3 : ℕ) → IsColumn m0 a b c d → IsColumn m1 b c d a → IsColumn m2 c d a b → IsColumn m3 d a b c
    → word_columns m0 m1 m2 m3 ≡ mix_columns (shift_rows (sub_bytes (word_columns a b c d)))
round_words a b c d m0 m1 m2 m3 h0 h1 h2 h3 = λ i.
    h0 0 (omega arith) i
    ∷ h0 1 (omega arith) i
    ∷ h0 2 (omega arith) i
    ∷ h0 3 (omega arith) i
    ∷ h1 0 (omega arith) i
    ∷ h1 1 (omega arith) i
    ∷ h1 2 (omega arith) i
    ∷ h1 3 (omega arith) i
    ∷ h2 0 (omega arith) i
    ∷ h2 1 (omega arith) i
    ∷ h2 2 (omega arith) i
    ∷ h2 3 (omega arith) i
    ∷ h3 0 (omega arith) i
    ∷ h3 1 (omega arith) i
    ∷ h3 2 (omega arith) i
    ∷ h3 3 (omega arith) i
    ∷ []

pub round : (a b c d m0 m1 m2 m3 k0 k1 k2 k3 : ℕ) → IsColumn m0 a b c d → IsColumn m1 b c d a → IsColumn m2 c d a b → IsColumn m3 d a b c
    → columns_of (bit_xor m0 k0) (bit_xor m1 k1) (bit_xor m2 k2) (bit_xor m3 k3) ≡ R (columns_of a b c d) (columns_of k0 k1 k2 k3)
unfolding R
round a b c d m0 m1 m2 m3 k0 k1 k2 k3 h0 h1 h2 h3 =
    columns_of-xor m0 m1 m2 m3 k0 k1 k2 k3
    ∙ ap (λ (v : List ℕ). xor_bytes v (columns_of k0 k1 k2 k3))
    (lifted (λ (v : List ℕ). mix_columns (shift_rows (sub_bytes v))) m0 m1 m2 m3 a b c d (round_words a b c d m0 m1 m2 m3 h0 h1 h2 h3))

last_round_words : (a b c d m0 m1 m2 m3 : ℕ) → IsLastColumn m0 a b c d → IsLastColumn m1 b c d a → IsLastColumn m2 c d a b → IsLastColumn m3 d a b c
    → word_columns m0 m1 m2 m3 ≡ shift_rows (sub_bytes (word_columns a b c d))
last_round_words a b c d m0 m1 m2 m3 h0 h1 h2 h3 = λ i.
    h0 0 (omega arith) i
    ∷ h0 1 (omega arith) i
    ∷ h0 2 (omega arith) i
    ∷ h0 3 (omega arith) i
    ∷ h1 0 (omega arith) i
    ∷ h1 1 (omega arith) i
    ∷ h1 2 (omega arith) i
    ∷ h1 3 (omega arith) i
    ∷ h2 0 (omega arith) i
    ∷ h2 1 (omega arith) i
    ∷ h2 2 (omega arith) i
    ∷ h2 3 (omega arith) i
    ∷ h3 0 (omega arith) i
    ∷ h3 1 (omega arith) i
    ∷ h3 2 (omega arith) i
    ∷ h3 3 (omega arith) i
    ∷ []

pub last_round : (a b c d m0 m1 m2 m3 k0 k1 k2 k3 : ℕ) → IsLastColumn m0 a b c d → IsLastColumn m1 b c d a → IsLastColumn m2 c d a b → IsLastColumn m3 d a b c
    → columns_of (bit_xor m0 k0) (bit_xor m1 k1) (bit_xor m2 k2) (bit_xor m3 k3) ≡ RL (columns_of a b c d) (columns_of k0 k1 k2 k3)
unfolding RL
last_round a b c d m0 m1 m2 m3 k0 k1 k2 k3 h0 h1 h2 h3 =
    columns_of-xor m0 m1 m2 m3 k0 k1 k2 k3
    ∙ ap (λ (v : List ℕ). xor_bytes v (columns_of k0 k1 k2 k3))
    (lifted (λ (v : List ℕ). shift_rows (sub_bytes v)) m0 m1 m2 m3 a b c d (last_round_words a b c d m0 m1 m2 m3 h0 h1 h2 h3))

inverse_round_words : (a b c d m0 m1 m2 m3 : ℕ) → IsInvColumn m0 a d c b → IsInvColumn m1 b a d c → IsInvColumn m2 c b a d → IsInvColumn m3 d c b a
    → word_columns m0 m1 m2 m3 ≡ inv_mix_columns (inv_sub_bytes (inv_shift_rows (word_columns a b c d)))
inverse_round_words a b c d m0 m1 m2 m3 h0 h1 h2 h3 = λ i.
    h0 0 (omega arith) i
    ∷ h0 1 (omega arith) i
    ∷ h0 2 (omega arith) i
    ∷ h0 3 (omega arith) i
    ∷ h1 0 (omega arith) i
    ∷ h1 1 (omega arith) i
    ∷ h1 2 (omega arith) i
    ∷ h1 3 (omega arith) i
    ∷ h2 0 (omega arith) i
    ∷ h2 1 (omega arith) i
    ∷ h2 2 (omega arith) i
    ∷ h2 3 (omega arith) i
    ∷ h3 0 (omega arith) i
    ∷ h3 1 (omega arith) i
    ∷ h3 2 (omega arith) i
    ∷ h3 3 (omega arith) i
    ∷ []

pub inverse_round : (a b c d m0 m1 m2 m3 k0 k1 k2 k3 : ℕ) → IsInvColumn m0 a d c b → IsInvColumn m1 b a d c → IsInvColumn m2 c b a d → IsInvColumn m3 d c b a
    → columns_of (bit_xor m0 k0) (bit_xor m1 k1) (bit_xor m2 k2) (bit_xor m3 k3) ≡ IR (columns_of a b c d) (columns_of k0 k1 k2 k3)
unfolding IR
inverse_round a b c d m0 m1 m2 m3 k0 k1 k2 k3 h0 h1 h2 h3 =
    columns_of-xor m0 m1 m2 m3 k0 k1 k2 k3
    ∙ ap (λ (v : List ℕ). xor_bytes v (columns_of k0 k1 k2 k3))
    (lifted (λ (v : List ℕ). inv_mix_columns (inv_sub_bytes (inv_shift_rows v))) m0 m1 m2 m3 a b c d (inverse_round_words a b c d m0 m1 m2 m3 h0 h1 h2 h3))

last_inverse_round_words : (a b c d m0 m1 m2 m3 : ℕ) → IsLastInvColumn m0 a d c b → IsLastInvColumn m1 b a d c → IsLastInvColumn m2 c b a d → IsLastInvColumn m3 d c b a
    → word_columns m0 m1 m2 m3 ≡ inv_sub_bytes (inv_shift_rows (word_columns a b c d))
last_inverse_round_words a b c d m0 m1 m2 m3 h0 h1 h2 h3 = λ i.
    h0 0 (omega arith) i
    ∷ h0 1 (omega arith) i
    ∷ h0 2 (omega arith) i
    ∷ h0 3 (omega arith) i
    ∷ h1 0 (omega arith) i
    ∷ h1 1 (omega arith) i
    ∷ h1 2 (omega arith) i
    ∷ h1 3 (omega arith) i
    ∷ h2 0 (omega arith) i
    ∷ h2 1 (omega arith) i
    ∷ h2 2 (omega arith) i
    ∷ h2 3 (omega arith) i
    ∷ h3 0 (omega arith) i
    ∷ h3 1 (omega arith) i
    ∷ h3 2 (omega arith) i
    ∷ h3 3 (omega arith) i
    ∷ []

pub last_inverse_round : (a b c d m0 m1 m2 m3 k0 k1 k2 k3 : ℕ) → IsLastInvColumn m0 a d c b → IsLastInvColumn m1 b a d c → IsLastInvColumn m2 c b a d → IsLastInvColumn m3 d c b a
    → columns_of (bit_xor m0 k0) (bit_xor m1 k1) (bit_xor m2 k2) (bit_xor m3 k3) ≡ IRL (columns_of a b c d) (columns_of k0 k1 k2 k3)
unfolding IRL
last_inverse_round a b c d m0 m1 m2 m3 k0 k1 k2 k3 h0 h1 h2 h3 =
    columns_of-xor m0 m1 m2 m3 k0 k1 k2 k3
    ∙ ap (λ (v : List ℕ). xor_bytes v (columns_of k0 k1 k2 k3))
    (lifted (λ (v : List ℕ). inv_sub_bytes (inv_shift_rows v)) m0 m1 m2 m3 a b c d (last_inverse_round_words a b c d m0 m1 m2 m3 h0 h1 h2 h3))

-- InvMixColumns of the columns
unmixed_words : (a b c d m0 m1 m2 m3 : ℕ)
    → ((r : ℕ) → r < 4 → word_byte m0 r ≡ inv_mixed r (λ k. word_byte a k)) → ((r : ℕ) → r < 4 → word_byte m1 r ≡ inv_mixed r (λ k. word_byte b k))
    → ((r : ℕ) → r < 4 → word_byte m2 r ≡ inv_mixed r (λ k. word_byte c k)) → ((r : ℕ) → r < 4 → word_byte m3 r ≡ inv_mixed r (λ k. word_byte d k))
    → word_columns m0 m1 m2 m3 ≡ inv_mix_columns (word_columns a b c d)
unmixed_words a b c d m0 m1 m2 m3 h0 h1 h2 h3 = λ i.
    h0 0 (omega arith) i
    ∷ h0 1 (omega arith) i
    ∷ h0 2 (omega arith) i
    ∷ h0 3 (omega arith) i
    ∷ h1 0 (omega arith) i
    ∷ h1 1 (omega arith) i
    ∷ h1 2 (omega arith) i
    ∷ h1 3 (omega arith) i
    ∷ h2 0 (omega arith) i
    ∷ h2 1 (omega arith) i
    ∷ h2 2 (omega arith) i
    ∷ h2 3 (omega arith) i
    ∷ h3 0 (omega arith) i
    ∷ h3 1 (omega arith) i
    ∷ h3 2 (omega arith) i
    ∷ h3 3 (omega arith) i
    ∷ []

pub unmixed_columns : (a b c d m0 m1 m2 m3 : ℕ)
    → ((r : ℕ) → r < 4 → word_byte m0 r ≡ inv_mixed r (λ k. word_byte a k)) → ((r : ℕ) → r < 4 → word_byte m1 r ≡ inv_mixed r (λ k. word_byte b k))
    → ((r : ℕ) → r < 4 → word_byte m2 r ≡ inv_mixed r (λ k. word_byte c k)) → ((r : ℕ) → r < 4 → word_byte m3 r ≡ inv_mixed r (λ k. word_byte d k))
    → columns_of m0 m1 m2 m3 ≡ inv_mix_columns (columns_of a b c d)
unmixed_columns a b c d m0 m1 m2 m3 h0 h1 h2 h3 = lifted inv_mix_columns m0 m1 m2 m3 a b c d (unmixed_words a b c d m0 m1 m2 m3 h0 h1 h2 h3)
