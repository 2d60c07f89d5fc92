-- The bytes of a block of four column words.
use Rattle.std.proofs.Common.{◌≡◌, ℕ, ◌/◌, ◌%◌, List, [], ◌∷◌, slice_index, bit_and, bit_xor, sym, ap, ◌∙◌}
use Rattle.std.proofs.lemmas.Nat.{xor_mod, and_mod}
use Rattle.aes_spec.specs.Bytes.{on_bytes, xor_bytes, and_bytes}
use Rattle.aes_spec.specs.Rounds.{block}
use Rattle.aes_spec.specs.Words.{word_byte}
use Rattle.aes_spec.proofs.Linear.{byte-xor}
use Rattle.softaes.specs.FourColumns.{columns_of}
use Rattle.softaes.proofs.BlockWords.{byte-and, first_byte}

pub columns_of-xor : (a b c d k l m n : ℕ) → columns_of (bit_xor a k) (bit_xor b l) (bit_xor c m) (bit_xor d n) ≡ xor_bytes (columns_of a b c d) (columns_of k l m n)
unfolding on_bytes
columns_of-xor a b c d k l m n = λ i.
    xor_mod a k 8 i
    ∷ byte-xor a k 1 i
    ∷ byte-xor a k 2 i
    ∷ byte-xor a k 3 i
    ∷ xor_mod b l 8 i
    ∷ byte-xor b l 1 i
    ∷ byte-xor b l 2 i
    ∷ byte-xor b l 3 i
    ∷ xor_mod c m 8 i
    ∷ byte-xor c m 1 i
    ∷ byte-xor c m 2 i
    ∷ byte-xor c m 3 i
    ∷ xor_mod d n 8 i
    ∷ byte-xor d n 1 i
    ∷ byte-xor d n 2 i
    ∷ byte-xor d n 3 i
    ∷ []

pub columns_of-and : (a b c d k l m n : ℕ) → columns_of (bit_and a k) (bit_and b l) (bit_and c m) (bit_and d n) ≡ and_bytes (columns_of a b c d) (columns_of k l m n)
unfolding on_bytes
columns_of-and a b c d k l m n = λ i.
    and_mod a k 8 i
    ∷ byte-and a k 1 i
    ∷ byte-and a k 2 i
    ∷ byte-and a k 3 i
    ∷ and_mod b l 8 i
    ∷ byte-and b l 1 i
    ∷ byte-and b l 2 i
    ∷ byte-and b l 3 i
    ∷ and_mod c m 8 i
    ∷ byte-and c m 1 i
    ∷ byte-and c m 2 i
    ∷ byte-and c m 3 i
    ∷ and_mod d n 8 i
    ∷ byte-and d n 1 i
    ∷ byte-and d n 2 i
    ∷ byte-and d n 3 i
    ∷ []

-- the same bytes by their places in the words
abbrev pub word_columns : ℕ → ℕ → ℕ → ℕ → List ℕ
word_columns a b c d = block (λ i. word_byte (slice_index (a ∷ b ∷ c ∷ d ∷ []) (i / 4)) (i % 4))

pub columns_of-word_columns : (a b c d : ℕ) → columns_of a b c d ≡ word_columns a b c d
columns_of-word_columns a b c d = λ i.
    first_byte a i
    ∷ word_byte a 1
    ∷ word_byte a 2
    ∷ word_byte a 3
    ∷ first_byte b i
    ∷ word_byte b 1
    ∷ word_byte b 2
    ∷ word_byte b 3
    ∷ first_byte c i
    ∷ word_byte c 1
    ∷ word_byte c 2
    ∷ word_byte c 3
    ∷ first_byte d i
    ∷ word_byte d 1
    ∷ word_byte d 2
    ∷ word_byte d 3
    ∷ []

-- what holds of the bytes by their places holds of the bytes
pub lifted : (f : List ℕ → List ℕ) (m0 m1 m2 m3 a b c d : ℕ) → word_columns m0 m1 m2 m3 ≡ f (word_columns a b c d) → columns_of m0 m1 m2 m3 ≡ f (columns_of a b c d)
lifted f m0 m1 m2 m3 a b c d h = columns_of-word_columns m0 m1 m2 m3 ∙ h ∙ ap f (sym (columns_of-word_columns a b c d))
