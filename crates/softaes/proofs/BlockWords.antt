-- The bytes of a block of two words.
use Rattle.std.proofs.Common.{◌≡◌, ℕ, ◌-◌, ◌*◌, ◌/◌, ◌%◌, ◌^◌, List, [], ◌∷◌, bit_and, bit_xor, nat_lt, if◌then◌else◌, ap, ◌∙◌, arith, sym}
use Rattle.std.proofs.lemmas.Nat.{xor_mod, and_mod, and_shr}
use Rattle.aes_spec.specs.Bytes.{on_bytes, xor_bytes, and_bytes}
use Rattle.aes_spec.specs.Rounds.{block}
use Rattle.aes_spec.specs.Words.{word_byte}
use Rattle.aes_spec.proofs.Linear.{byte-xor}
use Rattle.softaes.specs.Blocks.{bytes_of}

pub byte-and : (a b j : ℕ) → word_byte (bit_and a b) j ≡ bit_and (word_byte a j) (word_byte b j)
byte-and a b j = ap (λ x. x % 2 ^ 8) (and_shr a b (8 * j)) ∙ and_mod (a / 2 ^ (8 * j)) (b / 2 ^ (8 * j)) 8

pub bytes_of-xor : (a b c d : ℕ) → bytes_of (bit_xor a c) (bit_xor b d) ≡ xor_bytes (bytes_of a b) (bytes_of c d)
unfolding on_bytes
bytes_of-xor a b c d = λ i.
    xor_mod a c 8 i
    ∷ byte-xor a c 1 i
    ∷ byte-xor a c 2 i
    ∷ byte-xor a c 3 i
    ∷ byte-xor a c 4 i
    ∷ byte-xor a c 5 i
    ∷ byte-xor a c 6 i
    ∷ byte-xor a c 7 i
    ∷ xor_mod b d 8 i
    ∷ byte-xor b d 1 i
    ∷ byte-xor b d 2 i
    ∷ byte-xor b d 3 i
    ∷ byte-xor b d 4 i
    ∷ byte-xor b d 5 i
    ∷ byte-xor b d 6 i
    ∷ byte-xor b d 7 i
    ∷ []

pub bytes_of-and : (a b c d : ℕ) → bytes_of (bit_and a c) (bit_and b d) ≡ and_bytes (bytes_of a b) (bytes_of c d)
unfolding on_bytes
bytes_of-and a b c d = λ i.
    and_mod a c 8 i
    ∷ byte-and a c 1 i
    ∷ byte-and a c 2 i
    ∷ byte-and a c 3 i
    ∷ byte-and a c 4 i
    ∷ byte-and a c 5 i
    ∷ byte-and a c 6 i
    ∷ byte-and a c 7 i
    ∷ and_mod b d 8 i
    ∷ byte-and b d 1 i
    ∷ byte-and b d 2 i
    ∷ byte-and b d 3 i
    ∷ byte-and b d 4 i
    ∷ byte-and b d 5 i
    ∷ byte-and b d 6 i
    ∷ byte-and b d 7 i
    ∷ []

-- the same bytes by their places in the words
abbrev pub word_bytes : ℕ → ℕ → List ℕ
word_bytes lo hi = block (λ i. if nat_lt i 8 then word_byte lo i else word_byte hi (i - 8))

pub first_byte : (x : ℕ) → x % 2 ^ 8 ≡ word_byte x 0
first_byte x = omega arith

pub bytes_of-word_bytes : (lo hi : ℕ) → bytes_of lo hi ≡ word_bytes lo hi
bytes_of-word_bytes lo hi = λ i.
    first_byte lo i
    ∷ word_byte lo 1
    ∷ word_byte lo 2
    ∷ word_byte lo 3
    ∷ word_byte lo 4
    ∷ word_byte lo 5
    ∷ word_byte lo 6
    ∷ word_byte lo 7
    ∷ first_byte hi i
    ∷ word_byte hi 1
    ∷ word_byte hi 2
    ∷ word_byte hi 3
    ∷ word_byte hi 4
    ∷ word_byte hi 5
    ∷ word_byte hi 6
    ∷ word_byte hi 7
    ∷ []

-- what holds of the bytes by their places holds of the bytes
pub lifted : (f : List ℕ → List ℕ) (a b c d : ℕ) → word_bytes a b ≡ f (word_bytes c d) → bytes_of a b ≡ f (bytes_of c d)
lifted f a b c d h = bytes_of-word_bytes a b ∙ h ∙ ap f (sym (bytes_of-word_bytes c d))
