-- ShiftRows by bit places.
use Rattle.std.proofs.Common.{◌≡◌, ℕ, ◌+◌, ◌*◌, ◌^◌, ◌<◌, Bool, true, [], ◌∷◌, refl, sym, ◌∙◌, arith}
use Rattle.std.specs.Int.{bit_at}
use Rattle.aes_spec.proofs.Tables.{all_below, all_below_at}
use Rattle.aes_spec.specs.Words.{word_byte}
use Rattle.aes_spec.specs.Planes.{number_of}
use Rattle.aes_spec.proofs.Circuits.{Word, input, shl, shr, mask, sum, value, places}
use Rattle.aes_spec.proofs.BitPlaces.{is_place, one_moved}
use Rattle.aes_spec.proofs.Bytes.{byte-bits}
use Rattle.softaes.proofs.Swapped.{two, two-lt}
use Rattle.aes_spec.specs.Rounds.{shift_rows}
use Rattle.softaes.specs.Blocks.{bytes_of}
use Rattle.softaes.proofs.BlockWords.{word_bytes, lifted}

abbrev pub byte_test : Word → ℕ → ℕ → ℕ → ℕ → Bool
byte_test w k v m j = is_place (places w (8 * k + j)) (v * 64 + (8 * m + j))

-- a word's columns moved by one, with the first column of the other word
abbrev pub next : Word → Word → Word
next a b = sum (shr a 32) (shl b 32)

abbrev pub turned : Word → Word → Word
turned a b =
    sum (sum (sum (mask a 0x0000_00ff_0000_00ff) (mask (next a b) 0x0000_ff00_0000_ff00)) (mask b 0x00ff_0000_00ff_0000)) (mask (next b a) 0xff00_0000_ff00_0000)

abbrev pub low : Word
low = turned (input 0) (input 1)

abbrev pub high : Word
high = turned (input 1) (input 0)

module _ (lo hi : ℕ) (hl : lo < 2 ^ 64) (hh : hi < 2 ^ 64) where
  moved_bit : (w : Word) (k v m : ℕ) → k < 8 → m < 8 → all_below (byte_test w k v m) 8 ≡ true → (j : ℕ) → j < 8
      → bit_at (value (two lo hi) w) (8 * k + j) ≡ bit_at (two lo hi v) (8 * m + j)
  moved_bit w k v m hk hm test j hj =
      one_moved (two lo hi) (two-lt lo hi hl hh) w (8 * k + j) v (8 * m + j) (omega arith) (omega arith) (all_below_at (byte_test w k v m) 8 j test hj)

  -- byte k is byte m of input v
  pub moved_byte : (w : Word) (k v m : ℕ) → k < 8 → m < 8 → all_below (byte_test w k v m) 8 ≡ true → word_byte (value (two lo hi) w) k ≡ word_byte (two lo hi v) m
  moved_byte w k v m hk hm test =
      byte-bits (value (two lo hi) w) k
      ∙ (λ i. number_of (moved_bit w k v m hk hm test 7 (omega arith) i ∷ moved_bit w k v m hk hm test 6 (omega arith) i ∷ moved_bit w k v m hk hm test 5 (omega arith) i ∷ moved_bit w k v m hk hm test 4 (omega arith) i ∷ moved_bit w k v m hk hm test 3 (omega arith) i ∷ moved_bit w k v m hk hm test 2 (omega arith) i ∷ moved_bit w k v m hk hm test 1 (omega arith) i ∷ moved_bit w k v m hk hm test 0 (omega arith) i ∷ []))
      ∙ sym (byte-bits (two lo hi v) m)

  shifted_words : word_bytes (value (two lo hi) low) (value (two lo hi) high) ≡ shift_rows (word_bytes lo hi)
  shifted_words = λ i.
      moved_byte low 0 0 0 (omega arith) (omega arith) refl i
      ∷ moved_byte low 1 0 5 (omega arith) (omega arith) refl i
      ∷ moved_byte low 2 1 2 (omega arith) (omega arith) refl i
      ∷ moved_byte low 3 1 7 (omega arith) (omega arith) refl i
      ∷ moved_byte low 4 0 4 (omega arith) (omega arith) refl i
      ∷ moved_byte low 5 1 1 (omega arith) (omega arith) refl i
      ∷ moved_byte low 6 1 6 (omega arith) (omega arith) refl i
      ∷ moved_byte low 7 0 3 (omega arith) (omega arith) refl i
      ∷ moved_byte high 0 1 0 (omega arith) (omega arith) refl i
      ∷ moved_byte high 1 1 5 (omega arith) (omega arith) refl i
      ∷ moved_byte high 2 0 2 (omega arith) (omega arith) refl i
      ∷ moved_byte high 3 0 7 (omega arith) (omega arith) refl i
      ∷ moved_byte high 4 1 4 (omega arith) (omega arith) refl i
      ∷ moved_byte high 5 0 1 (omega arith) (omega arith) refl i
      ∷ moved_byte high 6 0 6 (omega arith) (omega arith) refl i
      ∷ moved_byte high 7 1 3 (omega arith) (omega arith) refl i
      ∷ []

  pub shifted_bytes : bytes_of (value (two lo hi) low) (value (two lo hi) high) ≡ shift_rows (bytes_of lo hi)
  shifted_bytes = lifted shift_rows (value (two lo hi) low) (value (two lo hi) high) lo hi shifted_words
