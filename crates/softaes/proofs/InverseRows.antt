-- InvShiftRows by bit places.
use Rattle.std.proofs.Common.{◌≡◌, ℕ, ◌^◌, ◌<◌, [], ◌∷◌, refl, arith}
use Rattle.aes_spec.specs.Rounds.{inv_shift_rows}
use Rattle.aes_spec.proofs.Circuits.{Word, input, mask, sum, value}
use Rattle.softaes.specs.Blocks.{bytes_of}
use Rattle.softaes.proofs.BlockWords.{word_bytes, lifted}
use Rattle.softaes.proofs.ShiftedRows.{next, moved_byte}
use Rattle.softaes.proofs.Swapped.{two}

abbrev turned : Word → Word → Word
turned a b =
    sum (sum (sum (mask a 0x0000_00ff_0000_00ff) (mask (next b a) 0x0000_ff00_0000_ff00)) (mask b 0x00ff_0000_00ff_0000)) (mask (next a b) 0xff00_0000_ff00_0000)

abbrev low : Word
low = turned (input 0) (input 1)

abbrev high : Word
high = turned (input 1) (input 0)

module _ (lo hi : ℕ) (hl : lo < 2 ^ 64) (hh : hi < 2 ^ 64) where
  shifted_words : word_bytes (value (two lo hi) low) (value (two lo hi) high) ≡ inv_shift_rows (word_bytes lo hi)
  shifted_words = λ i.
      moved_byte lo hi hl hh low 0 0 0 (omega arith) (omega arith) refl i
      ∷ moved_byte lo hi hl hh low 1 1 5 (omega arith) (omega arith) refl i
      ∷ moved_byte lo hi hl hh low 2 1 2 (omega arith) (omega arith) refl i
      ∷ moved_byte lo hi hl hh low 3 0 7 (omega arith) (omega arith) refl i
      ∷ moved_byte lo hi hl hh low 4 0 4 (omega arith) (omega arith) refl i
      ∷ moved_byte lo hi hl hh low 5 0 1 (omega arith) (omega arith) refl i
      ∷ moved_byte lo hi hl hh low 6 1 6 (omega arith) (omega arith) refl i
      ∷ moved_byte lo hi hl hh low 7 1 3 (omega arith) (omega arith) refl i
      ∷ moved_byte lo hi hl hh high 0 1 0 (omega arith) (omega arith) refl i
      ∷ moved_byte lo hi hl hh high 1 0 5 (omega arith) (omega arith) refl i
      ∷ moved_byte lo hi hl hh high 2 0 2 (omega arith) (omega arith) refl i
      ∷ moved_byte lo hi hl hh high 3 1 7 (omega arith) (omega arith) refl i
      ∷ moved_byte lo hi hl hh high 4 1 4 (omega arith) (omega arith) refl i
      ∷ moved_byte lo hi hl hh high 5 1 1 (omega arith) (omega arith) refl i
      ∷ moved_byte lo hi hl hh high 6 0 6 (omega arith) (omega arith) refl i
      ∷ moved_byte lo hi hl hh high 7 0 3 (omega arith) (omega arith) refl i
      ∷ []

  pub inv_shifted_bytes : bytes_of (value (two lo hi) low) (value (two lo hi) high) ≡ inv_shift_rows (bytes_of lo hi)
  inv_shifted_bytes = lifted inv_shift_rows (value (two lo hi) low) (value (two lo hi) high) lo hi shifted_words
