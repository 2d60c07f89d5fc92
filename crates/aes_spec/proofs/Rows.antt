-- The gates on single bits, over all 256 rows.
use Rattle.std.proofs.Common.{◌≡◌, ℕ, zero, suc, ◌<◌, Bool, true, ◌&&◌, ◌==◌, List, [], ◌∷◌, length, slice_index, bit_xor, refl, sym, ◌∙◌, nat_lt, arith, inl, inr, ap, ◌⊎◌}
use Rattle.std.proofs.lemmas.Bool.{and_parts, eqb-true, ltb-true}
use Rattle.aes_spec.specs.Planes.{number_of}
use Rattle.aes_spec.specs.Gates.{sbox_gates}
use Rattle.aes_spec.specs.Field.{S}
use Rattle.aes_spec.proofs.Values.{box}
use Rattle.aes_spec.proofs.Tables.{S-table}

-- p holds of each list of n bits
abbrev pub all_rows : ℕ → (List ℕ → Bool) → Bool
all_rows zero p = p []
all_rows (suc n) p = all_rows n (λ xs. p (0 ∷ xs)) && all_rows n (λ xs. p (1 ∷ xs))

bit_cases : (x : ℕ) → x < 2 → (x ≡ 0) ⊎ (x ≡ 1)
bit_cases zero h = inl refl
bit_cases (suc zero) h = inr refl
bit_cases (suc (suc x)) h = absurd (omega arith)

pub all_rows_at : (n : ℕ) (p : List ℕ → Bool) → all_rows n p ≡ true → (xs : List ℕ) → length xs ≡ n → ((k : ℕ) → slice_index xs k < 2) → p xs ≡ true
all_rows_at zero p h [] len low = h
all_rows_at zero p h (x ∷ xs) len low = absurd (omega arith)
all_rows_at (suc n) p h [] len low = absurd (omega arith)
all_rows_at (suc n) p h (x ∷ xs) len low =
    let parts = and_parts (all_rows n (λ ys. p (0 ∷ ys))) (all_rows n (λ ys. p (1 ∷ ys))) h in
    let rest : length xs ≡ n = omega arith in
    elim (bit_cases x (low 0)) [
      | inl e ↦ rw e (all_rows_at n (λ ys. p (0 ∷ ys)) parts.0 xs rest (λ k. low (suc k)))
      | inr e ↦ rw e (all_rows_at n (λ ys. p (1 ∷ ys)) parts.1 xs rest (λ k. low (suc k)))
    ]

abbrev row : List ℕ → Bool
row xs = number_of (sbox_gates 1 xs) == bit_xor (slice_index box (number_of xs)) 0x63

rows_right : all_rows 8 row ≡ true
rows_right = refl

-- a number of n bits is below 2 ^ n, as a computed test
small_rows : all_rows 8 (λ xs. nat_lt (number_of xs) 256) ≡ true
small_rows = refl

pub gates-row : (xs : List ℕ) → length xs ≡ 8 → ((k : ℕ) → slice_index xs k < 2) → number_of (sbox_gates 1 xs) ≡ bit_xor (S (number_of xs)) 0x63
gates-row xs len low =
    let small : number_of xs < 256 = ltb-true (number_of xs) 256 (all_rows_at 8 (λ ys. nat_lt (number_of ys) 256) small_rows xs len low) in
    eqb-true (number_of (sbox_gates 1 xs)) (bit_xor (slice_index box (number_of xs)) 0x63) (all_rows_at 8 row rows_right xs len low)
    ∙ ap (λ s. bit_xor s 0x63) (sym (S-table (number_of xs) small))
