-- The steps of the rounds on blocks of 16 bytes, and how the inverse steps undo them.
use Rattle.std.proofs.Common.{◌≡◌, ℕ, ◌+◌, ◌*◌, ◌/◌, ◌%◌, ◌<◌, List, [], ◌∷◌, length, slice_index, refl, sym, ap, ◌∙◌, arith}
use Rattle.std.proofs.lemmas.List.FromFn.{fill_by_all}
use Rattle.aes_spec.specs.Bytes.{on_bytes, xor_bytes}
use Rattle.aes_spec.specs.Columns.{entry, mixed, inv_mix_row}
use Rattle.aes_spec.specs.Field.{S}
use Rattle.aes_spec.specs.Rounds.{block, sub_bytes, shift_rows, mix_columns, inv_sub_bytes, inv_shift_rows, inv_mix_columns, R}
use Rattle.aes_spec.proofs.AreBytes.{AreBytes, are_bytes, bytes-xor_bytes}
use Rattle.aes_spec.proofs.MulLinear.{row_of-xor}
use Rattle.aes_spec.proofs.Tables.{IS-S, S-lt}
use Rattle.aes_spec.proofs.Unmixed.{unmixed, mixed-lt}

-- 16 bytes
abbrev pub IsBlock : List ℕ → Type 0
IsBlock a = AreBytes 16 a

-- a block by its entries
pub entries : (a : List ℕ) → length a ≡ 16 → a ≡ block (slice_index a)
entries a long = fill_by_all (slice_index a) a 16 0 long (λ k h. refl)

pub is_block : (f : ℕ → ℕ) → ((i : ℕ) → i < 16 → f i < 256) → IsBlock (block f)
is_block = are_bytes 16

-- ---- the steps make blocks

pub block-shift_rows : (a : List ℕ) → IsBlock a → IsBlock (shift_rows a)
block-shift_rows a h = is_block (λ i. slice_index a (4 * ((i / 4 + i % 4) % 4) + i % 4)) (λ i low. h.small (4 * ((i / 4 + i % 4) % 4) + i % 4))

pub block-mix_columns : (a : List ℕ) → IsBlock a → IsBlock (mix_columns a)
block-mix_columns a h =
    is_block (λ i. mixed (i % 4) (λ k. slice_index a (4 * (i / 4) + k)))
    (λ i low. mixed-lt (i % 4) (λ k. slice_index a (4 * (i / 4) + k)) (omega arith) (λ k hk. h.small (4 * (i / 4) + k)))

pub block-sub_bytes : (a : List ℕ) → IsBlock a → IsBlock (sub_bytes a)
block-sub_bytes a h =
    let e : sub_bytes a ≡ block (λ i. S (slice_index a i)) = ap sub_bytes (entries a h.long) in
    rw e (is_block (λ i. S (slice_index a i)) (λ i low. S-lt (slice_index a i) (h.small i)))

pub block-R : (a k : List ℕ) → IsBlock a → IsBlock k → IsBlock (R a k)
unfolding R
block-R a k ha hk =
    bytes-xor_bytes 16 (mix_columns (shift_rows (sub_bytes a))) k
    (block-mix_columns (shift_rows (sub_bytes a)) (block-shift_rows (sub_bytes a) (block-sub_bytes a ha))) hk

-- ---- the inverse steps

rows_back : (f : ℕ → ℕ) → inv_shift_rows (shift_rows (block f)) ≡ block f
rows_back f = refl

pub inv_shift_rows-shift_rows : (a : List ℕ) → IsBlock a → inv_shift_rows (shift_rows a) ≡ a
inv_shift_rows-shift_rows a h =
    let e : a ≡ block (slice_index a) = entries a h.long in
    ap (λ (v : List ℕ). inv_shift_rows (shift_rows v)) e ∙ rows_back (slice_index a) ∙ sym e

bytes_back : (f : ℕ → ℕ) → ((i : ℕ) → i < 16 → f i < 256) → inv_sub_bytes (sub_bytes (block f)) ≡ block f
bytes_back f small = λ i.
    IS-S (f 0) (small 0 (omega arith)) i
    ∷ IS-S (f 1) (small 1 (omega arith)) i
    ∷ IS-S (f 2) (small 2 (omega arith)) i
    ∷ IS-S (f 3) (small 3 (omega arith)) i
    ∷ IS-S (f 4) (small 4 (omega arith)) i
    ∷ IS-S (f 5) (small 5 (omega arith)) i
    ∷ IS-S (f 6) (small 6 (omega arith)) i
    ∷ IS-S (f 7) (small 7 (omega arith)) i
    ∷ IS-S (f 8) (small 8 (omega arith)) i
    ∷ IS-S (f 9) (small 9 (omega arith)) i
    ∷ IS-S (f 10) (small 10 (omega arith)) i
    ∷ IS-S (f 11) (small 11 (omega arith)) i
    ∷ IS-S (f 12) (small 12 (omega arith)) i
    ∷ IS-S (f 13) (small 13 (omega arith)) i
    ∷ IS-S (f 14) (small 14 (omega arith)) i
    ∷ IS-S (f 15) (small 15 (omega arith)) i
    ∷ []

pub inv_sub_bytes-sub_bytes : (a : List ℕ) → IsBlock a → inv_sub_bytes (sub_bytes a) ≡ a
inv_sub_bytes-sub_bytes a h =
    let e : a ≡ block (slice_index a) = entries a h.long in
    ap (λ (v : List ℕ). inv_sub_bytes (sub_bytes v)) e ∙ bytes_back (slice_index a) (λ i low. h.small i) ∙ sym e

columns_back : (f : ℕ → ℕ) → ((i : ℕ) → i < 16 → f i < 256) → inv_mix_columns (mix_columns (block f)) ≡ block f
columns_back f small =
    let column = λ (c r : ℕ) (hc : c < 4) (hr : r < 4). unmixed r (λ k. f (4 * c + k)) hr (λ k hk. small (4 * c + k) (omega arith)) in
    λ i.
    column 0 0 (omega arith) (omega arith) i
    ∷ column 0 1 (omega arith) (omega arith) i
    ∷ column 0 2 (omega arith) (omega arith) i
    ∷ column 0 3 (omega arith) (omega arith) i
    ∷ column 1 0 (omega arith) (omega arith) i
    ∷ column 1 1 (omega arith) (omega arith) i
    ∷ column 1 2 (omega arith) (omega arith) i
    ∷ column 1 3 (omega arith) (omega arith) i
    ∷ column 2 0 (omega arith) (omega arith) i
    ∷ column 2 1 (omega arith) (omega arith) i
    ∷ column 2 2 (omega arith) (omega arith) i
    ∷ column 2 3 (omega arith) (omega arith) i
    ∷ column 3 0 (omega arith) (omega arith) i
    ∷ column 3 1 (omega arith) (omega arith) i
    ∷ column 3 2 (omega arith) (omega arith) i
    ∷ column 3 3 (omega arith) (omega arith) i
    ∷ []

pub inv_mix_columns-mix_columns : (a : List ℕ) → IsBlock a → inv_mix_columns (mix_columns a) ≡ a
inv_mix_columns-mix_columns a h =
    let e : a ≡ block (slice_index a) = entries a h.long in
    ap (λ (v : List ℕ). inv_mix_columns (mix_columns v)) e ∙ columns_back (slice_index a) (λ i low. h.small i) ∙ sym e

sum_mixed : (f g : ℕ → ℕ) → inv_mix_columns (xor_bytes (block f) (block g)) ≡ xor_bytes (inv_mix_columns (block f)) (inv_mix_columns (block g))
unfolding on_bytes
sum_mixed f g =
    let column = λ (c r : ℕ). row_of-xor (entry inv_mix_row r) (λ k. f (4 * c + k)) (λ k. g (4 * c + k)) 4 in
    λ i.
    column 0 0 i
    ∷ column 0 1 i
    ∷ column 0 2 i
    ∷ column 0 3 i
    ∷ column 1 0 i
    ∷ column 1 1 i
    ∷ column 1 2 i
    ∷ column 1 3 i
    ∷ column 2 0 i
    ∷ column 2 1 i
    ∷ column 2 2 i
    ∷ column 2 3 i
    ∷ column 3 0 i
    ∷ column 3 1 i
    ∷ column 3 2 i
    ∷ column 3 3 i
    ∷ []

-- InvMixColumns of a sum
pub inv_mix_columns-xor_bytes : (a k : List ℕ) → length a ≡ 16 → length k ≡ 16 → inv_mix_columns (xor_bytes a k) ≡ xor_bytes (inv_mix_columns a) (inv_mix_columns k)
inv_mix_columns-xor_bytes a k la lk =
    let ea : a ≡ block (slice_index a) = entries a la in
    let ek : k ≡ block (slice_index k) = entries k lk in
    (λ i. inv_mix_columns (xor_bytes (ea i) (ek i))) ∙ sum_mixed (slice_index a) (slice_index k)
    ∙ (λ i. xor_bytes (inv_mix_columns (sym ea i)) (inv_mix_columns (sym ek i)))
