-- Every word of the tables is that of its rule, and so are its bytes.
use Rattle.std.proofs.Common.{◌≡◌, ℕ, ◌*◌, ◌<◌, Bool, true, ◌==◌, List, slice_index, refl, sym, ap, ◌∙◌}
use Rattle.std.proofs.lemmas.Bool.{eqb-true}
use Rattle.std.specs.Int.{rotate_left, w32}
use Rattle.aes_spec.specs.Columns.{entry, mix_row, inv_mix_row}
use Rattle.aes_spec.specs.Field.{carryless, remainder, mul, S, IS}
use Rattle.aes_spec.specs.Words.{word_byte}
use Rattle.aes_spec.proofs.Tables.{all_below, all_below_at, same_below, S-table, IS-table, S-lt, IS-lt}
use Rattle.aes_spec.proofs.Values.{box, sources}
use Rattle.softaes.specs.Tables.{column_word, forward_word, inverse_word}
use Rattle.softaes.specs.declared.unprotected.tables.TheConstants.{FORWARD_0, FORWARD_1, FORWARD_2, FORWARD_3, INVERSE_0, INVERSE_1, INVERSE_2, INVERSE_3, SBOX, INVERSE_SBOX}

-- word x of a table by the matrix with this first row, over a box of 256 bytes
abbrev ruled : List ℕ → List ℕ → ℕ → ℕ → ℕ
ruled first values r x = rotate_left w32 (column_word first (slice_index values x)) (8 * r)

abbrev is_right : List ℕ → List ℕ → List ℕ → ℕ → Bool
is_right table first values r = all_below (λ x. slice_index table x == ruled first values r x) 256

forward_right_0 : is_right FORWARD_0 mix_row box 0 ≡ true
unfolding carryless remainder mul
forward_right_0 = refl

pub forward_0 : (x : ℕ) → x < 256 → slice_index FORWARD_0 x ≡ forward_word 0 x
forward_0 x h =
    same_below (slice_index FORWARD_0) (ruled mix_row box 0) 256 forward_right_0 x h
    ∙ ap (λ s. rotate_left w32 (column_word mix_row s) (8 * 0)) (sym (S-table x h))

forward_right_1 : is_right FORWARD_1 mix_row box 1 ≡ true
unfolding carryless remainder mul
forward_right_1 = refl

pub forward_1 : (x : ℕ) → x < 256 → slice_index FORWARD_1 x ≡ forward_word 1 x
forward_1 x h =
    same_below (slice_index FORWARD_1) (ruled mix_row box 1) 256 forward_right_1 x h
    ∙ ap (λ s. rotate_left w32 (column_word mix_row s) (8 * 1)) (sym (S-table x h))

forward_right_2 : is_right FORWARD_2 mix_row box 2 ≡ true
unfolding carryless remainder mul
forward_right_2 = refl

pub forward_2 : (x : ℕ) → x < 256 → slice_index FORWARD_2 x ≡ forward_word 2 x
forward_2 x h =
    same_below (slice_index FORWARD_2) (ruled mix_row box 2) 256 forward_right_2 x h
    ∙ ap (λ s. rotate_left w32 (column_word mix_row s) (8 * 2)) (sym (S-table x h))

forward_right_3 : is_right FORWARD_3 mix_row box 3 ≡ true
unfolding carryless remainder mul
forward_right_3 = refl

pub forward_3 : (x : ℕ) → x < 256 → slice_index FORWARD_3 x ≡ forward_word 3 x
forward_3 x h =
    same_below (slice_index FORWARD_3) (ruled mix_row box 3) 256 forward_right_3 x h
    ∙ ap (λ s. rotate_left w32 (column_word mix_row s) (8 * 3)) (sym (S-table x h))

inverse_right_0 : is_right INVERSE_0 inv_mix_row sources 0 ≡ true
unfolding carryless remainder mul
inverse_right_0 = refl

pub inverse_0 : (x : ℕ) → x < 256 → slice_index INVERSE_0 x ≡ inverse_word 0 x
inverse_0 x h =
    same_below (slice_index INVERSE_0) (ruled inv_mix_row sources 0) 256 inverse_right_0 x h
    ∙ ap (λ s. rotate_left w32 (column_word inv_mix_row s) (8 * 0)) (sym (IS-table x h))

inverse_right_1 : is_right INVERSE_1 inv_mix_row sources 1 ≡ true
unfolding carryless remainder mul
inverse_right_1 = refl

pub inverse_1 : (x : ℕ) → x < 256 → slice_index INVERSE_1 x ≡ inverse_word 1 x
inverse_1 x h =
    same_below (slice_index INVERSE_1) (ruled inv_mix_row sources 1) 256 inverse_right_1 x h
    ∙ ap (λ s. rotate_left w32 (column_word inv_mix_row s) (8 * 1)) (sym (IS-table x h))

inverse_right_2 : is_right INVERSE_2 inv_mix_row sources 2 ≡ true
unfolding carryless remainder mul
inverse_right_2 = refl

pub inverse_2 : (x : ℕ) → x < 256 → slice_index INVERSE_2 x ≡ inverse_word 2 x
inverse_2 x h =
    same_below (slice_index INVERSE_2) (ruled inv_mix_row sources 2) 256 inverse_right_2 x h
    ∙ ap (λ s. rotate_left w32 (column_word inv_mix_row s) (8 * 2)) (sym (IS-table x h))

inverse_right_3 : is_right INVERSE_3 inv_mix_row sources 3 ≡ true
unfolding carryless remainder mul
inverse_right_3 = refl

pub inverse_3 : (x : ℕ) → x < 256 → slice_index INVERSE_3 x ≡ inverse_word 3 x
inverse_3 x h =
    same_below (slice_index INVERSE_3) (ruled inv_mix_row sources 3) 256 inverse_right_3 x h
    ∙ ap (λ s. rotate_left w32 (column_word inv_mix_row s) (8 * 3)) (sym (IS-table x h))

pub SBOX-S : (x : ℕ) → x < 256 → slice_index SBOX x ≡ S x
SBOX-S x h = same_below (slice_index SBOX) (slice_index box) 256 refl x h ∙ sym (S-table x h)

pub INVERSE_SBOX-IS : (x : ℕ) → x < 256 → slice_index INVERSE_SBOX x ≡ IS x
INVERSE_SBOX-IS x h = same_below (slice_index INVERSE_SBOX) (slice_index sources) 256 refl x h ∙ sym (IS-table x h)

-- ---- the bytes of a rule

abbrev turned_byte : List ℕ → ℕ → ℕ → ℕ → Bool
turned_byte first k r s = word_byte (rotate_left w32 (column_word first s) (8 * k)) r == mul (entry first r k) s

abbrev turned_bytes : List ℕ → Bool
turned_bytes first = all_below (λ k. all_below (λ r. all_below (turned_byte first k r) 256) 4) 4

forward_bytes : turned_bytes mix_row ≡ true
unfolding carryless remainder mul
forward_bytes = refl

inverse_bytes : turned_bytes inv_mix_row ≡ true
unfolding carryless remainder mul
inverse_bytes = refl

byte_of : (first : List ℕ) (k r s : ℕ) → turned_bytes first ≡ true → k < 4 → r < 4 → s < 256
    → word_byte (rotate_left w32 (column_word first s) (8 * k)) r ≡ mul (entry first r k) s
byte_of first k r s test hk hr hs =
    eqb-true (word_byte (rotate_left w32 (column_word first s) (8 * k)) r) (mul (entry first r k) s)
    (all_below_at (turned_byte first k r) 256 s
    (all_below_at (λ r. all_below (turned_byte first k r) 256) 4 r
    (all_below_at (λ k. all_below (λ r. all_below (turned_byte first k r) 256) 4) 4 k test hk) hr) hs)

-- byte r of what x in row k adds
pub forward_byte : (k r x : ℕ) → k < 4 → r < 4 → x < 256 → word_byte (forward_word k x) r ≡ mul (entry mix_row r k) (S x)
forward_byte k r x hk hr hx = byte_of mix_row k r (S x) forward_bytes hk hr (S-lt x hx)

pub inverse_byte : (k r x : ℕ) → k < 4 → r < 4 → x < 256 → word_byte (inverse_word k x) r ≡ mul (entry inv_mix_row r k) (IS x)
inverse_byte k r x hk hr hx = byte_of inv_mix_row k r (IS x) inverse_bytes hk hr (IS-lt x hx)
