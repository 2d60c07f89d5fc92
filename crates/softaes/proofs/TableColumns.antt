-- The columns that the tables make.
use Rattle.std.proofs.Common.{◌≡◌, ℕ, zero, suc, ◌*◌, ◌/◌, ◌^◌, ◌<◌, List, [], ◌∷◌, slice_index, get_or, bit_and, bit_xor, refl, sym, ap, ◌∙◌, arith}
use Rattle.std.proofs.lemmas.Nat.{xor_comm, and_mask, pow_pos, le_bytes_4}
use Rattle.std.proofs.Math.Nat.{mod-lt}
use Rattle.std.specs.Int.{to_le_bytes, from_le_bytes, w32}
use Rattle.std.specs.Int.Bits.{xor_zero_r}
use Rattle.aes_spec.specs.Columns.{entry, row_of, mix_row, mixed, inv_mix_row, inv_mixed}
use Rattle.aes_spec.specs.Field.{mul, S, IS}
use Rattle.aes_spec.specs.Words.{word_byte}
use Rattle.aes_spec.proofs.Linear.{byte-xor}
use Rattle.aes_spec.proofs.Tables.{IS-S, S-lt, IS-lt}
use Rattle.softaes.specs.Tables.{four}
use Rattle.softaes.proofs.BlockWords.{first_byte}
use Rattle.softaes.proofs.TableWords.{forward_0, forward_1, forward_2, forward_3, inverse_0, inverse_1, inverse_2, inverse_3, forward_byte, inverse_byte, SBOX-S, INVERSE_SBOX-IS}
use Rattle.softaes.specs.declared.unprotected.tables.TheConstants.{FORWARD_0, FORWARD_1, FORWARD_2, FORWARD_3, INVERSE_0, INVERSE_1, INVERSE_2, INVERSE_3, SBOX, INVERSE_SBOX}

turned : (a b c d : ℕ) → bit_xor (bit_xor (bit_xor a b) c) d ≡ bit_xor d (bit_xor c (bit_xor b (bit_xor a 0)))
turned a b c d =
    xor_comm (bit_xor (bit_xor a b) c) d
    ∙ ap (bit_xor d) (xor_comm (bit_xor a b) c ∙ ap (bit_xor c) (xor_comm a b ∙ ap (bit_xor b) (sym (xor_zero_r a))))

-- byte r of a sum of four words
summed : (first : List ℕ) (r t0 t1 t2 t3 s0 s1 s2 s3 : ℕ)
    → word_byte t0 r ≡ mul (entry first r 0) s0 → word_byte t1 r ≡ mul (entry first r 1) s1
    → word_byte t2 r ≡ mul (entry first r 2) s2 → word_byte t3 r ≡ mul (entry first r 3) s3
    → word_byte (bit_xor (bit_xor (bit_xor t0 t1) t2) t3) r ≡ row_of first r (four s0 s1 s2 s3)
summed first r t0 t1 t2 t3 s0 s1 s2 s3 e0 e1 e2 e3 =
    byte-xor (bit_xor (bit_xor t0 t1) t2) t3 r
    ∙ ap (λ x. bit_xor x (word_byte t3 r)) (byte-xor (bit_xor t0 t1) t2 r ∙ ap (λ x. bit_xor x (word_byte t2 r)) (byte-xor t0 t1 r))
    ∙ (λ i. bit_xor (bit_xor (bit_xor (e0 i) (e1 i)) (e2 i)) (e3 i))
    ∙ turned (mul (entry first r 0) s0) (mul (entry first r 1) s1) (mul (entry first r 2) s2) (mul (entry first r 3) s3)

pub byte-lt : (w k : ℕ) → word_byte w k < 256
byte-lt w k = mod-lt (w / 2 ^ (8 * k)) (pow_pos 8)

-- the indices of the look-ups
pub index_0 : (w : ℕ) → bit_and w 255 ≡ word_byte w 0
index_0 w = and_mask w 8 ∙ omega arith

pub index_1 : (w : ℕ) → bit_and (w / 2 ^ 8) 255 ≡ word_byte w 1
index_1 w = and_mask (w / 2 ^ 8) 8

pub index_2 : (w : ℕ) → bit_and (w / 2 ^ 16) 255 ≡ word_byte w 2
index_2 w = and_mask (w / 2 ^ 16) 8

pub index_3 : (w : ℕ) → bit_and (w / 2 ^ 24) 255 ≡ word_byte w 3
index_3 w = and_mask (w / 2 ^ 24) 8

pub column_entries : (w0 w1 w2 w3 r : ℕ) → r < 4
    → word_byte (bit_xor (bit_xor (bit_xor (slice_index FORWARD_0 (bit_and w0 255)) (slice_index FORWARD_1 (bit_and (w1 / 2 ^ 8) 255))) (slice_index FORWARD_2 (bit_and (w2 / 2 ^ 16) 255))) (slice_index FORWARD_3 (bit_and (w3 / 2 ^ 24) 255))) r
    ≡ mixed r (four (S (word_byte w0 0)) (S (word_byte w1 1)) (S (word_byte w2 2)) (S (word_byte w3 3)))
column_entries w0 w1 w2 w3 r hr =
    let x0 : ℕ = word_byte w0 0 in
    let e0 : word_byte (slice_index FORWARD_0 (bit_and w0 255)) r ≡ mul (entry mix_row r 0) (S x0) =
    ap (λ x. word_byte (slice_index FORWARD_0 x) r) (index_0 w0) ∙ ap (λ t. word_byte t r) (forward_0 x0 (byte-lt w0 0)) ∙ forward_byte 0 r x0 (omega arith) hr (byte-lt w0 0) in
    let x1 : ℕ = word_byte w1 1 in
    let e1 : word_byte (slice_index FORWARD_1 (bit_and (w1 / 2 ^ 8) 255)) r ≡ mul (entry mix_row r 1) (S x1) =
    ap (λ x. word_byte (slice_index FORWARD_1 x) r) (index_1 w1) ∙ ap (λ t. word_byte t r) (forward_1 x1 (byte-lt w1 1)) ∙ forward_byte 1 r x1 (omega arith) hr (byte-lt w1 1) in
    let x2 : ℕ = word_byte w2 2 in
    let e2 : word_byte (slice_index FORWARD_2 (bit_and (w2 / 2 ^ 16) 255)) r ≡ mul (entry mix_row r 2) (S x2) =
    ap (λ x. word_byte (slice_index FORWARD_2 x) r) (index_2 w2) ∙ ap (λ t. word_byte t r) (forward_2 x2 (byte-lt w2 2)) ∙ forward_byte 2 r x2 (omega arith) hr (byte-lt w2 2) in
    let x3 : ℕ = word_byte w3 3 in
    let e3 : word_byte (slice_index FORWARD_3 (bit_and (w3 / 2 ^ 24) 255)) r ≡ mul (entry mix_row r 3) (S x3) =
    ap (λ x. word_byte (slice_index FORWARD_3 x) r) (index_3 w3) ∙ ap (λ t. word_byte t r) (forward_3 x3 (byte-lt w3 3)) ∙ forward_byte 3 r x3 (omega arith) hr (byte-lt w3 3) in
    summed mix_row r (slice_index FORWARD_0 (bit_and w0 255)) (slice_index FORWARD_1 (bit_and (w1 / 2 ^ 8) 255)) (slice_index FORWARD_2 (bit_and (w2 / 2 ^ 16) 255)) (slice_index FORWARD_3 (bit_and (w3 / 2 ^ 24) 255))
    (S x0) (S x1) (S x2) (S x3) e0 e1 e2 e3

pub inv_column_entries : (w0 w1 w2 w3 r : ℕ) → r < 4
    → word_byte (bit_xor (bit_xor (bit_xor (slice_index INVERSE_0 (bit_and w0 255)) (slice_index INVERSE_1 (bit_and (w1 / 2 ^ 8) 255))) (slice_index INVERSE_2 (bit_and (w2 / 2 ^ 16) 255))) (slice_index INVERSE_3 (bit_and (w3 / 2 ^ 24) 255))) r
    ≡ inv_mixed r (four (IS (word_byte w0 0)) (IS (word_byte w1 1)) (IS (word_byte w2 2)) (IS (word_byte w3 3)))
inv_column_entries w0 w1 w2 w3 r hr =
    let x0 : ℕ = word_byte w0 0 in
    let e0 : word_byte (slice_index INVERSE_0 (bit_and w0 255)) r ≡ mul (entry inv_mix_row r 0) (IS x0) =
    ap (λ x. word_byte (slice_index INVERSE_0 x) r) (index_0 w0) ∙ ap (λ t. word_byte t r) (inverse_0 x0 (byte-lt w0 0)) ∙ inverse_byte 0 r x0 (omega arith) hr (byte-lt w0 0) in
    let x1 : ℕ = word_byte w1 1 in
    let e1 : word_byte (slice_index INVERSE_1 (bit_and (w1 / 2 ^ 8) 255)) r ≡ mul (entry inv_mix_row r 1) (IS x1) =
    ap (λ x. word_byte (slice_index INVERSE_1 x) r) (index_1 w1) ∙ ap (λ t. word_byte t r) (inverse_1 x1 (byte-lt w1 1)) ∙ inverse_byte 1 r x1 (omega arith) hr (byte-lt w1 1) in
    let x2 : ℕ = word_byte w2 2 in
    let e2 : word_byte (slice_index INVERSE_2 (bit_and (w2 / 2 ^ 16) 255)) r ≡ mul (entry inv_mix_row r 2) (IS x2) =
    ap (λ x. word_byte (slice_index INVERSE_2 x) r) (index_2 w2) ∙ ap (λ t. word_byte t r) (inverse_2 x2 (byte-lt w2 2)) ∙ inverse_byte 2 r x2 (omega arith) hr (byte-lt w2 2) in
    let x3 : ℕ = word_byte w3 3 in
    let e3 : word_byte (slice_index INVERSE_3 (bit_and (w3 / 2 ^ 24) 255)) r ≡ mul (entry inv_mix_row r 3) (IS x3) =
    ap (λ x. word_byte (slice_index INVERSE_3 x) r) (index_3 w3) ∙ ap (λ t. word_byte t r) (inverse_3 x3 (byte-lt w3 3)) ∙ inverse_byte 3 r x3 (omega arith) hr (byte-lt w3 3) in
    summed inv_mix_row r (slice_index INVERSE_0 (bit_and w0 255)) (slice_index INVERSE_1 (bit_and (w1 / 2 ^ 8) 255)) (slice_index INVERSE_2 (bit_and (w2 / 2 ^ 16) 255)) (slice_index INVERSE_3 (bit_and (w3 / 2 ^ 24) 255))
    (IS x0) (IS x1) (IS x2) (IS x3) e0 e1 e2 e3

-- InvMixColumns of a column, through the S-box and the inverse tables
pub inv_mix_entries : (w r : ℕ) → r < 4
    → word_byte (bit_xor (bit_xor (bit_xor (slice_index INVERSE_0 (slice_index SBOX (bit_and w 255))) (slice_index INVERSE_1 (slice_index SBOX (bit_and (w / 2 ^ 8) 255)))) (slice_index INVERSE_2 (slice_index SBOX (bit_and (w / 2 ^ 16) 255)))) (slice_index INVERSE_3 (slice_index SBOX (bit_and (w / 2 ^ 24) 255)))) r
    ≡ inv_mixed r (λ k. word_byte w k)
inv_mix_entries w r hr =
    let x0 : ℕ = word_byte w 0 in
    let h0 : x0 < 256 = byte-lt w 0 in
    let b0 : slice_index SBOX (bit_and w 255) ≡ S x0 = ap (slice_index SBOX) (index_0 w) ∙ SBOX-S x0 h0 in
    let e0 : word_byte (slice_index INVERSE_0 (slice_index SBOX (bit_and w 255))) r ≡ mul (entry inv_mix_row r 0) x0 =
    ap (λ x. word_byte (slice_index INVERSE_0 x) r) b0 ∙ ap (λ t. word_byte t r) (inverse_0 (S x0) (S-lt x0 h0))
    ∙ inverse_byte 0 r (S x0) (omega arith) hr (S-lt x0 h0) ∙ ap (mul (entry inv_mix_row r 0)) (IS-S x0 h0) in
    let x1 : ℕ = word_byte w 1 in
    let h1 : x1 < 256 = byte-lt w 1 in
    let b1 : slice_index SBOX (bit_and (w / 2 ^ 8) 255) ≡ S x1 = ap (slice_index SBOX) (index_1 w) ∙ SBOX-S x1 h1 in
    let e1 : word_byte (slice_index INVERSE_1 (slice_index SBOX (bit_and (w / 2 ^ 8) 255))) r ≡ mul (entry inv_mix_row r 1) x1 =
    ap (λ x. word_byte (slice_index INVERSE_1 x) r) b1 ∙ ap (λ t. word_byte t r) (inverse_1 (S x1) (S-lt x1 h1))
    ∙ inverse_byte 1 r (S x1) (omega arith) hr (S-lt x1 h1) ∙ ap (mul (entry inv_mix_row r 1)) (IS-S x1 h1) in
    let x2 : ℕ = word_byte w 2 in
    let h2 : x2 < 256 = byte-lt w 2 in
    let b2 : slice_index SBOX (bit_and (w / 2 ^ 16) 255) ≡ S x2 = ap (slice_index SBOX) (index_2 w) ∙ SBOX-S x2 h2 in
    let e2 : word_byte (slice_index INVERSE_2 (slice_index SBOX (bit_and (w / 2 ^ 16) 255))) r ≡ mul (entry inv_mix_row r 2) x2 =
    ap (λ x. word_byte (slice_index INVERSE_2 x) r) b2 ∙ ap (λ t. word_byte t r) (inverse_2 (S x2) (S-lt x2 h2))
    ∙ inverse_byte 2 r (S x2) (omega arith) hr (S-lt x2 h2) ∙ ap (mul (entry inv_mix_row r 2)) (IS-S x2 h2) in
    let x3 : ℕ = word_byte w 3 in
    let h3 : x3 < 256 = byte-lt w 3 in
    let b3 : slice_index SBOX (bit_and (w / 2 ^ 24) 255) ≡ S x3 = ap (slice_index SBOX) (index_3 w) ∙ SBOX-S x3 h3 in
    let e3 : word_byte (slice_index INVERSE_3 (slice_index SBOX (bit_and (w / 2 ^ 24) 255))) r ≡ mul (entry inv_mix_row r 3) x3 =
    ap (λ x. word_byte (slice_index INVERSE_3 x) r) b3 ∙ ap (λ t. word_byte t r) (inverse_3 (S x3) (S-lt x3 h3))
    ∙ inverse_byte 3 r (S x3) (omega arith) hr (S-lt x3 h3) ∙ ap (mul (entry inv_mix_row r 3)) (IS-S x3 h3) in
    summed inv_mix_row r (slice_index INVERSE_0 (slice_index SBOX (bit_and w 255))) (slice_index INVERSE_1 (slice_index SBOX (bit_and (w / 2 ^ 8) 255))) (slice_index INVERSE_2 (slice_index SBOX (bit_and (w / 2 ^ 16) 255))) (slice_index INVERSE_3 (slice_index SBOX (bit_and (w / 2 ^ 24) 255)))
    x0 x1 x2 x3 e0 e1 e2 e3

-- ---- words of four substituted bytes

four_small : (a b c d : ℕ) → a < 256 → b < 256 → c < 256 → d < 256 → (i : ℕ) → get_or (a ∷ b ∷ c ∷ d ∷ []) i 0 < 256
four_small a b c d ha hb hc hd zero = ha
four_small a b c d ha hb hc hd (suc zero) = hb
four_small a b c d ha hb hc hd (suc (suc zero)) = hc
four_small a b c d ha hb hc hd (suc (suc (suc zero))) = hd
four_small a b c d ha hb hc hd (suc (suc (suc (suc i)))) = omega arith

-- the bytes of a word of four bytes
bytes_of_four : (a b c d n : ℕ) → a < 256 → b < 256 → c < 256 → d < 256 → n ≡ from_le_bytes w32 (a ∷ b ∷ c ∷ d ∷ []) → to_le_bytes w32 n ≡ a ∷ b ∷ c ∷ d ∷ []
bytes_of_four a b c d n ha hb hc hd e = le_bytes_4 (a ∷ b ∷ c ∷ d ∷ []) n refl (four_small a b c d ha hb hc hd) e

pub boxed : (x0 x1 x2 x3 n : ℕ) → x0 < 256 → x1 < 256 → x2 < 256 → x3 < 256
    → n ≡ from_le_bytes w32 (slice_index SBOX x0 ∷ slice_index SBOX x1 ∷ slice_index SBOX x2 ∷ slice_index SBOX x3 ∷ [])
    → to_le_bytes w32 n ≡ S x0 ∷ S x1 ∷ S x2 ∷ S x3 ∷ []
boxed x0 x1 x2 x3 n h0 h1 h2 h3 e =
    bytes_of_four (S x0) (S x1) (S x2) (S x3) n (S-lt x0 h0) (S-lt x1 h1) (S-lt x2 h2) (S-lt x3 h3)
    (e ∙ (λ i. from_le_bytes w32 (SBOX-S x0 h0 i ∷ SBOX-S x1 h1 i ∷ SBOX-S x2 h2 i ∷ SBOX-S x3 h3 i ∷ [])))

pub inverse_boxed : (x0 x1 x2 x3 n : ℕ) → x0 < 256 → x1 < 256 → x2 < 256 → x3 < 256
    → n ≡ from_le_bytes w32 (slice_index INVERSE_SBOX x0 ∷ slice_index INVERSE_SBOX x1 ∷ slice_index INVERSE_SBOX x2 ∷ slice_index INVERSE_SBOX x3 ∷ [])
    → to_le_bytes w32 n ≡ IS x0 ∷ IS x1 ∷ IS x2 ∷ IS x3 ∷ []
inverse_boxed x0 x1 x2 x3 n h0 h1 h2 h3 e =
    bytes_of_four (IS x0) (IS x1) (IS x2) (IS x3) n (IS-lt x0 h0) (IS-lt x1 h1) (IS-lt x2 h2) (IS-lt x3 h3)
    (e ∙ (λ i. from_le_bytes w32 (INVERSE_SBOX-IS x0 h0 i ∷ INVERSE_SBOX-IS x1 h1 i ∷ INVERSE_SBOX-IS x2 h2 i ∷ INVERSE_SBOX-IS x3 h3 i ∷ [])))

-- a word's bytes by their index
byte_at_index : (n a b c d : ℕ) → to_le_bytes w32 n ≡ a ∷ b ∷ c ∷ d ∷ [] → (r : ℕ) → r < 4 → word_byte n r ≡ four a b c d r
byte_at_index n a b c d e zero h = sym (first_byte n) ∙ ap (λ (v : List ℕ). slice_index v 0) e
byte_at_index n a b c d e (suc zero) h = ap (λ (v : List ℕ). slice_index v 1) e
byte_at_index n a b c d e (suc (suc zero)) h = ap (λ (v : List ℕ). slice_index v 2) e
byte_at_index n a b c d e (suc (suc (suc zero))) h = ap (λ (v : List ℕ). slice_index v 3) e
byte_at_index n a b c d e (suc (suc (suc (suc r)))) h = absurd (omega arith)

pub last_column_entries : (w0 w1 w2 w3 n : ℕ)
    → n ≡ from_le_bytes w32 (slice_index SBOX (bit_and w0 255) ∷ slice_index SBOX (bit_and (w1 / 2 ^ 8) 255) ∷ slice_index SBOX (bit_and (w2 / 2 ^ 16) 255) ∷ slice_index SBOX (bit_and (w3 / 2 ^ 24) 255) ∷ [])
    → (r : ℕ) → r < 4 → word_byte n r ≡ four (S (word_byte w0 0)) (S (word_byte w1 1)) (S (word_byte w2 2)) (S (word_byte w3 3)) r
last_column_entries w0 w1 w2 w3 n e =
    byte_at_index n (S (word_byte w0 0)) (S (word_byte w1 1)) (S (word_byte w2 2)) (S (word_byte w3 3))
    (boxed (word_byte w0 0) (word_byte w1 1) (word_byte w2 2) (word_byte w3 3) n (byte-lt w0 0) (byte-lt w1 1) (byte-lt w2 2) (byte-lt w3 3)
    (e ∙ (λ i. from_le_bytes w32 (slice_index SBOX (index_0 w0 i) ∷ slice_index SBOX (index_1 w1 i) ∷ slice_index SBOX (index_2 w2 i) ∷ slice_index SBOX (index_3 w3 i) ∷ []))))

pub last_inv_column_entries : (w0 w1 w2 w3 n : ℕ)
    → n ≡ from_le_bytes w32 (slice_index INVERSE_SBOX (bit_and w0 255) ∷ slice_index INVERSE_SBOX (bit_and (w1 / 2 ^ 8) 255) ∷ slice_index INVERSE_SBOX (bit_and (w2 / 2 ^ 16) 255) ∷ slice_index INVERSE_SBOX (bit_and (w3 / 2 ^ 24) 255) ∷ [])
    → (r : ℕ) → r < 4 → word_byte n r ≡ four (IS (word_byte w0 0)) (IS (word_byte w1 1)) (IS (word_byte w2 2)) (IS (word_byte w3 3)) r
last_inv_column_entries w0 w1 w2 w3 n e =
    byte_at_index n (IS (word_byte w0 0)) (IS (word_byte w1 1)) (IS (word_byte w2 2)) (IS (word_byte w3 3))
    (inverse_boxed (word_byte w0 0) (word_byte w1 1) (word_byte w2 2) (word_byte w3 3) n (byte-lt w0 0) (byte-lt w1 1) (byte-lt w2 2) (byte-lt w3 3)
    (e ∙ (λ i. from_le_bytes w32 (slice_index INVERSE_SBOX (index_0 w0 i) ∷ slice_index INVERSE_SBOX (index_1 w1 i) ∷ slice_index INVERSE_SBOX (index_2 w2 i) ∷ slice_index INVERSE_SBOX (index_3 w3 i) ∷ []))))
