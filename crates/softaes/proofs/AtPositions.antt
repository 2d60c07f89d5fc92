-- The gates at one bit position, from what each step of the code ensures.
use Rattle.std.proofs.Common.{◌≡◌, ℕ, ◌-◌, ◌^◌, ◌<◌, List, length, slice_index, bit_xor, ap, ◌∙◌}
use Rattle.std.proofs.lemmas.List.{length-map}
use Rattle.std.proofs.lemmas.Nat.Bits.{bit_at-lt}
use Rattle.std.specs.Int.{bit_at}
use Rattle.aes_spec.specs.Planes.{bits, number_of, byte_at}
use Rattle.aes_spec.specs.Field.{S}
use Rattle.aes_spec.specs.Gates.{forms, norm, inverted, products, bottom, sbox_gates}
use Rattle.softaes.proofs.GatePlanes.{plane-bits, bits-forms, bits-norm, bits-products, bits-bottom}
use Rattle.softaes.proofs.GateWords.{AreWords, words-forms, words-norm, bits-inverted}
use Rattle.aes_spec.proofs.Rows.{gates-row}

pub bits-sbox_gates : (i : ℕ) (p : List ℕ) → AreWords p → i < 64 → bits i (sbox_gates (2 ^ 64 - 1) p) ≡ sbox_gates 1 (bits i p)
bits-sbox_gates i p h low =
    let halves : List ℕ = forms p in
    let n : List ℕ = norm halves in
    let v : List ℕ = inverted (2 ^ 64 - 1) n in
    let eh : bits i halves ≡ forms (bits i p) = bits-forms i p in
    let en : bits i n ≡ norm (forms (bits i p)) = bits-norm i halves ∙ ap norm eh in
    let ev : bits i v ≡ inverted 1 (norm (forms (bits i p))) = bits-inverted i n (words-norm halves (words-forms p h)) low ∙ ap (inverted 1) en in
    bits-bottom i (products halves v) ∙ ap bottom (bits-products i halves v ∙ (λ j. products (eh j) (ev j)))

pub sbox_gates-row : (p : List ℕ) → length p ≡ 8 → AreWords p → (i : ℕ) → i < 64 → byte_at (sbox_gates (2 ^ 64 - 1) p) i ≡ bit_xor (S (byte_at p i)) 0x63
sbox_gates-row p len h i low =
    ap number_of (bits-sbox_gates i p h low)
    ∙ gates-row (bits i p) (length-map p (λ w. bit_at w i) ∙ len) (λ k. rw (plane-bits i p k) (bit_at-lt (slice_index p k) i))

-- the five steps of the code, one after the other
pub sbox_gates-steps : (p h n v m r : List ℕ) → h ≡ forms p → n ≡ norm h → v ≡ inverted (2 ^ 64 - 1) n → m ≡ products h v → r ≡ bottom m
    → r ≡ sbox_gates (2 ^ 64 - 1) p
sbox_gates-steps p h n v m r eh en ev em er =
    let inner : v ≡ inverted (2 ^ 64 - 1) (norm (forms p)) = ev ∙ ap (inverted (2 ^ 64 - 1)) (en ∙ ap norm eh) in
    er ∙ ap bottom (em ∙ (λ j. products (eh j) (inner j)))
