-- The S-box and its inverse as tables of 256 bytes, and tests over all bytes.
use Rattle.std.proofs.Common.{◌≡◌, ℕ, zero, suc, ◌<◌, Bool, true, ◌&&◌, ◌==◌, slice_index, map, nat_lt, bit_xor, w8, refl, arith, inl, inr, ◌∙◌, ap, sym}
use Rattle.std.proofs.lemmas.Bool.{and_parts, cases_lt, eqb-true, ltb-true}
use Rattle.std.proofs.lemmas.List.FromFn.{fill_by_all}
use Rattle.std.specs.Prelude.{position, unwrap_or}
use Rattle.std.specs.List.{range_with_len}
use Rattle.std.specs.Int.{rotate_left}
use Rattle.aes_spec.specs.Field.{carryless, remainder, mul, inverse_up_to, inv, S, IS, affine}
use Rattle.aes_spec.proofs.Values.{inverses, box, sources}

-- p holds of each number below n
abbrev pub all_below : (ℕ → Bool) → ℕ → Bool
all_below p zero = true
all_below p (suc n) = p n && all_below p n

-- what a computed test says of each number
pub all_below_at : (p : ℕ → Bool) (n k : ℕ) → all_below p n ≡ true → k < n → p k ≡ true
all_below_at p zero k h lt = absurd (omega arith)
all_below_at p (suc n) k h lt =
    let parts = and_parts (p n) (all_below p n) h in
    elim (cases_lt k n) [
      | inl below ↦ all_below_at p n k parts.1 below
      | inr top ↦
          let e : k ≡ n = omega arith in
          rw e parts.0
    ]

-- two functions that agree at each number below n
pub same_below : (f g : ℕ → ℕ) (n : ℕ) → all_below (λ k. f k == g k) n ≡ true → (k : ℕ) → k < n → f k ≡ g k
same_below f g n h k lt = eqb-true (f k) (g k) (all_below_at (λ k. f k == g k) n k h lt)

inverses_right : all_below (λ a. inv a == slice_index inverses a) 256 ≡ true
unfolding carryless remainder mul inverse_up_to inv
inverses_right = refl

pub inv-table : (a : ℕ) → a < 256 → inv a ≡ slice_index inverses a
inv-table = same_below inv (slice_index inverses) 256 inverses_right

box_right : all_below (λ a. affine (slice_index inverses a) == slice_index box a) 256 ≡ true
unfolding affine
box_right = refl

pub S-table : (a : ℕ) → a < 256 → S a ≡ slice_index box a
unfolding S
S-table a h = ap affine (inv-table a h) ∙ same_below (λ a. affine (slice_index inverses a)) (slice_index box) 256 box_right a h

box-all : box ≡ map S (range_with_len 0 256)
box-all = fill_by_all S box 256 0 refl (λ k h. sym (S-table k h))

sources_right : all_below (λ b. unwrap_or (position (λ s. s == b) box) 0 == slice_index sources b) 256 ≡ true
sources_right = refl

pub IS-table : (b : ℕ) → b < 256 → IS b ≡ slice_index sources b
unfolding IS
IS-table b h =
    ap (λ xs. unwrap_or (position (λ s. s == b) xs) 0) (sym box-all)
    ∙ same_below (λ b. unwrap_or (position (λ s. s == b) box) 0) (slice_index sources) 256 sources_right b h

there_right : all_below (λ b. slice_index box (slice_index sources b) == b) 256 ≡ true
there_right = refl

back_right : all_below (λ b. slice_index sources (slice_index box b) == b) 256 ≡ true
back_right = refl

small_right : all_below (λ b. nat_lt (slice_index sources b) 256 && nat_lt (slice_index box b) 256) 256 ≡ true
small_right = refl

pub S-IS : (b : ℕ) → b < 256 → S (IS b) ≡ b
S-IS b h =
    let small : slice_index sources b < 256 =
    ltb-true (slice_index sources b) 256 (and_parts (nat_lt (slice_index sources b) 256) (nat_lt (slice_index box b) 256) (all_below_at (λ b. nat_lt (slice_index sources b) 256 && nat_lt (slice_index box b) 256) 256 b small_right h)).0 in
    ap S (IS-table b h) ∙ S-table (slice_index sources b) small ∙ same_below (λ b. slice_index box (slice_index sources b)) (λ b. b) 256 there_right b h

pub IS-S : (b : ℕ) → b < 256 → IS (S b) ≡ b
IS-S b h =
    let small : slice_index box b < 256 =
    ltb-true (slice_index box b) 256 (and_parts (nat_lt (slice_index sources b) 256) (nat_lt (slice_index box b) 256) (all_below_at (λ b. nat_lt (slice_index sources b) 256 && nat_lt (slice_index box b) 256) 256 b small_right h)).1 in
    ap IS (S-table b h) ∙ IS-table (slice_index box b) small ∙ same_below (λ b. slice_index sources (slice_index box b)) (λ b. b) 256 back_right b h

pub S-lt : (b : ℕ) → b < 256 → S b < 256
S-lt b h =
    let small : slice_index box b < 256 =
    ltb-true (slice_index box b) 256 (and_parts (nat_lt (slice_index sources b) 256) (nat_lt (slice_index box b) 256) (all_below_at (λ b. nat_lt (slice_index sources b) 256 && nat_lt (slice_index box b) 256) 256 b small_right h)).1 in
    rw (S-table b h) small

pub IS-lt : (b : ℕ) → b < 256 → IS b < 256
IS-lt b h =
    let small : slice_index sources b < 256 =
    ltb-true (slice_index sources b) 256 (and_parts (nat_lt (slice_index sources b) 256) (nat_lt (slice_index box b) 256) (all_below_at (λ b. nat_lt (slice_index sources b) 256 && nat_lt (slice_index box b) 256) 256 b small_right h)).0 in
    rw (IS-table b h) small

-- the affine map as the code has it
abbrev pub rotated_sum : ℕ → ℕ
rotated_sum b = bit_xor (bit_xor (bit_xor (bit_xor (bit_xor b (rotate_left w8 b 1)) (rotate_left w8 b 2)) (rotate_left w8 b 3)) (rotate_left w8 b 4)) 0x63

rotated_right : all_below (λ b. rotated_sum b == affine b) 256 ≡ true
unfolding affine
rotated_right = refl

pub affine-rotated : (b : ℕ) → b < 256 → rotated_sum b ≡ affine b
affine-rotated = same_below rotated_sum affine 256 rotated_right
