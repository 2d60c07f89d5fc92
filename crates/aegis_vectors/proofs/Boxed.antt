-- The updates with the S-box as a table, which are cheap to compute. They are those of the definitions at every
-- state of bytes, which a test tells.
use Rattle.std.proofs.Common.{◌≡◌, ℕ, zero, suc, Bool, true, ◌&&◌, List, [], ◌∷◌, map, fold, slice_index, nat_lt, refl, ap, ◌∙◌}
use Rattle.std.proofs.lemmas.Bool.{and_parts, ltb-true}
use Rattle.aes_spec.specs.Bytes.{xor_bytes}
use Rattle.aes_spec.specs.Field.{S}
use Rattle.aes_spec.specs.Rounds.{R, add_round_key, mix_columns, shift_rows}
use Rattle.aes_spec.proofs.Tables.{S-table}
use Rattle.aes_spec.proofs.Values.{box}
use Rattle.aegis_core.specs.Lanes.{Block, Lane, at, times}
use Rattle.aegis_core.specs.Lanes128.{update_lane_128}
use Rattle.aegis_core.specs.Lanes256.{update_lane_256, add_context_256, mixed_lane_256}

-- the round with the S-box as a table
abbrev pub boxed : Block → Block → Block
boxed a k = add_round_key (mix_columns (shift_rows (map (slice_index box) a))) k

abbrev pub are_bytes : List ℕ → Bool
are_bytes [] = true
are_bytes (b ∷ bs) = nat_lt b 256 && are_bytes bs

substituted : (a : List ℕ) → are_bytes a ≡ true → map S a ≡ map (slice_index box) a
substituted [] h = refl
substituted (b ∷ bs) h =
    let parts = and_parts (nat_lt b 256) (are_bytes bs) h in
    λ i. S-table b (ltb-true b 256 parts.0) i ∷ substituted bs parts.1 i

R-boxed : (a k : List ℕ) → are_bytes a ≡ true → R a k ≡ boxed a k
unfolding R
R-boxed a k h = ap (λ s. add_round_key (mix_columns (shift_rows s)) k) (substituted a h)

-- each block of the lane has bytes alone
abbrev pub is_lane : Lane → Bool
is_lane [] = true
is_lane (b ∷ s) = are_bytes b && is_lane s

at-bytes : (s : Lane) (i : ℕ) → is_lane s ≡ true → are_bytes (at s i) ≡ true
at-bytes [] i h = refl
at-bytes (b ∷ s) zero h = (and_parts (are_bytes b) (is_lane s) h).0
at-bytes (b ∷ s) (suc i) h = at-bytes s i (and_parts (are_bytes b) (is_lane s) h).1

-- ---- the updates

abbrev pub boxed_128 : Lane → Block → Block → Lane
boxed_128 s m0 m1 =
    boxed (at s 7) (xor_bytes (at s 0) m0) ∷ boxed (at s 0) (at s 1) ∷ boxed (at s 1) (at s 2) ∷ boxed (at s 2) (at s 3)
    ∷ boxed (at s 3) (xor_bytes (at s 4) m1) ∷ boxed (at s 4) (at s 5) ∷ boxed (at s 5) (at s 6) ∷ boxed (at s 6) (at s 7) ∷ []

pub update-boxed_128 : (s : Lane) (m0 m1 : Block) → is_lane s ≡ true → update_lane_128 s m0 m1 ≡ boxed_128 s m0 m1
unfolding update_lane_128
update-boxed_128 s m0 m1 h = λ i.
    R-boxed (at s 7) (xor_bytes (at s 0) m0) (at-bytes s 7 h) i ∷ R-boxed (at s 0) (at s 1) (at-bytes s 0 h) i
    ∷ R-boxed (at s 1) (at s 2) (at-bytes s 1 h) i ∷ R-boxed (at s 2) (at s 3) (at-bytes s 2 h) i
    ∷ R-boxed (at s 3) (xor_bytes (at s 4) m1) (at-bytes s 3 h) i ∷ R-boxed (at s 4) (at s 5) (at-bytes s 4 h) i
    ∷ R-boxed (at s 5) (at s 6) (at-bytes s 5 h) i ∷ R-boxed (at s 6) (at s 7) (at-bytes s 6 h) i ∷ []

abbrev pub boxed_256 : Lane → Block → Lane
boxed_256 s m =
    boxed (at s 5) (xor_bytes (at s 0) m) ∷ boxed (at s 0) (at s 1) ∷ boxed (at s 1) (at s 2) ∷ boxed (at s 2) (at s 3)
    ∷ boxed (at s 3) (at s 4) ∷ boxed (at s 4) (at s 5) ∷ []

pub update-boxed_256 : (s : Lane) (m : Block) → is_lane s ≡ true → update_lane_256 s m ≡ boxed_256 s m
unfolding update_lane_256
update-boxed_256 s m h = λ i.
    R-boxed (at s 5) (xor_bytes (at s 0) m) (at-bytes s 5 h) i ∷ R-boxed (at s 0) (at s 1) (at-bytes s 0 h) i
    ∷ R-boxed (at s 1) (at s 2) (at-bytes s 1 h) i ∷ R-boxed (at s 2) (at s 3) (at-bytes s 2 h) i
    ∷ R-boxed (at s 3) (at s 4) (at-bytes s 3 h) i ∷ R-boxed (at s 4) (at s 5) (at-bytes s 4 h) i ∷ []

-- ---- many of them

-- the test passes at each of the first n states
abbrev pub stays : ℕ → (Lane → Lane) → (Lane → Bool) → Lane → Bool
stays zero g ok s = true
stays (suc n) g ok s = stays n g ok s && ok (times n g s)

-- two steps that are one where the test passes
pub times-same : (n : ℕ) (f g : Lane → Lane) (ok : Lane → Bool) → ((s : Lane) → ok s ≡ true → f s ≡ g s) → (s : Lane)
    → stays n g ok s ≡ true → times n f s ≡ times n g s
unfolding times
times-same zero f g ok same s h = refl
times-same (suc n) f g ok same s h =
    let parts = and_parts (stays n g ok s) (ok (times n g s)) h in
    ap f (times-same n f g ok same s parts.0) ∙ same (times n g s) parts.1

-- a lane with its context added, and then updated
abbrev pub boxed_mixed : Block → Lane → Block → Lane
boxed_mixed x s m = boxed_256 (add_context_256 x s) m

-- the test passes at each of the states
abbrev pub mixes : Block → Lane → List Block → Bool
mixes x s [] = true
mixes x s (m ∷ ms) = is_lane (add_context_256 x s) && mixes x (boxed_mixed x s m) ms

pub mixed-boxed : (x : Block) (s : Lane) (ms : List Block) → mixes x s ms ≡ true → fold (mixed_lane_256 x) s ms ≡ fold (boxed_mixed x) s ms
unfolding mixed_lane_256
mixed-boxed x s [] h = refl
mixed-boxed x s (m ∷ ms) h =
    let parts = and_parts (is_lane (add_context_256 x s)) (mixes x (boxed_mixed x s m) ms) h in
    ap (λ t. fold (mixed_lane_256 x) t ms) (update-boxed_256 (add_context_256 x s) m parts.0) ∙ mixed-boxed x (boxed_mixed x s m) ms parts.1
