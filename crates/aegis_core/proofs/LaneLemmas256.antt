-- The lanes in use of the AEGIS-256 family, one case for each count.
use Rattle.std.proofs.Common.{◌≡◌, ◌⊎◌, ℕ, ◌*◌, ◌≤◌, List, [], ◌++◌, length, take, drop, refl, sym, ap, ◌∙◌, arith, subst, inl, inr, length-drop}
use Rattle.std.proofs.lemmas.List.{take_all, take_at, drop_at}
use Rattle.std.specs.List.{flat_map}
use Rattle.aegis_core.specs.Lanes.{Lane, State, Block, lanes_from, xor_all}
use Rattle.aegis_core.specs.Lanes256.{update_lane_256, update_lanes_256, update_256, initial_256, initial_halves_256, low_three, high_three, all_six, tag_of_256}
use Rattle.aegis_core.specs.Held.{lane_count, used_lanes, used_bytes}
use Rattle.aegis_core.specs.declared.lane_count.LaneCount.{LaneCount}
use Rattle.aegis_core.specs.declared.lane_count.LaneCount.TheVariants.{One, Two, Four}
use Rattle.aegis_core.proofs.RowLemmas.{block_0, block_1, block_2, block_3}

pub rate_le : (k : LaneCount) → 16 * lane_count k ≤ 128
rate_le One = omega arith
rate_le Two = omega arith
rate_le Four = omega arith

-- ---- an update with a row of blocks

pub one_updated : (k : LaneCount) (a b c d x : Lane) (p p1 p2 p3 : Block) → k ≡ One → x ≡ update_lane_256 a p → length p ≡ 16
    → used_lanes k x b c d ≡ update_256 (used_lanes k a b c d) (used_bytes k p p1 p2 p3)
unfolding update_lanes_256
one_updated k a b c d x p p1 p2 p3 h e lp =
    let P : LaneCount → Type 0 = λ j. used_lanes j x b c d ≡ update_256 (used_lanes j a b c d) (used_bytes j p p1 p2 p3) in
    let bp : take 16 p ≡ p = take_all 16 p (omega arith) in
    subst P (sym h) (rw (bp, e) refl)

pub two_updated : (k : LaneCount) (a b c d x y : Lane) (p p1 p2 p3 : Block) → k ≡ Two → x ≡ update_lane_256 a p → y ≡ update_lane_256 b p1
    → length p ≡ 16 → length p1 ≡ 16 → used_lanes k x y c d ≡ update_256 (used_lanes k a b c d) (used_bytes k p p1 p2 p3)
unfolding update_lanes_256
two_updated k a b c d x y p p1 p2 p3 h e f lp lp1 =
    let P : LaneCount → Type 0 = λ j. used_lanes j x y c d ≡ update_256 (used_lanes j a b c d) (used_bytes j p p1 p2 p3) in
    let tail : take 16 (drop 16 (p ++ p1)) ≡ p1 = ap (λ (u : List ℕ). take 16 u) (drop_at p p1 16 lp) ∙ take_all 16 p1 (omega arith) in
    subst P (sym h) (rw (take_at p p1 16 lp, tail, e, f) refl)

pub four_updated : (k : LaneCount) (a b c d x y z w : Lane) (p p1 p2 p3 : Block) → k ≡ Four → x ≡ update_lane_256 a p → y ≡ update_lane_256 b p1
    → z ≡ update_lane_256 c p2 → w ≡ update_lane_256 d p3 → length p ≡ 16 → length p1 ≡ 16 → length p2 ≡ 16 → length p3 ≡ 16
    → used_lanes k x y z w ≡ update_256 (used_lanes k a b c d) (used_bytes k p p1 p2 p3)
unfolding update_lanes_256
four_updated k a b c d x y z w p p1 p2 p3 h e f g i lp lp1 lp2 lp3 =
    let P : LaneCount → Type 0 = λ j. used_lanes j x y z w ≡ update_256 (used_lanes j a b c d) (used_bytes j p p1 p2 p3) in
    subst P (sym h) (rw (block_0 p p1 p2 p3 lp, block_1 p p1 p2 p3 lp lp1, block_2 p p1 p2 p3 lp lp1 lp2, block_3 p p1 p2 p3 lp lp1 lp2 lp3, e, f, g, i) refl)

-- the halves of 32 bytes, as blocks
pub low_half : (key p : List ℕ) → p ≡ take 16 (drop 0 key) → p ≡ take 16 key
low_half key p e = e

pub high_half : (key p : List ℕ) → length key ≡ 32 → p ≡ take 16 (drop 16 key) → p ≡ drop 16 key
high_half key p l e = e ∙ take_all 16 (drop 16 key) (omega (arith, length-drop 16 key))

-- a lane's initial state, with the halves under other names
pub started : (d i : ℕ) (x : Lane) (p0 p1 q0 q1 r0 r1 s0 s1 : Block) → p0 ≡ r0 → p1 ≡ r1 → q0 ≡ s0 → q1 ≡ s1
    → x ≡ initial_halves_256 d p0 p1 q0 q1 i → x ≡ initial_halves_256 d r0 r1 s0 s1 i
started d i x p0 p1 q0 q1 r0 r1 s0 s1 e0 e1 f0 f1 e = e ∙ rw (e0, e1, f0, f1) refl

pub one_initial : (k : LaneCount) (x b c d : Lane) (key nonce : List ℕ) → k ≡ One
    → x ≡ initial_halves_256 1 (take 16 key) (drop 16 key) (take 16 nonce) (drop 16 nonce) 0
    → used_lanes k x b c d ≡ initial_256 (lane_count k) key nonce
unfolding lanes_from
one_initial k x b c d key nonce h e =
    let P : LaneCount → Type 0 = λ j. used_lanes j x b c d ≡ initial_256 (lane_count j) key nonce in
    subst P (sym h) (rw e refl)

pub two_initial : (k : LaneCount) (x y c d : Lane) (key nonce : List ℕ) → k ≡ Two
    → x ≡ initial_halves_256 2 (take 16 key) (drop 16 key) (take 16 nonce) (drop 16 nonce) 0
    → y ≡ initial_halves_256 2 (take 16 key) (drop 16 key) (take 16 nonce) (drop 16 nonce) 1
    → used_lanes k x y c d ≡ initial_256 (lane_count k) key nonce
unfolding lanes_from
two_initial k x y c d key nonce h e f =
    let P : LaneCount → Type 0 = λ j. used_lanes j x y c d ≡ initial_256 (lane_count j) key nonce in
    subst P (sym h) (rw (e, f) refl)

pub four_initial : (k : LaneCount) (x y z w : Lane) (key nonce : List ℕ) → k ≡ Four
    → x ≡ initial_halves_256 4 (take 16 key) (drop 16 key) (take 16 nonce) (drop 16 nonce) 0
    → y ≡ initial_halves_256 4 (take 16 key) (drop 16 key) (take 16 nonce) (drop 16 nonce) 1
    → z ≡ initial_halves_256 4 (take 16 key) (drop 16 key) (take 16 nonce) (drop 16 nonce) 2
    → w ≡ initial_halves_256 4 (take 16 key) (drop 16 key) (take 16 nonce) (drop 16 nonce) 3
    → used_lanes k x y z w ≡ initial_256 (lane_count k) key nonce
unfolding lanes_from
four_initial k x y z w key nonce h e f i j =
    let P : LaneCount → Type 0 = λ n. used_lanes n x y z w ≡ initial_256 (lane_count n) key nonce in
    subst P (sym h) (rw (e, f, i, j) refl)

pub tag_32 : (t : ℕ) (lanes : State) (out p q : List ℕ) → t ≡ 32 → length out ≡ t → take 32 out ≡ ([] ++ p) ++ q
    → p ≡ xor_all (flat_map low_three lanes) → q ≡ xor_all (flat_map high_three lanes) → out ≡ tag_of_256 t lanes
unfolding tag_of_256
tag_32 t lanes out p q h l e ep eq =
    let P : ℕ → Type 0 = λ j. out ≡ tag_of_256 j lanes in
    subst P (sym h) (sym (take_all 32 out (omega arith)) ∙ e ∙ rw (ep, eq) refl)

pub tag_16 : (t : ℕ) (lanes : State) (out p : List ℕ) → ((t ≡ 16) ⊎ (t ≡ 32)) → (t ≡ 32 → ⊥) → length out ≡ t → take 16 out ≡ [] ++ p
    → p ≡ xor_all (flat_map all_six lanes) → out ≡ tag_of_256 t lanes
unfolding tag_of_256
tag_16 t lanes out p either not32 l e ep =
    let h : t ≡ 16 = elim either as (λ _. t ≡ 16) [ inl a ↦ a | inr b ↦ absurd (not32 b) ] in
    let P : ℕ → Type 0 = λ j. out ≡ tag_of_256 j lanes in
    subst P (sym h) (sym (take_all 16 out (omega arith)) ∙ e ∙ ep)
