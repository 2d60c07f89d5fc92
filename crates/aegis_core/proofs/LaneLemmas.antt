-- The lanes in use, one case for each count.
use Rattle.std.proofs.Common.{◌≡◌, ℕ, ◌+◌, ◌-◌, ◌*◌, ◌≤◌, List, [], ◌++◌, length, take, drop, refl, sym, ap, ◌∙◌, arith, subst}
use Rattle.std.proofs.lemmas.List.{append-nil, take_all, take_at, drop_at, take_rest, take-append-drop, length-take-le}
use Rattle.std.specs.Prelude.{fold, map, replicate, ◌⊎◌}
use Rattle.std.specs.List.{flat_map}
use Rattle.std.proofs.Common.{inl, inr}
use Rattle.std.proofs.lemmas.List.Sums.{fold-append}
use borrow.Rule.Slice.PartMut.{put_mid}
use Rattle.aes_spec.specs.Bytes.{xor_bytes}
use Rattle.aegis_core.specs.Lanes.{Lane, State, Block, lanes_from, xor_all}
use Rattle.aegis_core.specs.Lanes128.{update_lane_128, update_lanes_128, update_128, initial_128, initial_lane_128, first_seven, low_four, high_four, tag_of_128}
use Rattle.aegis_core.specs.Held.{lane_count, used_lanes, used_bytes}
use Rattle.aegis_core.specs.declared.lane_count.LaneCount.{LaneCount}
use Rattle.aegis_core.specs.declared.lane_count.LaneCount.TheVariants.{One, Two, Four}
use Rattle.aegis_core.proofs.RowLemmas.{block_0, block_1, block_2, block_3, halves_put}

pub rate_le : (k : LaneCount) → 32 * lane_count k ≤ 128
rate_le One = omega arith
rate_le Two = omega arith
rate_le Four = omega arith

pub take_len : (b : List ℕ) (n : ℕ) → n ≤ length b → n ≡ length (take n b)
take_len b n h = sym (length-take-le n b h)

-- ---- an update with two rows of blocks

pub one_updated : (k : LaneCount) (a b c d x : Lane) (p p1 p2 p3 q q1 q2 q3 : Block) → k ≡ One → x ≡ update_lane_128 a p q → length p ≡ 16 → length q ≡ 16
    → used_lanes k x b c d ≡ update_lanes_128 0 (used_lanes k a b c d) (used_bytes k p p1 p2 p3) (used_bytes k q q1 q2 q3)
unfolding update_lanes_128
one_updated k a b c d x p p1 p2 p3 q q1 q2 q3 h e lp lq =
    let P : LaneCount → Type 0 = λ j. used_lanes j x b c d ≡ update_lanes_128 0 (used_lanes j a b c d) (used_bytes j p p1 p2 p3) (used_bytes j q q1 q2 q3) in
    let bp : take 16 p ≡ p = take_all 16 p (omega arith) in
    let bq : take 16 q ≡ q = take_all 16 q (omega arith) in
    subst P (sym h) (rw (bp, bq, e) refl)

pub two_updated : (k : LaneCount) (a b c d x y : Lane) (p p1 p2 p3 q q1 q2 q3 : Block) → k ≡ Two → x ≡ update_lane_128 a p q → y ≡ update_lane_128 b p1 q1
    → length p ≡ 16 → length p1 ≡ 16 → length q ≡ 16 → length q1 ≡ 16
    → used_lanes k x y c d ≡ update_lanes_128 0 (used_lanes k a b c d) (used_bytes k p p1 p2 p3) (used_bytes k q q1 q2 q3)
unfolding update_lanes_128
two_updated k a b c d x y p p1 p2 p3 q q1 q2 q3 h e f lp lp1 lq lq1 =
    let P : LaneCount → Type 0 = λ j. used_lanes j x y c d ≡ update_lanes_128 0 (used_lanes j a b c d) (used_bytes j p p1 p2 p3) (used_bytes j q q1 q2 q3) in
    let tail : (v w : Block) → length v ≡ 16 → length w ≡ 16 → take 16 (drop 16 (v ++ w)) ≡ w
    = λ v w lv lw. ap (λ (u : List ℕ). take 16 u) (drop_at v w 16 lv) ∙ take_all 16 w (omega arith) in
    subst P (sym h) (rw (take_at p p1 16 lp, take_at q q1 16 lq, tail p p1 lp lp1, tail q q1 lq lq1, e, f) refl)

pub four_updated : (k : LaneCount) (a b c d x y z w : Lane) (p p1 p2 p3 q q1 q2 q3 : Block) → k ≡ Four → x ≡ update_lane_128 a p q → y ≡ update_lane_128 b p1 q1
    → z ≡ update_lane_128 c p2 q2 → w ≡ update_lane_128 d p3 q3 → length p ≡ 16 → length p1 ≡ 16 → length p2 ≡ 16 → length p3 ≡ 16
    → length q ≡ 16 → length q1 ≡ 16 → length q2 ≡ 16 → length q3 ≡ 16
    → used_lanes k x y z w ≡ update_lanes_128 0 (used_lanes k a b c d) (used_bytes k p p1 p2 p3) (used_bytes k q q1 q2 q3)
unfolding update_lanes_128
four_updated k a b c d x y z w p p1 p2 p3 q q1 q2 q3 h e f g i lp lp1 lp2 lp3 lq lq1 lq2 lq3 =
    let P : LaneCount → Type 0 = λ j. used_lanes j x y z w ≡ update_lanes_128 0 (used_lanes j a b c d) (used_bytes j p p1 p2 p3) (used_bytes j q q1 q2 q3) in
    subst P (sym h) (rw (
      block_0 p p1 p2 p3 lp,
      block_0 q q1 q2 q3 lq,
      block_1 p p1 p2 p3 lp lp1,
      block_1 q q1 q2 q3 lq lq1,
      block_2 p p1 p2 p3 lp lp1 lp2,
      block_2 q q1 q2 q3 lq lq1 lq2,
      block_3 p p1 p2 p3 lp lp1 lp2 lp3,
      block_3 q q1 q2 q3 lq lq1 lq2 lq3,
      e,
      f,
      g,
      i,
    ) refl)

-- the same of a list that the two rows are the halves of
halves_updated : (k : LaneCount) (old : State) (t p q : List ℕ) (h : ℕ) → h ≡ 16 * lane_count k → length p ≡ h → p ++ q ≡ t
    → update_lanes_128 0 old p q ≡ update_128 (lane_count k) old t
halves_updated k old t p q h eh lp e =
    let l : length p ≡ 16 * lane_count k = lp ∙ eh in
    let ep : take (16 * lane_count k) t ≡ p = ap (λ (v : List ℕ). take (16 * lane_count k) v) (sym e) ∙ take_at p q (16 * lane_count k) l in
    let eq : drop (16 * lane_count k) t ≡ q = ap (λ (v : List ℕ). drop (16 * lane_count k) v) (sym e) ∙ drop_at p q (16 * lane_count k) l in
    sym (ap (λ (v : List ℕ). update_lanes_128 0 old v (drop (16 * lane_count k) t)) ep ∙ ap (λ (v : List ℕ). update_lanes_128 0 old p v) eq)

-- two rows read from it
pub halves_read_updated : (k : LaneCount) (old : State) (t p q : List ℕ) (h : ℕ) → h ≡ 16 * lane_count k → length t ≡ h + h → p ≡ take h t → q ≡ take (length t - h) (drop h t)
    → update_lanes_128 0 old p q ≡ update_128 (lane_count k) old t
halves_read_updated k old t p q h eh lt ep eq =
    halves_updated k old t p q h eh (ap length ep ∙ length-take-le h t (omega arith))
    (ap (λ (v : List ℕ). v ++ q) ep ∙ ap (λ (v : List ℕ). take h t ++ v) (eq ∙ take_rest t h) ∙ take-append-drop h t)

-- two rows written to it one after the other
pub halves_put_updated : (k : LaneCount) (old : State) (to x y p q : List ℕ) (h : ℕ) → h ≡ 16 * lane_count k → length to ≡ h + h → length x ≡ length (take h to) → p ≡ x → q ≡ y
    → update_lanes_128 0 old p q ≡ update_128 (lane_count k) old (put_mid h (length (x ++ drop h to) - h) (x ++ drop h to) y)
halves_put_updated k old to x y p q h eh lt lx ep eq =
    let first : length x ≡ h = lx ∙ length-take-le h to (omega arith) in
    halves_updated k old _ p q h eh (ap length ep ∙ first)
    (ap (λ (v : List ℕ). v ++ q) ep ∙ ap (λ (v : List ℕ). x ++ v) eq ∙ sym (halves_put to x y h lt first))

-- the initial states: p and q are the key and the nonce as blocks
pub one_initial : (k : LaneCount) (x b c d : Lane) (key nonce p q : List ℕ) → k ≡ One → p ≡ key → q ≡ nonce → x ≡ initial_lane_128 1 p q 0
    → used_lanes k x b c d ≡ initial_128 (lane_count k) key nonce
unfolding lanes_from
one_initial k x b c d key nonce p q h ep eq e =
    let P : LaneCount → Type 0 = λ j. used_lanes j x b c d ≡ initial_128 (lane_count j) key nonce in
    subst P (sym h) (rw (e, ep, eq) refl)

pub two_initial : (k : LaneCount) (x y c d : Lane) (key nonce p q : List ℕ) → k ≡ Two → p ≡ key → q ≡ nonce → x ≡ initial_lane_128 2 p q 0 → y ≡ initial_lane_128 2 p q 1
    → used_lanes k x y c d ≡ initial_128 (lane_count k) key nonce
unfolding lanes_from
two_initial k x y c d key nonce p q h ep eq e f =
    let P : LaneCount → Type 0 = λ j. used_lanes j x y c d ≡ initial_128 (lane_count j) key nonce in
    subst P (sym h) (rw (e, f, ep, eq) refl)

pub four_initial : (k : LaneCount) (x y z w : Lane) (key nonce p q : List ℕ) → k ≡ Four → p ≡ key → q ≡ nonce
    → x ≡ initial_lane_128 4 p q 0 → y ≡ initial_lane_128 4 p q 1 → z ≡ initial_lane_128 4 p q 2 → w ≡ initial_lane_128 4 p q 3
    → used_lanes k x y z w ≡ initial_128 (lane_count k) key nonce
unfolding lanes_from
four_initial k x y z w key nonce p q h ep eq e f i j =
    let P : LaneCount → Type 0 = λ n. used_lanes n x y z w ≡ initial_128 (lane_count n) key nonce in
    subst P (sym h) (rw (e, f, i, j, ep, eq) refl)

-- ---- the tag

pub one_map : (f : Lane → Lane) (k : LaneCount) (a b c d x y z w : Lane) → k ≡ One → x ≡ f a → used_lanes k x y z w ≡ map f (used_lanes k a b c d)
one_map f k a b c d x y z w h ea =
    let P : LaneCount → Type 0 = λ j. used_lanes j x y z w ≡ map f (used_lanes j a b c d) in
    subst P (sym h) (rw ea refl)

pub two_map : (f : Lane → Lane) (k : LaneCount) (a b c d x y z w : Lane) → k ≡ Two → x ≡ f a → y ≡ f b → used_lanes k x y z w ≡ map f (used_lanes k a b c d)
two_map f k a b c d x y z w h ea eb =
    let P : LaneCount → Type 0 = λ j. used_lanes j x y z w ≡ map f (used_lanes j a b c d) in
    subst P (sym h) (rw (ea, eb) refl)

pub four_map : (f : Lane → Lane) (k : LaneCount) (a b c d x y z w : Lane) → k ≡ Four → x ≡ f a → y ≡ f b → z ≡ f c → w ≡ f d
    → used_lanes k x y z w ≡ map f (used_lanes k a b c d)
four_map f k a b c d x y z w h ea eb ec ed =
    let P : LaneCount → Type 0 = λ j. used_lanes j x y z w ≡ map f (used_lanes j a b c d) in
    subst P (sym h) (rw (ea, eb, ec, ed) refl)

pub one_sum : (f : Lane → List Block) (k : LaneCount) (a b c d : Lane) (o x : Block) → k ≡ One → o ≡ replicate 16 0 → x ≡ fold xor_bytes o (f a)
    → x ≡ xor_all (flat_map f (used_lanes k a b c d))
one_sum f k a b c d o x h eo e =
    let P : LaneCount → Type 0 = λ j. x ≡ xor_all (flat_map f (used_lanes j a b c d)) in
    subst P (sym h) (e ∙ rw (eo, append-nil) refl)

pub two_sum : (f : Lane → List Block) (k : LaneCount) (a b c d : Lane) (o x y : Block) → k ≡ Two → o ≡ replicate 16 0 → x ≡ fold xor_bytes o (f a) → y ≡ fold xor_bytes x (f b)
    → y ≡ xor_all (flat_map f (used_lanes k a b c d))
two_sum f k a b c d o x y h eo e g =
    let P : LaneCount → Type 0 = λ j. y ≡ xor_all (flat_map f (used_lanes j a b c d)) in
    subst P (sym h) (g ∙ rw (e, eo, append-nil, fold-append) refl)

pub four_sum : (f : Lane → List Block) (k : LaneCount) (a b c d : Lane) (o x y z w : Block) → k ≡ Four → o ≡ replicate 16 0 → x ≡ fold xor_bytes o (f a) → y ≡ fold xor_bytes x (f b)
    → z ≡ fold xor_bytes y (f c) → w ≡ fold xor_bytes z (f d) → w ≡ xor_all (flat_map f (used_lanes k a b c d))
four_sum f k a b c d o x y z w h eo e g i j =
    let P : LaneCount → Type 0 = λ n. w ≡ xor_all (flat_map f (used_lanes n a b c d)) in
    subst P (sym h) (j ∙ rw (i, g, e, eo, append-nil) (simp fold-append refl))

pub tag_32 : (t : ℕ) (lanes : State) (out p q : List ℕ) → t ≡ 32 → length out ≡ t → take 32 out ≡ ([] ++ p) ++ q → p ≡ xor_all (flat_map low_four lanes) → q ≡ xor_all (flat_map high_four lanes)
    → out ≡ tag_of_128 t lanes
unfolding tag_of_128
tag_32 t lanes out p q h l e ep eq =
    let P : ℕ → Type 0 = λ j. out ≡ tag_of_128 j lanes in
    subst P (sym h) (sym (take_all 32 out (omega arith)) ∙ e ∙ rw (ep, eq) refl)

pub tag_16 : (t : ℕ) (lanes : State) (out p : List ℕ) → ((t ≡ 16) ⊎ (t ≡ 32)) → (t ≡ 32 → ⊥) → length out ≡ t → take 16 out ≡ [] ++ p → p ≡ xor_all (flat_map first_seven lanes)
    → out ≡ tag_of_128 t lanes
unfolding tag_of_128
tag_16 t lanes out p either not32 l e ep =
    let h : t ≡ 16 = elim either as (λ _. t ≡ 16) [ inl a ↦ a | inr b ↦ absurd (not32 b) ] in
    let P : ℕ → Type 0 = λ j. out ≡ tag_of_128 j lanes in
    subst P (sym h) (sym (take_all 16 out (omega arith)) ∙ e ∙ ep)
