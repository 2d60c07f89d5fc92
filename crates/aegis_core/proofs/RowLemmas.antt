-- Blocks written one after the other, and added to bytes one after the other.
use Rattle.std.proofs.Common.{◌≡◌, ℕ, ◌+◌, ◌-◌, ◌*◌, ◌/◌, ◌≤◌, List, [], ◌++◌, length, take, drop, refl, sym, ap, ◌∙◌, arith, subst, length-append, length-drop}
use Rattle.std.specs.List.{flat_map}
use Rattle.std.proofs.lemmas.List.{append-nil, append_assoc, take_all, take_at, drop_at, drop_all, take_rest, drop-drop, length-take-le, take-append-drop}
use Rattle.std.proofs.Math.Seq.{take-add}
use borrow.Rule.Slice.PartMut.{put_mid}
use Rattle.aes_spec.specs.Bytes.{xor_bytes}
use Rattle.aegis_core.specs.Added.{IsAdded, IsSum}
use Rattle.aegis_core.specs.Lanes.{Lane, Block}
use Rattle.aegis_core.specs.Held.{lane_count, used_lanes, used_bytes}
use Rattle.aegis_core.specs.declared.lane_count.LaneCount.{LaneCount}
use Rattle.aegis_core.specs.declared.lane_count.LaneCount.TheVariants.{One, Two, Four}
use Rattle.aegis_core.proofs.BytesLemmas.{length-on_bytes, on_bytes-nil, on_bytes-append, xor_comm_bytes}

pub added_none : (xs : List ℕ) → IsAdded xs [] 0 xs
added_none xs = record { count = refl; front = sym (on_bytes-nil _ (take 0 xs)); rest = refl }

-- one more block, s being its sum with the bytes b that stand there
pub added_more : (xs ks old new z s b : List ℕ) (at : ℕ) → at + 16 ≤ length old → b ≡ take 16 (drop at old) → s ≡ xor_bytes z b → length s ≡ 16
    → take (at + 16) new ≡ take at old ++ s → drop (at + 16) new ≡ drop (at + 16) old → IsAdded xs ks at old → IsAdded xs (ks ++ z) (at + 16) new
added_more xs ks old new z s b at room eb es ls front rest h =
    let lz : length z ≡ 16 = sym (length-on_bytes _ z b) ∙ sym (ap length es) ∙ ls in
    let lb : length b ≡ 16 = ap length eb ∙ length-take-le 16 (drop at old) (omega (arith, length-drop at old)) in
    let other : s ≡ xor_bytes b z = es ∙ xor_comm_bytes z b (lz ∙ sym lb) in
    let b2 : b ≡ take 16 (drop at xs) = eb ∙ ap (λ (v : List ℕ). take 16 v) h.rest in
    let left : length (drop at old) ≡ length (drop at xs) = ap length h.rest in
    let lk : length ks ≡ at = h.count in
    let long : at + 16 ≤ length xs = omega (arith, length-drop at old, length-drop at xs) in
    let lt : length (take at xs) ≡ length ks = length-take-le at xs (omega arith) ∙ sym h.count in
    record {
      count = omega (arith, length-append ks z);
      front = front ∙ ap (λ (v : List ℕ). v ++ s) h.front ∙ ap (λ (v : List ℕ). xor_bytes (take at xs) ks ++ v) (other ∙ ap (λ (v : List ℕ). xor_bytes v z) b2)
          ∙ sym (on_bytes-append _ (take at xs) (take 16 (drop at xs)) ks z lt) ∙ ap (λ (v : List ℕ). xor_bytes v (ks ++ z)) (sym (take-add at 16 xs));
      rest = rest ∙ sym (drop-drop 16 at old) ∙ ap (λ (v : List ℕ). drop 16 v) h.rest ∙ drop-drop 16 at xs;
    }

pub added_all : (xs ks now : List ℕ) (n : ℕ) → length xs ≡ n → length now ≡ length xs → IsAdded xs ks n now → now ≡ xor_bytes xs ks
added_all xs ks now n lx ln h =
    sym (take_all n now (omega arith)) ∙ h.front ∙ ap (λ (v : List ℕ). xor_bytes v ks) (take_all n xs (omega arith))

pub sum_none : (xs old : List ℕ) → IsSum xs [] 0 old
sum_none xs old = record { count = refl; front = sym (on_bytes-nil _ (take 0 xs)) }

-- one more block, s being its sum with the bytes b of xs that stand there
pub sum_more : (xs ks old new z s b : List ℕ) (at : ℕ) → at + 16 ≤ length xs → b ≡ take 16 (drop at xs) → s ≡ xor_bytes z b → length s ≡ 16
    → take (at + 16) new ≡ take at old ++ s → IsSum xs ks at old → IsSum xs (ks ++ z) (at + 16) new
sum_more xs ks old new z s b at room eb es ls front h =
    let lz : length z ≡ 16 = sym (length-on_bytes _ z b) ∙ sym (ap length es) ∙ ls in
    let lb : length b ≡ 16 = ap length eb ∙ length-take-le 16 (drop at xs) (omega (arith, length-drop at xs)) in
    let other : s ≡ xor_bytes (take 16 (drop at xs)) z = es ∙ xor_comm_bytes z b (lz ∙ sym lb) ∙ ap (λ (v : List ℕ). xor_bytes v z) eb in
    let lk : length ks ≡ at = h.count in
    let lt : length (take at xs) ≡ length ks = length-take-le at xs (omega arith) ∙ sym h.count in
    record {
      count = omega (arith, length-append ks z);
      front = front ∙ ap (λ (v : List ℕ). v ++ s) h.front ∙ ap (λ (v : List ℕ). xor_bytes (take at xs) ks ++ v) other
          ∙ sym (on_bytes-append _ (take at xs) (take 16 (drop at xs)) ks z lt) ∙ ap (λ (v : List ℕ). xor_bytes v (ks ++ z)) (sym (take-add at 16 xs));
    }

-- a sum over all of the bytes leaves none
pub whole_sum : (xs ks now : List ℕ) (n : ℕ) → length xs ≡ n → length now ≡ length xs → IsSum xs ks n now → IsAdded xs ks n now
whole_sum xs ks now n lx ln h = record { count = h.count; front = h.front; rest = drop_all n now (omega arith) ∙ sym (drop_all n xs (omega arith)) }

-- ---- the blocks of a row

pub one_put : (k : LaneCount) (out a b c d : List ℕ) → k ≡ One → length out ≡ 16 * lane_count k → take 16 out ≡ [] ++ a → out ≡ used_bytes k a b c d
one_put k out a b c d h l e =
    let P : LaneCount → Type 0 = λ j. length out ≡ 16 * lane_count j → out ≡ used_bytes j a b c d in
    subst P (sym h) (λ n. sym (take_all 16 out (omega arith)) ∙ e) l

pub two_put : (k : LaneCount) (out a b c d : List ℕ) → k ≡ Two → length out ≡ 16 * lane_count k → take 32 out ≡ ([] ++ a) ++ b → out ≡ used_bytes k a b c d
two_put k out a b c d h l e =
    let P : LaneCount → Type 0 = λ j. length out ≡ 16 * lane_count j → out ≡ used_bytes j a b c d in
    subst P (sym h) (λ n. sym (take_all 32 out (omega arith)) ∙ e) l

pub four_put : (k : LaneCount) (out a b c d : List ℕ) → k ≡ Four → length out ≡ 16 * lane_count k → take 64 out ≡ ((([] ++ a) ++ b) ++ c) ++ d → out ≡ used_bytes k a b c d
four_put k out a b c d h l e =
    let P : LaneCount → Type 0 = λ j. length out ≡ 16 * lane_count j → out ≡ used_bytes j a b c d in
    subst P (sym h) (λ n. sym (take_all 64 out (omega arith)) ∙ e) l

-- ---- and blocks read one after the other

pub sixteen : (xs b : List ℕ) (at : ℕ) → at + 16 ≤ length xs → b ≡ take 16 (drop at xs) → length b ≡ 16
sixteen xs b at room e = ap length e ∙ length-take-le 16 (drop at xs) (omega (arith, length-drop at xs))

pub one_read : (k : LaneCount) (xs a b c d : List ℕ) → k ≡ One → length xs ≡ 16 * lane_count k → a ≡ take 16 (drop 0 xs) → used_bytes k a b c d ≡ xs
one_read k xs a b c d h l ea =
    let P : LaneCount → Type 0 = λ j. length xs ≡ 16 * lane_count j → used_bytes j a b c d ≡ xs in
    subst P (sym h) (λ n. ea ∙ take_all 16 xs (omega arith)) l

pub two_read : (k : LaneCount) (xs a b c d : List ℕ) → k ≡ Two → length xs ≡ 16 * lane_count k → a ≡ take 16 (drop 0 xs) → b ≡ take 16 (drop 16 xs)
    → used_bytes k a b c d ≡ xs
two_read k xs a b c d h l ea eb =
    let P : LaneCount → Type 0 = λ j. length xs ≡ 16 * lane_count j → used_bytes j a b c d ≡ xs in
    subst P (sym h) (λ n. ap (λ (v : List ℕ). v ++ b) ea ∙ ap (λ (v : List ℕ). take 16 xs ++ v) eb ∙ sym (take-add 16 16 xs) ∙ take_all 32 xs (omega arith)) l

pub four_read : (k : LaneCount) (xs a b c d : List ℕ) → k ≡ Four → length xs ≡ 16 * lane_count k → a ≡ take 16 (drop 0 xs) → b ≡ take 16 (drop 16 xs)
    → c ≡ take 16 (drop 32 xs) → d ≡ take 16 (drop 48 xs) → used_bytes k a b c d ≡ xs
four_read k xs a b c d h l ea eb ec ed =
    let P : LaneCount → Type 0 = λ j. length xs ≡ 16 * lane_count j → used_bytes j a b c d ≡ xs in
    let two : a ++ b ≡ take 32 xs = ap (λ (v : List ℕ). v ++ b) ea ∙ ap (λ (v : List ℕ). take 16 xs ++ v) eb ∙ sym (take-add 16 16 xs) in
    let three : (a ++ b) ++ c ≡ take 48 xs = ap (λ (v : List ℕ). v ++ c) two ∙ ap (λ (v : List ℕ). take 32 xs ++ v) ec ∙ sym (take-add 32 16 xs) in
    let four : ((a ++ b) ++ c) ++ d ≡ take 64 xs = ap (λ (v : List ℕ). v ++ d) three ∙ ap (λ (v : List ℕ). take 48 xs ++ v) ed ∙ sym (take-add 48 16 xs) in
    subst P (sym h) (λ n. four ∙ take_all 64 xs (omega arith)) l

both : (xs ks now : List ℕ) (n : ℕ) → length xs ≡ n → length now ≡ length xs → IsAdded xs ks n now → (now ≡ xor_bytes xs ks) × (length ks ≡ length xs)
both xs ks now n lx ln h = (added_all xs ks now n lx ln h, h.count ∙ sym lx)

pub one_added : (k : LaneCount) (xs now a b c d : List ℕ) → k ≡ One → length xs ≡ 16 * lane_count k → length now ≡ length xs → IsAdded xs ([] ++ a) 16 now
    → (now ≡ xor_bytes xs (used_bytes k a b c d)) × (length (used_bytes k a b c d) ≡ length xs)
one_added k xs now a b c d h l ln e =
    let P : LaneCount → Type 0 = λ j. length xs ≡ 16 * lane_count j → (now ≡ xor_bytes xs (used_bytes j a b c d)) × (length (used_bytes j a b c d) ≡ length xs) in
    subst P (sym h) (λ n. both xs a now 16 n ln e) l

pub two_added : (k : LaneCount) (xs now a b c d : List ℕ) → k ≡ Two → length xs ≡ 16 * lane_count k → length now ≡ length xs → IsAdded xs (([] ++ a) ++ b) 32 now
    → (now ≡ xor_bytes xs (used_bytes k a b c d)) × (length (used_bytes k a b c d) ≡ length xs)
two_added k xs now a b c d h l ln e =
    let P : LaneCount → Type 0 = λ j. length xs ≡ 16 * lane_count j → (now ≡ xor_bytes xs (used_bytes j a b c d)) × (length (used_bytes j a b c d) ≡ length xs) in
    subst P (sym h) (λ n. both xs (a ++ b) now 32 n ln e) l

pub four_added : (k : LaneCount) (xs now a b c d : List ℕ) → k ≡ Four → length xs ≡ 16 * lane_count k → length now ≡ length xs → IsAdded xs (((([] ++ a) ++ b) ++ c) ++ d) 64 now
    → (now ≡ xor_bytes xs (used_bytes k a b c d)) × (length (used_bytes k a b c d) ≡ length xs)
four_added k xs now a b c d h l ln e =
    let P : LaneCount → Type 0 = λ j. length xs ≡ 16 * lane_count j → (now ≡ xor_bytes xs (used_bytes j a b c d)) × (length (used_bytes j a b c d) ≡ length xs) in
    subst P (sym h) (λ n. both xs (((a ++ b) ++ c) ++ d) now 64 n ln e) l

-- ---- the blocks of a row by their places

pub block_0 : (a b c d : Block) → length a ≡ 16 → take 16 (((a ++ b) ++ c) ++ d) ≡ a
block_0 a b c d la = simp append_assoc (take_at a (b ++ (c ++ d)) 16 la)

pub block_1 : (a b c d : Block) → length a ≡ 16 → length b ≡ 16 → take 16 (drop 16 (((a ++ b) ++ c) ++ d)) ≡ b
block_1 a b c d la lb =
    let e : ((a ++ b) ++ c) ++ d ≡ a ++ (b ++ (c ++ d)) = simp append_assoc refl in
    ap (λ (v : List ℕ). take 16 (drop 16 v)) e ∙ ap (λ (v : List ℕ). take 16 v) (drop_at a (b ++ (c ++ d)) 16 la) ∙ take_at b (c ++ d) 16 lb

pub block_2 : (a b c d : Block) → length a ≡ 16 → length b ≡ 16 → length c ≡ 16 → take 16 (drop 32 (((a ++ b) ++ c) ++ d)) ≡ c
block_2 a b c d la lb lc =
    let e : ((a ++ b) ++ c) ++ d ≡ (a ++ b) ++ (c ++ d) = append_assoc (a ++ b) c d in
    let l : length (a ++ b) ≡ 32 = omega (arith, length-append a b) in
    ap (λ (v : List ℕ). take 16 (drop 32 v)) e ∙ ap (λ (v : List ℕ). take 16 v) (drop_at (a ++ b) (c ++ d) 32 l) ∙ take_at c d 16 lc

pub block_3 : (a b c d : Block) → length a ≡ 16 → length b ≡ 16 → length c ≡ 16 → length d ≡ 16 → take 16 (drop 48 (((a ++ b) ++ c) ++ d)) ≡ d
block_3 a b c d la lb lc ld =
    let l : length ((a ++ b) ++ c) ≡ 48 = omega (arith, length-append (a ++ b) c, length-append a b) in
    ap (λ (v : List ℕ). take 16 v) (drop_at ((a ++ b) ++ c) d 48 l) ∙ take_all 16 d (omega arith)

-- the row of a function's blocks
flat : (f : Lane → Block) (k : LaneCount) (a b c d : Lane) (p q r s : Block) → p ≡ f a → q ≡ f b → r ≡ f c → s ≡ f d
    → used_bytes k p q r s ≡ flat_map f (used_lanes k a b c d)
flat f One a b c d p q r s ea eb ec ed = ea ∙ sym (append-nil (f a))
flat f Two a b c d p q r s ea eb ec ed = rw (ea, eb) (simp append-nil refl)
flat f Four a b c d p q r s ea eb ec ed = rw (ea, eb, ec, ed) (simp (append-nil, append_assoc) refl)

pub row_flat : (f : Lane → Block) (j k : LaneCount) (a b c d : Lane) (p q r s : Block) → j ≡ k → p ≡ f a → q ≡ f b → r ≡ f c → s ≡ f d
    → used_bytes j p q r s ≡ flat_map f (used_lanes k a b c d)
row_flat f j k a b c d p q r s e ea eb ec ed = ap (λ (i : LaneCount). used_bytes i p q r s) e ∙ flat f k a b c d p q r s ea eb ec ed

-- ---- two rows, each in its half

half_count : (k : LaneCount) → 32 * lane_count k ≡ 32 * lane_count k / 2 + 32 * lane_count k / 2
half_count One = refl
half_count Two = refl
half_count Four = refl

pub half_of : (k : LaneCount) (rate n : ℕ) → rate ≡ 32 * lane_count k → n ≡ 32 * lane_count k → n ≡ rate / 2 + rate / 2
half_of k rate n er en = en ∙ half_count k ∙ ap (λ (j : ℕ). j / 2 + j / 2) (sym er)

pub halves_put : (out x y : List ℕ) (h : ℕ) → length out ≡ h + h → length x ≡ h
    → put_mid h (length (x ++ drop h out) - h) (x ++ drop h out) y ≡ x ++ y
halves_put out x y h lo lx =
    let rest : List ℕ = drop h out in
    let e : List ℕ = x ++ rest in
    let lr : length rest ≡ h = length-drop h out ∙ omega arith in
    let k : ℕ = length e - h in
    let ek : k ≡ h = omega (arith, length-append x rest) in
    let front : take h e ≡ x = take_at x rest h lx in
    let back : drop h e ≡ rest = drop_at x rest h lx in
    let gone : drop k (drop h e) ≡ [] = ap (λ (v : List ℕ). drop k v) back ∙ drop_all k rest (omega arith) in
    ap (λ (v : List ℕ). v ++ (y ++ drop k (drop h e))) front ∙ ap (λ (v : List ℕ). x ++ (y ++ v)) gone ∙ ap (λ (v : List ℕ). x ++ v) (append-nil y)

pub halves_added : (old j k a b x y : List ℕ) (h : ℕ) → length old ≡ h + h → x ≡ xor_bytes (take h old) j → length j ≡ length (take h old)
    → y ≡ xor_bytes (take (length (x ++ drop h old) - h) (drop h (x ++ drop h old))) k → j ≡ a → k ≡ b
    → put_mid h (length (x ++ drop h old) - h) (x ++ drop h old) y ≡ xor_bytes old (a ++ b)
halves_added old j k a b x y h lo ex lj ey ea eb =
    let lt : length (take h old) ≡ h = length-take-le h old (omega arith) in
    let lx : length x ≡ h = ap length ex ∙ length-on_bytes _ (take h old) j ∙ lt in
    let rest : List ℕ = drop h old in
    let back : drop h (x ++ rest) ≡ rest = drop_at x rest h lx in
    let ey2 : y ≡ xor_bytes rest k = ey ∙ ap (λ (v : List ℕ). xor_bytes v k) (take_rest (x ++ rest) h ∙ back) in
    halves_put old x y h lo lx ∙ ap (λ (v : List ℕ). v ++ y) ex ∙ ap (λ (v : List ℕ). xor_bytes (take h old) j ++ v) ey2
    ∙ sym (on_bytes-append _ (take h old) rest j k (sym lj)) ∙ ap (λ (v : List ℕ). xor_bytes v (j ++ k)) (take-append-drop h old)
    ∙ ap (λ (v : List ℕ). xor_bytes old (v ++ k)) ea ∙ ap (λ (v : List ℕ). xor_bytes old (a ++ v)) eb

pub halves_summed : (from old j k a b x y : List ℕ) (h : ℕ) → length from ≡ h + h → length old ≡ h + h → x ≡ xor_bytes (take h from) j → length j ≡ length (take h from)
    → y ≡ xor_bytes (take (length from - h) (drop h from)) k → j ≡ a → k ≡ b
    → put_mid h (length (x ++ drop h old) - h) (x ++ drop h old) y ≡ xor_bytes from (a ++ b)
halves_summed from old j k a b x y h lf lo ex lj ey ea eb =
    let lt : length (take h from) ≡ h = length-take-le h from (omega arith) in
    let lx : length x ≡ h = ap length ex ∙ length-on_bytes _ (take h from) j ∙ lt in
    let ey2 : y ≡ xor_bytes (drop h from) k = ey ∙ ap (λ (v : List ℕ). xor_bytes v k) (take_rest from h) in
    halves_put old x y h lo lx ∙ ap (λ (v : List ℕ). v ++ y) ex ∙ ap (λ (v : List ℕ). xor_bytes (take h from) j ++ v) ey2
    ∙ sym (on_bytes-append _ (take h from) (drop h from) j k (sym lj)) ∙ ap (λ (v : List ℕ). xor_bytes v (j ++ k)) (take-append-drop h from)
    ∙ ap (λ (v : List ℕ). xor_bytes from (v ++ k)) ea ∙ ap (λ (v : List ℕ). xor_bytes from (a ++ v)) eb

pub halves_read : (from to x y : List ℕ) (h : ℕ) → length from ≡ h + h → length to ≡ h + h → x ≡ take h to → y ≡ take (length to - h) (drop h to)
    → put_mid h (length (x ++ drop h from) - h) (x ++ drop h from) y ≡ to
halves_read from to x y h lf lt ex ey =
    let lx : length x ≡ h = ap length ex ∙ length-take-le h to (omega arith) in
    halves_put from x y h lf lx ∙ ap (λ (v : List ℕ). v ++ y) ex ∙ ap (λ (v : List ℕ). take h to ++ v) (ey ∙ take_rest to h) ∙ take-append-drop h to
