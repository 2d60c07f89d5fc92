-- A walk down two trees: what is read and asked, from what is below.
use Rattle.std.proofs.Common.{◌≡◌, ℕ, zero, suc, ◌+◌, ◌-◌, ◌*◌, ◌^◌, ◌≤◌, min, inl, inr, Result, Ok, Err, refl, sym, ◌∙◌, ap, subst, arith, add-one}
use Rattle.std.specs.Result.{IsErrAnd}
use Rattle.std.proofs.lemmas.Bool.{cases_lt}
use Rattle.std.proofs.lemmas.Nat.{mul-le}
use Rattle.raf_io.specs.Kinds.{kind_of}
use Rattle.raf_io.specs.declared.errors.Error.{Error}
use Rattle.raf_format.specs.Cipher.{Cipher}
use Rattle.raf_format.specs.File.{shape_of, tag_len, layout_len, record_start}
use Rattle.raf_format.specs.declared.header.Header.{Header}
use Rattle.raf.specs.Handle.{Handle}
use Rattle.raf.specs.Clash.{long}
use Rattle.raf.specs.Clashing.{Steps, Halts, records_between, reads_at, asked_at, asked_below, count_in}
use Rattle.raf.proofs.Asked.{doubled, next_doubled, asked_less, asked_sum}
use Rattle.raf.proofs.Clashes.{steps_later, steps_less}

-- records of one file
telescopes : (k L s m e : ℕ) → s ≤ m → m ≤ e
    → (min (96 + m * k) L - 96 - (min (96 + s * k) L - 96)) + (min (96 + e * k) L - 96 - (min (96 + m * k) L - 96)) ≤ min (96 + e * k) L - 96 - (min (96 + s * k) L - 96)
telescopes k L s m e sm me = omega (arith, mul-le s k m k sm (omega arith), mul-le m k e k me (omega arith))

pub records_sum : (C : Cipher) (a : Handle) (s m e : ℕ) → s ≤ m → m ≤ e → records_between C a s m + records_between C a m e ≤ records_between C a s e
records_sum C a s m e sm me = telescopes (C.nonce_len + a.header.chunk_size + tag_len (shape_of C a.header)) (long C a) s m e sm me

pub same_records : (C : Cipher) (a p : Handle) (s e : ℕ) → p.header ≡ a.header → records_between C p s e ≡ records_between C a s e
same_records C a p s e same = ap (λ (h : Header). min (record_start (shape_of C h) e) (layout_len (shape_of C h) h.file_size) - 96 - (min (record_start (shape_of C h) s) (layout_len (shape_of C h) h.file_size) - 96)) same

reads_none : (C : Cipher) (a : Handle) (l below j : ℕ) → l ≡ below + 1 → reads_at C a l j ≡ 0
unfolding reads_at
reads_none C a l below j up = subst (λ (k : ℕ). reads_at C a k j ≡ 0) (sym (up ∙ add-one below)) refl

reads_less : (C : Cipher) (a : Handle) (l j : ℕ) → reads_at C a l j ≤ records_between C a (j * 2 ^ l) ((j + 1) * 2 ^ l)
unfolding reads_at
reads_less C a zero j =
    let first : j ≡ j * 2 ^ 0 = omega arith in
    let last : j + 1 ≡ (j + 1) * 2 ^ 0 = omega arith in
    subst (λ (k : ℕ). records_between C a j (j + 1) ≤ records_between C a k ((j + 1) * 2 ^ 0)) first
    (subst (λ (k : ℕ). records_between C a j (j + 1) ≤ records_between C a j k) last (omega arith))
reads_less C a (suc l) j = omega arith

reads_leaf : (C : Cipher) (a : Handle) (l j : ℕ) → l ≡ 0 → records_between C a j (j + 1) ≤ reads_at C a l j
unfolding reads_at
reads_leaf C a l j is = subst (λ (k : ℕ). records_between C a j (j + 1) ≤ reads_at C a k j) (sym is) (omega arith)

records_down : (C : Cipher) (a : Handle) (l below j : ℕ) → l ≡ below + 1
    → records_between C a (2 * j * 2 ^ below) ((2 * j + 1) * 2 ^ below) + records_between C a ((2 * j + 1) * 2 ^ below) ((2 * j + 1 + 1) * 2 ^ below)
    ≤ records_between C a (j * 2 ^ l) ((j + 1) * 2 ^ l)
records_down C a l below j up =
    let first : 2 * j * 2 ^ below ≡ j * 2 ^ l = sym (ap (λ (k : ℕ). j * 2 ^ k) up ∙ doubled j below) in
    let last : (2 * j + 1 + 1) * 2 ^ below ≡ (j + 1) * 2 ^ l = sym (ap (λ (k : ℕ). (j + 1) * 2 ^ k) up ∙ next_doubled j below) in
    let both = records_between C a (2 * j * 2 ^ below) ((2 * j + 1) * 2 ^ below) + records_between C a ((2 * j + 1) * 2 ^ below) ((2 * j + 1 + 1) * 2 ^ below) in
    subst (λ (k : ℕ). both ≤ records_between C a k ((j + 1) * 2 ^ l)) first
    (subst (λ (k : ℕ). both ≤ records_between C a (2 * j * 2 ^ below) k) last
    (records_sum C a (2 * j * 2 ^ below) ((2 * j + 1) * 2 ^ below) ((2 * j + 1 + 1) * 2 ^ below)
    (mul-le (2 * j) (2 ^ below) (2 * j + 1) (2 ^ below) (omega arith) (omega arith))
    (mul-le (2 * j + 1) (2 ^ below) (2 * j + 1 + 1) (2 ^ below) (omega arith) (omega arith))))

-- hashes of one file
calls_down : (n n' n'' l below j : ℕ) → l ≡ below + 1 → n' ≡ n → n'' ≡ n → asked_at n l j + asked_below n' below (2 * j) + asked_below n'' below (2 * j + 1) ≤ asked_below n l j
calls_down n n' n'' l below j up same same' = omega (
  arith,
  asked_sum n below j,
  ap (λ (k : ℕ). asked_at n k j) up,
  ap (λ (k : ℕ). asked_below n k j) up,
  ap (λ (k : ℕ). asked_below k below (2 * j)) same,
  ap (λ (k : ℕ). asked_below k below (2 * j + 1)) same',
)

first_two : (r x x' y' w : ℕ) → r ≡ 0 → x ≡ x' → x' + y' ≤ w → r + x ≤ w
first_two r x x' y' w none same le = omega (arith, none, same, le)

all_three : (r x x' y y' w : ℕ) → r ≡ 0 → x ≡ x' → y ≡ y' → x' + y' ≤ w → r + x + y ≤ w
all_three r x x' y y' w none same same' le = omega (arith, none, same, same', le)

-- a level that has one below it
pub one_up : (l : ℕ) → (l ≡ 0 → ⊥) → l ≡ l - 1 + 1
one_up l some = elim (cases_lt 0 l) [ inl less ↦ omega (arith, less) | inr none ↦ absurd (some (omega (arith, none))) ]

-- steps whose results are handed on
pub steps_ok : {S T : Type 0} (C D : Cipher) (t c t' c' : ℕ) (a b p q : Handle) (s : S) (r : T) → (let was : Result S Error = Ok s in Steps C D t c t' c' a b p q was)
    → (let is : Result T Error = Ok r in Steps C D t c t' c' a b p q is)
steps_ok C D t c t' c' a b p q s r steps = record { first = steps.first; second = steps.second; quiet = steps.quiet; halted = tt }

pub steps_handed : {S T : Type 0} (C D : Cipher) (t c t' c' : ℕ) (a b p q : Handle) (e : Error) (r : Result T Error) → IsErrAnd r (λ x. x ≡ e)
    → (let was : Result S Error = Err e in Steps C D t c t' c' a b p q was) → Steps C D t c t' c' a b p q r
steps_handed C D t c t' c' a b p q e (Ok x) is steps = absurd is
steps_handed C D t c t' c' a b p q e (Err x) is steps = record {
  first = steps.first;
  second = steps.second;
  quiet = tt;
  halted = subst (λ (x : Error). Halts C D a b p q (kind_of x)) (sym is) steps.halted;
}

pub steps_then : {S T : Type 0} (C D : Cipher) (t c t' c' u v u' v' : ℕ) (a b p q x y : Handle) (s : S) (r : Result T Error)
    → (let was : Result S Error = Ok s in Steps C D t c t' c' a b p q was) → Steps C D u v u' v' p q x y r → Steps C D (t + u) (c + v) (t' + u') (c' + v') a b x y r
steps_then C D t c t' c' u v u' v' a b p q x y s r first second = steps_later C D t c t' c' a b p q first.first first.second first.quiet u v u' v' x y r second

-- the steps at a place, and those from a place down
abbrev pub At : {T : Type 0} (C D : Cipher) (l j : ℕ) (a b p q : Handle) (r : Result T Error) → Type 0
At C D l j a b p q r = Steps C D (reads_at C a l j) (asked_at (count_in a.tree) l j) (reads_at D b l j) (asked_at (count_in b.tree) l j) a b p q r

abbrev pub Below : {T : Type 0} (C D : Cipher) (l j : ℕ) (a b p q : Handle) (r : Result T Error) → Type 0
Below C D l j a b p q r = Steps C D (records_between C a (j * 2 ^ l) ((j + 1) * 2 ^ l)) (asked_below (count_in a.tree) l j)
    (records_between D b (j * 2 ^ l) ((j + 1) * 2 ^ l)) (asked_below (count_in b.tree) l j) a b p q r

pub at_leaf : {T : Type 0} (C D : Cipher) (l j : ℕ) (a b p q : Handle) (r : Result T Error) → l ≡ 0
    → Steps C D (records_between C a j (j + 1)) 0 (records_between D b j (j + 1)) 0 a b p q r → At C D l j a b p q r
at_leaf C D l j a b p q r is steps = steps_less C D _ _ _ _ _ _ _ _ a b p q r (reads_leaf C a l j is) (omega arith) (reads_leaf D b l j is) (omega arith) steps

pub below_here : {T : Type 0} (C D : Cipher) (l j : ℕ) (a b p q : Handle) (r : Result T Error) → At C D l j a b p q r → Below C D l j a b p q r
below_here C D l j a b p q r steps = steps_less C D _ _ _ _ _ _ _ _ a b p q r (reads_less C a l j) (asked_less _ l j) (reads_less D b l j) (asked_less _ l j) steps

pub below_left : {S T : Type 0} (C D : Cipher) (l below j : ℕ) (a b p q x y : Handle) (s : S) (r : Result T Error) → l ≡ below + 1
    → (let was : Result S Error = Ok s in At C D l j a b p q was) → Below C D below (2 * j) p q x y r → Below C D l j a b x y r
below_left C D l below j a b p q x y s r up here left =
    steps_less C D _ _ _ _ _ _ _ _ a b x y r
    (first_two _ _ _ _ _ (reads_none C a l below j up) (same_records C a p _ _ here.first.header) (records_down C a l below j up))
    (omega (arith, calls_down _ _ _ l below j up (ap count_in here.first.tree) (ap count_in here.first.tree)))
    (first_two _ _ _ _ _ (reads_none D b l below j up) (same_records D b q _ _ here.second.header) (records_down D b l below j up))
    (omega (arith, calls_down _ _ _ l below j up (ap count_in here.second.tree) (ap count_in here.second.tree)))
    (steps_then C D _ _ _ _ _ _ _ _ a b p q x y s r here left)

pub below_both : {S U T : Type 0} (C D : Cipher) (l below j : ℕ) (a b p q x y z w : Handle) (s : S) (u : U) (r : Result T Error) → l ≡ below + 1
    → (let was : Result S Error = Ok s in At C D l j a b p q was) → (let was : Result U Error = Ok u in Below C D below (2 * j) p q x y was)
    → Below C D below (2 * j + 1) x y z w r → Below C D l j a b z w r
below_both C D l below j a b p q x y z w s u r up here left right =
    steps_less C D _ _ _ _ _ _ _ _ a b z w r
    (all_three _ _ _ _ _ _ (reads_none C a l below j up) (same_records C a p _ _ here.first.header) (same_records C a x _ _ (left.first.header ∙ here.first.header)) (records_down C a l below j up))
    (calls_down _ _ _ l below j up (ap count_in here.first.tree) (ap count_in (left.first.tree ∙ here.first.tree)))
    (all_three _ _ _ _ _ _ (reads_none D b l below j up) (same_records D b q _ _ here.second.header) (same_records D b y _ _ (left.second.header ∙ here.second.header)) (records_down D b l below j up))
    (calls_down _ _ _ l below j up (ap count_in here.second.tree) (ap count_in (left.second.tree ∙ here.second.tree)))
    (steps_then C D _ _ _ _ _ _ _ _ a b x y z w u r (steps_then C D _ _ _ _ _ _ _ _ a b p q x y s _ here left) right)
