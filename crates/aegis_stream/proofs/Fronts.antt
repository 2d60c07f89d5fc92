-- What the front of some bytes says of all of them.
use Rattle.std.proofs.Common.{◌≡◌, ℕ, ◌+◌, ◌<◌, ◌≤◌, Bool, true, false, not, cond, ◌&&◌, ◌||◌, ltb, leb, eqb, List, ◌++◌, length, take, drop, get_or, Option, sym, ap, ◌∙◌, arith, inl, inr, length-append, length-drop}
use Rattle.std.proofs.lemmas.List.{take-append-le, drop-append-le, get_or_append_left}
use Rattle.std.proofs.lemmas.Bool.{cond-true, cond-false, cases_Bool, and_parts, or_cases, or_left, and_from, and_left, ltb-true, leb-true, lt-ltb, le-leb, lt-leb, leb-false, false_from_ne_true, both_ways, and_right, and_cases, cases_lt}
use Rattle.std.specs.Int.{w32, from_le_bytes}
use Rattle.aegis_core.specs.Sealing.{unsealed}
use Rattle.aegis_core.specs.declared.variant.Variant.TheVariants.{Aegis128L}
use Rattle.aegis_stream.specs.Grammar.{is_message_len, frame_nonce}
use Rattle.aegis_stream.specs.Unspell.{Next, is_malformed, is_whole, length_in, message_in, of_message, next}
use Rattle.aegis_stream.specs.Unspell.State.{Frame, More}
use Rattle.aegis_stream.specs.Unspell.Next.{Stops}

pub mark-append : (f x : List ℕ) → 0 < length f → get_or (f ++ x) 0 0 ≡ get_or f 0 0
mark-append f x some = get_or_append_left f x 0 0 some

pub length_in-append : (f x : List ℕ) → 5 ≤ length f → length_in (f ++ x) ≡ length_in f
length_in-append f x long =
    let first : drop 1 (f ++ x) ≡ drop 1 f ++ x = drop-append-le 1 f x (omega arith) in
    let left : 4 ≤ length (drop 1 f) = omega (arith, length-drop 1 f) in
    ap (λ (l : List ℕ). from_le_bytes w32 (take 4 l)) first ∙ ap (from_le_bytes w32) (take-append-le 4 (drop 1 f) x left)

-- the tests of the mark and of the length
abbrev bad_mark : ℕ → ℕ → Bool
bad_mark n mark = ltb 0 n && ltb 1 mark

abbrev bad_length : ℕ → ℕ → ℕ → Bool
bad_length n mark len = leb 5 n && not (is_message_len (eqb mark 1) len)

pub malformed-append : (f x : List ℕ) → 5 ≤ length f → is_malformed (f ++ x) ≡ is_malformed f
unfolding is_malformed
malformed-append f x long =
    let n : ℕ = length f in
    let m : ℕ = length (f ++ x) in
    let more : n ≤ m = omega (arith, length-append f x) in
    let some : ltb 0 m ≡ ltb 0 n = lt-ltb 0 m (omega arith) ∙ sym (lt-ltb 0 n (omega arith)) in
    let five : leb 5 m ≡ leb 5 n = le-leb 5 m (omega arith) ∙ sym (le-leb 5 n long) in
    let k : ℕ = get_or f 0 0 in
    let l : ℕ = length_in f in
    ap (λ (j : ℕ). bad_mark m j || bad_length m j (length_in (f ++ x))) (mark-append f x (omega arith))
    ∙ ap (λ (j : ℕ). bad_mark m k || bad_length m k j) (length_in-append f x long)
    ∙ ap (λ (b : Bool). (b && ltb 1 k) || bad_length m k l) some
    ∙ ap (λ (b : Bool). bad_mark n k || (b && not (is_message_len (eqb k 1) l))) five

-- what is malformed stays so
pub malformed_more : (f x : List ℕ) → is_malformed f ≡ true → is_malformed (f ++ x) ≡ true
unfolding is_malformed
malformed_more f x bad = elim (or_cases (bad_mark (length f) (get_or f 0 0)) (bad_length (length f) (get_or f 0 0) (length_in f)) bad) [
  | inl mark ↦
      let parts = and_parts (ltb 0 (length f)) (ltb 1 (get_or f 0 0)) mark in
      let some : 0 < length f = ltb-true 0 (length f) parts.0 in
      let is : bad_mark (length (f ++ x)) (get_or (f ++ x) 0 0) ≡ true =
      and_from (ltb 0 (length (f ++ x))) (ltb 1 (get_or (f ++ x) 0 0)) (lt-ltb 0 (length (f ++ x)) (omega (arith, length-append f x))) (ap (ltb 1) (mark-append f x some) ∙ parts.1) in
      or_left (bad_mark (length (f ++ x)) (get_or (f ++ x) 0 0)) (bad_length (length (f ++ x)) (get_or (f ++ x) 0 0) (length_in (f ++ x))) is
  | inr len ↦
      let parts = and_parts (leb 5 (length f)) (not (is_message_len (eqb (get_or f 0 0) 1) (length_in f))) len in
      malformed-append f x (leb-true 5 (length f) parts.0) ∙ bad
]

pub malformed_front : (f x : List ℕ) → is_malformed (f ++ x) ≡ false → is_malformed f ≡ false
malformed_front f x good = false_from_ne_true (is_malformed f) (λ bad. both_ways (is_malformed (f ++ x)) good (malformed_more f x bad))

pub whole_long : (f : List ℕ) → is_whole f ≡ true → (5 ≤ length f) × (21 + length_in f ≤ length f)
unfolding is_whole
whole_long f whole =
    let parts = and_parts (leb 5 (length f)) (leb (21 + length_in f) (length f)) whole in
    (leb-true 5 (length f) parts.0, leb-true (21 + length_in f) (length f) parts.1)

pub whole_from : (f : List ℕ) → 5 ≤ length f → 21 + length_in f ≤ length f → is_whole f ≡ true
unfolding is_whole
whole_from f long all = and_from (leb 5 (length f)) (leb (21 + length_in f) (length f)) (le-leb 5 (length f) long) (le-leb (21 + length_in f) (length f) all)

pub part_short : (f : List ℕ) → length f < 5 → is_whole f ≡ false
unfolding is_whole
part_short f short = and_left (leb 5 (length f)) (leb (21 + length_in f) (length f)) (lt-leb 5 (length f) short)

pub part_from : (f : List ℕ) → length f < 21 + length_in f → is_whole f ≡ false
unfolding is_whole
part_from f short = and_right (leb 5 (length f)) (leb (21 + length_in f) (length f)) (lt-leb (21 + length_in f) (length f) short)

pub part_long : (f : List ℕ) → is_whole f ≡ false → 5 ≤ length f → length f < 21 + length_in f
unfolding is_whole
part_long f part long = elim (and_cases (leb 5 (length f)) (leb (21 + length_in f) (length f)) part) [
  | inl short ↦ absurd (both_ways (leb 5 (length f)) short (le-leb 5 (length f) long))
  | inr less ↦ leb-false (21 + length_in f) (length f) less
]

abbrev of_frame : List ℕ → List ℕ → ℕ → List ℕ → Next
of_frame key prefix i b = of_message (eqb (get_or b 0 0) 1) (message_in key prefix i b)

pub next_malformed : (key prefix : List ℕ) (i : ℕ) (b : List ℕ) → is_malformed b ≡ true → next key prefix i b ≡ Stops Frame
unfolding next
next_malformed key prefix i b bad =
    cond-true (is_malformed b) (Stops Frame) (cond (is_whole b) (of_frame key prefix i b) (Stops More)) bad

pub next_part : (key prefix : List ℕ) (i : ℕ) (b : List ℕ) → is_malformed b ≡ false → is_whole b ≡ false → next key prefix i b ≡ Stops More
unfolding next
next_part key prefix i b good part =
    cond-false (is_malformed b) (Stops Frame) (cond (is_whole b) (of_frame key prefix i b) (Stops More)) good
    ∙ cond-false (is_whole b) (of_frame key prefix i b) (Stops More) part

pub next_whole : (key prefix : List ℕ) (i : ℕ) (b : List ℕ) → is_malformed b ≡ false → is_whole b ≡ true
    → next key prefix i b ≡ of_message (eqb (get_or b 0 0) 1) (message_in key prefix i b)
unfolding next
next_whole key prefix i b good whole =
    cond-false (is_malformed b) (Stops Frame) (cond (is_whole b) (of_frame key prefix i b) (Stops More)) good
    ∙ cond-true (is_whole b) (of_frame key prefix i b) (Stops More) whole

pub message_in-append : (key prefix : List ℕ) (i : ℕ) (f x : List ℕ) → 21 + length_in f ≤ length f → message_in key prefix i (f ++ x) ≡ message_in key prefix i f
unfolding message_in
message_in-append key prefix i f x all =
    let n : ℕ = length_in f in
    let head : take 5 (f ++ x) ≡ take 5 f = take-append-le 5 f x (omega arith) in
    let from5 : drop 5 (f ++ x) ≡ drop 5 f ++ x = drop-append-le 5 f x (omega arith) in
    let text : take n (drop 5 (f ++ x)) ≡ take n (drop 5 f) = ap (take n) from5 ∙ take-append-le n (drop 5 f) x (omega (arith, length-drop 5 f)) in
    let from : drop (5 + n) (f ++ x) ≡ drop (5 + n) f ++ x = drop-append-le (5 + n) f x (omega arith) in
    let tag : take 16 (drop (5 + n) (f ++ x)) ≡ take 16 (drop (5 + n) f) = ap (take 16) from ∙ take-append-le 16 (drop (5 + n) f) x (omega (arith, length-drop (5 + n) f)) in
    let u : List ℕ → List ℕ → List ℕ → Option (List ℕ) = unsealed Aegis128L 16 key (frame_nonce prefix i) in
    ap (λ (k : ℕ). u (take 5 (f ++ x)) (take k (drop 5 (f ++ x))) (take 16 (drop (5 + k) (f ++ x)))) (length_in-append f x (omega arith))
    ∙ ap (λ (l : List ℕ). u l (take n (drop 5 (f ++ x))) (take 16 (drop (5 + n) (f ++ x)))) head
    ∙ ap (λ (l : List ℕ). u (take 5 f) l (take 16 (drop (5 + n) (f ++ x)))) text
    ∙ ap (u (take 5 f) (take n (drop 5 f))) tag

-- a whole frame says all that the bytes after it could
pub next-append : (key prefix : List ℕ) (i : ℕ) (f x : List ℕ) → is_whole f ≡ true → next key prefix i (f ++ x) ≡ next key prefix i f
next-append key prefix i f x whole =
    let long = whole_long f whole in
    let same : is_malformed (f ++ x) ≡ is_malformed f = malformed-append f x long.0 in
    elim (cases_Bool (is_malformed f)) [
      | inl bad ↦ next_malformed key prefix i (f ++ x) (same ∙ bad) ∙ sym (next_malformed key prefix i f bad)
      | inr good ↦
          let len : length_in (f ++ x) ≡ length_in f = length_in-append f x long.0 in
          let all : is_whole (f ++ x) ≡ true = whole_from (f ++ x) (omega (arith, length-append f x, long.0)) (omega (arith, length-append f x, long.1, len)) in
          next_whole key prefix i (f ++ x) (same ∙ good) all
          ∙ ap (λ (j : ℕ). of_message (eqb j 1) (message_in key prefix i (f ++ x))) (mark-append f x (omega (arith, long.0)))
          ∙ ap (of_message (eqb (get_or f 0 0) 1)) (message_in-append key prefix i f x long.1)
          ∙ sym (next_whole key prefix i f good whole)
    ]

-- the front of a frame that is in the grammar
pub next_front : (key prefix : List ℕ) (i : ℕ) (f x : List ℕ) → is_malformed (f ++ x) ≡ false → length f < 21 + length_in (f ++ x) → next key prefix i f ≡ Stops More
next_front key prefix i f x good short = next_part key prefix i f (malformed_front f x good) (elim (cases_lt (length f) 5) [
  | inl less ↦ part_short f less
  | inr long ↦ part_from f (omega (arith, length_in-append f x long))
])
