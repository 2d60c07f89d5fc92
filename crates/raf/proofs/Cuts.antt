-- Bytes that are cut into chunks.
use Rattle.std.proofs.Common.{◌≡◌, inl, inr, ℕ, zero, suc, ◌+◌, ◌-◌, ◌*◌, ◌<◌, ◌≤◌, min, max, Bool, true, false, cond, ◌&&◌, List, [], ◌∷◌, ◌++◌, length, take, drop, replicate, Option, Some, None, refl, sym, ◌∙◌, ap, arith, length-append, length-take, length-drop, take-append-drop}
use Rattle.std.specs.Prelude.{nat_lt, nat_le, slice_index, unwrap_or}
use Rattle.std.specs.List.{concat}
use Rattle.std.proofs.Math.Seq.{take-add, take-append-add, drop-append-add}
use Rattle.std.proofs.lemmas.List.{drop_all, drop-drop, drop-take, take_all, take-take, take-append-le, drop-append-le, append-nil, length-replicate, take-replicate, drop-replicate, nil_from_length}
use Rattle.std.proofs.lemmas.Bool.{cases_lt}
use Rattle.raf_io.specs.Storage.{resized, spliced}
use Rattle.raf.specs.Concern.{meets}
use Rattle.raf.specs.Apply.{bytes_between, overlaid, rebuilt}
use Rattle.raf.specs.Session.{present}
use Rattle.std.proofs.lemmas.Bool.Decides.{nat_tests}
use Rattle.std.specs.Prelude.{◌⊎◌}
use Rattle.std.proofs.lemmas.List.{take_at, drop_at}
use Rattle.raf.proofs.Overlaid.{overlaid_is, overlaid_apart, overlaid_past}
use Rattle.raf_io.proofs.Splices.{resized_cut, resized_grown, length-resized, take-resized}

-- the bytes, cut into n chunks of this size from an index on
abbrev pub pieces : ℕ → ℕ → ℕ → List ℕ → List (Option (List ℕ))
pieces s j zero x = []
pieces s j (suc n) x = Some (take s (drop (j * s) x)) ∷ pieces s (j + 1) n x

-- a chunk after a change: made anew where it meets the range
abbrev pub renew : (s size from end o : ℕ) (d : List ℕ) → ℕ → Option (List ℕ) → Option (List ℕ)
renew s size from end o d j c =
    cond (meets (j * s) (min s (size - j * s)) from end) (Some (overlaid (j * s) o d (resized (min s (size - j * s)) (unwrap_or c [])))) c

-- each chunk is there and has its length
abbrev pub Sized : ℕ → ℕ → ℕ → List (Option (List ℕ)) → Type 0
Sized s size j [] = Unit {0}
Sized s size j (c ∷ cs) = (m : List ℕ) × (c ≡ Some m) × (length m ≡ min s (size - j * s)) × Sized s size (j + 1) cs

-- the chunks, joined again
pub joined : (s j n : ℕ) (x : List ℕ) → length x ≤ (j + n) * s → concat (present (pieces s j n x)) ≡ drop (j * s) x
joined s j zero x enough = sym (drop_all (j * s) x (omega (arith, enough)))
joined s j (suc n) x enough =
    let next : j * s + s ≡ (j + 1) * s = omega arith in
    ap (λ (l : List ℕ). take s (drop (j * s) x) ++ l)
    (joined s (j + 1) n x (omega (arith, enough)) ∙ ap (λ (k : ℕ). drop k x) (sym next) ∙ sym (drop-drop s (j * s) x))
    ∙ take-append-drop s (drop (j * s) x)

-- a range of them
part : (s from end p q : ℕ) (x : List ℕ) → q ≡ p + s
    → take (end - max from p) (drop (from - p) (take s (drop p x))) ++ take (end - max from q) (drop (max from q) x) ≡ take (end - max from p) (drop (max from p) x)
part s from end p q x is = elim (cases_lt from q) [
  | inr past ↦
      let a : max from p ≡ from = omega arith in
      let b : max from q ≡ from = omega arith in
      ap (λ (l : List ℕ). take (end - max from p) l ++ take (end - max from q) (drop (max from q) x)) (drop_all (from - p) (take s (drop p x)) (omega (arith, length-take s (drop p x))))
      ∙ ap (λ (l : List ℕ). l ++ take (end - max from q) (drop (max from q) x)) (take_all (end - max from p) [] (omega arith))
      ∙ ap (λ (k : ℕ). take (end - k) (drop k x)) (b ∙ sym a)
  | inl before ↦
      let b : max from q ≡ q = omega arith in
      let k : from - p + (q - max from p) ≡ s = omega arith in
      let at : p + (from - p) ≡ max from p = omega arith in
      let to : max from p + (q - max from p) ≡ q = omega arith in
      ap (λ (l : List ℕ). take (end - max from p) l ++ take (end - max from q) (drop (max from q) x))
      (ap (λ (n : ℕ). drop (from - p) (take n (drop p x))) (sym k) ∙ drop-take (from - p) (q - max from p) (drop p x) ∙ ap (λ (l : List ℕ). take (q - max from p) l) (drop-drop (from - p) p x ∙ ap (λ (n : ℕ). drop n x) at))
      ∙ elim (cases_lt end q) [
        | inl within ↦
            let none : end - max from q ≡ 0 = omega arith in
            ap (λ (n : ℕ). take (end - max from p) (take (q - max from p) (drop (max from p) x)) ++ take n (drop (max from q) x)) none
            ∙ append-nil (take (end - max from p) (take (q - max from p) (drop (max from p) x)))
            ∙ take-take (end - max from p) (q - max from p) (drop (max from p) x) (omega arith)
        | inr beyond ↦
            let sum : q - max from p + (end - max from q) ≡ end - max from p = omega arith in
            ap (λ (l : List ℕ). l ++ take (end - max from q) (drop (max from q) x)) (take_all (end - max from p) (take (q - max from p) (drop (max from p) x)) (omega (arith, length-take (q - max from p) (drop (max from p) x))))
            ∙ ap (λ (n : ℕ). take (q - max from p) (drop (max from p) x) ++ take (end - max from q) (drop n x)) (b ∙ sym to)
            ∙ ap (λ (l : List ℕ). take (q - max from p) (drop (max from p) x) ++ take (end - max from q) l) (sym (drop-drop (q - max from p) (max from p) x))
            ∙ sym (take-add (q - max from p) (end - max from q) (drop (max from p) x))
            ∙ ap (λ (n : ℕ). take n (drop (max from p) x)) sum
      ]
]

pub between : (s from end j n : ℕ) (x : List ℕ) → end ≤ (j + n) * s
    → bytes_between s from end j (pieces s j n x) ≡ take (end - max from (j * s)) (drop (max from (j * s)) x)
between s from end j zero x enough = let none : end - max from (j * s) ≡ 0 = omega (arith, enough) in ap (λ (n : ℕ). take n (drop (max from (j * s)) x)) (sym none)
between s from end j (suc n) x enough =
    ap (λ (l : List ℕ). take (end - max from (j * s)) (drop (from - j * s) (take s (drop (j * s) x))) ++ l) (between s from end (j + 1) n x (omega (arith, enough)))
    ∙ part s from end (j * s) ((j + 1) * s) x (omega arith)

-- the front and the back of what lies over bytes
pub take_overlaid : (n p o : ℕ) (d xs : List ℕ) → take n (overlaid p o d xs) ≡ overlaid p o d (take n xs)
take_overlaid zero p o d xs = refl
take_overlaid (suc n) p o d [] = refl
take_overlaid (suc n) p o d (x ∷ xs) =
    ap (λ (l : List ℕ). cond (nat_le o p && nat_lt p (o + length d)) (slice_index d (p - o)) x ∷ l) (take_overlaid n (p + 1) o d xs)

pub drop_overlaid : (n p o : ℕ) (d xs : List ℕ) → drop n (overlaid p o d xs) ≡ overlaid (p + n) o d (drop n xs)
drop_overlaid zero p o d xs = let e : p ≡ p + 0 = omega arith in ap (λ (n : ℕ). overlaid n o d xs) e
drop_overlaid (suc n) p o d [] = refl
drop_overlaid (suc n) p o d (x ∷ xs) = let e : p + 1 + n ≡ p + suc n = omega arith in drop_overlaid n (p + 1) o d xs ∙ ap (λ (k : ℕ). overlaid k o d (drop n xs)) e

-- the front of what is grown
take_grown : (s m : ℕ) (y : List ℕ) → take s (y ++ replicate (m - length y) 0) ≡ resized (min s (max m (length y))) (take s y)
take_grown s m y = elim (cases_lt s (length y)) [
  | inl cut ↦
      let k : min s (max m (length y)) ≡ s = omega arith in
      let none : s - length (take s y) ≡ 0 = omega (arith, length-take s y) in
      take-append-le s y (replicate (m - length y) 0) (omega arith)
      ∙ sym (ap (λ (n : ℕ). resized n (take s y)) k ∙ ap (λ (n : ℕ). take s (take s y) ++ replicate n 0) none ∙ append-nil (take s (take s y)) ∙ take-take s s y (omega arith))
  | inr all ↦
      let whole : take s y ≡ y = take_all s y all in
      let split : length y + (s - length y) ≡ s = omega arith in
      let k : min (s - length y) (m - length y) ≡ min s (max m (length y)) - length y = omega arith in
      ap (λ (n : ℕ). take n (y ++ replicate (m - length y) 0)) (sym split)
      ∙ take-append-add y (replicate (m - length y) 0) (s - length y)
      ∙ ap (λ (l : List ℕ). y ++ l) (zeros (s - length y) (m - length y) ∙ ap (λ (n : ℕ). replicate n 0) k)
      ∙ sym (ap (λ (l : List ℕ). resized (min s (max m (length y))) l) whole ∙ ap (λ (l : List ℕ). l ++ replicate (min s (max m (length y)) - length y) 0) (take_all (min s (max m (length y))) y (omega arith)))
]
  where
    zeros : (a b : ℕ) → take a (replicate b 0) ≡ replicate {A = ℕ} (min a b) 0
    zeros a b = elim (cases_lt a b) [
      | inl lt ↦ let e : a ≡ min a b = omega arith in take-replicate a b 0 (omega arith) ∙ ap (λ (n : ℕ). replicate n 0) e
      | inr ge ↦ let e : b ≡ min a b = omega arith in take_all a (replicate b 0) (omega (arith, length-replicate {A = ℕ} b 0)) ∙ ap (λ (n : ℕ). replicate n 0) e
    ]

take_least : (a b : ℕ) (l : List ℕ) → take a (take b l) ≡ take (min a b) l
take_least a b l = elim (cases_lt a b) [
  | inl lt ↦ let e : a ≡ min a b = omega arith in take-take a b l (omega arith) ∙ ap (λ (n : ℕ). take n l) e
  | inr ge ↦ let e : b ≡ min a b = omega arith in take_all a (take b l) (omega (arith, length-take b l)) ∙ ap (λ (n : ℕ). take n l) e
]

pub resized_piece : (s p size : ℕ) (x : List ℕ) → take s (drop p (resized size x)) ≡ resized (min s (size - p)) (take s (drop p x))
resized_piece s p size x = elim (cases_lt p size) [
  | inr past ↦
      nil_from_length (take s (drop p (resized size x))) (omega (arith, length-take s (drop p (resized size x)), length-drop p (resized size x), length-resized size x))
      ∙ sym (nil_from_length (resized (min s (size - p)) (take s (drop p x))) (omega (arith, length-resized (min s (size - p)) (take s (drop p x)))))
  | inl inside ↦ elim (cases_lt (length x) size) [
    | inr cut ↦
        let split : p + (size - p) ≡ size = omega arith in
        ap (λ (l : List ℕ). take s (drop p l)) (resized_cut size x cut ∙ ap (λ (n : ℕ). take n x) (sym split))
        ∙ ap (λ (l : List ℕ). take s l) (drop-take p (size - p) x)
        ∙ take_least s (size - p) (drop p x)
        ∙ sym (resized_cut (min s (size - p)) (take s (drop p x)) (omega (arith, length-take s (drop p x), length-drop p x)) ∙ take-take (min s (size - p)) s (drop p x) (omega arith))
    | inl grown ↦
        let k : min s (max (size - p) (length (drop p x))) ≡ min s (size - p) = omega (arith, length-drop p x) in
        ap (λ (l : List ℕ). take s l) (behind inside grown) ∙ take_grown s (size - p) (drop p x) ∙ ap (λ (n : ℕ). resized n (take s (drop p x))) k
  ]
]
  where
    behind : p < size → length x < size → drop p (resized size x) ≡ drop p x ++ replicate (size - p - length (drop p x)) 0
    behind inside grown = ap (λ (l : List ℕ). drop p l) (resized_grown size x (omega arith)) ∙ elim (cases_lt (length x) p) [
      | inr within ↦
          let n : size - length x ≡ size - p - length (drop p x) = omega (arith, length-drop p x) in
          drop-append-le p x (replicate (size - length x) 0) within ∙ ap (λ (n : ℕ). drop p x ++ replicate n 0) n
      | inl past ↦
          let split : length x + (p - length x) ≡ p = omega arith in
          let none : drop p x ≡ [] = drop_all p x (omega arith) in
          let n : size - length x - (p - length x) ≡ size - p - length (drop p x) = omega (arith, length-drop p x) in
          ap (λ (k : ℕ). drop k (x ++ replicate (size - length x) 0)) (sym split)
          ∙ drop-append-add x (replicate (size - length x) 0) (p - length x)
          ∙ drop-replicate (p - length x) (size - length x) 0
          ∙ ap (λ (k : ℕ). replicate k 0) n
          ∙ ap (λ (l : List ℕ). l ++ replicate (size - p - length (drop p x)) 0) (sym none)
    ]

pub piece : (s p o size : ℕ) (d x : List ℕ)
    → take s (drop p (overlaid 0 o d (resized size x))) ≡ overlaid p o d (resized (min s (size - p)) (take s (drop p x)))
piece s p o size d x =
    let z : 0 + p ≡ p = omega arith in
    ap (λ (l : List ℕ). take s l) (drop_overlaid p 0 o d (resized size x) ∙ ap (λ (n : ℕ). overlaid n o d (drop p (resized size x))) z)
    ∙ take_overlaid s p o d (drop p (resized size x))
    ∙ ap (overlaid p o d) (resized_piece s p size x)

pub over : (o : ℕ) (d x : List ℕ) → overlaid 0 o d (resized (max (length x) (o + length d)) x) ≡ spliced o d x
over o d x =
    let size = max (length x) (o + length d) in
    overlaid_is o d (resized size x) (omega (arith, length-resized size x))
    ∙ ap (λ (l : List ℕ). l ++ d ++ drop (o + length d) (resized (max (length x) (o + length d)) x)) (take-resized o size x (omega arith))
    ∙ ap (λ (l : List ℕ). resized o x ++ d ++ l) (elim (cases_lt (length x) (o + length d)) [
      | inl grown ↦ drop_all (o + length d) (resized size x) (omega (arith, length-resized size x)) ∙ sym (drop_all (o + length d) x (omega arith))
      | inr same ↦ let k : size ≡ length x = omega arith in ap (λ (n : ℕ). drop (o + length d) (resized n x)) k ∙ ap (λ (l : List ℕ). drop (o + length d) l) (resized_cut (length x) x (omega arith) ∙ take_all (length x) x (omega arith))
    ])

resized_same : (n : ℕ) (m : List ℕ) → length m ≡ n → resized n m ≡ m
resized_same n m e = resized_cut n m (omega (arith, e)) ∙ take_all n m (omega (arith, e))

module _ (s o : ℕ) (d x : List ℕ) (some : 0 < s) (busy : 0 < length d) where
  abbrev pub size : ℕ
  size = max (length x) (o + length d)

  abbrev pub from : ℕ
  from = min o (length x)

  abbrev pub end : ℕ
  end = o + length d

  abbrev pub y : List ℕ
  y = overlaid 0 o d (resized (max (length x) (o + length d)) x)

  touched_in : (p k : ℕ) → p < o + length d → min o (length x) < p + k → meets p k (min o (length x)) (o + length d) ≡ true
  touched_in p k begins ends =
      let going : min o (length x) < o + length d = omega (arith, busy) in
      grind (arith, nat_tests)

  -- a chunk that the range doesn't meet stays
  untouched : (p : ℕ) → p < max (length x) (o + length d) → meets p (min s (max (length x) (o + length d) - p)) (min o (length x)) (o + length d) ≡ false
      → overlaid p o d (resized (min s (max (length x) (o + length d) - p)) (take s (drop p x))) ≡ take s (drop p x)
  untouched p lt out = elim (cases_lt p (o + length d)) [
    | inr past ↦
        let k : length (take s (drop p x)) ≡ min s (max (length x) (o + length d) - p) = omega (arith, length-take s (drop p x), length-drop p x, past, lt) in
        ap (overlaid p o d) (resized_same (min s (max (length x) (o + length d) - p)) (take s (drop p x)) k)
        ∙ overlaid_past p o d (take s (drop p x)) past
    | inl begins ↦ elim (cases_lt (min o (length x)) (p + min s (max (length x) (o + length d) - p))) [
      | inl ends ↦ absurd (odd (sym (touched_in p (min s (max (length x) (o + length d) - p)) begins ends) ∙ out))
      | inr before ↦
          let k : length (take s (drop p x)) ≡ min s (max (length x) (o + length d) - p) = omega (arith, length-take s (drop p x), length-drop p x, before, lt, some) in
          ap (overlaid p o d) (resized_same (min s (max (length x) (o + length d) - p)) (take s (drop p x)) k)
          ∙ overlaid_apart p o d (take s (drop p x)) (omega (arith, k, before))
    ]
  ]
    where
      odd : true ≡ false → ⊥
      odd e = cc

  one : (j : ℕ) (c : Option (List ℕ)) → j * s < max (length x) (o + length d) → unwrap_or c [] ≡ take s (drop (j * s) x)
      → (c ≡ Some (take s (drop (j * s) x))) ⊎ (length x ≤ j * s)
      → renew s (max (length x) (o + length d)) (min o (length x)) (o + length d) o d j c ≡ Some (take s (drop (j * s) y))
  one j c lt is there = go (meets (j * s) (min s (max (length x) (o + length d) - j * s)) (min o (length x)) (o + length d)) refl there
    where
      odd : true ≡ false → ⊥
      odd e = cc

      go : (t : Bool) → meets (j * s) (min s (max (length x) (o + length d) - j * s)) (min o (length x)) (o + length d) ≡ t → (c ≡ Some (take s (drop (j * s) x))) ⊎ (length x ≤ j * s)
          → cond t (Some (overlaid (j * s) o d (resized (min s (max (length x) (o + length d) - j * s)) (unwrap_or c [])))) c ≡ Some (take s (drop (j * s) y))
      go true is_touched there =
          ap (λ (l : List ℕ). Some (overlaid (j * s) o d (resized (min s (max (length x) (o + length d) - j * s)) l))) is
          ∙ ap (λ (l : List ℕ). Some l) (sym (piece s (j * s) o (max (length x) (o + length d)) d x))
      go false out (inl had) = had ∙ ap (λ (l : List ℕ). Some l) (sym (piece s (j * s) o (max (length x) (o + length d)) d x ∙ untouched (j * s) lt out))
      go false out (inr past) =
          absurd (odd (sym (touched_in (j * s) (min s (max (length x) (o + length d) - j * s)) (omega (arith, past, lt)) (omega (arith, past, lt, some))) ∙ out))

  written_from : (n j m : ℕ) → length x ≤ (j + m) * s → ((i : ℕ) → i < j + n → i * s < max (length x) (o + length d))
      → rebuilt (renew s (max (length x) (o + length d)) (min o (length x)) (o + length d) o d) j n (pieces s j m x) ≡ pieces s j n y
  written_from zero j m enough below = refl
  written_from (suc n) j zero enough below =
      let past : length x ≤ j * s = omega (arith, enough) in
      ap (λ (c : Option (List ℕ)). c ∷ rebuilt (renew s (max (length x) (o + length d)) (min o (length x)) (o + length d) o d) (j + 1) n [])
      (one j None (below j (omega arith)) (sym (take_all s (drop (j * s) x) (omega (arith, length-drop (j * s) x, past)) ∙ drop_all (j * s) x past)) (inr past))
      ∙ ap (λ (l : List (Option (List ℕ))). Some (take s (drop (j * s) y)) ∷ l) (written_from n (j + 1) zero (omega (arith, enough)) (λ i lt. below i (omega (arith, lt))))
  written_from (suc n) j (suc m) enough below =
      ap (λ (c : Option (List ℕ)). c ∷ rebuilt (renew s (max (length x) (o + length d)) (min o (length x)) (o + length d) o d) (j + 1) n (pieces s (j + 1) m x))
      (one j (Some (take s (drop (j * s) x))) (below j (omega arith)) refl (inl refl))
      ∙ ap (λ (l : List (Option (List ℕ))). Some (take s (drop (j * s) y)) ∷ l) (written_from n (j + 1) m (omega (arith, enough)) (λ i lt. below i (omega (arith, lt))))

pub written : (s o : ℕ) (d x : List ℕ) (n m : ℕ) → 0 < s → 0 < length d → length x ≤ m * s → ((i : ℕ) → i < n → i * s < max (length x) (o + length d))
    → rebuilt (renew s (max (length x) (o + length d)) (min o (length x)) (o + length d) o d) 0 n (pieces s 0 m x)
    ≡ pieces s 0 n (overlaid 0 o d (resized (max (length x) (o + length d)) x))
written s o d x n m some busy enough below = written_from s o d x some busy n 0 m (omega (arith, enough)) (λ i lt. below i (omega (arith, lt)))

-- ---- a file's chunks are its bytes, cut

sized_from : (s size j : ℕ) (cs : List (Option (List ℕ))) → Sized s size j cs → size ≤ (j + length cs) * s → length (concat (present cs)) ≡ size - j * s
sized_from s size j [] h enough = omega (arith, enough)
sized_from s size j (c ∷ cs) h enough =
    let first : length (unwrap_or c []) ≡ length h.0 = ap (λ (o : Option (List ℕ)). length (unwrap_or o [])) h.1 in
    let next : (j + 1) * s ≡ j * s + s = omega arith in
    omega (arith, length-append (unwrap_or c []) (concat (present cs)), first, h.2, next, sized_from s size (j + 1) cs h.3 (omega (arith, enough)))

pub sized : (s size : ℕ) (cs : List (Option (List ℕ))) → Sized s size 0 cs → size ≤ length cs * s → length (concat (present cs)) ≡ size
sized s size cs h enough = omega (arith, sized_from s size 0 cs h (omega (arith, enough)))

cut_from : (s size j : ℕ) (cs : List (Option (List ℕ))) (x : List ℕ) → Sized s size j cs → ((i : ℕ) → i < j + length cs → i * s < size) → drop (j * s) x ≡ concat (present cs)
    → cs ≡ pieces s j (length cs) x
cut_from s size j [] x h below is = refl
cut_from s size j (c ∷ cs) x h below is =
    ap (λ (o : Option (List ℕ)). o ∷ cs) (h.1 ∙ ap (λ (l : List ℕ). Some l) (sym (front cs here whole)))
    ∙ ap (λ (l : List (Option (List ℕ))). Some (take s (drop (j * s) x)) ∷ l) (cut_from s size (j + 1) cs x h.3 (λ i lt. below i (omega (arith, lt))) (rest cs here whole))
  where
    next : j * s + s ≡ (j + 1) * s
    next = omega arith

    here : drop (j * s) x ≡ h.0 ++ concat (present cs)
    here = is ∙ ap (λ (o : Option (List ℕ)). unwrap_or o [] ++ concat (present cs)) h.1

    most : length h.0 ≤ s
    most = omega (arith, h.2)

    whole : 0 < length cs → length h.0 ≡ s
    whole more = omega (arith, h.2, below (j + 1) (omega (arith, more)), next)

    front : (ds : List (Option (List ℕ))) → drop (j * s) x ≡ h.0 ++ concat (present ds) → (0 < length ds → length h.0 ≡ s) → take s (drop (j * s) x) ≡ h.0
    front [] here full = ap (λ (l : List ℕ). take s l) (here ∙ append-nil h.0) ∙ take_all s h.0 most
    front (d ∷ ds) here full = ap (λ (l : List ℕ). take s l) here ∙ take_at h.0 (concat (present (d ∷ ds))) s (full (omega arith))

    rest : (ds : List (Option (List ℕ))) → drop (j * s) x ≡ h.0 ++ concat (present ds) → (0 < length ds → length h.0 ≡ s) → drop ((j + 1) * s) x ≡ concat (present ds)
    rest [] here full =
        ap (λ (k : ℕ). drop k x) (sym next) ∙ sym (drop-drop s (j * s) x) ∙ ap (λ (l : List ℕ). drop s l) (here ∙ append-nil h.0) ∙ drop_all s h.0 most
    rest (d ∷ ds) here full =
        ap (λ (k : ℕ). drop k x) (sym next) ∙ sym (drop-drop s (j * s) x) ∙ ap (λ (l : List ℕ). drop s l) here
        ∙ drop_at h.0 (concat (present (d ∷ ds))) s (full (omega arith))

pub cut : (s size : ℕ) (cs : List (Option (List ℕ))) → Sized s size 0 cs → ((i : ℕ) → i < length cs → i * s < size) → cs ≡ pieces s 0 (length cs) (concat (present cs))
cut s size cs h below =
    let z : 0 * s ≡ 0 = omega arith in
    cut_from s size 0 cs (concat (present cs)) h (λ i lt. below i (omega (arith, lt))) (ap (λ (k : ℕ). drop k (concat (present cs))) z)
