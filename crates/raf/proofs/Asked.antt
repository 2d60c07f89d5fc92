-- How many hashes a walk down a tree asks.
use Rattle.std.proofs.Common.{◌≡◌, ℕ, zero, suc, ◌+◌, ◌*◌, ◌^◌, ◌<◌, ◌≤◌, sym, ap, subst, ◌∙◌, inl, inr, arith, add-one}
use Rattle.std.proofs.lemmas.Bool.{cases_lt, lt-ltb, le-ltb, le-leb, lt-leb, and_from, and_left, and_right, cond-true, cond-false}
use Rattle.std.proofs.lemmas.Nat.{pow_pos}
use Rattle.std.proofs.Math.Nat.{pow-suc, mul_assoc, add-mul}
use Rattle.raf.specs.Clashing.{asked_at, asked_below}
use Rattle.raf.specs.Outside.{Outside, Moved}
use Rattle.raf.proofs.Moves.{moved_same, moved_any, moved_less}

pow_up : (l : ℕ) → 2 ^ (l + 1) ≡ 2 ^ l * 2
pow_up l = ap (λ k. 2 ^ k) (add-one l) ∙ pow-suc 2 l

-- one level up, a place is two places
pub doubled : (j l : ℕ) → j * 2 ^ (l + 1) ≡ (2 * j) * 2 ^ l
doubled j l = omega (arith, ap (λ k. j * k) (pow_up l), mul_assoc j (2 ^ l) 2, mul_assoc 2 j (2 ^ l))

pub halved : (j l : ℕ) → (2 * j + 1) * 2 ^ l ≡ j * 2 ^ (l + 1) + 2 ^ l
halved j l = omega (arith, add-mul (2 * j) 1 (2 ^ l), doubled j l)

pub next_doubled : (j l : ℕ) → (j + 1) * 2 ^ (l + 1) ≡ (2 * j + 1 + 1) * 2 ^ l
next_doubled j l = let e : 2 * (j + 1) ≡ 2 * j + 1 + 1 = omega arith in doubled (j + 1) l ∙ ap (λ k. k * 2 ^ l) e

-- the boundary is inside the place
inside : (n l j : ℕ) → j * 2 ^ l < n → n < (j + 1) * 2 ^ l → asked_below n l j ≡ l
unfolding asked_below
inside n l j low high = cond-true _ _ _ (and_from _ _ (lt-ltb _ _ low) (lt-ltb _ _ high))

before : (n l j : ℕ) → n ≤ j * 2 ^ l → asked_below n l j ≡ 0
unfolding asked_below
before n l j none = cond-false _ _ _ (and_left _ _ (le-ltb _ _ none))

behind : (n l j : ℕ) → (j + 1) * 2 ^ l ≤ n → asked_below n l j ≡ 0
unfolding asked_below
behind n l j all = cond-false _ _ _ (and_right _ _ (le-ltb _ _ all))

most : (n l j : ℕ) → asked_below n l j ≤ l
most n l j = elim (cases_lt (j * 2 ^ l) n) [
  | inr none ↦ omega (arith, before n l j none)
  | inl low ↦ elim (cases_lt n ((j + 1) * 2 ^ l)) [
    | inl high ↦ omega (arith, inside n l j low high)
    | inr all ↦ omega (arith, behind n l j all)
  ]
]

pub asked_here : (n l j : ℕ) → j * 2 ^ (l + 1) < n → n ≤ (2 * j + 1) * 2 ^ l → asked_at n (l + 1) j ≡ 1
unfolding asked_at
asked_here n l j low high =
    subst (λ (k : ℕ). asked_at n k j ≡ 1) (sym (add-one l)) (cond-true _ _ _ (and_from _ _ (lt-ltb (2 * j * 2 ^ l) n (omega (arith, doubled j l))) (le-leb n ((2 * j + 1) * 2 ^ l) high)))

pub asked_not : (n l j : ℕ) → (2 * j + 1) * 2 ^ l < n → asked_at n (l + 1) j ≡ 0
unfolding asked_at
asked_not n l j past =
    subst (λ (k : ℕ). asked_at n k j ≡ 0) (sym (add-one l)) (cond-false _ _ _ (and_right _ _ (lt-leb _ _ past)))

asked_none : (n l j : ℕ) → n ≤ j * 2 ^ (l + 1) → asked_at n (l + 1) j ≡ 0
unfolding asked_at
asked_none n l j none =
    subst (λ (k : ℕ). asked_at n k j ≡ 0) (sym (add-one l)) (cond-false _ _ _ (and_left _ _ (le-ltb (2 * j * 2 ^ l) n (omega (arith, doubled j l)))))

-- at a place and from both places below it
pub asked_sum : (n l j : ℕ) → asked_at n (l + 1) j + asked_below n l (2 * j) + asked_below n l (2 * j + 1) ≤ asked_below n (l + 1) j
asked_sum n l j = elim (cases_lt (j * 2 ^ (l + 1)) n) [
  | inr none ↦
      omega (arith, asked_none n l j none, before n l (2 * j) (omega (arith, doubled j l)), before n l (2 * j + 1) (omega (arith, halved j l)))
  | inl low ↦ elim (cases_lt n ((j + 1) * 2 ^ (l + 1))) [
    | inr all ↦
        omega (arith, asked_not n l j (omega (arith, halved j l, next_doubled j l, at_next)), behind n l (2 * j) (omega (arith, halved j l, next_doubled j l, at_next)), behind n l (2 * j + 1) (omega (arith, next_doubled j l)))
    | inl high ↦ elim (cases_lt ((2 * j + 1) * 2 ^ l) n) [
      | inl past ↦
          omega (arith, asked_not n l j past, behind n l (2 * j) (omega (arith, past)), most n l (2 * j + 1), inside n (l + 1) j low high)
      | inr mid ↦
          omega (arith, asked_here n l j low mid, most n l (2 * j), before n l (2 * j + 1) mid, inside n (l + 1) j low high)
    ]
  ]
]
  where
    at_next : (2 * j + 1) * 2 ^ l < (2 * j + 1 + 1) * 2 ^ l
    at_next = grind (arith, pow_pos)

-- of the whole tree
pub asked_whole : (n h : ℕ) → asked_below n h 0 ≤ h
asked_whole n h = most n h 0

-- at the place itself
pub asked_less : (n l j : ℕ) → asked_at n l j ≤ asked_below n l j
unfolding asked_at
asked_less n zero j = omega arith
asked_less n (suc l) j = subst (λ (k : ℕ). asked_at n k j ≤ asked_below n k j) (add-one l) (omega (arith, asked_sum n l j))

-- the node on the right of a place is asked for only where it isn't kept
pub asked_moved : (n l j : ℕ) (p r : Outside) → j * 2 ^ (l + 1) < n → ((2 * j + 1) * 2 ^ l < n → r ≡ p) → Moved p r 0 0 0 0 1 → Moved p r 0 0 0 0 (asked_at n (l + 1) j)
asked_moved n l j p r low idle moved = elim (cases_lt ((2 * j + 1) * 2 ^ l) n) [
  | inl past ↦ moved_any p r _ _ _ _ _ (moved_same p r (idle past))
  | inr mid ↦ moved_less p r _ _ _ _ _ 0 0 0 0 (asked_at n (l + 1) j) moved (omega arith) (omega arith) (omega arith) (omega arith) (omega (arith, asked_here n l j low mid))
]
