-- What a splice and a failed call leave.
use Rattle.std.proofs.Common.{◌≡◌, inl, inr, ℕ, ◌+◌, ◌-◌, ◌≤◌, min, List, ◌++◌, length, take, drop, replicate, refl, sym, ◌∙◌, ap, arith, length-append, length-take}
use Rattle.std.proofs.lemmas.List.{take_all, drop_all, append-nil, take-append-le, take-take, take-replicate, length-replicate}
use Rattle.std.proofs.Math.Seq.{take-append-add}
use Rattle.std.proofs.lemmas.Bool.{cases_lt}
use Rattle.raf_io.specs.Storage.{Torn, Cut, resized, spliced}

pub resized_cut : (n : ℕ) (b : List ℕ) → n ≤ length b → resized n b ≡ take n b
resized_cut n b le = let e : n - length b ≡ 0 = omega arith in ap (λ (k : ℕ). take n b ++ replicate k 0) e ∙ append-nil (take n b)

pub resized_grown : (n : ℕ) (b : List ℕ) → length b ≤ n → resized n b ≡ b ++ replicate (n - length b) 0
resized_grown n b le = ap (λ (l : List ℕ). l ++ replicate (n - length b) 0) (take_all n b le)

pub length-resized : (n : ℕ) (b : List ℕ) → length (resized n b) ≡ n
length-resized n b = omega (arith, length-append (take n b) (replicate (n - length b) 0), length-take n b, length-replicate {A = ℕ} (n - length b) 0)

-- cut further down, as if cut there at once
pub take-resized : (at n : ℕ) (b : List ℕ) → at ≤ n → take at (resized n b) ≡ resized at b
take-resized at n b le = elim (cases_lt at (length b)) [
  | inl inside ↦
      take-append-le at (take n b) (replicate (n - length b) 0) (omega (arith, length-take n b))
      ∙ take-take at n b le ∙ sym (resized_cut at b (omega arith))
  | inr past ↦
      let here : at ≡ length b + (at - length b) = omega arith in
      ap (λ (l : List ℕ). take at l) (resized_grown n b (omega arith))
      ∙ ap (λ (k : ℕ). take k (b ++ replicate (n - length b) 0)) here
      ∙ take-append-add b (replicate (n - length b) 0) (at - length b)
      ∙ ap (λ (l : List ℕ). b ++ l) (take-replicate (at - length b) (n - length b) 0 (omega arith))
      ∙ sym (resized_grown at b past)
]

-- a write inside
pub spliced_inside : (at : ℕ) (new b : List ℕ) → at + length new ≤ length b → take at b ++ new ++ drop (at + length new) b ≡ spliced at new b
spliced_inside at new b le = ap (λ (l : List ℕ). l ++ new ++ drop (at + length new) b) (sym (resized_cut at b (omega arith)))

-- a write after the bytes were made longer
pub spliced_grown : (at : ℕ) (new b : List ℕ) → length b ≤ at + length new → take at (resized (at + length new) b) ++ new ++ drop (at + length new) (resized (at + length new) b) ≡ spliced at new b
spliced_grown at new b le =
    ap (λ (l : List ℕ). l ++ new ++ drop (at + length new) (resized (at + length new) b)) (take-resized at (at + length new) b (omega arith))
    ∙ ap (λ (l : List ℕ). resized at b ++ new ++ l) (drop_all (at + length new) (resized (at + length new) b) (omega (arith, length-resized (at + length new) b)) ∙ sym (drop_all (at + length new) b le))

pub torn_same : (at n : ℕ) (b : List ℕ) → Torn at n b b
torn_same at n b = record {
  before = front;
  after = refl;
  no_shorter = omega arith;
  no_longer = omega arith;
}
  where
    front : take (min at (length b)) b ≡ take at b
    front = elim (cases_lt at (length b)) [
      | inl inside ↦ let e : min at (length b) ≡ at = omega arith in ap (λ (k : ℕ). take k b) e
      | inr past ↦ take_all (min at (length b)) b (omega arith) ∙ sym (take_all at b past)
    ]

pub cut_same : (n : ℕ) (b : List ℕ) → Cut n b b
cut_same n b = record { front = front }
  where
    front : take (min n (length b)) b ≡ take n b
    front = elim (cases_lt n (length b)) [
      | inl inside ↦ let e : min n (length b) ≡ n = omega arith in ap (λ (k : ℕ). take k b) e
      | inr past ↦ take_all (min n (length b)) b (omega arith) ∙ sym (take_all n b past)
    ]

-- what lies in a vector after a write to all of it
pub whole : (len : ℕ) (now before : List ℕ) → length now ≡ len → length before ≡ len → take len (now ++ drop (length now) before) ≡ now
whole len now before l m =
    ap (λ (r : List ℕ). take len (now ++ r)) (drop_all (length now) before (omega arith))
    ∙ ap (λ (r : List ℕ). take len r) (append-nil now) ∙ take_all len now (omega arith)

pub spliced_by_inside : (at : ℕ) (new b m : List ℕ) → m ≡ b → at + length new ≤ length b → take at m ++ new ++ drop (at + length new) m ≡ spliced at new b
spliced_by_inside at new b m is le = ap (λ (l : List ℕ). take at l ++ new ++ drop (at + length new) l) is ∙ spliced_inside at new b le

pub spliced_by_growth : (at : ℕ) (new b m : List ℕ) → m ≡ resized (at + length new) b → length b ≤ at + length new → take at m ++ new ++ drop (at + length new) m ≡ spliced at new b
spliced_by_growth at new b m is le = ap (λ (l : List ℕ). take at l ++ new ++ drop (at + length new) l) is ∙ spliced_grown at new b le
