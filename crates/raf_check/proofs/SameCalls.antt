-- Whether two calls are the same.
use Rattle.std.proofs.Common.{◌≡◌, ℕ, Bool, true, false, ◌⊎◌, inl, inr, List, refl, sym, ◌∙◌, bytes_eq}
use Rattle.std.proofs.lemmas.Bool.{cases_eq, false≢true}
use Rattle.std.proofs.lemmas.Slice.Eq.{bytes_eq-Decides}
use Rattle.raf_tree.specs.Calls.{Call}
use Rattle.raf_tree.specs.Calls.Call.{Leaf, Parent, Empty, Commitment}

cases_bool : (b : Bool) → (b ≡ true) ⊎ (b ≡ false)
cases_bool true = inl refl
cases_bool false = inr refl

by_test : (P : Type 0) (b : Bool) → (b ≡ true → P) → (P → b ≡ true) → P ⊎ (P → ⊥)
by_test P b here apart = elim (cases_bool b) [
  | inl is ↦ inl (here is)
  | inr is ↦ inr (λ p. false≢true (sym is ∙ apart p))
]

pub same_bytes : (x y : List ℕ) → (x ≡ y) ⊎ (x ≡ y → ⊥)
same_bytes x y = let d = bytes_eq-Decides x y in by_test (x ≡ y) (bytes_eq x y) d.0 d.1

pub same_calls : (a b : Call) → (a ≡ b) ⊎ (a ≡ b → ⊥)
same_calls (Leaf c i) (Leaf d j) = elim (same_bytes c d) [
  | inr apart ↦ inr (λ (e : Leaf c i ≡ Leaf d j). apart cc)
  | inl here ↦ elim (cases_eq i j) [
    | inr apart ↦ inr (λ (e : Leaf c i ≡ Leaf d j). apart cc)
    | inl same ↦ inl cc
  ]
]
same_calls (Parent a b l i) (Parent c d m j) = elim (same_bytes a c) [
  | inr apart ↦ inr (λ (e : Parent a b l i ≡ Parent c d m j). apart cc)
  | inl here ↦ elim (same_bytes b d) [
    | inr apart ↦ inr (λ (e : Parent a b l i ≡ Parent c d m j). apart cc)
    | inl here₂ ↦ elim (cases_eq l m) [
      | inr apart ↦ inr (λ (e : Parent a b l i ≡ Parent c d m j). apart cc)
      | inl here₃ ↦ elim (cases_eq i j) [
        | inr apart ↦ inr (λ (e : Parent a b l i ≡ Parent c d m j). apart cc)
        | inl here₄ ↦ inl cc
      ]
    ]
  ]
]
same_calls (Empty l i) (Empty m j) = elim (cases_eq l m) [
  | inr apart ↦ inr (λ (e : Empty l i ≡ Empty m j). apart cc)
  | inl here ↦ elim (cases_eq i j) [
    | inr apart ↦ inr (λ (e : Empty l i ≡ Empty m j). apart cc)
    | inl same ↦ inl cc
  ]
]
same_calls (Commitment a b n) (Commitment c d m) = elim (same_bytes a c) [
  | inr apart ↦ inr (λ (e : Commitment a b n ≡ Commitment c d m). apart cc)
  | inl here ↦ elim (same_bytes b d) [
    | inr apart ↦ inr (λ (e : Commitment a b n ≡ Commitment c d m). apart cc)
    | inl here₂ ↦ elim (cases_eq n m) [
      | inr apart ↦ inr (λ (e : Commitment a b n ≡ Commitment c d m). apart cc)
      | inl same ↦ inl cc
    ]
  ]
]
same_calls (Leaf c i) (Parent a b l j) = inr (λ (e : Leaf c i ≡ Parent a b l j). cc)
same_calls (Leaf c i) (Empty l j) = inr (λ (e : Leaf c i ≡ Empty l j). cc)
same_calls (Leaf c i) (Commitment a b n) = inr (λ (e : Leaf c i ≡ Commitment a b n). cc)
same_calls (Parent a b l j) (Leaf c i) = inr (λ (e : Parent a b l j ≡ Leaf c i). cc)
same_calls (Parent a b l j) (Empty m i) = inr (λ (e : Parent a b l j ≡ Empty m i). cc)
same_calls (Parent a b l j) (Commitment c d n) = inr (λ (e : Parent a b l j ≡ Commitment c d n). cc)
same_calls (Empty l j) (Leaf c i) = inr (λ (e : Empty l j ≡ Leaf c i). cc)
same_calls (Empty l j) (Parent a b m i) = inr (λ (e : Empty l j ≡ Parent a b m i). cc)
same_calls (Empty l j) (Commitment c d n) = inr (λ (e : Empty l j ≡ Commitment c d n). cc)
same_calls (Commitment c d n) (Leaf e i) = inr (λ (q : Commitment c d n ≡ Leaf e i). cc)
same_calls (Commitment c d n) (Parent a b l j) = inr (λ (q : Commitment c d n ≡ Parent a b l j). cc)
same_calls (Commitment c d n) (Empty l j) = inr (λ (q : Commitment c d n ≡ Empty l j). cc)
