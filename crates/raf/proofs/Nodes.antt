-- Nodes of two trees that are compared.
use Rattle.std.proofs.Common.{◌≡◌, ℕ, ◌≤◌, Bool, true, false, List, Result, Ok, Err, Option, Some, refl, sym, ◌∙◌, subst}
use Rattle.std.specs.Bool.{Decides}
use Rattle.std.specs.Result.{IfOk, IsErrAnd}
use Rattle.std.proofs.lemmas.Bool.{true≢false}
use Rattle.raf_tree.specs.Hashing.{Hashing}
use Rattle.raf_tree.specs.Kept.{Kept, Keeps, IsKept, kept, tree_height}
use Rattle.raf_tree.specs.Tree.{node}
use Rattle.raf_tree.specs.Laws.{TreeLaws}
use Rattle.raf_io.specs.declared.errors.Error.{Error}
use Rattle.raf_io.specs.declared.errors.ErrorKind.TheVariants.{Hash}
use Rattle.raf_io.specs.Kinds.{kind_of}
use Rattle.raf.specs.Outside.{Outside, Moved}
use Rattle.raf.specs.Clash.{OneFailed}
use Rattle.raf.specs.Clashing.{Asks}
use Rattle.raf.proofs.Moves.{moved_same, moved_any}

-- a test of two nodes, one of which stands and the other is the hash of an empty place
decides_by : (r : Bool) (m n k e : List ℕ) → m ≡ k → n ≡ e → (r ≡ true → e ≡ k) × (r ≡ false → e ≡ k → ⊥) → Decides r (m ≡ n)
decides_by true m n k e is_m is_n told = (λ _. is_m ∙ sym (told.0 refl) ∙ sym is_n, λ _. refl)
decides_by false m n k e is_m is_n told = (λ no. absurd (true≢false (sym no)), λ same. absurd (told.1 refl (sym is_n ∙ sym same ∙ is_m)))

swapped : (r : Bool) (m n : List ℕ) → Decides r (m ≡ n) → Decides r (n ≡ m)
swapped r m n d = (λ is. sym (d.0 is), λ same. d.1 (sym same))

module _ (H : Hashing) (laws : TreeLaws H) (t u : Kept) (xs ys : List (List ℕ)) (l j : ℕ) (of_t : Keeps H t xs) (of_u : Keeps H u ys) where
  -- the place is kept in the first alone
  pub same_first : (result : Result Bool Error) (x : List ℕ) → l ≤ tree_height u → IsKept t l j → x ≡ kept t l j → (IsKept u l j → ⊥)
      → IfOk result (λ r. (r ≡ true → H.empty l j ≡ x) × (r ≡ false → H.empty l j ≡ x → ⊥)) → IfOk result (λ r. Decides r (node H xs l j ≡ node H ys l j))
  same_first (Ok r) x low in_t is_x out_u told = decides_by r _ _ x (H.empty l j) (sym (laws.kept t xs l j of_t in_t) ∙ sym is_x) (laws.empty u ys l j of_u low out_u) told
  same_first (Err e) x low in_t is_x out_u told = tt

  -- in the second alone
  pub same_second : (result : Result Bool Error) (y : List ℕ) → l ≤ tree_height t → (IsKept t l j → ⊥) → IsKept u l j → y ≡ kept u l j
      → IfOk result (λ r. (r ≡ true → H.empty l j ≡ y) × (r ≡ false → H.empty l j ≡ y → ⊥)) → IfOk result (λ r. Decides r (node H xs l j ≡ node H ys l j))
  same_second (Ok r) y low out_t in_u is_y told = swapped r _ _ (decides_by r _ _ y (H.empty l j) (sym (laws.kept u ys l j of_u in_u) ∙ sym is_y) (laws.empty t xs l j of_t low out_t) told)
  same_second (Err e) y low out_t in_u is_y told = tt

  -- in neither
  pub same_neither : l ≤ tree_height t → l ≤ tree_height u → (IsKept t l j → ⊥) → (IsKept u l j → ⊥) → Decides true (node H xs l j ≡ node H ys l j)
  same_neither low_t low_u out_t out_u = (λ _. laws.empty t xs l j of_t low_t out_t ∙ sym (laws.empty u ys l j of_u low_u out_u), λ _. refl)

-- what is said of a result under a setting
pub at_setting : {T : Type 0} (result : Result T Error) (setting : List ℕ) (P : List ℕ → T → Type 0) (o : Option (List ℕ)) → o ≡ Some setting
    → IfOk result (λ r. (x : List ℕ) → o ≡ Some x → P x r) → IfOk result (P setting)
at_setting (Ok r) setting P o is all = all setting is
at_setting (Err e) setting P o is all = tt

-- nothing was asked of either, and then so many of each
pub asks_idle : {T : Type 0} (n m : ℕ) (a b p q : Outside) (result : Result T Error) → p ≡ a → q ≡ b → Asks 1 1 a b p q result → Asks n m a b p q result
asks_idle n m a b p q result is_a is_b s = record {
  kept = s.kept;
  first = moved_any a p _ _ _ _ _ (moved_same a p is_a);
  second = moved_any b q _ _ _ _ _ (moved_same b q is_b);
  strays = s.strays;
  quiet = s.quiet;
  failed = s.failed;
}

pub asks_then : {T : Type 0} (n m : ℕ) (a b p q r s : Outside) (result : Result T Error) → p ≡ a → q ≡ b → Moved p r 0 0 0 0 n → Moved q s 0 0 0 0 m
    → Asks 1 1 p q r s result → Asks n m a b r s result
asks_then {T = S} n m a b p q r s result is_a is_b first second asks =
    subst (λ (o : Outside). Asks n m o b r s result) is_a (subst (λ (o : Outside). Asks n m p o r s result) is_b here)
  where
    here : Asks n m p q r s result
    here = record {
      kept = asks.kept;
      first = first;
      second = second;
      strays = asks.strays;
      quiet = asks.quiet;
      failed = asks.failed;
    }

-- a result that is handed on
pub asks_handed : {S T : Type 0} (n m : ℕ) (a b p q : Outside) (e : Error) (r : Result T Error) → IsErrAnd r (λ x. x ≡ e) → (let was : Result S Error = Err e in Asks n m a b p q was) → Asks n m a b p q r
asks_handed n m a b p q e (Ok x) is asks = absurd is
asks_handed n m a b p q e (Err x) is asks = record {
  kept = asks.kept;
  first = asks.first;
  second = asks.second;
  strays = asks.strays;
  quiet = tt;
  failed = subst (λ (x : Error). (kind_of x ≡ Hash) × OneFailed Hash a b p q) (sym is) asks.failed;
}

-- both nodes below a place
pub decides_both : (P Q : Type 0) (result : Result Bool Error) → P → IfOk result (λ r. Decides r Q) → IfOk result (λ r. Decides r (P × Q))
decides_both P Q (Ok r) p d = (λ is. (p, d.0 is), λ both. d.1 both.1)
decides_both P Q (Err e) p d = tt

pub same_thing : {T : Type 0} (o : Option T) (a b : T) → o ≡ Some a → o ≡ Some b → a ≡ b
same_thing o a b x y = cc
