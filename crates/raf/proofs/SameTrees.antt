-- Trees that stay of one size.
use Rattle.std.proofs.Common.{◌≡◌, ℕ, suc, ◌+◌, List, Option, Some, None, refl, sym, ◌∙◌, ap, subst, arith}
use Rattle.std.specs.Option.{option_map}
use Rattle.raf_tree.specs.Hashing.{Hashing}
use Rattle.raf_tree.specs.Kept.{Kept}
use Rattle.raf_tree.specs.Steps.{LeafPut}
use Rattle.raf.specs.Handle.{Paired, HasRoom}
use Rattle.raf.specs.Put.{LeavesUpTo}
use Rattle.raf.specs.Carry.{SameTree, OfTrees, Leafed}

pub same_tree : (a : Option Kept) → SameTree a a
same_tree None = tt
same_tree (Some t) = record { hash_len = refl; max_chunks = refl }

pub same_tree_then : (a b c : Option Kept) → SameTree a b → SameTree b c → SameTree a c
same_tree_then None None None p q = tt
same_tree_then None None (Some u) p q = absurd q
same_tree_then None (Some u) c p q = absurd p
same_tree_then (Some t) None c p q = absurd p
same_tree_then (Some t) (Some u) None p q = absurd q
same_tree_then (Some t) (Some u) (Some v) p q = record { hash_len = q.hash_len ∙ p.hash_len; max_chunks = q.max_chunks ∙ p.max_chunks }

pub same_limit : (a b : Option Kept) → SameTree a b → option_map (λ (t : Kept). t.max_chunks) b ≡ option_map (λ (t : Kept). t.max_chunks) a
same_limit None None p = refl
same_limit None (Some u) p = absurd p
same_limit (Some t) None p = absurd p
same_limit (Some t) (Some u) p = ap (λ (n : ℕ). Some n) p.max_chunks

pub same_room : (n : ℕ) (a b : Option Kept) → SameTree a b → HasRoom n a → HasRoom n b
same_room n a None p room t is = absurd (none is)
  where
    none : None ≡ Some t → ⊥
    none is = cc
same_room n None (Some u) p room t is = absurd p
same_room n (Some s) (Some u) p room t is =
    let same : u.max_chunks ≡ t.max_chunks = ap (λ (o : Option Kept). elim o [ None ↦ 0 | Some k ↦ k.max_chunks ]) is in
    omega (arith, room s refl, p.max_chunks, same)

pub same_paired : (E : List ℕ → Hashing) (s : Option (List ℕ)) (a b : Option Kept) → SameTree a b → Paired E s a → Paired E s b
same_paired E None None None p q = tt
same_paired E None None (Some u) p q = absurd p
same_paired E None (Some t) b p q = absurd q
same_paired E (Some s) None b p q = absurd q
same_paired E (Some s) (Some t) None p q = absurd p
same_paired E (Some s) (Some t) (Some u) p q = q ∙ sym p.hash_len

-- where there was no tree there is none
pub same_none : (a b : Option Kept) → SameTree a b → a ≡ None → b ≡ None
same_none None None p is = refl
same_none None (Some u) p is = absurd p
same_none (Some t) b p is = absurd (none is)
  where
    none : Some t ≡ None → ⊥
    none is = cc

-- the leaves that were put
pub leaves_first : (E : List ℕ → Hashing) (s : Option (List ℕ)) (chunk : ℕ → List ℕ) (first : ℕ) (a b : Option Kept) → OfTrees E s a b (Leafed first (chunk first))
    → OfTrees E s a b (λ H. LeavesUpTo H chunk first 1)
leaves_first E s chunk first a b put setting t u is_s is_t is_u =
    let e : first ≡ first + 0 = omega arith in (
      t,
      refl,
      subst (λ (k : ℕ). LeafPut k ((E setting).leaf (chunk k) k) t u) e (put setting t u is_s is_t is_u),
    )

pub leaves_more : (E : List ℕ → Hashing) (s s' : Option (List ℕ)) (chunk : ℕ → List ℕ) (first n index : ℕ) (a b c : Option Kept) → s' ≡ s → index ≡ first + n → SameTree a b
    → OfTrees E s a b (λ H. LeavesUpTo H chunk first n) → OfTrees E s' b c (Leafed index (chunk index)) → OfTrees E s a c (λ H. LeavesUpTo H chunk first (suc n))
leaves_more E s s' chunk first n index a None c is at same up put setting t u is_s is_t is_u = absurd (gone a same is_t)
  where
    gone : (a : Option Kept) → SameTree a None → a ≡ Some t → ⊥
    gone None p is = cc
    gone (Some x) p is = absurd p
leaves_more E s s' chunk first n index a (Some m) c is at same up put setting t u is_s is_t is_u = (
  m,
  up setting t m is_s is_t refl,
  subst (λ (k : ℕ). LeafPut k ((E setting).leaf (chunk k) k) m u) at (put setting m u (is ∙ is_s) refl is_u),
)
