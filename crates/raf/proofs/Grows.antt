-- The tree of a file goes with a change.
use Rattle.std.proofs.Common.{◌≡◌, ℕ, zero, suc, ◌+◌, ◌-◌, ◌<◌, ◌≤◌, List, [], ◌∷◌, length, map, get_or, Option, Some, None, refl, sym, ◌∙◌, ap, subst, arith}
use Rattle.std.specs.Prelude.{unwrap_or}
use Rattle.raf_tree.specs.Hashing.{Hashing}
use Rattle.raf_tree.specs.Tree.{leaves}
use Rattle.raf_tree.specs.Kept.{Kept, Keeps}
use Rattle.raf_tree.specs.Laws.{TreeLaws}
use Rattle.raf_tree.specs.Steps.{LeafPut, Updated}
use Rattle.raf_tree.specs.Since.{Since, SameBeside}
use Rattle.raf.specs.Put.{LeavesUpTo}

-- so far the leaves of these chunks are put, from an index on, this many
pub leaves_since : (H : Hashing) (laws : TreeLaws H) (before after : List (List ℕ)) (chunk : ℕ → List ℕ) (first n : ℕ) (old new : Kept)
    → Keeps H old (leaves H before) → length before ≤ old.max_chunks → first + n ≤ old.max_chunks → first + n ≤ length after
    → ((i : ℕ) → first ≤ i → i < first + n → get_or after i [] ≡ chunk i)
    → LeavesUpTo H chunk first n old new → Since H (leaves H before) (leaves H after) first (first + n) new × (new.max_chunks ≡ old.max_chunks)
leaves_since H laws before after chunk first zero old new keeps fits inside there same put =
    let e : first ≡ first + 0 = omega arith in
    let begun = laws.begins (leaves H before) (leaves H after) first old keeps in
    (subst (λ (T : Kept). Since H (leaves H before) (leaves H after) first (first + 0) T) (sym put) (subst (λ (k : ℕ). Since H (leaves H before) (leaves H after) first k old) e begun), ap (λ (T : Kept). T.max_chunks) put)
leaves_since H laws before after chunk first (suc n) old new keeps fits inside there same (mid, puts, put) =
    let so_far = leaves_since H laws before after chunk first n old mid keeps fits (omega (arith, inside)) (omega (arith, there)) (λ i le lt. same i le (omega (arith, lt))) puts in
    let e : first + n + 1 ≡ first + suc n = omega arith in
    let hash : H.leaf (chunk (first + n)) (first + n) ≡ get_or (leaves H after) (first + n) [] =
    ap (λ (m : List ℕ). H.leaf m (first + n)) (sym (same (first + n) (omega arith) (omega arith))) ∙ sym (laws.leaf after (first + n) (omega (arith, there))) in
    let next = laws.goes_on (leaves H before) (leaves H after) first (first + n) mid new so_far.0 (omega (arith, laws.leaf_count before, fits, so_far.1)) (omega arith) (omega (arith, inside, so_far.1))
    (subst (λ (hash : List ℕ). LeafPut (first + n) hash mid new) hash put) in
    (subst (λ (k : ℕ). Since H (leaves H before) (leaves H after) first k new) e next, put.shape.max_chunks ∙ so_far.1)

-- with all leaves of the touched chunks put and the nodes made, the tree keeps the new chunks
pub tree_keeps : (H : Hashing) (laws : TreeLaws H) (before after : List (List ℕ)) (chunk : ℕ → List ℕ) (first end until count : ℕ) (old mid new : Kept)
    → Keeps H old (leaves H before) → length before ≤ old.max_chunks → first ≤ end → end ≤ until → end ≤ old.max_chunks → end ≤ length after → length after ≡ count
    → ((i : ℕ) → first ≤ i → i < end → get_or after i [] ≡ chunk i)
    → ((i : ℕ) → i < until → i < length after → i < end)
    → SameBeside first until before after
    → LeavesUpTo H chunk first (end - first) old mid → Updated H count first until mid new → Keeps H new (leaves H after)
tree_keeps H laws before after chunk first end until count old mid new keeps fits order more room there counted same none beside put updated =
    let e : first + (end - first) ≡ end = omega (arith, order) in
    let since = leaves_since H laws before after chunk first (end - first) old mid keeps fits (omega (arith, e, room)) (omega (arith, e, there)) (λ i le lt. same i le (omega (arith, lt, e))) put in
    updated (leaves H after) (laws.leaf_count after ∙ counted)
    (laws.ends (leaves H before) (leaves H after) first end until mid (subst (λ (k : ℕ). Since H (leaves H before) (leaves H after) first k mid) e since.0)
    (laws.beside first until before after beside) more (λ j from to has. none j to (omega (arith, has, laws.leaf_count after))))

-- chunks of which none is missing
abbrev pub found : List (Option (List ℕ)) → List (List ℕ)
found chunks = map (λ c. unwrap_or c []) chunks

pub found_all : (chunks : List (Option (List ℕ))) → ((k : ℕ) → k < length chunks → (m : List ℕ) × (get_or chunks k None ≡ Some m)) → chunks ≡ map (λ m. Some m) (found chunks)
found_all [] there = refl
found_all (c ∷ chunks) there =
    let first = there 0 (omega arith) in
    ap (λ (o : Option (List ℕ)). o ∷ chunks) (one c first.0 first.1) ∙ ap (λ (l : List (Option (List ℕ))). Some (unwrap_or c []) ∷ l) (found_all chunks (λ k lt. there (suc k) (omega (arith, lt))))
  where
    one : (o : Option (List ℕ)) (m : List ℕ) → o ≡ Some m → o ≡ Some (unwrap_or o [])
    one None m is = absurd cc
    one (Some x) m is = refl

pub found_at : (chunks : List (Option (List ℕ))) (k : ℕ) → k < length chunks → get_or (found chunks) k [] ≡ unwrap_or (get_or chunks k None) []
found_at [] k lt = absurd (omega (arith, lt))
found_at (c ∷ chunks) zero lt = refl
found_at (c ∷ chunks) (suc k) lt = found_at chunks k (omega (arith, lt))

pub present_at : (chunks : List (List ℕ)) (k : ℕ) → k < length chunks → get_or (map (λ m. Some m) chunks) k None ≡ Some (get_or chunks k [])
present_at [] k lt = absurd (omega (arith, lt))
present_at (m ∷ chunks) zero lt = refl
present_at (m ∷ chunks) (suc k) lt = present_at chunks k (omega (arith, lt))
