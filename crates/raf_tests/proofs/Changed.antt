-- A changed file's tree.
use Rattle.std.proofs.Common.{◌≡◌, ℕ, ◌+◌, ◌-◌, ◌*◌, ◌<◌, ◌≤◌, List, [], length, get_or, take, drop, Result, OnOk, sym, ap, subst, ◌∙◌, arith}
use Rattle.std.proofs.lemmas.Result.{on_ok_weaker}
use Rattle.raf_tree.specs.Hashing.{Hashing}
use Rattle.raf_tree.specs.Tree.{leaves}
use Rattle.raf_tree.specs.Kept.{Kept, Keeps}
use Rattle.raf_tree.specs.Laws.{TreeLaws}
use Rattle.raf_tree.specs.Steps.{LeafPut, Updated}
use Rattle.raf_tree.specs.Since.{Since}
use Rattle.raf_tests.specs.Change.{IsChange, Carried}

-- so far the leaves of the text's chunks from `first` to `index - 1` are put
abbrev pub SoFar : Hashing → List ℕ → ℕ → ℕ → ℕ → ℕ → ℕ → Kept → Kept → Type 0
SoFar H text chunk_size first mid end index old now =
    (before after : List (List ℕ))
    → length before ≤ old.max_chunks → IsChange text chunk_size first mid end before after
    → Keeps H old (leaves H before) → Since H (leaves H before) (leaves H after) first index now

pub none_put : (H : Hashing) (laws : TreeLaws H) (text : List ℕ) (chunk_size first mid end : ℕ) (old : Kept) → SoFar H text chunk_size first mid end first old old
none_put H laws text chunk_size first mid end old before after fits change keeps = laws.begins (leaves H before) (leaves H after) first old keeps

pub one_put : (H K : Hashing) (laws : TreeLaws H) (text : List ℕ) (chunk_size first mid end i : ℕ) (old now next : Kept) → K ≡ H → now.max_chunks ≡ old.max_chunks → first ≤ i → i < mid → i < old.max_chunks → SoFar H text chunk_size first mid end i old now → LeafPut i (K.leaf (take (i * chunk_size + chunk_size - i * chunk_size) (drop (i * chunk_size) text)) i) now next → SoFar H text chunk_size first mid end (i + 1) old next
one_put H K laws text chunk_size first mid end i old now next same limit from to inside so_far put before after fits change keeps =
    laws.goes_on (leaves H before) (leaves H after) first i now next (so_far before after fits change keeps) (omega (arith, laws.leaf_count before)) from (omega arith) (subst (λ (h : List ℕ). LeafPut i h now next) hash put)
  where
    hash : K.leaf (take (i * chunk_size + chunk_size - i * chunk_size) (drop (i * chunk_size) text)) i ≡ get_or (leaves H after) i []
    hash =
        let e : i * chunk_size + chunk_size - i * chunk_size ≡ chunk_size = omega arith in
        ap (λ (J : Hashing). J.leaf (take (i * chunk_size + chunk_size - i * chunk_size) (drop (i * chunk_size) text)) i) same
        ∙ ap (λ k. H.leaf (take k (drop (i * chunk_size) text)) i) e
        ∙ ap (λ chunk. H.leaf chunk i) (sym (change.touched i from to))
        ∙ sym (laws.leaf after i (let there = change.there in omega (arith, there)))

pub all_put : {T E : Type 0} (r : Result T E) (H K : Hashing) (laws : TreeLaws H) (text : List ℕ) (chunk_size count first mid end index : ℕ) (old now new : Kept) → K ≡ H → mid ≤ end → index ≡ mid → SoFar H text chunk_size first mid end index old now → OnOk r (Updated K count first end now new) → OnOk r (Carried H text chunk_size count first mid end old new)
all_put r H K laws text chunk_size count first mid end index old now new same le here so_far = on_ok_weaker r (λ updated before after fits n change keeps.
    let P : Hashing → Type 0 = λ J. Updated J count first end now new in
    let Q : ℕ → Type 0 = λ k. Since H (leaves H before) (leaves H after) first k now in
    subst P same updated (leaves H after) (laws.leaf_count after ∙ n)
    (laws.ends (leaves H before) (leaves H after) first mid end now (subst Q here (so_far before after fits change keeps)) (laws.beside first end before after change.beside) le (λ j from to has. change.removed j from to (omega (arith, laws.leaf_count after)))))
