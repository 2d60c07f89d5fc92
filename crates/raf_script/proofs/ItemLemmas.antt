-- Reading items one after the other, as a loop does.
use Rattle.std.proofs.Common.{◌≡◌, ℕ, ◌+◌, List, [], ◌∷◌, ◌++◌, Option, Some, None, Result, Ok, Err, refl, sym, ap, ◌∙◌, append_assoc}
use Rattle.std.proofs.lemmas.List.{append-nil}
use Rattle.raf_script.specs.declared.script.ScriptError.{ScriptError}
use Rattle.raf_script.specs.declared.script.ScriptError.TheVariants as errors
use Rattle.raf_script.specs.Words.{words}
use Rattle.raf_script.specs.Lines.{◌>>=◌, Fails, first}
use Rattle.raf_script.specs.Reading.{items}

pub first_ok : (n : ℕ) (ls : List (Option (List ℕ))) (line : List ℕ) (after : List (Option (List ℕ))) → first n ls ≡ Ok (line, after) → ls ≡ Some line ∷ after
first_ok n [] line after h = (cc)
first_ok n (None ∷ more) line after h = (cc)
first_ok n (Some l ∷ more) line after h =
    let p : ◌≡◌ {A = List ℕ × List (Option (List ℕ))} (l, more) (line, after) = (cc) in
    let a : l ≡ line = ap (λ (q : List ℕ × List (Option (List ℕ))). q.0) p in
    let b : more ≡ after = ap (λ (q : List ℕ × List (Option (List ℕ))). q.1) p in
    (cc)

module _ {C : Type 0} where
  abbrev pub with_front : List C → Result (List C) ℕ → Result (List C) ℕ
  with_front front read = read >>= λ cs. Ok (front ++ cs)

  regroup : (front : List C) (c : C) (read : Result (List C) ℕ) → with_front front (read >>= λ cs. Ok (c ∷ cs)) ≡ with_front (front ++ c ∷ []) read
  regroup front c (Ok cs) = ap (λ (x : List C). Ok x) (simp append_assoc)
  regroup front c (Err n) = refl

  module _ (item : ℕ → List (List ℕ) → Result C ℕ) where
    pub goes_on : (front : List C) (n : ℕ) (ls : List (Option (List ℕ))) (line : List ℕ) (after : List (Option (List ℕ))) (c : C) (total : Result (List C) ℕ)
        → first n ls ≡ Ok (line, after) → item n (words line) ≡ Ok c → with_front front (items item n ls) ≡ total → with_front (front ++ c ∷ []) (items item (n + 1) after) ≡ total
    unfolding items
    goes_on front n ls line after c total read given so_far =
        let shape = first_ok n ls line after read in
        let one : with_front front (items item n ls) ≡ with_front (front ++ c ∷ []) (items item (n + 1) after) = rw (shape, given) (regroup front c (items item (n + 1) after)) in
        sym one ∙ so_far

    pub item_ends : (e : ScriptError) (front : List C) (n : ℕ) (ls : List (Option (List ℕ))) (line : List ℕ) (after : List (Option (List ℕ))) (total : Result (List C) ℕ)
        → first n ls ≡ Ok (line, after) → Fails e (item n (words line)) → with_front front (items item n ls) ≡ total → Fails e total
    unfolding items
    item_ends errors.OutOfMemory front n ls line after total read fails so_far = tt
    item_ends (errors.Line m) front n ls line after total read fails so_far =
        let shape = first_ok n ls line after read in
        let one : with_front front (items item n ls) ≡ Err m = rw (shape, fails) refl in
        sym so_far ∙ one

    pub cut_ends : (e : ScriptError) (front : List C) (n : ℕ) (ls : List (Option (List ℕ))) (total : Result (List C) ℕ)
        → ls ≡ None ∷ [] → Fails e (first n ls) → with_front front (items item n ls) ≡ total → Fails e total
    unfolding items
    cut_ends errors.OutOfMemory front n ls total shape fails so_far = tt
    cut_ends (errors.Line m) front n ls total shape fails so_far =
        let told : ◌≡◌ {A = Result (List ℕ × List (Option (List ℕ))) ℕ} (Err n) (Err m) = rw shape at fails in
        let same : n ≡ m = (cc) in
        let one : with_front front (items item n ls) ≡ Err m = rw (shape, same) refl in
        sym so_far ∙ one

    pub is_done : (front : List C) (n : ℕ) (ls : List (Option (List ℕ))) (total : Result (List C) ℕ) → ls ≡ [] → with_front front (items item n ls) ≡ total → total ≡ Ok front
    unfolding items
    is_done front n ls total none so_far =
        let one : with_front front (items item n ls) ≡ Ok front = rw none (ap (λ (cs : List C). Ok cs) (append-nil front)) in
        sym so_far ∙ one
