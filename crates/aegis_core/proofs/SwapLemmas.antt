-- The steps and the end of a loop over whole blocks of two places whose bytes change places.
use Rattle.std.proofs.Common.{◌≡◌, ℕ, ◌+◌, ◌*◌, ◌≤◌, List, [], ◌++◌, length, take, drop, refl, sym, ap, ◌∙◌, arith, length-drop, subst}
use Rattle.std.proofs.lemmas.List.{take-append-drop, length-take-le, append-nil, drop_all, drop-drop}
use Rattle.std.proofs.lemmas.Slice.{drop-put_mid}
use borrow.Rule.Slice.PartMut.{put_mid}
use Rattle.aegis_core.proofs.LoopLemmas.{half_way, half_way_put, half_way_front, half_way_back}

pub swap_none : (from to : List ℕ) (r : ℕ) → from ≡ half_way from to (0 * r)
swap_none from to r = let z : 0 * r ≡ 0 = omega arith in rw z refl

-- the block that is read is still the old one
pub swap_block : (from to now : List ℕ) (n rate k r : ℕ) → rate ≡ r → n * rate ≤ length to → now ≡ half_way from to (n * r)
    → take k (drop (n * rate) now) ≡ take k (drop (n * rate) from)
swap_block from to now n rate k r er fits e =
    let fits2 : n * r ≤ length to = let P : ℕ → Type 0 = λ j. n * j ≤ length to in subst P er fits in
    ap (λ (j : ℕ). take k (drop (n * j) now)) er ∙ ap (λ (v : List ℕ). take k (drop (n * r) v)) e
    ∙ ap (λ (v : List ℕ). take k v) (half_way_back from to (n * r) fits2) ∙ ap (λ (j : ℕ). take k (drop (n * j) from)) (sym er)

swap_at : (from to now m : List ℕ) (n r : ℕ) → n * r + r ≤ length from → length to ≡ length from → now ≡ half_way from to (n * r)
    → drop (n * r) m ≡ drop (n * r) to → put_mid (n * r) r now (take r (drop (n * r) m)) ≡ half_way from to ((n + 1) * r)
swap_at from to now m n r fits lt en em =
    let ys : List ℕ = take r (drop (n * r) to) in
    let ly : length ys ≡ r = length-take-le r (drop (n * r) to) (omega (arith, length-drop (n * r) to)) in
    let same : put_mid (n * r) r to ys ≡ to =
    ap (λ (v : List ℕ). take (n * r) to ++ v) (take-append-drop r (drop (n * r) to)) ∙ take-append-drop (n * r) to in
    let e : n * r + r ≡ (n + 1) * r = omega arith in
    ap (λ (v : List ℕ). put_mid (n * r) r v (take r (drop (n * r) m))) en
    ∙ ap (λ (v : List ℕ). put_mid (n * r) r (half_way from to (n * r)) (take r v)) em
    ∙ half_way_put from to ys (n * r) r fits lt ly ∙ ap (λ (v : List ℕ). half_way from v (n * r + r)) same
    ∙ ap (λ (j : ℕ). half_way from to j) e

-- the other place's old block comes to the first
pub swap_step : (from to now m ys : List ℕ) (n rate k r : ℕ) → rate ≡ r → k ≡ rate → n * rate + rate ≤ length from → length to ≡ length from
    → now ≡ half_way from to (n * r) → drop (n * r) m ≡ drop (n * r) to → ys ≡ take k (drop (n * rate) m)
    → put_mid (n * rate) k now ys ≡ half_way from to ((n + 1) * r)
swap_step from to now m ys n rate k r er ek fits lt en em ey =
    let fits2 : n * r + r ≤ length from = let P : ℕ → Type 0 = λ j. n * j + j ≤ length from in subst P er fits in
    ap (λ (j : ℕ). put_mid (n * rate) j now ys) (ek ∙ er) ∙ ap (λ (j : ℕ). put_mid (n * j) r now ys) er
    ∙ ap (λ (v : List ℕ). put_mid (n * r) r now v)
    (ey ∙ ap (λ (j : ℕ). take j (drop (n * rate) m)) (ek ∙ er) ∙ ap (λ (j : ℕ). take r (drop (n * j) m)) er)
    ∙ swap_at from to now m n r fits2 lt en em

-- and what is not yet met of the other place stays
pub swap_rest : (to m zs : List ℕ) (n rate k r : ℕ) → rate ≡ r → k ≡ rate → n * rate + rate ≤ length m → length zs ≡ k
    → drop (n * r) m ≡ drop (n * r) to → drop ((n + 1) * r) (put_mid (n * rate) k m zs) ≡ drop ((n + 1) * r) to
swap_rest to m zs n rate k r er ek fits lz em =
    let e1 : (n + 1) * r ≡ n * r + r = omega arith in
    let e : (n + 1) * r ≡ n * rate + k = e1 ∙ ap (λ (j : ℕ). n * j + r) (sym er) ∙ ap (λ (j : ℕ). n * rate + j) (sym (ek ∙ er)) in
    drop-put_mid (n * rate) k m zs ((n + 1) * r) (omega (arith, e)) (omega arith) lz ∙ ap (λ (j : ℕ). drop j m) e1
    ∙ sym (drop-drop r (n * r) m) ∙ ap (λ (v : List ℕ). drop r v) em ∙ drop-drop r (n * r) to ∙ ap (λ (j : ℕ). drop j to) (sym e1)

-- the tails change places
pub swap_end : (from to now m ys : List ℕ) (a k r : ℕ) → a ≡ r → r ≤ length to → length to ≡ length from → length now ≤ a + k → now ≡ half_way from to r
    → drop r m ≡ drop r to → ys ≡ drop r m → put_mid a k now ys ≡ to
swap_end from to now m ys a k r ea fits lt lk en em ey =
    let gone : drop k (drop a now) ≡ [] = drop_all k (drop a now) (omega (arith, length-drop a now)) in
    ap (λ (v : List ℕ). take a now ++ (ys ++ v)) gone ∙ ap (λ (v : List ℕ). take a now ++ v) (append-nil ys)
    ∙ ap (λ (j : ℕ). take j now ++ ys) ea ∙ ap (λ (v : List ℕ). take r v ++ ys) en
    ∙ ap (λ (v : List ℕ). v ++ ys) (half_way_front from to r fits) ∙ ap (λ (v : List ℕ). take r to ++ v) (ey ∙ em) ∙ take-append-drop r to
