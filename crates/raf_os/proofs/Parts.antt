-- Parts of a buffer, of which one is filled after the other.
use Rattle.std.proofs.Common.{◌≡◌, ℕ, ◌+◌, ◌-◌, ◌≤◌, List, ◌++◌, length, take, drop, slice_range, arith, sym, ap, ◌∙◌, le_refl, drop_at}
use Rattle.std.proofs.Common.{subst, length-take-le}
use Rattle.std.proofs.lemmas.List.{length-drop}
use Rattle.std.proofs.lemmas.Slice.{take-put_mid_below}
use Rattle.std.proofs.Math.Seq.{take-length}
use Rattle.std.specs.Prelude.{Option}
use Rattle.std.specs.Io.KnownBytes.{Appends, Consumes}
use Rattle.std.proofs.KnownBytes.{Appends-trans, Consumes-trans}
use borrow.Rule.Slice.PartMut.{put_mid, post_of}
use lib.Seq.{take-add, take-append-le}

-- the slice from an index on
whole_drop : (at : ℕ) (l : List ℕ) → take (length l - at) (drop at l) ≡ drop at l
whole_drop at l = rw (← length-drop at l) (take-length (drop at l))

-- what stands from an index on once it is filled
range_of_filled : (at k n : ℕ) (xs ys : List ℕ) → at ≤ length xs → n ≤ length ys → slice_range (put_mid at k xs ys) at (at + n) ≡ take n ys
range_of_filled at k n xs ys within fits =
    let same : (at + n) - at ≡ n = omega arith in
    let after = post_of at k xs in
    ap (take ((at + n) - at)) (drop_at (take at xs) (ys ++ after) at (length-take-le at xs within)) ∙ ap (λ m. take m (ys ++ after)) same
    ∙ take-append-le n ys after fits

-- the front, and then n bytes of what the rest was filled with
filled : (at k n : ℕ) (xs ys : List ℕ) → at ≤ length xs → n ≤ length ys
    → take at xs ++ take n ys ≡ take (at + n) (put_mid at k xs ys)
filled at k n xs ys within fits =
    let new = put_mid at k xs ys in
    let same : at + ((at + n) - at) ≡ at + n = omega arith in
    ap (λ l. take at xs ++ l) (sym (range_of_filled at k n xs ys within fits))
    ∙ ap (λ l. l ++ slice_range new at (at + n)) (sym (take-put_mid_below _ _ _ _ _ (le_refl _) within))
    ∙ sym (take-add at ((at + n) - at) new) ∙ ap (λ m. take m new) same

-- what a writer holds once it took n bytes more of a list
pub appended : (bytes : List ℕ) (at n : ℕ) (before held now : Option (List ℕ)) → Appends before held (take at bytes)
    → Appends held now (take n (take (length bytes - at) (drop at bytes))) → Appends before now (take (at + n) bytes)
appended bytes at n before held now p q =
    rw (take-add at n bytes) (Appends-trans before held now (take at bytes) (take n (drop at bytes)) p (rw (whole_drop at bytes) at q))

-- what a reader gave once n bytes more of it stand in a buffer
pub consumed : (buf part : List ℕ) (at k n : ℕ) (before left now : Option (List ℕ)) → at ≤ length buf → n ≤ length part
    → Consumes before left (take at buf) → Consumes left now (take n part) → Consumes before now (take (at + n) (put_mid at k buf part))
consumed buf part at k n before left now within fits p q =
    subst (Consumes before now) (filled at k n buf part within fits) (Consumes-trans before left now (take at buf) (take n part) p q)
