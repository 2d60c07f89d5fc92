-- A text cut at its first byte c, as its parts, its words and its lines show it.
use Rattle.std.proofs.Common.{◌≡◌, ℕ, suc, zero, ◌+◌, ◌-◌, ◌<◌, Bool, true, false, List, [], ◌∷◌, length, get_or, take, drop, None, Ok, Err, refl, sym, ap, ◌∙◌, arith, eqb, eq-eqb, add-one}
use Rattle.std.specs.Prelude.{nat_eq, if◌then◌else◌}
use Rattle.std.specs.List.{onto_first, join_with_byte}
use Rattle.std.proofs.lemmas.List.Splits.{slice_split-cons_yes, slice_split-cons_no, length-slice_split, join_with_byte-slice_split}
use Rattle.std.proofs.lemmas.Bool.{ne_eqb}
use Rattle.std.proofs.lemmas.List.{length-drop}
use Rattle.std.proofs.Math.Seq.{take-length}
use Rattle.raf_script.specs.Words.{parts}
use Rattle.raf_script.specs.Lines.{lines, lines_of_parts, first}
use Rattle.raf_script.specs.Reading.{is_end}

found_suc : (c : ℕ) (xs : List ℕ) (i : ℕ) → i < length xs → ((k : ℕ) → k < i → get_or xs k 0 ≡ c → ⊥) → get_or xs i 0 ≡ c → parts c xs ≡ take i xs ∷ parts c (drop (suc i) xs)
found_suc c [] i lt before here = absurd (omega arith)
found_suc c (x ∷ xs) zero lt before here = slice_split-cons_yes (λ b. nat_eq b c) x xs (eq-eqb x c here)
found_suc c (x ∷ xs) (suc i) lt before here =
    slice_split-cons_no (λ b. nat_eq b c) x xs (ne_eqb x c (before 0 (omega arith))) ∙ ap (onto_first x) (found_suc c xs i (omega arith) (λ k h. before (suc k) (omega arith)) here)

pub found_at : (c : ℕ) (xs : List ℕ) (i : ℕ) → i < length xs → ((k : ℕ) → k < i → get_or xs k 0 ≡ c → ⊥) → get_or xs i 0 ≡ c → parts c xs ≡ take i xs ∷ parts c (drop (i + 1) xs)
found_at c xs i lt before here = rw (add-one i) (found_suc c xs i lt before here)

pub none_at : (c : ℕ) (xs : List ℕ) → ((k : ℕ) → k < length xs → get_or xs k 0 ≡ c → ⊥) → parts c xs ≡ xs ∷ []
none_at c [] none = refl
none_at c (x ∷ xs) none =
    slice_split-cons_no (λ b. nat_eq b c) x xs (ne_eqb x c (none 0 (omega arith))) ∙ ap (onto_first x) (none_at c xs (λ k h. none (suc k) (omega arith)))

nonempty : (ls : List (List ℕ)) → 0 < length ls → (y : List ℕ) × (ys : List (List ℕ)) × (ls ≡ y ∷ ys)
nonempty [] h = absurd (omega arith)
nonempty (y ∷ ys) h = (y, ys, refl)

pub parts_cons : (c : ℕ) (xs : List ℕ) → (y : List ℕ) × (ys : List (List ℕ)) × (parts c xs ≡ y ∷ ys)
parts_cons c xs = nonempty (parts c xs) (omega (arith, length-slice_split (λ b. nat_eq b c) xs))

pub line_read : (n : ℕ) (text a b : List ℕ) → parts 10 text ≡ a ∷ parts 10 b → first n (lines text) ≡ Ok (a, lines b)
unfolding lines
line_read n text a b e = let p = parts_cons 10 b in rw (e, p.2) refl

no_line : (n : ℕ) (t : Bool) → first n (if t then [] else None ∷ []) ≡ Err n
no_line n true = refl
no_line n false = refl

pub line_missing : (n : ℕ) (text : List ℕ) → parts 10 text ≡ text ∷ [] → first n (lines text) ≡ Err n
unfolding lines
line_missing n text e = rw e (no_line n (eqb (length text) 0))

pub line_cut : (text : List ℕ) → parts 10 text ≡ text ∷ [] → 0 < length text → lines text ≡ None ∷ []
unfolding lines
line_cut text e some = rw (e, ne_eqb (length text) 0 (λ h. omega arith)) refl

pub lines_none : lines [] ≡ []
unfolding lines
lines_none = refl

-- the slice from an index on
pub whole_drop : (at : ℕ) (l : List ℕ) → take (length l - at) (drop at l) ≡ drop at l
whole_drop at l = rw (← length-drop at l) (take-length (drop at l))

-- no line is left where the text has no byte
end_parts : (text : List ℕ) (ps : List (List ℕ)) → parts 10 text ≡ ps → 0 < length text → is_end (lines_of_parts ps) ≡ false
end_parts text [] e some = let shape = parts_cons 10 text in let odd : ◌≡◌ {A = List (List ℕ)} [] (shape.0 ∷ shape.1) = sym e ∙ shape.2 in (cc)
end_parts text (y ∷ []) e some =
    let same : y ≡ text = ap (join_with_byte 10) (sym e) ∙ join_with_byte-slice_split 10 text in
    let long : 0 < length y = rw same some in
    rw (ne_eqb (length y) 0 (λ h. omega arith)) refl
end_parts text (y ∷ z ∷ more) e some = refl

pub end_of : (text : List ℕ) → is_end (lines text) ≡ nat_eq (length text) 0
unfolding lines
end_of [] = refl
end_of (x ∷ xs) = end_parts (x ∷ xs) (parts 10 (x ∷ xs)) refl (omega arith) ∙ sym (ne_eqb (length (x ∷ xs)) 0 (λ h. omega arith))
