-- A write over the bytes of a chunk is a splice.
use Rattle.std.proofs.Common.{◌≡◌, ℕ, ◌+◌, ◌-◌, ◌≤◌, Bool, true, false, ◌&&◌, cond, List, [], ◌∷◌, ◌++◌, length, take, drop, refl, sym, ◌∙◌, ap, arith, length-take, length-drop, take-append-drop, append_assoc}
use Rattle.std.specs.Prelude.{nat_lt, nat_le, slice_index}
use Rattle.std.proofs.lemmas.List.{drop_more, drop_all, drop-drop}
use Rattle.std.proofs.lemmas.Bool.Decides.{nat_tests}
use Rattle.raf.specs.Apply.{overlaid}

-- the byte at a position
abbrev pub byte : ℕ → ℕ → List ℕ → ℕ → ℕ
byte position offset bytes x = cond (nat_le offset position && nat_lt position (offset + length bytes)) (slice_index bytes (position - offset)) x

-- bytes that the data doesn't reach stay
pub overlaid_apart : (position offset : ℕ) (bytes xs : List ℕ) → (position + length xs ≤ offset) → overlaid position offset bytes xs ≡ xs
overlaid_apart position offset bytes [] le = refl
overlaid_apart position offset bytes (x ∷ xs) le =
    let out : nat_le offset position && nat_lt position (offset + length bytes) ≡ false = grind (arith, nat_tests) in
    ap (λ (t : Bool). cond t (slice_index bytes (position - offset)) x ∷ overlaid (position + 1) offset bytes xs) out
    ∙ ap (λ (l : List ℕ). x ∷ l) (overlaid_apart (position + 1) offset bytes xs (omega arith))

pub overlaid_past : (position offset : ℕ) (bytes xs : List ℕ) → (offset + length bytes ≤ position) → overlaid position offset bytes xs ≡ xs
overlaid_past position offset bytes [] le = refl
overlaid_past position offset bytes (x ∷ xs) le =
    let out : nat_le offset position && nat_lt position (offset + length bytes) ≡ false = grind (arith, nat_tests) in
    ap (λ (t : Bool). cond t (slice_index bytes (position - offset)) x ∷ overlaid (position + 1) offset bytes xs) out
    ∙ ap (λ (l : List ℕ). x ∷ l) (overlaid_past (position + 1) offset bytes xs (omega arith))

-- bytes that the data covers are the data's
pub overlaid_covered : (position offset : ℕ) (bytes xs : List ℕ) → offset ≤ position → position + length xs ≡ offset + length bytes → overlaid position offset bytes xs ≡ drop (position - offset) bytes
overlaid_covered position offset bytes [] le len = sym (drop_all (position - offset) bytes (omega arith))
overlaid_covered position offset bytes (x ∷ xs) le len =
    let inside : nat_le offset position && nat_lt position (offset + length bytes) ≡ true = grind (arith, nat_tests) in
    let next : position + 1 - offset ≡ position - offset + 1 = omega arith in
    ap (λ (t : Bool). cond t (slice_index bytes (position - offset)) x ∷ overlaid (position + 1) offset bytes xs) inside
    ∙ ap (λ (l : List ℕ). slice_index bytes (position - offset) ∷ l) (overlaid_covered (position + 1) offset bytes xs (omega arith) (omega arith))
    ∙ ap (λ (n : ℕ). slice_index bytes (position - offset) ∷ drop n bytes) next
    ∙ sym (drop_more bytes (position - offset) 0 (omega arith))

pub overlaid-append : (position offset : ℕ) (bytes xs ys : List ℕ) → overlaid position offset bytes (xs ++ ys) ≡ overlaid position offset bytes xs ++ overlaid (position + length xs) offset bytes ys
overlaid-append position offset bytes [] ys = let e : position ≡ position + 0 = omega arith in ap (λ (n : ℕ). overlaid n offset bytes ys) e
overlaid-append position offset bytes (x ∷ xs) ys =
    let e : position + 1 + length xs ≡ position + length (x ∷ xs) = omega arith in
    ap (λ (l : List ℕ). byte position offset bytes x ∷ l)
    (overlaid-append (position + 1) offset bytes xs ys ∙ ap (λ (n : ℕ). overlaid (position + 1) offset bytes xs ++ overlaid n offset bytes ys) e)

-- the whole of it, from position 0
pub overlaid_is : (offset : ℕ) (bytes xs : List ℕ) → offset + length bytes ≤ length xs → overlaid 0 offset bytes xs ≡ take offset xs ++ bytes ++ drop (offset + length bytes) xs
overlaid_is offset bytes xs fits =
    let a = take offset xs in
    let rest = drop offset xs in
    let b = take (length bytes) rest in
    let c = drop (length bytes) rest in
    let la : length a ≡ offset = omega (arith, length-take offset xs) in
    let lb : length b ≡ length bytes = omega (arith, length-take (length bytes) rest, length-drop offset xs) in
    ap (overlaid 0 offset bytes) (sym (take-append-drop offset xs))
    ∙ overlaid-append 0 offset bytes a rest
    ∙ ap (λ (l : List ℕ). l ++ overlaid (0 + length a) offset bytes rest) (overlaid_apart 0 offset bytes a (omega arith))
    ∙ ap (λ (l : List ℕ). a ++ overlaid (0 + length a) offset bytes l) (sym (take-append-drop (length bytes) rest))
    ∙ ap (λ (l : List ℕ). a ++ l) (overlaid-append (0 + length a) offset bytes b c)
    ∙ ap (λ (l : List ℕ). a ++ (l ++ overlaid (0 + length a + length b) offset bytes c)) (overlaid_covered (0 + length a) offset bytes b (omega arith) (omega arith) ∙ start (0 + length a - offset) (omega arith))
    ∙ ap (λ (l : List ℕ). a ++ (bytes ++ l)) (overlaid_past (0 + length a + length b) offset bytes c (omega arith) ∙ drop-drop (length bytes) offset xs)
    ∙ sym (append_assoc a bytes (drop (offset + length bytes) xs))
  where
    start : (n : ℕ) → n ≡ 0 → drop n bytes ≡ bytes
    start n is = ap (λ (k : ℕ). drop k bytes) is
