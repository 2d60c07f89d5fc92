-- Laws of functions on lists of bytes.
use Rattle.std.proofs.Common.{◌≡◌, ℕ, zero, suc, ◌<◌, ◌≤◌, List, [], ◌∷◌, ◌++◌, length, take, get_or, set, refl, sym, ap, ◌∙◌, arith}
use Rattle.std.proofs.lemmas.List.{take_at}
use Rattle.std.specs.Int.Bits.{xor_assoc, xor_self, xor_zero_r}
use Rattle.std.specs.Prelude.{bit_xor}
use Rattle.aes_spec.specs.Bytes.{on_bytes, xor_bytes}

pub length-on_bytes : (f : ℕ → ℕ → ℕ) (xs ys : List ℕ) → length (on_bytes f xs ys) ≡ length xs
unfolding on_bytes
length-on_bytes f [] ys = refl
length-on_bytes f (x ∷ xs) [] = refl
length-on_bytes f (x ∷ xs) (y ∷ ys) = ap suc (length-on_bytes f xs ys)

pub on_bytes-nil : (f : ℕ → ℕ → ℕ) (xs : List ℕ) → on_bytes f xs [] ≡ xs
unfolding on_bytes
on_bytes-nil f [] = refl
on_bytes-nil f (x ∷ xs) = refl

-- the same twice gives the bytes back
pub xor_twice : (xs ys : List ℕ) → xor_bytes (xor_bytes xs ys) ys ≡ xs
unfolding on_bytes
xor_twice [] ys = refl
xor_twice (x ∷ xs) [] = refl
xor_twice (x ∷ xs) (y ∷ ys) =
    let head : bit_xor (bit_xor x y) y ≡ x = rw (xor_assoc, xor_self, xor_zero_r) refl in
    rw (head, xor_twice xs ys) refl

-- what is added determines
pub xor_cancel : (xs zs ys : List ℕ) → xor_bytes xs ys ≡ xor_bytes zs ys → xs ≡ zs
xor_cancel xs zs ys e = sym (xor_twice xs ys) ∙ ap (λ (v : List ℕ). xor_bytes v ys) e ∙ xor_twice zs ys

-- the front of a longer list
pub take-on_bytes : (f : ℕ → ℕ → ℕ) (xs zs ys : List ℕ) → take (length xs) (on_bytes f (xs ++ zs) ys) ≡ on_bytes f xs ys
unfolding on_bytes
take-on_bytes f [] zs ys = refl
take-on_bytes f (x ∷ xs) zs [] = ap (λ (v : List ℕ). x ∷ v) (take_at xs zs (length xs) refl)
take-on_bytes f (x ∷ xs) zs (y ∷ ys) = ap (λ (v : List ℕ). f x y ∷ v) (take-on_bytes f xs zs ys)

-- one more place
pub on_bytes_more : (f : ℕ → ℕ → ℕ) (xs ys : List ℕ) (i : ℕ) → i < length xs → i < length ys
    → set (on_bytes f xs (take i ys)) i (f (get_or (on_bytes f xs (take i ys)) i 0) (get_or ys i 0)) ≡ on_bytes f xs (take (suc i) ys)
unfolding on_bytes
on_bytes_more f [] ys i h k = absurd (omega arith)
on_bytes_more f (x ∷ xs) [] i h k = absurd (omega arith)
on_bytes_more f (x ∷ xs) (y ∷ ys) zero h k = ap (λ (v : List ℕ). f x y ∷ v) (sym (on_bytes-nil f xs))
on_bytes_more f (x ∷ xs) (y ∷ ys) (suc i) h k = ap (λ (v : List ℕ). f x y ∷ v) (on_bytes_more f xs ys i (omega arith) (omega arith))

pub on_bytes_all : (f : ℕ → ℕ → ℕ) (xs ys : List ℕ) (n : ℕ) → length xs ≤ n → on_bytes f xs (take n ys) ≡ on_bytes f xs ys
unfolding on_bytes
on_bytes_all f [] ys n h = refl
on_bytes_all f (x ∷ xs) [] zero h = refl
on_bytes_all f (x ∷ xs) [] (suc n) h = refl
on_bytes_all f (x ∷ xs) (y ∷ ys) zero h = absurd (omega arith)
on_bytes_all f (x ∷ xs) (y ∷ ys) (suc n) h = ap (λ (v : List ℕ). f x y ∷ v) (on_bytes_all f xs ys n (omega arith))
