-- Lists of bytes of a known length.
use Rattle.std.proofs.Common.{◌≡◌, ℕ, zero, suc, ◌<◌, List, [], ◌∷◌, ◌++◌, length, map, take, drop, slice_index, bit_xor, ◌∙◌, arith, inl, inr}
use Rattle.std.proofs.lemmas.Bool.{cases_lt}
use Rattle.std.proofs.lemmas.List.{get_or_past, length-map}
use Rattle.std.proofs.lemmas.List.FromFn.{get_or-map-range_with_len, length-map-range_with_len}
use Rattle.std.proofs.lemmas.Nat.{xor_lt}
use Rattle.std.specs.List.{range_with_len}
use Rattle.aes_spec.specs.Bytes.{on_bytes, xor_bytes}
use Rattle.aes_spec.specs.Field.{S}
use Rattle.aes_spec.proofs.ByteLists.{length-on_bytes}
use Rattle.aes_spec.proofs.Tables.{S-lt}

-- each is a byte; past the end stands 0
abbrev pub AreSmall : List ℕ → Type 0
AreSmall a = (i : ℕ) → slice_index a i < 256

-- n bytes
pub record AreBytes (n : ℕ) (a : List ℕ) : Type 0 where
  pub long : length a ≡ n
  pub small : (i : ℕ) → slice_index a i < 256

pub are_bytes : (n : ℕ) (f : ℕ → ℕ) → ((i : ℕ) → i < n → f i < 256) → AreBytes n (map f (range_with_len 0 n))
are_bytes n f small =
    let xs : List ℕ = map f (range_with_len 0 n) in
    let long : length xs ≡ n = length-map-range_with_len f 0 n in
    record {
      long = long;
      small = λ i. elim (cases_lt i n) [
        | inl inside ↦
            let e : slice_index xs i ≡ f i = get_or-map-range_with_len f 0 n i i 0 inside (omega arith) in
            rw e (small i inside)
        | inr past ↦
            let e : slice_index xs i ≡ 0 = get_or_past xs i 0 (omega arith) in
            omega arith
      ];
    }

pub small-append : (xs ys : List ℕ) → AreSmall xs → AreSmall ys → AreSmall (xs ++ ys)
small-append [] ys hx hy i = hy i
small-append (x ∷ xs) ys hx hy zero = hx 0
small-append (x ∷ xs) ys hx hy (suc i) = small-append xs ys (λ k. hx (suc k)) hy i

pub small-take : (n : ℕ) (xs : List ℕ) → AreSmall xs → AreSmall (take n xs)
small-take zero xs h i = omega arith
small-take (suc n) [] h i = omega arith
small-take (suc n) (x ∷ xs) h zero = h 0
small-take (suc n) (x ∷ xs) h (suc i) = small-take n xs (λ k. h (suc k)) i

pub small-drop : (n : ℕ) (xs : List ℕ) → AreSmall xs → AreSmall (drop n xs)
small-drop zero xs h i = h i
small-drop (suc n) [] h i = omega arith
small-drop (suc n) (x ∷ xs) h i = small-drop n xs (λ k. h (suc k)) i

pub small-map-S : (xs : List ℕ) → AreSmall xs → AreSmall (map S xs)
small-map-S [] h i = omega arith
small-map-S (x ∷ xs) h zero = S-lt x (h 0)
small-map-S (x ∷ xs) h (suc i) = small-map-S xs (λ k. h (suc k)) i

pub small-xor_bytes : (xs ys : List ℕ) → AreSmall xs → AreSmall ys → AreSmall (xor_bytes xs ys)
unfolding on_bytes
small-xor_bytes [] ys hx hy i = omega arith
small-xor_bytes (x ∷ xs) [] hx hy i = hx i
small-xor_bytes (x ∷ xs) (y ∷ ys) hx hy zero = xor_lt 8 x y (hx 0) (hy 0)
small-xor_bytes (x ∷ xs) (y ∷ ys) hx hy (suc i) = small-xor_bytes xs ys (λ k. hx (suc k)) (λ k. hy (suc k)) i

pub bytes-xor_bytes : (n : ℕ) (a k : List ℕ) → AreBytes n a → AreBytes n k → AreBytes n (xor_bytes a k)
bytes-xor_bytes n a k ha hk = record { long = length-on_bytes bit_xor a k ∙ ha.long; small = small-xor_bytes a k ha.small hk.small }

pub bytes-map-S : (n : ℕ) (a : List ℕ) → AreBytes n a → AreBytes n (map S a)
bytes-map-S n a h = record { long = length-map a S ∙ h.long; small = small-map-S a h.small }
