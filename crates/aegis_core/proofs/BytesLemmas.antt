-- Laws of on_bytes, and of the blocks of a list.
use Rattle.std.proofs.Common.{◌≡◌, ℕ, zero, suc, ◌+◌, ◌-◌, ◌*◌, ◌/◌, ◌%◌, ◌<◌, ◌≤◌, List, [], ◌∷◌, ◌++◌, length, take, drop, replicate, get_or, set, refl, sym, ap, ◌∙◌, arith, add-one, length-append, length-drop}
use Rattle.std.proofs.lemmas.List.{take-append-le, drop-append-le, take_all, append-nil, length-take-le, length-replicate, take-append-drop, take_at}
use Rattle.std.proofs.Math.Nat.{mod_self, div-add-mod', mod-eq_of_lt, mul-div_cancel}
use Rattle.std.proofs.lemmas.Nat.{xor_comm}
use Rattle.std.specs.Int.Bits.{xor_assoc, xor_self, xor_zero_r}
use Rattle.std.specs.Prelude.{bit_xor}
use Rattle.aes_spec.specs.Bytes.{on_bytes, xor_bytes}
use Rattle.aegis_core.specs.Blocks.{block_at, first_blocks, padded, blocks}

pub length-on_bytes : (f : ℕ → ℕ → ℕ) (xs ys : List ℕ) → length (on_bytes f xs ys) ≡ length xs
unfolding on_bytes
length-on_bytes f [] ys = refl
length-on_bytes f (x ∷ xs) [] = refl
length-on_bytes f (x ∷ xs) (y ∷ ys) = ap suc (length-on_bytes f xs ys)

pub on_bytes-nil : (f : ℕ → ℕ → ℕ) (xs : List ℕ) → on_bytes f xs [] ≡ xs
unfolding on_bytes
on_bytes-nil f [] = refl
on_bytes-nil f (x ∷ xs) = refl

-- the same twice gives the bytes back
pub xor_twice : (xs ys : List ℕ) → xor_bytes (xor_bytes xs ys) ys ≡ xs
unfolding on_bytes
xor_twice [] ys = refl
xor_twice (x ∷ xs) [] = refl
xor_twice (x ∷ xs) (y ∷ ys) =
    let head : bit_xor (bit_xor x y) y ≡ x = rw (xor_assoc, xor_self, xor_zero_r) refl in
    rw (head, xor_twice xs ys) refl

-- what is added determines
pub xor_cancel : (xs zs ys : List ℕ) → xor_bytes xs ys ≡ xor_bytes zs ys → xs ≡ zs
xor_cancel xs zs ys e = sym (xor_twice xs ys) ∙ ap (λ (v : List ℕ). xor_bytes v ys) e ∙ xor_twice zs ys

-- two parts
pub on_bytes-append : (f : ℕ → ℕ → ℕ) (a b k z : List ℕ) → length a ≡ length k → on_bytes f (a ++ b) (k ++ z) ≡ on_bytes f a k ++ on_bytes f b z
unfolding on_bytes
on_bytes-append f [] b [] z h = refl
on_bytes-append f [] b (y ∷ k) z h = absurd (omega arith)
on_bytes-append f (x ∷ a) b [] z h = absurd (omega arith)
on_bytes-append f (x ∷ a) b (y ∷ k) z h = ap (λ (v : List ℕ). f x y ∷ v) (on_bytes-append f a b k z (omega arith))

pub xor_comm_bytes : (xs ys : List ℕ) → length xs ≡ length ys → xor_bytes xs ys ≡ xor_bytes ys xs
unfolding on_bytes
xor_comm_bytes [] [] h = refl
xor_comm_bytes [] (y ∷ ys) h = absurd (omega arith)
xor_comm_bytes (x ∷ xs) [] h = absurd (omega arith)
xor_comm_bytes (x ∷ xs) (y ∷ ys) h =
    let head : bit_xor x y ≡ bit_xor y x = xor_comm x y in
    rw (head, xor_comm_bytes xs ys (omega arith)) refl

-- the front of a longer list
pub take-on_bytes : (f : ℕ → ℕ → ℕ) (xs zs ys : List ℕ) → take (length xs) (on_bytes f (xs ++ zs) ys) ≡ on_bytes f xs ys
unfolding on_bytes
take-on_bytes f [] zs ys = refl
take-on_bytes f (x ∷ xs) zs [] = ap (λ (v : List ℕ). x ∷ v) (take_at xs zs (length xs) refl)
take-on_bytes f (x ∷ xs) zs (y ∷ ys) = ap (λ (v : List ℕ). f x y ∷ v) (take-on_bytes f xs zs ys)

-- one more place
pub on_bytes_more : (f : ℕ → ℕ → ℕ) (xs ys : List ℕ) (i : ℕ) → i < length xs → i < length ys
    → set (on_bytes f xs (take i ys)) i (f (get_or (on_bytes f xs (take i ys)) i 0) (get_or ys i 0)) ≡ on_bytes f xs (take (suc i) ys)
unfolding on_bytes
on_bytes_more f [] ys i h k = absurd (omega arith)
on_bytes_more f (x ∷ xs) [] i h k = absurd (omega arith)
on_bytes_more f (x ∷ xs) (y ∷ ys) zero h k = ap (λ (v : List ℕ). f x y ∷ v) (sym (on_bytes-nil f xs))
on_bytes_more f (x ∷ xs) (y ∷ ys) (suc i) h k = ap (λ (v : List ℕ). f x y ∷ v) (on_bytes_more f xs ys i (omega arith) (omega arith))

pub on_bytes_all : (f : ℕ → ℕ → ℕ) (xs ys : List ℕ) (n : ℕ) → length xs ≤ n → on_bytes f xs (take n ys) ≡ on_bytes f xs ys
unfolding on_bytes
on_bytes_all f [] ys n h = refl
on_bytes_all f (x ∷ xs) [] zero h = refl
on_bytes_all f (x ∷ xs) [] (suc n) h = refl
on_bytes_all f (x ∷ xs) (y ∷ ys) zero h = absurd (omega arith)
on_bytes_all f (x ∷ xs) (y ∷ ys) (suc n) h = ap (λ (v : List ℕ). f x y ∷ v) (on_bytes_all f xs ys n (omega arith))

-- ---- blocks

pub first_blocks_next : (r : ℕ) (p : List ℕ) (n : ℕ) → first_blocks r p (n + 1) ≡ first_blocks r p n ++ block_at r p n ∷ []
unfolding first_blocks
first_blocks_next r p n = rw add-one refl

-- the first blocks read only the bytes that they count
pub first_blocks-append : (r : ℕ) (p x : List ℕ) (n : ℕ) → n * r ≤ length p → first_blocks r (p ++ x) n ≡ first_blocks r p n
unfolding first_blocks
first_blocks-append r p x zero h = refl
first_blocks-append r p x (suc n) h =
    let room : n * r + r ≤ length p = omega arith in
    let fits : r ≤ length (drop (n * r) p) = omega (arith, length-drop (n * r) p) in
    let block : take r (drop (n * r) (p ++ x)) ≡ take r (drop (n * r) p) =
    rw (drop-append-le (n * r) p x (omega arith)) (take-append-le r (drop (n * r) p) x fits) in
    rw (block, first_blocks-append r p x n (omega arith)) refl

-- whole blocks take no padding
pub blocks_whole : (r : ℕ) (p : List ℕ) → 0 < r → length p % r ≡ 0 → blocks r p ≡ first_blocks r p (length p / r)
blocks_whole r p pos whole =
    let z : r - length p % r ≡ r = omega arith in
    let none : (r - length p % r) % r ≡ 0 = rw z (mod_self r) in
    let same : padded r p ≡ p = rw (none) (append-nil p) in
    ap (λ (q : List ℕ). first_blocks r q (length q / r)) same

-- n blocks and one more
whole_count : (n r : ℕ) → 0 < r → (n * r + r) / r ≡ n + 1
whole_count n r pos =
    let e : n * r + r ≡ (n + 1) * r = omega arith in
    rw e (mul-div_cancel (n + 1) pos)

-- a short last block is padded with zeros
pub blocks_short : (r : ℕ) (p : List ℕ) (n : ℕ) → n ≡ length p / r → 0 < length p % r → length p % r < r
    → blocks r p ≡ first_blocks r p n ++ (drop (n * r) p ++ replicate (r - length p % r) 0) ∷ []
blocks_short r p n en short below =
    let k : ℕ = length p % r in
    let zeros : List ℕ = replicate (r - k) 0 in
    let count : n * r + k ≡ length p = rw en (div-add-mod' (length p) r) in
    let same : padded r p ≡ p ++ zeros = ap (λ (j : ℕ). p ++ replicate j 0) (mod-eq_of_lt (omega arith)) in
    let lz : length zeros ≡ r - k = length-replicate (r - k) 0 in
    let long : length (p ++ zeros) ≡ n * r + r = omega (arith, length-append p zeros) in
    let whole : (n * r + r) / r ≡ n + 1 = whole_count n r (omega arith) in
    let blk : block_at r (p ++ zeros) n ≡ drop (n * r) p ++ zeros =
    rw (drop-append-le (n * r) p zeros (omega arith)) (take_all r (drop (n * r) p ++ zeros) (omega (arith, length-append (drop (n * r) p) zeros, length-drop (n * r) p))) in
    let first : first_blocks r (p ++ zeros) n ≡ first_blocks r p n = first_blocks-append r p zeros n (omega arith) in
    let number : length (p ++ zeros) / r ≡ n + 1 = ap (λ (j : ℕ). j / r) long ∙ whole in
    ap (λ (q : List ℕ). first_blocks r q (length q / r)) same ∙ ap (λ (j : ℕ). first_blocks r (p ++ zeros) j) number
    ∙ first_blocks_next r (p ++ zeros) n ∙ ap (λ (v : List (List ℕ)). v ++ block_at r (p ++ zeros) n ∷ []) first ∙ ap (λ (v : List ℕ). first_blocks r p n ++ v ∷ []) blk

-- blocks of lists with the same front
pub first_blocks_same : (r : ℕ) (p q : List ℕ) (n : ℕ) → n * r ≤ length p → n * r ≤ length q → take (n * r) p ≡ take (n * r) q → first_blocks r p n ≡ first_blocks r q n
first_blocks_same r p q n hp hq e =
    let lp : length (take (n * r) p) ≡ n * r = length-take-le (n * r) p hp in
    let lq : length (take (n * r) q) ≡ n * r = length-take-le (n * r) q hq in
    let a : first_blocks r p n ≡ first_blocks r (take (n * r) p) n =
    ap (λ (v : List ℕ). first_blocks r v n) (sym (take-append-drop (n * r) p)) ∙ first_blocks-append r (take (n * r) p) (drop (n * r) p) n (omega arith) in
    let b : first_blocks r q n ≡ first_blocks r (take (n * r) q) n =
    ap (λ (v : List ℕ). first_blocks r v n) (sym (take-append-drop (n * r) q)) ∙ first_blocks-append r (take (n * r) q) (drop (n * r) q) n (omega arith) in
    a ∙ ap (λ (v : List ℕ). first_blocks r v n) e ∙ sym b
