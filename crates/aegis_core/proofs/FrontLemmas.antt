-- The cipher text of a front is the front of the cipher text.
use Rattle.std.proofs.Common.{◌≡◌, ℕ, zero, suc, ◌+◌, ◌-◌, ◌*◌, ◌/◌, ◌%◌, ◌<◌, ◌≤◌, List, [], ◌∷◌, ◌++◌, length, take, drop, refl, sym, ap, ◌∙◌, arith, length-append, length-drop, inl, inr}
use Rattle.std.proofs.Math.Nat.{le-div_iff_mul-le, div-lt_iff_lt-mul, div-add-mod'}
use Rattle.std.proofs.lemmas.Bool.{cases_lt}
use Rattle.std.proofs.lemmas.List.{take-append-drop, take_at, take_all, append_assoc, append-nil, drop-append-le, take-append-le, length-take-le, drop-drop, drop_at, nil_from_length}
use Rattle.std.proofs.Math.Seq.{take-add, take-append-add}
use Rattle.std.specs.Prelude.{fold, bit_xor}
use Rattle.aes_spec.specs.Bytes.{on_bytes, xor_bytes}
use Rattle.aegis_core.specs.Blocks.{block_at, first_blocks}
use Rattle.aegis_core.specs.Lanes.{State}
use Rattle.aegis_core.specs.Family.{Family, cipher_text, encrypted}
use Rattle.aegis_core.proofs.BytesLemmas.{on_bytes-nil, length-on_bytes, take-on_bytes, first_blocks-append}
use Rattle.aegis_core.proofs.SealLemmas.{state_after, text_of, text_of_next, length-text_of, cipher_text_is}
use Rattle.aegis_core.proofs.LoopLemmas.{whole_fits}
use Rattle.aegis_core.proofs.OneText.{length-cipher_text}

-- the text of more blocks begins with that of fewer
text_of_more : (c : Family) (s : State) (z : List ℕ) (n j : ℕ) → (rest : List ℕ) × (text_of c s z (n + j) ≡ text_of c s z n ++ rest)
text_of_more c s z n zero = let e : n + 0 ≡ n = omega arith in ([], ap (λ (k : ℕ). text_of c s z k) e ∙ sym (append-nil (text_of c s z n)))
text_of_more c s z n (suc j) =
    let ih = text_of_more c s z n j in
    let x : List ℕ = xor_bytes (block_at c.rate z (n + j)) (c.keystream (state_after c s z (n + j))) in
    let e : n + suc j ≡ n + j + 1 = omega arith in
    (ih.0 ++ x, ap (λ (k : ℕ). text_of c s z k) e ∙ text_of_next c s z (n + j) ∙ ap (λ (v : List ℕ). v ++ x) ih.1 ∙ append_assoc (text_of c s z n) ih.0 x)

-- the front of a text whose next block begins with t
front_of : (a t y ks rest : List ℕ) → take (length a + length t) ((a ++ xor_bytes (t ++ y) ks) ++ rest) ≡ a ++ xor_bytes t ks
front_of a t y ks rest =
    let x : List ℕ = xor_bytes (t ++ y) ks in
    let lx : length x ≡ length (t ++ y) = length-on_bytes _ (t ++ y) ks in
    let fits : length t ≤ length x = omega (arith, length-append t y) in
    ap (λ (v : List ℕ). take (length a + length t) v) (append_assoc a x rest) ∙ take-append-add a (x ++ rest) (length t)
    ∙ ap (λ (v : List ℕ). a ++ v) (take-append-le (length t) x rest fits ∙ take-on_bytes bit_xor t y ks)

-- the cipher text of a longer message begins with n blocks and the next one, or what there is of it
longer : (c : Family) (s : State) (z : List ℕ) (n : ℕ) → 0 < c.rate → n * c.rate ≤ length z
    → (rest : List ℕ) × (cipher_text c s z ≡ (text_of c s z n ++ xor_bytes (take c.rate (drop (n * c.rate) z)) (c.keystream (state_after c s z n))) ++ rest)
longer c s z n pos fits =
    let r : ℕ = c.rate in
    let q : ℕ = length z / r in
    let whole = cipher_text_is c s z q pos refl in
    let below : n ≤ q = (le-div_iff_mul-le {k = r} {x = n} {y = length z} pos).1 fits in
    elim (cases_lt n q) [
      | inl more ↦
          let j : ℕ = q - (n + 1) in
          let e : q ≡ n + 1 + j = omega arith in
          let m = text_of_more c s z (n + 1) j in
          let tail : List ℕ = xor_bytes (drop (q * r) z) (c.keystream (state_after c s z q)) in
          let b : text_of c s z q ≡ (text_of c s z n ++ xor_bytes (take r (drop (n * r) z)) (c.keystream (state_after c s z n))) ++ m.0 =
          ap (λ (k : ℕ). text_of c s z k) e ∙ m.1 ∙ ap (λ (v : List ℕ). v ++ m.0) (text_of_next c s z n) in
          (m.0 ++ tail, whole ∙ ap (λ (v : List ℕ). v ++ tail) b ∙ append_assoc _ m.0 tail)
      | inr same ↦
          let e : q ≡ n = omega arith in
          let short : length (drop (n * r) z) ≤ r =
          let far : length z < (q + 1) * r = (div-lt_iff_lt-mul {k = r} {x = length z} {y = q + 1} pos).0 (omega arith) in
          let near : (q + 1) * r ≡ n * r + r = ap (λ (k : ℕ). (k + 1) * r) e ∙ omega arith in
          omega (arith, length-drop (n * r) z) in (
            [],
            whole ∙ ap (λ (k : ℕ). text_of c s z k ++ xor_bytes (drop (k * r) z) (c.keystream (state_after c s z k))) e
                ∙ ap (λ (v : List ℕ). text_of c s z n ++ xor_bytes v (c.keystream (state_after c s z n))) (sym (take_all r (drop (n * r) z) short))
                ∙ sym (append-nil (text_of c s z n ++ xor_bytes (take r (drop (n * r) z)) (c.keystream (state_after c s z n)))),
          )
    ]

-- the cipher text of a front is the front of the cipher text
pub cipher_front : (c : Family) (s : State) (x y : List ℕ) → 0 < c.rate → take (length x) (cipher_text c s (x ++ y)) ≡ cipher_text c s x
cipher_front c s x y pos =
    let r : ℕ = c.rate in
    let n : ℕ = length x / r in
    let fits : n * r ≤ length x = whole_fits n (length x) r refl in
    let t : List ℕ = drop (n * r) x in
    let lt : length t ≡ length x - n * r = length-drop (n * r) x in
    let far : length x < (n + 1) * r = (div-lt_iff_lt-mul {k = r} {x = length x} {y = n + 1} pos).0 (omega arith) in
    let near : (n + 1) * r ≡ n * r + r = omega arith in
    let ks : List ℕ = c.keystream (state_after c s x n) in
    let a : List ℕ = text_of c s x n in
    let la : length a ≡ n * r = length-text_of c s x n fits in
    let big = longer c s (x ++ y) n pos (omega (arith, length-append x y)) in
    let fs : first_blocks r (x ++ y) n ≡ first_blocks r x n = first_blocks-append r x y n fits in
    let y1 : List ℕ = take (r - length t) y in
    let blk : take r (drop (n * r) (x ++ y)) ≡ t ++ y1 =
    let e : r ≡ length t + (r - length t) = omega arith in
    ap (λ (v : List ℕ). take r v) (drop-append-le (n * r) x y fits) ∙ ap (λ (k : ℕ). take k (t ++ y)) e ∙ take-append-add t y (r - length t) in
    let len : length x ≡ length a + length t = omega arith in
    let same : cipher_text c s (x ++ y) ≡ (a ++ xor_bytes (t ++ y1) ks) ++ big.0 =
    big.1 ∙ ap (λ (v : List (List ℕ)). (encrypted c s v ++ xor_bytes (take r (drop (n * r) (x ++ y))) (c.keystream (fold c.update s v))) ++ big.0) fs
    ∙ ap (λ (v : List ℕ). (a ++ xor_bytes v ks) ++ big.0) blk in
    ap (λ (v : List ℕ). take (length x) v) same ∙ ap (λ (k : ℕ). take k ((a ++ xor_bytes (t ++ y1) ks) ++ big.0)) len
    ∙ front_of a t y1 ks big.0 ∙ sym (cipher_text_is c s x n pos refl)

-- one more part of a piece
pub stream_more : (c : Family) (s : State) (m a p q new : List ℕ) → 0 < c.rate → q ≡ drop (length m) (cipher_text c s (m ++ a))
    → new ≡ drop (length (m ++ a)) (cipher_text c s ((m ++ a) ++ p)) → q ++ new ≡ drop (length m) (cipher_text c s ((m ++ a) ++ p))
stream_more c s m a p q new pos eq en =
    let x : List ℕ = cipher_text c s ((m ++ a) ++ p) in
    let k : ℕ = length (m ++ a) in
    let front : take k x ≡ cipher_text c s (m ++ a) = cipher_front c s (m ++ a) p pos in
    let lf : length (take k x) ≡ k = ap length front ∙ length-cipher_text c s (m ++ a) pos in
    let split : drop (length m) x ≡ drop (length m) (take k x) ++ drop k x =
    ap (λ (v : List ℕ). drop (length m) v) (sym (take-append-drop k x)) ∙ drop-append-le (length m) (take k x) (drop k x) (omega (arith, length-append m a)) in
    ap (λ (v : List ℕ). v ++ new) (eq ∙ ap (λ (v : List ℕ). drop (length m) v) (sym front)) ∙ ap (λ (v : List ℕ). drop (length m) (take k x) ++ v) en ∙ sym split

-- the part of the piece: new is the old piece's next n bytes
pub next_part : (old cur : List ℕ) (at n : ℕ) → drop at cur ≡ drop at old → take at old ++ take (at + n - at) (drop at cur) ≡ take (at + n) old
next_part old cur at n e =
    let w : at + n - at ≡ n = omega arith in
    ap (λ (v : List ℕ). take at old ++ take (at + n - at) v) e ∙ ap (λ (k : ℕ). take at old ++ take k (drop at old)) w ∙ sym (take-add at n old)

pub rest_more : (old cur : List ℕ) (at n : ℕ) → drop at cur ≡ drop at old → drop (at + n) cur ≡ drop (at + n) old
rest_more old cur at n e = sym (drop-drop n at cur) ∙ ap (λ (v : List ℕ). drop n v) e ∙ drop-drop n at old

pub part_len_is : (cur : List ℕ) (at n : ℕ) → at + n ≤ length cur → length (take (at + n - at) (drop at cur)) ≡ n
part_len_is cur at n h = length-take-le (at + n - at) (drop at cur) (omega (arith, length-drop at cur)) ∙ omega arith

-- what is behind the front
drop-on_bytes : (f : ℕ → ℕ → ℕ) (xs ps ys : List ℕ) → drop (length xs) (on_bytes f (xs ++ ps) ys) ≡ on_bytes f ps (drop (length xs) ys)
unfolding on_bytes
drop-on_bytes f [] ps ys = refl
drop-on_bytes f (x ∷ xs) ps [] = drop_at xs ps (length xs) refl ∙ sym (on_bytes-nil f ps)
drop-on_bytes f (x ∷ xs) ps (y ∷ ys) = drop-on_bytes f xs ps ys

-- a part that goes no further than the block that m is in
pub near_text : (c : Family) (s : State) (m p : List ℕ) (n : ℕ) → 0 < c.rate → n ≡ length m / c.rate → length m % c.rate + length p ≤ c.rate
    → drop (length m) (cipher_text c s (m ++ p)) ≡ xor_bytes p (drop (length m % c.rate) (c.keystream (state_after c s m n)))
near_text c s m p n pos en room =
    let r : ℕ = c.rate in
    let fits : n * r ≤ length m = whole_fits n (length m) r en in
    let count : n * r + length m % r ≡ length m = rw en (div-add-mod' (length m) r) in
    let t : List ℕ = drop (n * r) m in
    let lt : length t ≡ length m % r = length-drop (n * r) m ∙ omega arith in
    let ks : List ℕ = c.keystream (state_after c s m n) in
    let a : List ℕ = text_of c s m n in
    let la : length a ≡ n * r = length-text_of c s m n fits in
    let lz : length (m ++ p) ≡ length m + length p = length-append m p in
    let big = longer c s (m ++ p) n pos (omega arith) in
    let fs : first_blocks r (m ++ p) n ≡ first_blocks r m n = first_blocks-append r m p n fits in
    let ltp : length (t ++ p) ≡ length t + length p = length-append t p in
    let blk : take r (drop (n * r) (m ++ p)) ≡ t ++ p = ap (λ (v : List ℕ). take r v) (drop-append-le (n * r) m p fits) ∙ take_all r (t ++ p) (omega arith) in
    let x : List ℕ = xor_bytes (t ++ p) ks in
    let lx : length x ≡ length (t ++ p) = length-on_bytes _ (t ++ p) ks in
    let same : cipher_text c s (m ++ p) ≡ (a ++ x) ++ big.0 =
    big.1 ∙ ap (λ (v : List (List ℕ)). (encrypted c s v ++ xor_bytes (take r (drop (n * r) (m ++ p))) (c.keystream (fold c.update s v))) ++ big.0) fs
    ∙ ap (λ (v : List ℕ). (a ++ xor_bytes v ks) ++ big.0) blk in
    let len : length ((a ++ x) ++ big.0) ≡ length (m ++ p) = sym (ap length same) ∙ length-cipher_text c s (m ++ p) pos in
    let none : big.0 ≡ [] = nil_from_length big.0 (omega (arith, length-append (a ++ x) big.0, length-append a x)) in
    let at : length m ≡ length a + length t = omega arith in
    ap (λ (v : List ℕ). drop (length m) v) (same ∙ ap (λ (v : List ℕ). (a ++ x) ++ v) none ∙ append-nil (a ++ x)) ∙ ap (λ (k : ℕ). drop k (a ++ x)) at
    ∙ sym (drop-drop (length t) (length a) (a ++ x)) ∙ ap (λ (v : List ℕ). drop (length t) v) (drop_at a x (length a) refl) ∙ drop-on_bytes bit_xor t p ks
    ∙ ap (λ (k : ℕ). xor_bytes p (drop k ks)) lt

pub fill_text : (c : Family) (s t : State) (m p out ks zs : List ℕ) (rate total : ℕ) → 0 < c.rate → rate ≡ c.rate → total ≡ length m → total % rate + length p ≤ rate
    → length ks ≡ rate → ks ≡ c.keystream t → t ≡ state_after c s m (length m / c.rate)
    → out ≡ xor_bytes p (take (rate - total % rate) (drop (total % rate) (ks ++ zs))) → out ≡ drop (length m) (cipher_text c s (m ++ p))
fill_text c s t m p out ks zs rate total pos er em room lk ek et eo =
    let used : total % rate ≡ length m % c.rate = ap (λ (j : ℕ). j % rate) em ∙ ap (λ (j : ℕ). length m % j) er in
    let cut : take (rate - total % rate) (drop (total % rate) (ks ++ zs)) ≡ drop (total % rate) ks =
    ap (λ (v : List ℕ). take (rate - total % rate) v) (drop-append-le (total % rate) ks zs (omega arith)) ∙ take_at (drop (total % rate) ks) zs (rate - total % rate) (omega (arith, length-drop (total % rate) ks)) in
    eo ∙ ap (λ (v : List ℕ). xor_bytes p v) cut ∙ ap (λ (j : ℕ). xor_bytes p (drop j ks)) used ∙ ap (λ (v : List ℕ). xor_bytes p (drop (length m % c.rate) v)) (ek ∙ ap c.keystream et)
    ∙ sym (near_text c s m p (length m / c.rate) pos refl (omega arith))
