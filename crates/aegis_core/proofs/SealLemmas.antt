-- How a state and a buffer follow a message block by block, and that the cipher text determines it.
use Rattle.std.proofs.Common.{◌≡◌, ℕ, zero, suc, ◌+◌, ◌-◌, ◌*◌, ◌/◌, ◌%◌, ◌<◌, ◌≤◌, List, [], ◌∷◌, ◌++◌, length, take, drop, replicate, refl, sym, ap, ◌∙◌, arith, add-one, length-append, length-drop}
use Rattle.std.specs.Prelude.{fold, bit_xor}
use Rattle.std.proofs.Common.{inl, inr}
use Rattle.std.proofs.lemmas.Bool.{cases_lt}
use Rattle.std.proofs.lemmas.List.{take_all, drop_all, append_assoc, append-nil, length-take-le, take_at, drop_at, drop-drop}
use Rattle.std.proofs.lemmas.List.Sums.{fold-append}
use Rattle.std.proofs.Math.Seq.{take-append-add}
use Rattle.std.proofs.Math.Nat.{div-add-mod', mod-lt}
use borrow.Rule.Slice.PartMut.{put_mid}
use Rattle.aes_spec.specs.Bytes.{on_bytes, xor_bytes}
use Rattle.aegis_core.specs.Blocks.{block_at, first_blocks, blocks}
use Rattle.aegis_core.specs.Lanes.{State}
use Rattle.aegis_core.specs.Family.{Family, absorbed, encrypted, cipher_text}
use Rattle.aegis_core.specs.Tail.{absorbed_tail}
use Rattle.aegis_core.proofs.BytesLemmas.{length-on_bytes, take-on_bytes, first_blocks_next, blocks_whole, blocks_short}

-- the state after the first n blocks of p
abbrev pub state_after : Family → State → List ℕ → ℕ → State
state_after c s p n = fold c.update s (first_blocks c.rate p n)

-- the cipher text of the first n blocks of p
abbrev pub text_of : Family → State → List ℕ → ℕ → List ℕ
text_of c s p n = encrypted c s (first_blocks c.rate p n)

pub state_after_next : (c : Family) (s : State) (p : List ℕ) (n : ℕ) → state_after c s p (n + 1) ≡ c.update (state_after c s p n) (block_at c.rate p n)
state_after_next c s p n = rw (first_blocks_next c.rate p n) (fold-append c.update s (first_blocks c.rate p n) (block_at c.rate p n ∷ []))

pub encrypted-append : (c : Family) (s : State) (bs ds : List (List ℕ)) → encrypted c s (bs ++ ds) ≡ encrypted c s bs ++ encrypted c (fold c.update s bs) ds
unfolding encrypted
encrypted-append c s [] ds = refl
encrypted-append c s (b ∷ bs) ds =
    rw (encrypted-append c (c.update s b) bs ds) (sym (append_assoc (xor_bytes b (c.keystream s)) (encrypted c (c.update s b) bs) (encrypted c (fold c.update (c.update s b) bs) ds)))

pub encrypted_one : (c : Family) (s : State) (b : List ℕ) → encrypted c s (b ∷ []) ≡ xor_bytes b (c.keystream s)
unfolding encrypted
encrypted_one c s b = append-nil (xor_bytes b (c.keystream s))

pub text_of_next : (c : Family) (s : State) (p : List ℕ) (n : ℕ) → text_of c s p (n + 1) ≡ text_of c s p n ++ xor_bytes (block_at c.rate p n) (c.keystream (state_after c s p n))
text_of_next c s p n =
    rw (first_blocks_next c.rate p n, encrypted-append c s (first_blocks c.rate p n) (block_at c.rate p n ∷ []))
    (ap (λ (v : List ℕ). text_of c s p n ++ v) (encrypted_one c (state_after c s p n) (block_at c.rate p n)))

pub length-text_of : (c : Family) (s : State) (p : List ℕ) (n : ℕ) → n * c.rate ≤ length p → length (text_of c s p n) ≡ n * c.rate
unfolding first_blocks encrypted
length-text_of c s p zero h = omega arith
length-text_of c s p (suc n) h =
    let r : ℕ = c.rate in
    let room : n * r + r ≤ length p = omega arith in
    let blk : List ℕ = block_at r p n in
    let lb : length blk ≡ r = length-take-le r (drop (n * r) p) (omega (arith, length-drop (n * r) p)) in
    let lx : length (xor_bytes blk (c.keystream (state_after c s p n))) ≡ r = length-on_bytes _ blk _ ∙ lb in
    let e : text_of c s p (n + 1) ≡ text_of c s p n ++ xor_bytes blk (c.keystream (state_after c s p n)) = text_of_next c s p n in
    let ih : length (text_of c s p n) ≡ n * r = length-text_of c s p n (omega arith) in
    let l : length (text_of c s p (n + 1)) ≡ n * r + r = rw (e, length-append (text_of c s p n) (xor_bytes blk (c.keystream (state_after c s p n))), ih, lx) refl in
    rw add-one at l ∙ omega arith

-- ---- the whole message

-- the cipher text: the whole blocks, and then what is left under the next keystream
cipher_text_whole : (c : Family) (s : State) (m : List ℕ) (n : ℕ) → 0 < c.rate → n ≡ length m / c.rate → length m % c.rate ≡ 0
    → cipher_text c s m ≡ text_of c s m n ++ xor_bytes (drop (n * c.rate) m) (c.keystream (state_after c s m n))
unfolding on_bytes
cipher_text_whole c s m n pos en whole =
    let r : ℕ = c.rate in
    let t : List ℕ = text_of c s m n in
    let count : n * r + length m % r ≡ length m = rw en (div-add-mod' (length m) r) in
    let lt : length t ≡ n * r = length-text_of c s m n (omega arith) in
    let none : drop (n * r) m ≡ [] = drop_all (n * r) m (omega arith) in
    let bs : blocks r m ≡ first_blocks r m n = blocks_whole r m pos whole ∙ ap (λ (j : ℕ). first_blocks r m j) (sym en) in
    ap (λ (v : List (List ℕ)). take (length m) (encrypted c s v)) bs ∙ take_all (length m) t (omega arith)
    ∙ sym (append-nil t) ∙ ap (λ (v : List ℕ). t ++ xor_bytes v (c.keystream (state_after c s m n))) (sym none)

cipher_text_short : (c : Family) (s : State) (m : List ℕ) (n : ℕ) → 0 < c.rate → n ≡ length m / c.rate → 0 < length m % c.rate
    → cipher_text c s m ≡ text_of c s m n ++ xor_bytes (drop (n * c.rate) m) (c.keystream (state_after c s m n))
cipher_text_short c s m n pos en short =
    let r : ℕ = c.rate in
    let k : ℕ = length m % r in
    let t : List ℕ = text_of c s m n in
    let tail : List ℕ = drop (n * r) m in
    let zeros : List ℕ = replicate (r - k) 0 in
    let ks : List ℕ = c.keystream (state_after c s m n) in
    let f : List (List ℕ) = first_blocks r m n in
    let count : n * r + k ≡ length m = rw en (div-add-mod' (length m) r) in
    let lt : length t ≡ n * r = length-text_of c s m n (omega arith) in
    let len : length m ≡ length t + length tail = omega (arith, length-drop (n * r) m) in
    let bs : blocks r m ≡ f ++ (tail ++ zeros) ∷ [] = blocks_short r m n en short (mod-lt (length m) pos) in
    let e : encrypted c s (f ++ (tail ++ zeros) ∷ []) ≡ t ++ xor_bytes (tail ++ zeros) ks =
    encrypted-append c s f ((tail ++ zeros) ∷ []) ∙ ap (λ (v : List ℕ). t ++ v) (encrypted_one c (state_after c s m n) (tail ++ zeros)) in
    ap (λ (v : List (List ℕ)). take (length m) (encrypted c s v)) bs ∙ ap (λ (v : List ℕ). take (length m) v) e
    ∙ ap (λ (j : ℕ). take j (t ++ xor_bytes (tail ++ zeros) ks)) len ∙ take-append-add t (xor_bytes (tail ++ zeros) ks) (length tail)
    ∙ ap (λ (v : List ℕ). t ++ v) (take-on_bytes bit_xor tail zeros ks)

pub cipher_text_is : (c : Family) (s : State) (m : List ℕ) (n : ℕ) → 0 < c.rate → n ≡ length m / c.rate
    → cipher_text c s m ≡ text_of c s m n ++ xor_bytes (drop (n * c.rate) m) (c.keystream (state_after c s m n))
cipher_text_is c s m n pos en = elim (cases_lt 0 (length m % c.rate)) [
  | inl short ↦ cipher_text_short c s m n pos en short
  | inr none ↦ cipher_text_whole c s m n pos en (omega arith)
]

pub absorbed_tail_none : (c : Family) (s : State) (t : List ℕ) → length t ≡ 0 → absorbed_tail c s t ≡ s
absorbed_tail_none c s [] h = refl
absorbed_tail_none c s (x ∷ xs) h = absurd (omega arith)

pub absorbed_tail_some : (c : Family) (s : State) (t : List ℕ) → 0 < length t → absorbed_tail c s t ≡ c.update s (t ++ replicate (c.rate - length t) 0)
absorbed_tail_some c s [] h = absurd (omega arith)
absorbed_tail_some c s (x ∷ xs) h = refl

absorbed_whole : (c : Family) (s : State) (m : List ℕ) (n : ℕ) → 0 < c.rate → n ≡ length m / c.rate → length m % c.rate ≡ 0
    → absorbed c s m ≡ absorbed_tail c (state_after c s m n) (drop (n * c.rate) m)
absorbed_whole c s m n pos en whole =
    let r : ℕ = c.rate in
    let count : n * r + length m % r ≡ length m = rw en (div-add-mod' (length m) r) in
    let bs : blocks r m ≡ first_blocks r m n = blocks_whole r m pos whole ∙ ap (λ (j : ℕ). first_blocks r m j) (sym en) in
    ap (λ (v : List (List ℕ)). fold c.update s v) bs ∙ sym (absorbed_tail_none c (state_after c s m n) (drop (n * r) m) (omega (arith, length-drop (n * r) m)))

absorbed_short : (c : Family) (s : State) (m : List ℕ) (n : ℕ) → 0 < c.rate → n ≡ length m / c.rate → 0 < length m % c.rate
    → absorbed c s m ≡ absorbed_tail c (state_after c s m n) (drop (n * c.rate) m)
absorbed_short c s m n pos en short =
    let r : ℕ = c.rate in
    let k : ℕ = length m % r in
    let tail : List ℕ = drop (n * r) m in
    let zeros : List ℕ = replicate (r - k) 0 in
    let f : List (List ℕ) = first_blocks r m n in
    let count : n * r + k ≡ length m = rw en (div-add-mod' (length m) r) in
    let lk : length tail ≡ k = omega (arith, length-drop (n * r) m) in
    let bs : blocks r m ≡ f ++ (tail ++ zeros) ∷ [] = blocks_short r m n en short (mod-lt (length m) pos) in
    ap (λ (v : List (List ℕ)). fold c.update s v) bs ∙ fold-append c.update s f ((tail ++ zeros) ∷ [])
    ∙ ap (λ (j : ℕ). c.update (state_after c s m n) (tail ++ replicate (r - j) 0)) (sym lk)
    ∙ sym (absorbed_tail_some c (state_after c s m n) tail (omega arith))

-- the state: the whole blocks, and then what is left
pub absorbed_is : (c : Family) (s : State) (m : List ℕ) (n : ℕ) → 0 < c.rate → n ≡ length m / c.rate
    → absorbed c s m ≡ absorbed_tail c (state_after c s m n) (drop (n * c.rate) m)
absorbed_is c s m n pos en = elim (cases_lt 0 (length m % c.rate)) [
  | inl short ↦ absorbed_short c s m n pos en short
  | inr none ↦ absorbed_whole c s m n pos en (omega arith)
]

-- ---- encryption in place: after n blocks the front is cipher text and the rest as it was

pub encrypting_none : (c : Family) (s : State) (m : List ℕ) → m ≡ text_of c s m 0 ++ drop (0 * c.rate) m
unfolding first_blocks encrypted
encrypting_none c s m = let z : 0 * c.rate ≡ 0 = omega arith in rw z refl

-- the block that is next in place is the message's
pub encrypting_block : (c : Family) (s : State) (m mc : List ℕ) (n : ℕ) → n * c.rate ≤ length m
    → mc ≡ text_of c s m n ++ drop (n * c.rate) m → drop (n * c.rate) mc ≡ drop (n * c.rate) m
encrypting_block c s m mc n fits held =
    ap (λ (v : List ℕ). drop (n * c.rate) v) held ∙ drop_at (text_of c s m n) (drop (n * c.rate) m) (n * c.rate) (length-text_of c s m n fits)

pub encrypting_front : (c : Family) (s : State) (m mc : List ℕ) (n : ℕ) → n * c.rate ≤ length m
    → mc ≡ text_of c s m n ++ drop (n * c.rate) m → take (n * c.rate) mc ≡ text_of c s m n
encrypting_front c s m mc n fits held =
    ap (λ (v : List ℕ). take (n * c.rate) v) held ∙ take_at (text_of c s m n) (drop (n * c.rate) m) (n * c.rate) (length-text_of c s m n fits)

pub encrypting_more : (c : Family) (s : State) (m mc ys : List ℕ) (n : ℕ) → n * c.rate + c.rate ≤ length m
    → mc ≡ text_of c s m n ++ drop (n * c.rate) m
    → ys ≡ xor_bytes (block_at c.rate mc n) (c.keystream (state_after c s m n))
    → put_mid (n * c.rate) c.rate mc ys ≡ text_of c s m (n + 1) ++ drop ((n + 1) * c.rate) m
encrypting_more c s m mc ys n fits held ey =
    let r : ℕ = c.rate in
    let t : List ℕ = text_of c s m n in
    let x : List ℕ = xor_bytes (block_at r m n) (c.keystream (state_after c s m n)) in
    let tk : take (n * r) mc ≡ t = encrypting_front c s m mc n (omega arith) held in
    let dk : drop (n * r) mc ≡ drop (n * r) m = encrypting_block c s m mc n (omega arith) held in
    let yx : ys ≡ x = ey ∙ ap (λ (v : List ℕ). xor_bytes (take r v) (c.keystream (state_after c s m n))) dk in
    let at : n * r + r ≡ (n + 1) * r = omega arith in
    let dd : drop r (drop (n * r) mc) ≡ drop ((n + 1) * r) m = ap (λ (v : List ℕ). drop r v) dk ∙ drop-drop r (n * r) m ∙ ap (λ (j : ℕ). drop j m) at in
    ap (λ (v : List ℕ). v ++ (ys ++ drop r (drop (n * r) mc))) tk ∙ ap (λ (v : List ℕ). t ++ (v ++ drop r (drop (n * r) mc))) yx ∙ ap (λ (v : List ℕ). t ++ (x ++ v)) dd
    ∙ sym (append_assoc t x (drop ((n + 1) * r) m)) ∙ ap (λ (v : List ℕ). v ++ drop ((n + 1) * r) m) (sym (text_of_next c s m n))
