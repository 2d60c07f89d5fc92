-- The steps and the ends of the loops over whole blocks.
use Rattle.std.proofs.Common.{◌≡◌, ℕ, ◌+◌, ◌-◌, ◌*◌, ◌/◌, ◌%◌, ◌<◌, ◌≤◌, List, [], ◌++◌, length, take, drop, replicate, refl, sym, ap, ◌∙◌, arith, length-append, length-drop, subst}
use Rattle.std.specs.Prelude.{fold}
use Rattle.std.proofs.lemmas.List.{take-append-drop, append_assoc, take_rest, take_at, drop_at, length-take-le, append-nil, drop_all, take-replicate, drop-drop}
use Rattle.std.proofs.Math.Seq.{take-append-add, take-add}
use Rattle.std.proofs.Math.Nat.{div-add-mod', mul-le-mul_right}
use borrow.Rule.Slice.PartMut.{put_mid}
use Rattle.aes_spec.specs.Bytes.{xor_bytes}
use Rattle.aegis_core.specs.Blocks.{block_at, first_blocks}
use Rattle.aegis_core.specs.Lanes.{State}
use Rattle.aegis_core.specs.Family.{Family, absorbed, encrypted, cipher_text}
use Rattle.aegis_core.specs.Tail.{absorbed_tail}
use Rattle.aegis_core.proofs.BytesLemmas.{length-on_bytes, xor_twice, first_blocks_same}
use Rattle.aegis_core.proofs.SealLemmas.{state_after, text_of, state_after_next, text_of_next, cipher_text_is, absorbed_is, absorbed_tail_some, encrypting_block, encrypting_front, encrypting_more}

pub pos_along : (n r : ℕ) → n ≡ r → 0 < n → 0 < r
pos_along n r e h = omega arith

pub most_along : (n r : ℕ) → n ≡ r → n ≤ 128 → r ≤ 128
most_along n r e h = omega arith

pub tail_fits : (t : List ℕ) (n r : ℕ) → n ≡ r → n ≤ 128 → length t < r → length t ≤ 128
tail_fits t n r e h k = omega arith

-- the front of a longer padding
pub pad_to : (t : List ℕ) (r n : ℕ) → length t ≤ r → r ≤ n → take r (t ++ replicate (n - length t) 0) ≡ t ++ replicate (r - length t) 0
pad_to t r n h k =
    let e : r ≡ length t + (r - length t) = omega arith in
    ap (λ (j : ℕ). take j (t ++ replicate (n - length t) 0)) e ∙ take-append-add t (replicate (n - length t) 0) (r - length t)
    ∙ ap (λ (v : List ℕ). t ++ v) (take-replicate (r - length t) (n - length t) 0 (omega arith))

pub absorb_short : (c : Family) (s u : State) (t b : List ℕ) (rate : ℕ) → rate ≡ c.rate → c.rate ≤ 128 → 0 < length t → length t ≤ c.rate
    → b ≡ t ++ replicate (128 - length t) 0 → u ≡ c.update s (take rate b) → u ≡ absorbed_tail c s t
absorb_short c s u t b rate er le pos fits eb eu =
    eu ∙ ap (λ (j : ℕ). c.update s (take j b)) er ∙ ap (λ (v : List ℕ). c.update s (take c.rate v)) eb
    ∙ ap (λ (v : List ℕ). c.update s v) (pad_to t c.rate 128 fits le) ∙ sym (absorbed_tail_some c s t pos)

pub absorb_step : (c d : Family) (s t u : State) (p : List ℕ) (n rate k : ℕ) → d ≡ c → rate ≡ c.rate → k ≡ rate → t ≡ state_after c s p n
    → u ≡ d.update t (take k (drop (n * rate) p)) → u ≡ state_after c s p (n + 1)
absorb_step c d s t u p n rate k ed er ek et eu =
    eu ∙ ap (λ (v : Family). v.update t (take k (drop (n * rate) p))) ed ∙ ap (λ (v : State). c.update v (take k (drop (n * rate) p))) et
    ∙ ap (λ (j : ℕ). c.update (state_after c s p n) (take j (drop (n * rate) p))) (ek ∙ er)
    ∙ ap (λ (j : ℕ). c.update (state_after c s p n) (take c.rate (drop (n * j) p))) er
    ∙ sym (state_after_next c s p n)

pub absorb_end : (c d : Family) (s t u : State) (p b : List ℕ) (n : ℕ) → 0 < c.rate → d ≡ c → n ≡ length p / c.rate → t ≡ state_after c s p n
    → b ≡ drop (n * c.rate) p → u ≡ absorbed_tail d t b → u ≡ absorbed c s p
absorb_end c d s t u p b n pos ed en et eb eu =
    eu ∙ ap (λ (v : Family). absorbed_tail v t b) ed ∙ ap (λ (v : State). absorbed_tail c v b) et
    ∙ ap (λ (v : List ℕ). absorbed_tail c (state_after c s p n) v) eb ∙ sym (absorbed_is c s p n pos en)

-- what is left of a slice from a place on
pub rest_at : (p : List ℕ) (n q rate r : ℕ) → q ≡ n → rate ≡ r → take (length p - q * rate) (drop (q * rate) p) ≡ drop (n * r) p
rest_at p n q rate r eq er =
    take_rest p (q * rate) ∙ ap (λ (j : ℕ). drop (j * rate) p) eq ∙ ap (λ (j : ℕ). drop (n * j) p) er

pub encrypt_step : (c d : Family) (s t : State) (m mc ys : List ℕ) (n rate k : ℕ) → d ≡ c → rate ≡ c.rate → k ≡ rate → n * rate + rate ≤ length m → t ≡ state_after c s m n
    → mc ≡ text_of c s m n ++ drop (n * c.rate) m → ys ≡ xor_bytes (take k (drop (n * rate) mc)) (d.keystream t)
    → put_mid (n * rate) k mc ys ≡ text_of c s m (n + 1) ++ drop ((n + 1) * c.rate) m
encrypt_step c d s t m mc ys n rate k ed er ek fits et em ey =
    let kr : k ≡ c.rate = ek ∙ er in
    let fits2 : n * c.rate + c.rate ≤ length m = let P : ℕ → Type 0 = λ j. n * j + j ≤ length m in subst P er fits in
    let ey2 : ys ≡ xor_bytes (block_at c.rate mc n) (c.keystream (state_after c s m n)) =
    ey ∙ ap (λ (v : Family). xor_bytes (take k (drop (n * rate) mc)) (v.keystream t)) ed
    ∙ ap (λ (v : State). xor_bytes (take k (drop (n * rate) mc)) (c.keystream v)) et
    ∙ ap (λ (j : ℕ). xor_bytes (take j (drop (n * rate) mc)) (c.keystream (state_after c s m n))) kr
    ∙ ap (λ (j : ℕ). xor_bytes (take c.rate (drop (n * j) mc)) (c.keystream (state_after c s m n))) er in
    ap (λ (j : ℕ). put_mid (n * rate) j mc ys) kr ∙ ap (λ (j : ℕ). put_mid (n * j) c.rate mc ys) er
    ∙ encrypting_more c s m mc ys n fits2 em ey2

-- the block that was encrypted is the message's
pub encrypt_block : (c : Family) (s : State) (m mc : List ℕ) (n rate k : ℕ) → rate ≡ c.rate → n * rate ≤ length m
    → mc ≡ text_of c s m n ++ drop (n * c.rate) m → take k (drop (n * rate) mc) ≡ take k (drop (n * rate) m)
encrypt_block c s m mc n rate k er fits em =
    let fits2 : n * c.rate ≤ length m = let P : ℕ → Type 0 = λ j. n * j ≤ length m in subst P er fits in
    ap (λ (j : ℕ). take k (drop (n * j) mc)) er ∙ ap (λ (v : List ℕ). take k v) (encrypting_block c s m mc n fits2 em) ∙ ap (λ (j : ℕ). take k (drop (n * j) m)) (sym er)

pub encrypt_end : (c d : Family) (s t : State) (m mc b ys : List ℕ) (n a k : ℕ) → 0 < c.rate → d ≡ c → n ≡ length m / c.rate → n * c.rate ≤ length m → t ≡ state_after c s m n
    → mc ≡ text_of c s m n ++ drop (n * c.rate) m → b ≡ drop (n * c.rate) mc → ys ≡ xor_bytes b (d.keystream t) → a ≡ n * c.rate → length mc ≤ a + k
    → put_mid a k mc ys ≡ cipher_text c s m
encrypt_end c d s t m mc b ys n a k pos ed en fits et em eb ey ea lk =
    let rest : drop k (drop a mc) ≡ [] = drop_all k (drop a mc) (omega (arith, length-drop a mc)) in
    let front : take a mc ≡ text_of c s m n = ap (λ (j : ℕ). take j mc) ea ∙ encrypting_front c s m mc n fits em in
    let back : b ≡ drop (n * c.rate) m = eb ∙ encrypting_block c s m mc n fits em in
    let ey2 : ys ≡ xor_bytes (drop (n * c.rate) m) (c.keystream (state_after c s m n)) =
    ey ∙ ap (λ (v : Family). xor_bytes b (v.keystream t)) ed ∙ ap (λ (v : State). xor_bytes b (c.keystream v)) et
    ∙ ap (λ (v : List ℕ). xor_bytes v (c.keystream (state_after c s m n))) back in
    ap (λ (v : List ℕ). take a mc ++ (ys ++ v)) rest ∙ ap (λ (v : List ℕ). take a mc ++ v) (append-nil ys) ∙ ap (λ (v : List ℕ). v ++ ys) front
    ∙ ap (λ (v : List ℕ). text_of c s m n ++ v) ey2 ∙ sym (cipher_text_is c s m n pos en)

-- ---- decryption: the front of what there was is the cipher text of the front of what there is

pub decrypting_more : (c : Family) (s t u : State) (old mc ys : List ℕ) (n : ℕ) → n * c.rate + c.rate ≤ length mc
    → t ≡ state_after c s mc n → take (n * c.rate) old ≡ text_of c s mc n → drop (n * c.rate) mc ≡ drop (n * c.rate) old
    → ys ≡ xor_bytes (block_at c.rate mc n) (c.keystream t) → u ≡ c.update t ys
    → (u ≡ state_after c s (put_mid (n * c.rate) c.rate mc ys) (n + 1))
    × (take ((n + 1) * c.rate) old ≡ text_of c s (put_mid (n * c.rate) c.rate mc ys) (n + 1))
    × (drop ((n + 1) * c.rate) (put_mid (n * c.rate) c.rate mc ys) ≡ drop ((n + 1) * c.rate) old)
decrypting_more c s t u old mc ys n fits et text rest ey eu =
    let r : ℕ = c.rate in
    let head : List ℕ = take (n * r) mc in
    let x : List ℕ = drop r (drop (n * r) mc) in
    let m2 : List ℕ = put_mid (n * r) r mc ys in
    let b : List ℕ = block_at r mc n in
    let lb : length b ≡ r = length-take-le r (drop (n * r) mc) (omega (arith, length-drop (n * r) mc)) in
    let ly : length ys ≡ r = ap length ey ∙ length-on_bytes _ b (c.keystream t) ∙ lb in
    let lh : length head ≡ n * r = length-take-le (n * r) mc (omega arith) in
    let front : take (n * r) m2 ≡ head = take_at head (ys ++ x) (n * r) lh in
    let back : drop (n * r) m2 ≡ ys ++ x = drop_at head (ys ++ x) (n * r) lh in
    let fs : first_blocks r m2 n ≡ first_blocks r mc n = first_blocks_same r m2 mc n (omega (arith, length-append head (ys ++ x))) (omega arith) front in
    let blk : block_at r m2 n ≡ ys = ap (λ (v : List ℕ). take r v) back ∙ take_at ys x r ly in
    let st : state_after c s m2 n ≡ t = ap (λ (v : List (List ℕ)). fold c.update s v) fs ∙ sym et in
    let txt : text_of c s m2 n ≡ take (n * r) old = ap (λ (v : List (List ℕ)). encrypted c s v) fs ∙ sym text in
    let twice : xor_bytes ys (c.keystream t) ≡ b = ap (λ (v : List ℕ). xor_bytes v (c.keystream t)) ey ∙ xor_twice b (c.keystream t) in
    let e : n * r + r ≡ (n + 1) * r = omega arith in
    let one = eu ∙ sym (state_after_next c s m2 n ∙ ap (λ (v : State). c.update v (block_at r m2 n)) st ∙ ap (λ (v : List ℕ). c.update t v) blk) in
    let two = ap (λ (j : ℕ). take j old) (sym e) ∙ take-add (n * r) r old ∙ sym (text_of_next c s m2 n
    ∙ ap (λ (v : State). text_of c s m2 n ++ xor_bytes (block_at r m2 n) (c.keystream v)) st
    ∙ ap (λ (v : List ℕ). text_of c s m2 n ++ xor_bytes v (c.keystream t)) blk
    ∙ ap (λ (v : List ℕ). text_of c s m2 n ++ v) twice
    ∙ ap (λ (v : List ℕ). v ++ b) txt
    ∙ ap (λ (v : List ℕ). take (n * r) old ++ take r v) rest) in
    let three = ap (λ (j : ℕ). drop j m2) (sym e) ∙ sym (drop-drop r (n * r) m2) ∙ ap (λ (v : List ℕ). drop r v) back ∙ drop_at ys x r ly
    ∙ ap (λ (v : List ℕ). drop r v) rest ∙ drop-drop r (n * r) old ∙ ap (λ (j : ℕ). drop j old) e in
    (one, two, three)

pub decrypt_step : (c d : Family) (s t u : State) (old mc ys : List ℕ) (n rate k : ℕ) → d ≡ c → rate ≡ c.rate → k ≡ rate → n * rate + rate ≤ length mc
    → t ≡ state_after c s mc n → take (n * c.rate) old ≡ text_of c s mc n → drop (n * c.rate) mc ≡ drop (n * c.rate) old
    → ys ≡ xor_bytes (take k (drop (n * rate) mc)) (d.keystream t) → u ≡ d.update t ys
    → (u ≡ state_after c s (put_mid (n * rate) k mc ys) (n + 1))
    × (take ((n + 1) * c.rate) old ≡ text_of c s (put_mid (n * rate) k mc ys) (n + 1))
    × (drop ((n + 1) * c.rate) (put_mid (n * rate) k mc ys) ≡ drop ((n + 1) * c.rate) old)
decrypt_step c d s t u old mc ys n rate k ed er ek fits et text rest ey eu =
    let kr : k ≡ c.rate = ek ∙ er in
    let fits2 : n * c.rate + c.rate ≤ length mc = let P : ℕ → Type 0 = λ j. n * j + j ≤ length mc in subst P er fits in
    let ey2 : ys ≡ xor_bytes (block_at c.rate mc n) (c.keystream t) =
    ey ∙ ap (λ (v : Family). xor_bytes (take k (drop (n * rate) mc)) (v.keystream t)) ed
    ∙ ap (λ (j : ℕ). xor_bytes (take j (drop (n * rate) mc)) (c.keystream t)) kr
    ∙ ap (λ (j : ℕ). xor_bytes (take c.rate (drop (n * j) mc)) (c.keystream t)) er in
    let same : put_mid (n * c.rate) c.rate mc ys ≡ put_mid (n * rate) k mc ys =
    ap (λ (j : ℕ). put_mid (n * j) c.rate mc ys) (sym er) ∙ ap (λ (j : ℕ). put_mid (n * rate) j mc ys) (sym kr) in
    let P : List ℕ → Type 0 = λ v. (u ≡ state_after c s v (n + 1)) × (take ((n + 1) * c.rate) old ≡ text_of c s v (n + 1)) × (drop ((n + 1) * c.rate) v ≡ drop ((n + 1) * c.rate) old) in
    subst P same (decrypting_more c s t u old mc ys n fits2 et text rest ey2 (eu ∙ ap (λ (v : Family). v.update t ys) ed))

pub decrypt_end : (c d : Family) (s t u : State) (old mc b ys : List ℕ) (n a k : ℕ) → 0 < c.rate → d ≡ c → n ≡ length mc / c.rate → n * c.rate ≤ length mc
    → t ≡ state_after c s mc n → take (n * c.rate) old ≡ text_of c s mc n → drop (n * c.rate) mc ≡ drop (n * c.rate) old
    → b ≡ drop (n * c.rate) mc → ys ≡ xor_bytes b (d.keystream t) → u ≡ absorbed_tail d t ys → a ≡ n * c.rate → length mc ≤ a + k
    → (old ≡ cipher_text c s (put_mid a k mc ys)) × (u ≡ absorbed c s (put_mid a k mc ys))
decrypt_end c d s t u old mc b ys n a k pos ed en fits et text rest eb ey eu ea lk =
    let r : ℕ = c.rate in
    let head : List ℕ = take (n * r) mc in
    let m2 : List ℕ = head ++ ys in
    let gone : drop k (drop a mc) ≡ [] = drop_all k (drop a mc) (omega (arith, length-drop a mc)) in
    let same : m2 ≡ put_mid a k mc ys =
    sym (ap (λ (v : List ℕ). take a mc ++ (ys ++ v)) gone ∙ ap (λ (v : List ℕ). take a mc ++ v) (append-nil ys) ∙ ap (λ (j : ℕ). take j mc ++ ys) ea) in
    let lh : length head ≡ n * r = length-take-le (n * r) mc fits in
    let lb : length b ≡ length mc - n * r = ap length eb ∙ length-drop (n * r) mc in
    let ly : length ys ≡ length b = ap length ey ∙ length-on_bytes _ b (d.keystream t) in
    let l2 : length m2 ≡ length mc = omega (arith, length-append head ys) in
    let en2 : n ≡ length m2 / r = en ∙ ap (λ (j : ℕ). j / r) (sym l2) in
    let front : take (n * r) m2 ≡ head = take_at head ys (n * r) lh in
    let back : drop (n * r) m2 ≡ ys = drop_at head ys (n * r) lh in
    let fs : first_blocks r m2 n ≡ first_blocks r mc n = first_blocks_same r m2 mc n (omega arith) fits front in
    let st : state_after c s m2 n ≡ t = ap (λ (v : List (List ℕ)). fold c.update s v) fs ∙ sym et in
    let txt : text_of c s m2 n ≡ take (n * r) old = ap (λ (v : List (List ℕ)). encrypted c s v) fs ∙ sym text in
    let ey2 : ys ≡ xor_bytes b (c.keystream t) = ey ∙ ap (λ (v : Family). xor_bytes b (v.keystream t)) ed in
    let twice : xor_bytes ys (c.keystream t) ≡ b = ap (λ (v : List ℕ). xor_bytes v (c.keystream t)) ey2 ∙ xor_twice b (c.keystream t) in
    let whole : cipher_text c s m2 ≡ old =
    cipher_text_is c s m2 n pos en2 ∙ ap (λ (v : State). text_of c s m2 n ++ xor_bytes (drop (n * r) m2) (c.keystream v)) st
    ∙ ap (λ (v : List ℕ). text_of c s m2 n ++ xor_bytes v (c.keystream t)) back ∙ ap (λ (v : List ℕ). text_of c s m2 n ++ v) twice
    ∙ ap (λ (v : List ℕ). v ++ b) txt ∙ ap (λ (v : List ℕ). take (n * r) old ++ v) (eb ∙ rest) ∙ take-append-drop (n * r) old in
    let last : u ≡ absorbed c s m2 =
    eu ∙ ap (λ (v : Family). absorbed_tail v t ys) ed ∙ ap (λ (v : State). absorbed_tail c v ys) (sym st) ∙ ap (λ (v : List ℕ). absorbed_tail c (state_after c s m2 n) v) (sym back)
    ∙ sym (absorbed_is c s m2 n pos en2) in
    let P : List ℕ → Type 0 = λ v. (old ≡ cipher_text c s v) × (u ≡ absorbed c s v) in
    subst P same (sym whole, last)

-- ---- from one place into another

-- the front grows by what is put behind it
grown : (out ys : List ℕ) (n r : ℕ) → n * r + r ≤ length out → length ys ≡ r
    → take ((n + 1) * r) (put_mid (n * r) r out ys) ≡ take (n * r) out ++ ys
grown out ys n r fits ly =
    let head : List ℕ = take (n * r) out in
    let x : List ℕ = drop r (drop (n * r) out) in
    let lh : length head ≡ n * r = length-take-le (n * r) out (omega arith) in
    let e : (n + 1) * r ≡ length head + r = omega arith in
    ap (λ (j : ℕ). take j (head ++ (ys ++ x))) e ∙ take-append-add head (ys ++ x) r ∙ ap (λ (v : List ℕ). head ++ v) (take_at ys x r ly)

pub encrypt_into_step : (c d : Family) (s t : State) (m out ys : List ℕ) (n rate k : ℕ) → d ≡ c → rate ≡ c.rate → k ≡ rate → n * rate + rate ≤ length m → length out ≡ length m
    → t ≡ state_after c s m n → take (n * c.rate) out ≡ text_of c s m n → ys ≡ xor_bytes (take k (drop (n * rate) m)) (d.keystream t)
    → take ((n + 1) * c.rate) (put_mid (n * rate) k out ys) ≡ text_of c s m (n + 1)
encrypt_into_step c d s t m out ys n rate k ed er ek fits lo et text ey =
    let kr : k ≡ c.rate = ek ∙ er in
    let fits2 : n * c.rate + c.rate ≤ length m = let P : ℕ → Type 0 = λ j. n * j + j ≤ length m in subst P er fits in
    let b : List ℕ = block_at c.rate m n in
    let lb : length b ≡ c.rate = length-take-le c.rate (drop (n * c.rate) m) (omega (arith, length-drop (n * c.rate) m)) in
    let ey2 : ys ≡ xor_bytes b (c.keystream (state_after c s m n)) =
    ey ∙ ap (λ (v : Family). xor_bytes (take k (drop (n * rate) m)) (v.keystream t)) ed
    ∙ ap (λ (v : State). xor_bytes (take k (drop (n * rate) m)) (c.keystream v)) et
    ∙ ap (λ (j : ℕ). xor_bytes (take j (drop (n * rate) m)) (c.keystream (state_after c s m n))) kr
    ∙ ap (λ (j : ℕ). xor_bytes (take c.rate (drop (n * j) m)) (c.keystream (state_after c s m n))) er in
    let ly : length ys ≡ c.rate = ap length ey2 ∙ length-on_bytes _ b _ ∙ lb in
    ap (λ (j : ℕ). take ((n + 1) * c.rate) (put_mid (n * rate) j out ys)) kr ∙ ap (λ (j : ℕ). take ((n + 1) * c.rate) (put_mid (n * j) c.rate out ys)) er
    ∙ grown out ys n c.rate (omega arith) ly ∙ ap (λ (v : List ℕ). v ++ ys) text ∙ ap (λ (v : List ℕ). text_of c s m n ++ v) ey2 ∙ sym (text_of_next c s m n)

pub encrypt_into_end : (c d : Family) (s t : State) (m out b ys : List ℕ) (n a k : ℕ) → 0 < c.rate → d ≡ c → n ≡ length m / c.rate → t ≡ state_after c s m n
    → take (n * c.rate) out ≡ text_of c s m n → b ≡ drop (n * c.rate) m → ys ≡ xor_bytes b (d.keystream t) → a ≡ n * c.rate → length out ≤ a + k
    → put_mid a k out ys ≡ cipher_text c s m
encrypt_into_end c d s t m out b ys n a k pos ed en et text eb ey ea lk =
    let rest : drop k (drop a out) ≡ [] = drop_all k (drop a out) (omega (arith, length-drop a out)) in
    let front : take a out ≡ text_of c s m n = ap (λ (j : ℕ). take j out) ea ∙ text in
    let ey2 : ys ≡ xor_bytes (drop (n * c.rate) m) (c.keystream (state_after c s m n)) =
    ey ∙ ap (λ (v : Family). xor_bytes b (v.keystream t)) ed ∙ ap (λ (v : State). xor_bytes b (c.keystream v)) et
    ∙ ap (λ (v : List ℕ). xor_bytes v (c.keystream (state_after c s m n))) eb in
    ap (λ (v : List ℕ). take a out ++ (ys ++ v)) rest ∙ ap (λ (v : List ℕ). take a out ++ v) (append-nil ys) ∙ ap (λ (v : List ℕ). v ++ ys) front
    ∙ ap (λ (v : List ℕ). text_of c s m n ++ v) ey2 ∙ sym (cipher_text_is c s m n pos en)

-- what stands in the place written to, and behind it what is still to be read
abbrev pub half_way : List ℕ → List ℕ → ℕ → List ℕ
half_way from to a = take a to ++ drop a from

half_way_long : (from to : List ℕ) (a : ℕ) → a ≤ length from → length to ≡ length from → length (half_way from to a) ≡ length from
half_way_long from to a fits l =
    length-append (take a to) (drop a from) ∙ omega (arith, length-take-le a to (omega arith), length-drop a from)

pub half_way_front : (from to : List ℕ) (a : ℕ) → a ≤ length to → take a (half_way from to a) ≡ take a to
half_way_front from to a fits = take_at (take a to) (drop a from) a (length-take-le a to fits)

pub half_way_back : (from to : List ℕ) (a : ℕ) → a ≤ length to → drop a (half_way from to a) ≡ drop a from
half_way_back from to a fits = drop_at (take a to) (drop a from) a (length-take-le a to fits)

-- the same bytes as if one place were written and read
pub half_way_put : (from to ys : List ℕ) (a r : ℕ) → a + r ≤ length from → length to ≡ length from → length ys ≡ r
    → put_mid a r (half_way from to a) ys ≡ half_way from (put_mid a r to ys) (a + r)
half_way_put from to ys a r fits l ly =
    let v : List ℕ = half_way from to a in
    let head : List ℕ = take a to in
    let x : List ℕ = drop r (drop a to) in
    let lh : length head ≡ a = length-take-le a to (omega arith) in
    let front : take a v ≡ head = half_way_front from to a (omega arith) in
    let back : drop r (drop a v) ≡ drop (a + r) from = ap (λ (u : List ℕ). drop r u) (half_way_back from to a (omega arith)) ∙ drop-drop r a from in
    let put : take (a + r) (head ++ (ys ++ x)) ≡ head ++ ys =
    ap (λ (j : ℕ). take (j + r) (head ++ (ys ++ x))) (sym lh) ∙ take-append-add head (ys ++ x) r ∙ ap (λ (u : List ℕ). head ++ u) (take_at ys x r ly) in
    ap (λ (u : List ℕ). u ++ (ys ++ drop r (drop a v))) front ∙ ap (λ (u : List ℕ). head ++ (ys ++ u)) back ∙ sym (append_assoc head ys (drop (a + r) from))
    ∙ ap (λ (u : List ℕ). u ++ drop (a + r) from) (sym put)

pub decrypt_into_step : (c d : Family) (s t u : State) (from to ys : List ℕ) (n rate k : ℕ) → d ≡ c → rate ≡ c.rate → k ≡ rate → n * rate + rate ≤ length from → length to ≡ length from
    → t ≡ state_after c s (half_way from to (n * c.rate)) n → take (n * c.rate) from ≡ text_of c s (half_way from to (n * c.rate)) n
    → ys ≡ xor_bytes (take k (drop (n * rate) from)) (d.keystream t) → u ≡ d.update t ys
    → (u ≡ state_after c s (half_way from (put_mid (n * rate) k to ys) ((n + 1) * c.rate)) (n + 1))
    × (take ((n + 1) * c.rate) from ≡ text_of c s (half_way from (put_mid (n * rate) k to ys) ((n + 1) * c.rate)) (n + 1))
decrypt_into_step c d s t u from to ys n rate k ed er ek fits l et text ey eu =
    let r : ℕ = c.rate in
    let kr : k ≡ r = ek ∙ er in
    let fits2 : n * r + r ≤ length from = let P : ℕ → Type 0 = λ j. n * j + j ≤ length from in subst P er fits in
    let v : List ℕ = half_way from to (n * r) in
    let lv : length v ≡ length from = half_way_long from to (n * r) (omega arith) l in
    let back : drop (n * r) v ≡ drop (n * r) from = half_way_back from to (n * r) (omega arith) in
    let b : List ℕ = take k (drop (n * rate) from) in
    let lb : length b ≡ r = ap (λ (j : ℕ). length (take j (drop (n * rate) from))) kr ∙ ap (λ (j : ℕ). length (take r (drop (n * j) from))) er
    ∙ length-take-le r (drop (n * r) from) (omega (arith, length-drop (n * r) from)) in
    let ly : length ys ≡ r = ap length ey ∙ length-on_bytes _ b _ ∙ lb in
    let read : b ≡ take k (drop (n * rate) v) = ap (λ (j : ℕ). take k (drop (n * j) from)) er ∙ ap (λ (w : List ℕ). take k w) (sym back) ∙ ap (λ (j : ℕ). take k (drop (n * j) v)) (sym er) in
    let next = decrypt_step c d s t u from v ys n rate k ed er ek (omega arith) et text back (ey ∙ ap (λ (w : List ℕ). xor_bytes w (d.keystream t)) read) eu in
    let e : n * r + r ≡ (n + 1) * r = omega arith in
    let same : put_mid (n * rate) k v ys ≡ half_way from (put_mid (n * rate) k to ys) ((n + 1) * r) =
    ap (λ (j : ℕ). put_mid (n * rate) j v ys) kr ∙ ap (λ (j : ℕ). put_mid (n * j) r v ys) er ∙ half_way_put from to ys (n * r) r fits2 l ly
    ∙ ap (λ (j : ℕ). half_way from (put_mid (n * j) r to ys) (n * r + r)) (sym er) ∙ ap (λ (j : ℕ). half_way from (put_mid (n * rate) j to ys) (n * r + r)) (sym kr)
    ∙ ap (λ (j : ℕ). half_way from (put_mid (n * rate) k to ys) j) e in
    let P : List ℕ → Type 0 = λ w. (u ≡ state_after c s w (n + 1)) × (take ((n + 1) * r) from ≡ text_of c s w (n + 1)) in
    subst P same (next.0, next.1)

pub decrypt_into_end : (c d : Family) (s t u : State) (from to b ys : List ℕ) (n a k : ℕ) → 0 < c.rate → d ≡ c → n ≡ length from / c.rate → n * c.rate ≤ length from → length to ≡ length from
    → t ≡ state_after c s (half_way from to (n * c.rate)) n → take (n * c.rate) from ≡ text_of c s (half_way from to (n * c.rate)) n
    → b ≡ drop (n * c.rate) from → ys ≡ xor_bytes b (d.keystream t) → u ≡ absorbed_tail d t ys → a ≡ n * c.rate → length to ≤ a + k
    → (from ≡ cipher_text c s (put_mid a k to ys)) × (u ≡ absorbed c s (put_mid a k to ys))
decrypt_into_end c d s t u from to b ys n a k pos ed en fits l et text eb ey eu ea lk =
    let r : ℕ = c.rate in
    let v : List ℕ = half_way from to (n * r) in
    let lv : length v ≡ length from = half_way_long from to (n * r) fits l in
    let front : take (n * r) v ≡ take (n * r) to = half_way_front from to (n * r) (omega arith) in
    let back : drop (n * r) v ≡ drop (n * r) from = half_way_back from to (n * r) (omega arith) in
    let end = decrypt_end c d s t u from v b ys n a k pos ed (en ∙ ap (λ (j : ℕ). j / r) (sym lv)) (omega arith) et text back (eb ∙ sym back) ey eu ea (omega arith) in
    let gone : drop k (drop a v) ≡ [] = drop_all k (drop a v) (omega (arith, length-drop a v)) in
    let gone2 : drop k (drop a to) ≡ [] = drop_all k (drop a to) (omega (arith, length-drop a to)) in
    let same : put_mid a k v ys ≡ put_mid a k to ys =
    ap (λ (w : List ℕ). take a v ++ (ys ++ w)) gone ∙ ap (λ (j : ℕ). take j v ++ (ys ++ [])) ea ∙ ap (λ (w : List ℕ). w ++ (ys ++ [])) front
    ∙ ap (λ (j : ℕ). take j to ++ (ys ++ [])) (sym ea) ∙ ap (λ (w : List ℕ). take a to ++ (ys ++ w)) (sym gone2) in
    let P : List ℕ → Type 0 = λ w. (from ≡ cipher_text c s w) × (u ≡ absorbed c s w) in
    subst P same end

-- ---- sizes

pub block_fits : (i n r : ℕ) → i < n / r → i * r + r ≤ n
block_fits i n r h =
    let whole : n / r * r + n % r ≡ n = div-add-mod' n r in
    let more : (i + 1) * r ≤ n / r * r = mul-le-mul_right r (omega arith) in
    omega arith

pub whole_fits : (n p r : ℕ) → n ≡ p / r → n * r ≤ p
whole_fits n p r e =
    let whole : p / r * r + p % r ≡ p = div-add-mod' p r in
    let same : n * r ≡ p / r * r = ap (λ (j : ℕ). j * r) e in
    omega arith

pub le_split : (x a : ℕ) → x ≤ a + (x - a)
le_split x a = omega arith

pub back_to : (a k : ℕ) → a + k - a ≡ k
back_to a k = omega arith

pub xor_front : (xs b ys zs : List ℕ) (n : ℕ) → b ≡ xor_bytes xs (take n (ys ++ zs)) → length ys ≡ n → b ≡ xor_bytes xs ys
xor_front xs b ys zs n e h = e ∙ ap (λ (v : List ℕ). xor_bytes xs v) (take_at ys zs n h)

pub decrypting_none : (c : Family) (s : State) (old m : List ℕ) → take (0 * c.rate) old ≡ text_of c s m 0
unfolding first_blocks encrypted
decrypting_none c s old m = let z : 0 * c.rate ≡ 0 = omega arith in rw z refl
