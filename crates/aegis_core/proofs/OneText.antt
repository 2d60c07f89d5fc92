-- The cipher text determines the message.
use Rattle.std.proofs.Common.{◌≡◌, ℕ, zero, suc, ◌+◌, ◌*◌, ◌/◌, ◌<◌, ◌≤◌, List, [], ◌++◌, length, take, drop, refl, sym, ap, ◌∙◌, arith, length-append, length-drop, add-one, subst}
use Rattle.std.specs.Prelude.{fold, replicate, ◌⊎◌}
use Rattle.std.proofs.Common.{inl, inr}
use Rattle.std.proofs.lemmas.List.{take-append-drop, take_at, drop_at, length-take-le}
use Rattle.std.proofs.Math.Seq.{take-add}
use Rattle.aes_spec.specs.Bytes.{xor_bytes}
use Rattle.aegis_core.specs.Blocks.{block_at, first_blocks}
use Rattle.aegis_core.specs.Lanes.{State}
use Rattle.aegis_core.specs.Family.{Family, absorbed, cipher_text, keyed, sealed_by}
use Rattle.aegis_core.proofs.BytesLemmas.{length-on_bytes, xor_cancel, first_blocks_same}
use Rattle.aegis_core.proofs.SealLemmas.{state_after, text_of, text_of_next, length-text_of, cipher_text_is}
use Rattle.aegis_core.proofs.LoopLemmas.{whole_fits}

append_split : (a b x y : List ℕ) → length a ≡ length b → a ++ x ≡ b ++ y → (a ≡ b) × (x ≡ y)
append_split a b x y l e = (
  sym (take_at a x (length b) l) ∙ ap (λ (v : List ℕ). take (length b) v) e ∙ take_at b y (length b) refl,
  sym (drop_at a x (length b) l) ∙ ap (λ (v : List ℕ). drop (length b) v) e ∙ drop_at b y (length b) refl,
)

-- equal cipher texts of blocks are those of equal blocks
one_front : (c : Family) (s : State) (m q : List ℕ) (n : ℕ) → n * c.rate ≤ length m → n * c.rate ≤ length q
    → text_of c s m n ≡ text_of c s q n → take (n * c.rate) m ≡ take (n * c.rate) q
one_front c s m q zero hm hq e = let z : 0 * c.rate ≡ 0 = omega arith in rw z refl
one_front c s m q (suc n) hm hq e =
    let r : ℕ = c.rate in
    let lm : length (text_of c s m n) ≡ n * r = length-text_of c s m n (omega arith) in
    let lq : length (text_of c s q n) ≡ n * r = length-text_of c s q n (omega arith) in
    let grown : text_of c s m (n + 1) ≡ text_of c s q (n + 1) = rw add-one e in
    let split = append_split (text_of c s m n) (text_of c s q n) _ _ (lm ∙ sym lq) (sym (text_of_next c s m n) ∙ grown ∙ text_of_next c s q n) in
    let front : take (n * r) m ≡ take (n * r) q = one_front c s m q n (omega arith) (omega arith) split.0 in
    let fs : first_blocks r m n ≡ first_blocks r q n = first_blocks_same r m q n (omega arith) (omega arith) front in
    let st : state_after c s m n ≡ state_after c s q n = ap (λ (v : List (List ℕ)). fold c.update s v) fs in
    let blk : block_at r m n ≡ block_at r q n =
    xor_cancel (block_at r m n) (block_at r q n) (c.keystream (state_after c s q n)) (ap (λ (v : State). xor_bytes (block_at r m n) (c.keystream v)) (sym st) ∙ split.1) in
    let more : suc n * r ≡ n * r + r = omega arith in
    ap (λ (j : ℕ). take j m) more ∙ take-add (n * r) r m ∙ ap (λ (v : List ℕ). v ++ block_at r m n) front ∙ ap (λ (v : List ℕ). take (n * r) q ++ v) blk
    ∙ sym (take-add (n * r) r q) ∙ ap (λ (j : ℕ). take j q) (sym more)

pub length-cipher_text : (c : Family) (s : State) (m : List ℕ) → 0 < c.rate → length (cipher_text c s m) ≡ length m
length-cipher_text c s m pos =
    let n : ℕ = length m / c.rate in
    let ks : List ℕ = c.keystream (state_after c s m n) in
    let tail : List ℕ = drop (n * c.rate) m in
    let fits : n * c.rate ≤ length m = whole_fits n (length m) c.rate refl in
    let e : cipher_text c s m ≡ text_of c s m n ++ xor_bytes tail ks = cipher_text_is c s m n pos refl in
    let lt : length (text_of c s m n) ≡ n * c.rate = length-text_of c s m n fits in
    let lx : length (xor_bytes tail ks) ≡ length tail = length-on_bytes _ tail ks in
    ap length e ∙ length-append (text_of c s m n) (xor_bytes tail ks) ∙ omega (arith, length-drop (n * c.rate) m)

-- the cipher text determines the message
pub one_text : (c : Family) (s : State) (m q : List ℕ) → 0 < c.rate → cipher_text c s m ≡ cipher_text c s q → m ≡ q
one_text c s m q pos e =
    let r : ℕ = c.rate in
    let n : ℕ = length m / r in
    let long : length m ≡ length q = sym (length-cipher_text c s m pos) ∙ ap length e ∙ length-cipher_text c s q pos in
    let fm : n * r ≤ length m = whole_fits n (length m) r refl in
    let fq : n * r ≤ length q = omega arith in
    let nq : n ≡ length q / r = ap (λ (j : ℕ). j / r) long in
    let lm : length (text_of c s m n) ≡ n * r = length-text_of c s m n fm in
    let lq : length (text_of c s q n) ≡ n * r = length-text_of c s q n fq in
    let split = append_split (text_of c s m n) (text_of c s q n) _ _ (lm ∙ sym lq) (sym (cipher_text_is c s m n pos refl) ∙ e ∙ cipher_text_is c s q n pos nq) in
    let front : take (n * r) m ≡ take (n * r) q = one_front c s m q n fm fq split.0 in
    let fs : first_blocks r m n ≡ first_blocks r q n = first_blocks_same r m q n fm fq front in
    let st : state_after c s m n ≡ state_after c s q n = ap (λ (v : List (List ℕ)). fold c.update s v) fs in
    let tail : drop (n * r) m ≡ drop (n * r) q =
    xor_cancel (drop (n * r) m) (drop (n * r) q) (c.keystream (state_after c s q n)) (ap (λ (v : State). xor_bytes (drop (n * r) m) (c.keystream v)) (sym st) ∙ split.1) in
    sym (take-append-drop (n * r) m) ∙ ap (λ (v : List ℕ). v ++ drop (n * r) m) front ∙ ap (λ (v : List ℕ). take (n * r) q ++ v) tail ∙ take-append-drop (n * r) q

-- ---- unsealing

-- the code's values are those of seal
pub seal_is : (c : Family) (t : ℕ) (key nonce ad m text tag : List ℕ) (s0 s1 s2 : State) → s0 ≡ c.initial key nonce → s1 ≡ absorbed c s0 ad
    → text ≡ cipher_text c s1 m → s2 ≡ absorbed c s1 m → tag ≡ c.finalise t (8 * length ad) (8 * length m) s2 → sealed_by c t key nonce ad m ≡ (text, tag)
seal_is c t key nonce ad m text tag s0 s1 s2 e0 e1 ex e2 eg =
    let k1 : s1 ≡ keyed c key nonce ad = e1 ∙ ap (λ (v : State). absorbed c v ad) e0 in
    let x : text ≡ cipher_text c (keyed c key nonce ad) m = ex ∙ ap (λ (v : State). cipher_text c v m) k1 in
    let k2 : s2 ≡ absorbed c (keyed c key nonce ad) m = e2 ∙ ap (λ (v : State). absorbed c v m) k1 in
    let g : tag ≡ c.finalise t (8 * length ad) (8 * length m) (absorbed c (keyed c key nonce ad) m) = eg ∙ ap (λ (v : State). c.finalise t (8 * length ad) (8 * length m) v) k2 in
    rw (x, g) refl

-- where the only message that fits the cipher text has another tag, none fits both
pub no_other : (c : Family) (t : ℕ) (key nonce ad m text tag other : List ℕ) → 0 < c.rate → sealed_by c t key nonce ad m ≡ (text, tag)
    → (tag ≡ other → ⊥) → (q : List ℕ) → (sealed_by c t key nonce ad q ≡ (text, other)) → ⊥
no_other c t key nonce ad m text tag other pos e differ q f =
    let same : m ≡ q = one_text c (keyed c key nonce ad) m q pos (ap (λ (p : List ℕ × List ℕ). p.0) e ∙ sym (ap (λ (p : List ℕ × List ℕ). p.0) f)) in
    differ (sym (ap (λ (p : List ℕ × List ℕ). p.1) e) ∙ ap (λ (v : List ℕ). (sealed_by c t key nonce ad v).1) same ∙ ap (λ (p : List ℕ × List ℕ). p.1) f)

-- the same, with the families of the states on the way
pub seal_code : (c d e : Family) (t j : ℕ) (key nonce ad m text tag : List ℕ) (s0 s1 s2 : State) → d ≡ c → e ≡ d → s1 ≡ absorbed c s0 ad
    → text ≡ cipher_text d s1 m → s2 ≡ absorbed d s1 m → j ≡ length m → tag ≡ e.finalise t (8 * length ad) (8 * j) s2
    → s0 ≡ c.initial key nonce → sealed_by c t key nonce ad m ≡ (text, tag)
seal_code c d e t j key nonce ad m text tag s0 s1 s2 f1 f2 e1 ex e2 ej eg e0 =
    seal_is c t key nonce ad m text tag s0 s1 s2 e0 e1 (ex ∙ ap (λ (v : Family). cipher_text v s1 m) f1)
    (e2 ∙ ap (λ (v : Family). absorbed v s1 m) f1)
    (eg ∙ ap (λ (v : ℕ). e.finalise t (8 * length ad) (8 * v) s2) ej ∙ ap (λ (v : Family). v.finalise t (8 * length ad) (8 * length m) s2) (f2 ∙ f1))

pub pos_same : (c d : Family) → d ≡ c → 0 < d.rate → 0 < c.rate
pos_same c d e h = let P : Family → Type 0 = λ v. 0 < v.rate in subst P e h

pub tag_room : (t : List ℕ) → ((length t ≡ 16) ⊎ (length t ≡ 32)) → length t ≤ 32
tag_room t h = elim h as (λ _. length t ≤ 32) [ inl a ↦ omega arith | inr b ↦ omega arith ]

pub tag_part : (t : List ℕ) → ((length t ≡ 16) ⊎ (length t ≡ 32)) → length (take (length t) (replicate {A = ℕ} 32 0)) ≡ length t
tag_part t h = let room = tag_room t h in length-take-le (length t) (replicate {A = ℕ} 32 0) room

-- the keystream does not depend on the tag's length
pub stream_tag : (c : Family) (key nonce : List ℕ) (n : ℕ) → (sealed_by c 16 key nonce [] (replicate n 0)).0 ≡ (sealed_by c 32 key nonce [] (replicate n 0)).0
stream_tag c key nonce n = refl
