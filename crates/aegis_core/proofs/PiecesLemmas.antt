-- What a message in pieces holds, as it is made and as a part comes.
use Rattle.std.proofs.Common.{◌≡◌, ℕ, ◌+◌, ◌-◌, ◌*◌, ◌/◌, ◌%◌, ◌<◌, ◌≤◌, List, [], ◌++◌, length, take, drop, refl, sym, ap, ◌∙◌, arith, length-append, length-drop, subst}
use Rattle.std.proofs.Math.Nat.{div-eq_of_lt, mod-eq_of_lt, div-add-mod', add-mul-div_right, add-mul-mod_self_right}
use Rattle.std.proofs.lemmas.List.{take_all, drop_all, drop-append-le}
use Rattle.std.proofs.lemmas.Slice.{take-put_mid}
use borrow.Rule.Slice.PartMut.{put_mid}
use Rattle.std.specs.Prelude.{fold}
use Rattle.aes_spec.specs.Bytes.{xor_bytes}
use Rattle.aegis_core.specs.Blocks.{first_blocks, block_at}
use Rattle.aegis_core.specs.Lanes.{State}
use Rattle.aegis_core.specs.Family.{Family, absorbed, cipher_text, keyed, mac_by}
use Rattle.aegis_core.specs.Tail.{absorbed_tail}
use Rattle.aegis_core.specs.Pieces.{Holds}
use Rattle.aegis_core.specs.declared.pieces.Pieces.{Pieces}
use Rattle.aegis_core.proofs.BytesLemmas.{first_blocks-append, xor_twice, length-on_bytes}
use Rattle.aegis_core.proofs.SealLemmas.{state_after, state_after_next, absorbed_is, absorbed_tail_none}
use Rattle.aegis_core.proofs.LoopLemmas.{whole_fits}
use Rattle.aegis_core.proofs.FrontLemmas.{near_text, fill_text}

pub holds_empty : {S : Type 0} (family : S → Family) (lanes : S → State) (f : Family) (p : Pieces S) (l : S) (key nonce ad : List ℕ) → 0 < f.rate
    → p.total ≡ 0 → p.ad_len ≡ length ad → family p.lanes ≡ f → lanes p.lanes ≡ absorbed f (lanes l) ad → lanes l ≡ f.initial key nonce
    → Holds family lanes f p key nonce ad []
unfolding first_blocks
holds_empty family lanes f p l key nonce ad pos t a same full init =
    let r : ℕ = f.rate in
    let none : 0 / r ≡ 0 = div-eq_of_lt pos in
    let left : 0 % r ≡ 0 = mod-eq_of_lt pos in
    let start : 0 / r * r ≡ 0 = ap (λ (j : ℕ). j * r) none ∙ omega arith in
    let done : lanes p.lanes ≡ keyed f key nonce ad = full ∙ ap (λ (v : State). absorbed f v ad) init in
    record {
      same = same;
      total = t;
      ad_len = a;
      state = done ∙ ap (λ (j : ℕ). fold f.update (keyed f key nonce ad) (first_blocks r [] j)) (sym none);
      rest = ap (λ (j : ℕ). take j p.block) left ∙ ap (λ (j : ℕ). drop {A = ℕ} j []) (sym start);
    }

-- ---- a part comes: m's whole blocks and what is left, by plain lists

short_count : (m p : List ℕ) (r : ℕ) → 0 < r → length m % r + length p < r → (length (m ++ p) / r ≡ length m / r) × (length (m ++ p) % r ≡ length m % r + length p)
short_count m p r pos h =
    let x : ℕ = length m % r + length p in
    let e : length (m ++ p) ≡ x + length m / r * r = length-append m p ∙ omega (arith, div-add-mod' (length m) r) in (
      ap (λ (j : ℕ). j / r) e ∙ add-mul-div_right x (length m / r) pos ∙ ap (λ (j : ℕ). j + length m / r) (div-eq_of_lt h) ∙ omega arith,
      ap (λ (j : ℕ). j % r) e ∙ add-mul-mod_self_right x (length m / r) r ∙ mod-eq_of_lt h,
    )

full_count : (m p : List ℕ) (r : ℕ) → 0 < r → length m % r + length p ≡ r → (length (m ++ p) / r ≡ length m / r + 1) × (length (m ++ p) % r ≡ 0)
full_count m p r pos h =
    let e : length (m ++ p) ≡ 0 + (length m / r + 1) * r = length-append m p ∙ omega (arith, div-add-mod' (length m) r) in (
      ap (λ (j : ℕ). j / r) e ∙ add-mul-div_right 0 (length m / r + 1) pos ∙ ap (λ (j : ℕ). j + (length m / r + 1)) (div-eq_of_lt pos) ∙ omega arith,
      ap (λ (j : ℕ). j % r) e ∙ add-mul-mod_self_right 0 (length m / r + 1) r ∙ mod-eq_of_lt pos,
    )

pub short_state : (c : Family) (s t : State) (m p b b1 ys : List ℕ) (used k rate : ℕ) → 0 < c.rate → length m % c.rate + length p < c.rate → length m % c.rate ≤ length b
    → used ≡ length m % c.rate → b1 ≡ put_mid used k b ys → ys ≡ p
    → t ≡ state_after c s m (length m / c.rate) → take (length m % c.rate) b ≡ drop (length m / c.rate * c.rate) m
    → (t ≡ state_after c s (m ++ p) (length (m ++ p) / c.rate)) × (take (length (m ++ p) % c.rate) b1 ≡ drop (length (m ++ p) / c.rate * c.rate) (m ++ p))
short_state c s t m p b b1 ys used k rate pos h room eu eb ey et er =
    let r : ℕ = c.rate in
    let n : ℕ = length m / r in
    let count = short_count m p r pos h in
    let fits : n * r ≤ length m = whole_fits n (length m) r refl in
    let fs : first_blocks r (m ++ p) n ≡ first_blocks r m n = first_blocks-append r m p n fits in
    let placed : take (length m % r + length p) b1 ≡ take (length m % r) b ++ p =
    ap (λ (v : List ℕ). take (length m % r + length p) v) (eb ∙ ap (λ (v : List ℕ). put_mid used k b v) ey ∙ ap (λ (j : ℕ). put_mid j k b p) eu)
    ∙ take-put_mid (length m % r) k b p (length m % r + length p) refl room in (
      et ∙ ap (λ (v : List (List ℕ)). fold c.update s v) (sym fs) ∙ ap (λ (j : ℕ). state_after c s (m ++ p) j) (sym count.0),
      ap (λ (j : ℕ). take j b1) count.1 ∙ placed ∙ ap (λ (v : List ℕ). v ++ p) er ∙ sym (drop-append-le (n * r) m p fits) ∙ ap (λ (j : ℕ). drop (j * r) (m ++ p)) (sym count.0),
    )

pub full_state : (c d : Family) (s t u : State) (m p b b1 ys : List ℕ) (used k rate : ℕ) → 0 < c.rate → length m % c.rate + length p ≡ c.rate → length m % c.rate ≤ length b
    → used ≡ length m % c.rate → b1 ≡ put_mid used k b ys → ys ≡ p → rate ≡ c.rate
    → t ≡ state_after c s m (length m / c.rate) → take (length m % c.rate) b ≡ drop (length m / c.rate * c.rate) m → d ≡ c → u ≡ d.update t (take rate b1)
    → (u ≡ state_after c s (m ++ p) (length (m ++ p) / c.rate)) × (take (length (m ++ p) % c.rate) b1 ≡ drop (length (m ++ p) / c.rate * c.rate) (m ++ p))
full_state c d s t u m p b b1 ys used k rate pos h room eu eb ey ea et er ed eq =
    let r : ℕ = c.rate in
    let n : ℕ = length m / r in
    let count = full_count m p r pos h in
    let fits : n * r ≤ length m = whole_fits n (length m) r refl in
    let fs : first_blocks r (m ++ p) n ≡ first_blocks r m n = first_blocks-append r m p n fits in
    let tail : List ℕ = drop (n * r) m in
    let lt : length tail + length p ≡ r = omega (arith, length-drop (n * r) m, div-add-mod' (length m) r) in
    let placed : take r b1 ≡ tail ++ p =
    ap (λ (v : List ℕ). take r v) (eb ∙ ap (λ (v : List ℕ). put_mid used k b v) ey ∙ ap (λ (j : ℕ). put_mid j k b p) eu)
    ∙ take-put_mid (length m % r) k b p r (sym h) room ∙ ap (λ (v : List ℕ). v ++ p) er in
    let blk : block_at r (m ++ p) n ≡ tail ++ p = ap (λ (v : List ℕ). take r v) (drop-append-le (n * r) m p fits) ∙ take_all r (tail ++ p) (omega (arith, length-append tail p)) in
    let end : drop (length (m ++ p) / r * r) (m ++ p) ≡ [] = drop_all (length (m ++ p) / r * r) (m ++ p) (let e = ap (λ (j : ℕ). j * r) count.0 in omega (arith, e, length-append m p, div-add-mod' (length m) r)) in (
      eq ∙ ap (λ (v : Family). v.update t (take rate b1)) ed ∙ ap (λ (j : ℕ). c.update t (take j b1)) ea ∙ ap (λ (v : List ℕ). c.update t v) (placed ∙ sym blk) ∙ ap (λ (v : State). c.update v (block_at r (m ++ p) n)) (et ∙ ap (λ (v : List (List ℕ)). fold c.update s v) (sym fs))
          ∙ sym (state_after_next c s (m ++ p) n) ∙ ap (λ (j : ℕ). state_after c s (m ++ p) j) (sym count.0),
      ap (λ (j : ℕ). take j b1) count.1 ∙ sym end,
    )

-- the relation, from the parts
pub holds_from : {S : Type 0} (family : S → Family) (lanes : S → State) (f : Family) (p : Pieces S) (key nonce ad m : List ℕ) → family p.lanes ≡ f
    → p.total ≡ length m → p.ad_len ≡ length ad
    → (lanes p.lanes ≡ state_after f (keyed f key nonce ad) m (length m / f.rate)) × (take (length m % f.rate) p.block ≡ drop (length m / f.rate * f.rate) m)
    → Holds family lanes f p key nonce ad m
holds_from family lanes f p key nonce ad m e t a both = record { same = e; total = t; ad_len = a; state = both.0; rest = both.1 }

-- a whole block that goes straight through
pub block_state : (c d : Family) (s t u : State) (m p b : List ℕ) → 0 < c.rate → length m % c.rate ≡ 0 → length p ≡ c.rate
    → t ≡ state_after c s m (length m / c.rate) → d ≡ c → u ≡ d.update t p
    → (u ≡ state_after c s (m ++ p) (length (m ++ p) / c.rate)) × (take (length (m ++ p) % c.rate) b ≡ drop (length (m ++ p) / c.rate * c.rate) (m ++ p))
block_state c d s t u m p b pos h lp et ed eu =
    let r : ℕ = c.rate in
    let n : ℕ = length m / r in
    let count = full_count m p r pos (omega arith) in
    let fits : n * r ≤ length m = whole_fits n (length m) r refl in
    let fs : first_blocks r (m ++ p) n ≡ first_blocks r m n = first_blocks-append r m p n fits in
    let none : drop (n * r) m ≡ [] = drop_all (n * r) m (omega (arith, div-add-mod' (length m) r)) in
    let blk : block_at r (m ++ p) n ≡ p =
    ap (λ (v : List ℕ). take r v) (drop-append-le (n * r) m p fits ∙ ap (λ (v : List ℕ). v ++ p) none) ∙ take_all r p (omega arith) in
    let end : drop (length (m ++ p) / r * r) (m ++ p) ≡ [] = drop_all (length (m ++ p) / r * r) (m ++ p) (let e = ap (λ (j : ℕ). j * r) count.0 in omega (arith, e, length-append m p, div-add-mod' (length m) r)) in (
      eu ∙ ap (λ (v : Family). v.update t p) ed ∙ ap (λ (v : List ℕ). c.update t v) (sym blk) ∙ ap (λ (v : State). c.update v (block_at r (m ++ p) n)) (et ∙ ap (λ (v : List (List ℕ)). fold c.update s v) (sym fs))
          ∙ sym (state_after_next c s (m ++ p) n) ∙ ap (λ (j : ℕ). state_after c s (m ++ p) j) (sym count.0),
      ap (λ (j : ℕ). take j b) count.1 ∙ sym end,
    )

-- the text of a whole block that goes straight through
pub block_text : (c d : Family) (s t : State) (m p out : List ℕ) → 0 < c.rate → length m % c.rate ≡ 0 → length p ≡ c.rate
    → t ≡ state_after c s m (length m / c.rate) → d ≡ c → out ≡ xor_bytes p (d.keystream t) → out ≡ drop (length m) (cipher_text c s (m ++ p))
block_text c d s t m p out pos h lp et ed eo =
    eo ∙ ap (λ (v : Family). xor_bytes p (v.keystream t)) ed ∙ ap (λ (v : State). xor_bytes p (c.keystream v)) et ∙ ap (λ (j : ℕ). xor_bytes p (drop j (c.keystream (state_after c s m (length m / c.rate))))) (sym h)
    ∙ sym (near_text c s m p (length m / c.rate) pos refl (omega arith))

-- the same, decrypted
pub block_back : (c d : Family) (s t : State) (m p out : List ℕ) → 0 < c.rate → length m % c.rate ≡ 0 → length p ≡ c.rate
    → t ≡ state_after c s m (length m / c.rate) → d ≡ c → out ≡ xor_bytes p (d.keystream t) → p ≡ drop (length m) (cipher_text c s (m ++ out))
block_back c d s t m p out pos h lp et ed eo =
    let lo : length out ≡ c.rate = ap length eo ∙ length-on_bytes _ p (d.keystream t) ∙ lp in
    let back : p ≡ xor_bytes out (d.keystream t) = sym (ap (λ (v : List ℕ). xor_bytes v (d.keystream t)) eo ∙ xor_twice p (d.keystream t)) in
    block_text c d s t m out p pos h lo et ed back

-- the place in the block, whichever way it is told
pub place_of : (total n rate r : ℕ) → total ≡ n → rate ≡ r → total % rate ≡ n % r
place_of total n rate r et er = ap (λ (j : ℕ). j % rate) et ∙ ap (λ (j : ℕ). n % j) er

-- the last, short block
pub ended_state : (c d : Family) (s t u : State) (m b : List ℕ) (used : ℕ) → 0 < c.rate → used ≡ length m % c.rate
    → t ≡ state_after c s m (length m / c.rate) → take (length m % c.rate) b ≡ drop (length m / c.rate * c.rate) m
    → d ≡ c → u ≡ absorbed_tail d t (take used b) → u ≡ absorbed c s m
ended_state c d s t u m b used pos eu et er ed el =
    el ∙ ap (λ (v : Family). absorbed_tail v t (take used b)) ed ∙ ap (λ (j : ℕ). absorbed_tail c t (take j b)) eu ∙ ap (λ (v : List ℕ). absorbed_tail c t v) er ∙ ap (λ (v : State). absorbed_tail c v (drop (length m / c.rate * c.rate) m)) et
    ∙ sym (absorbed_is c s m (length m / c.rate) pos refl)

-- a part that is a whole block begins a block
pub at_start : (total n len rate q r : ℕ) → total ≡ n → rate ≡ q → q ≡ r → total % q + len ≤ q → len ≡ rate → (n % r ≡ 0) × (len ≡ r)
at_start total n len rate q r et eq er room el =
    let e : total % q ≡ n % r = place_of total n q r et er in
    (omega arith, omega arith)

-- the text of a part, with the keystream of the code
pub part_text : (c d : Family) (s t : State) (m p out ks zs : List ℕ) (rate total q : ℕ) → 0 < c.rate → rate ≡ q → q ≡ c.rate → total ≡ length m
    → total % q + length p ≤ q → length ks ≡ rate → d ≡ c → ks ≡ d.keystream t → t ≡ state_after c s m (length m / c.rate)
    → out ≡ xor_bytes p (take (rate - total % rate) (drop (total % rate) (ks ++ zs))) → out ≡ drop (length m) (cipher_text c s (m ++ p))
part_text c d s t m p out ks zs rate total q pos eq er em room lk ed ek et eo =
    let fits : total % rate + length p ≤ rate = let P : ℕ → Type 0 = λ j. total % j + length p ≤ j in subst P (sym eq) room in
    fill_text c s t m p out ks zs rate total pos (eq ∙ er) em fits lk (ek ∙ ap (λ (v : Family). v.keystream t) ed) et eo

pub part_back : (c d : Family) (s t : State) (m p out ks zs : List ℕ) (rate total q : ℕ) → 0 < c.rate → rate ≡ q → q ≡ c.rate → total ≡ length m
    → total % q + length p ≤ q → length ks ≡ rate → d ≡ c → ks ≡ d.keystream t → t ≡ state_after c s m (length m / c.rate)
    → out ≡ xor_bytes p (take (rate - total % rate) (drop (total % rate) (ks ++ zs))) → p ≡ drop (length m) (cipher_text c s (m ++ out))
part_back c d s t m p out ks zs rate total q pos eq er em room lk ed ek et eo =
    let k : List ℕ = take (rate - total % rate) (drop (total % rate) (ks ++ zs)) in
    let lo : length out ≡ length p = ap length eo ∙ length-on_bytes _ p k in
    let back : p ≡ xor_bytes out k = sym (ap (λ (v : List ℕ). xor_bytes v k) eo ∙ xor_twice p k) in
    part_text c d s t m out p ks zs rate total q pos eq er em (omega arith) lk ed ek et back

pub absorbed_nothing : (f : Family) (s : State) → 0 < f.rate → absorbed f s [] ≡ s
unfolding first_blocks
absorbed_nothing f s pos =
    let none : 0 ≡ 0 / f.rate = sym (div-eq_of_lt pos) in
    absorbed_is f s [] 0 pos none ∙ absorbed_tail_none f s (drop (0 * f.rate) []) (omega (arith, length-drop {A = ℕ} (0 * f.rate) []))

pub mac_of : (f d : Family) (t : ℕ) (key nonce m tag : List ℕ) (n : ℕ) (s : State) → 0 < d.rate → d ≡ f → n ≡ length m → s ≡ absorbed f (keyed f key nonce []) m
    → (e : Family) → e ≡ f → tag ≡ e.finalise t (8 * n) (8 * t) s → tag ≡ mac_by f t key nonce m
mac_of f d t key nonce m tag n s pos ed en es e ee eg =
    let pf : 0 < f.rate = let P : Family → Type 0 = λ v. 0 < v.rate in subst P ed pos in
    eg ∙ ap (λ (v : Family). v.finalise t (8 * n) (8 * t) s) ee ∙ ap (λ (j : ℕ). f.finalise t (8 * j) (8 * t) s) en
    ∙ ap (λ (v : State). f.finalise t (8 * length m) (8 * t) v) (es ∙ ap (λ (v : State). absorbed f v m) (absorbed_nothing f (f.initial key nonce) pf))
