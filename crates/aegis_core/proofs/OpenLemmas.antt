-- Decryption gives the message whose cipher text was decrypted.
use Rattle.std.proofs.Common.{◌≡◌, ℕ, zero, suc, ◌+◌, ◌-◌, ◌*◌, ◌/◌, ◌<◌, ◌≤◌, List, [], ◌∷◌, ◌++◌, length, take, drop, refl, sym, ap, ◌∙◌, arith, length-append, length-drop, add-one}
use Rattle.std.specs.Prelude.{fold}
use Rattle.std.proofs.lemmas.List.{append-nil, append_assoc, take_all, take_at, drop_at, drop_all, drop-drop, length-take-le}
use Rattle.std.proofs.lemmas.List.Sums.{fold-append}
use Rattle.std.proofs.Math.Nat.{div-lt_iff_lt-mul}
use borrow.Rule.Slice.PartMut.{put_mid}
use Rattle.aes_spec.specs.Bytes.{xor_bytes}
use Rattle.aegis_core.specs.Blocks.{block_at, first_blocks}
use Rattle.aegis_core.specs.Lanes.{State}
use Rattle.aegis_core.specs.Family.{Family, cipher_text, decrypted, plain_text}
use Rattle.aegis_core.specs.Tail.{absorbed_tail}
use Rattle.aegis_core.proofs.BytesLemmas.{length-on_bytes, first_blocks_next}
use Rattle.aegis_core.proofs.SealLemmas.{state_after, text_of}
use Rattle.aegis_core.proofs.LoopLemmas.{decrypting_more, decrypting_none, decrypt_end, whole_fits}
use Rattle.aegis_core.proofs.OneText.{one_text}

-- the state after a block of cipher text
abbrev next_state : Family → State → List ℕ → State
next_state f s b = f.update s (xor_bytes b (f.keystream s))

-- the state after the first n blocks of a cipher text
abbrev opened_state : Family → State → List ℕ → ℕ → State
opened_state f s c n = fold (next_state f) s (first_blocks f.rate c n)

-- their decryption
abbrev opened_text : Family → State → List ℕ → ℕ → List ℕ
opened_text f s c n = decrypted f s (first_blocks f.rate c n)

-- the first n blocks decrypted, and the rest as it was
abbrev half_opened : Family → State → List ℕ → ℕ → List ℕ
half_opened f s c n = opened_text f s c n ++ drop (n * f.rate) c

decrypted-append : (f : Family) (s : State) (bs ds : List (List ℕ)) → decrypted f s (bs ++ ds) ≡ decrypted f s bs ++ decrypted f (fold (next_state f) s bs) ds
unfolding decrypted
decrypted-append f s [] ds = refl
decrypted-append f s (b ∷ bs) ds =
    ap (λ (v : List ℕ). xor_bytes b (f.keystream s) ++ v) (decrypted-append f (next_state f s b) bs ds)
    ∙ sym (append_assoc (xor_bytes b (f.keystream s)) (decrypted f (next_state f s b) bs) (decrypted f (fold (next_state f) (next_state f s b) bs) ds))

decrypted_one : (f : Family) (s : State) (b : List ℕ) → decrypted f s (b ∷ []) ≡ xor_bytes b (f.keystream s)
unfolding decrypted
decrypted_one f s b = append-nil (xor_bytes b (f.keystream s))

opened_text_next : (f : Family) (s : State) (c : List ℕ) (n : ℕ)
    → opened_text f s c (n + 1) ≡ opened_text f s c n ++ xor_bytes (block_at f.rate c n) (f.keystream (opened_state f s c n))
opened_text_next f s c n =
    ap (λ (v : List (List ℕ)). decrypted f s v) (first_blocks_next f.rate c n)
    ∙ decrypted-append f s (first_blocks f.rate c n) (block_at f.rate c n ∷ [])
    ∙ ap (λ (v : List ℕ). opened_text f s c n ++ v) (decrypted_one f (opened_state f s c n) (block_at f.rate c n))

opened_state_next : (f : Family) (s : State) (c : List ℕ) (n : ℕ)
    → opened_state f s c (n + 1) ≡ f.update (opened_state f s c n) (xor_bytes (block_at f.rate c n) (f.keystream (opened_state f s c n)))
opened_state_next f s c n =
    ap (λ (v : List (List ℕ)). fold (next_state f) s v) (first_blocks_next f.rate c n)
    ∙ fold-append (next_state f) s (first_blocks f.rate c n) (block_at f.rate c n ∷ [])

-- after n blocks
record Opened (f : Family) (s : State) (c : List ℕ) (n : ℕ) : Type 0 where
  long : length (opened_text f s c n) ≡ n * f.rate
  state : opened_state f s c n ≡ state_after f s (half_opened f s c n) n
  text : take (n * f.rate) c ≡ text_of f s (half_opened f s c n) n

opened_none : (f : Family) (s : State) (c : List ℕ) → Opened f s c 0
unfolding first_blocks decrypted
opened_none f s c = record {
  long = omega arith;
  state = refl;
  text = decrypting_none f s c (half_opened f s c 0);
}

opened_more : (f : Family) (s : State) (c : List ℕ) (n : ℕ) → n * f.rate + f.rate ≤ length c → Opened f s c n → Opened f s c (n + 1)
opened_more f s c n fits h =
    let r : ℕ = f.rate in
    let d : List ℕ = opened_text f s c n in
    let t : State = opened_state f s c n in
    let x : List ℕ = drop (n * r) c in
    let mc : List ℕ = d ++ x in
    let ys : List ℕ = xor_bytes (block_at r c n) (f.keystream t) in
    let lb : length (block_at r c n) ≡ r = length-take-le r x (omega (arith, length-drop (n * r) c)) in
    let ly : length ys ≡ r = length-on_bytes _ (block_at r c n) (f.keystream t) ∙ lb in
    let ld : length d ≡ n * r = h.long in
    let front : take (n * r) mc ≡ d = take_at d x (n * r) ld in
    let back : drop (n * r) mc ≡ x = drop_at d x (n * r) ld in
    let lx : length x ≡ length c - n * r = length-drop (n * r) c in
    let room : n * r + r ≤ length mc = omega (arith, length-append d x) in
    let ey : ys ≡ xor_bytes (block_at r mc n) (f.keystream t) = ap (λ (v : List ℕ). xor_bytes (take r v) (f.keystream t)) (sym back) in
    let more = decrypting_more f s t (opened_state f s c (n + 1)) c mc ys n room h.state h.text back ey (opened_state_next f s c n) in
    let at : n * r + r ≡ (n + 1) * r = omega arith in
    let next : opened_text f s c (n + 1) ≡ d ++ ys = opened_text_next f s c n in
    let rest : drop r (drop (n * r) mc) ≡ drop ((n + 1) * r) c = ap (λ (v : List ℕ). drop r v) back ∙ drop-drop r (n * r) c ∙ ap (λ (j : ℕ). drop j c) at in
    let same : put_mid (n * r) r mc ys ≡ half_opened f s c (n + 1) =
    ap (λ (v : List ℕ). v ++ (ys ++ drop r (drop (n * r) mc))) front ∙ ap (λ (v : List ℕ). d ++ (ys ++ v)) rest
    ∙ sym (append_assoc d ys (drop ((n + 1) * r) c)) ∙ ap (λ (v : List ℕ). v ++ drop ((n + 1) * r) c) (sym next) in
    let ln : length (d ++ ys) ≡ (n + 1) * r = omega (arith, length-append d ys) in
    record {
      long = ap length next ∙ ln;
      state = more.0 ∙ ap (λ (v : List ℕ). state_after f s v (n + 1)) same;
      text = more.1 ∙ ap (λ (v : List ℕ). text_of f s v (n + 1)) same;
    }

opened : (f : Family) (s : State) (c : List ℕ) (n : ℕ) → n * f.rate ≤ length c → Opened f s c n
opened f s c zero fits = opened_none f s c
opened f s c (suc n) fits = rw (← add-one) (opened_more f s c n (omega arith) (opened f s c n (omega arith)))

-- the cipher text of what was decrypted
pub cipher_text-plain_text : (f : Family) (s : State) (c : List ℕ) → 0 < f.rate → cipher_text f s (plain_text f s c) ≡ c
cipher_text-plain_text f s c pos =
    let r : ℕ = f.rate in
    let n : ℕ = length c / r in
    let fits : n * r ≤ length c = whole_fits n (length c) r refl in
    let h : Opened f s c n = opened f s c n fits in
    let d : List ℕ = opened_text f s c n in
    let t : State = opened_state f s c n in
    let x : List ℕ = drop (n * r) c in
    let mc : List ℕ = d ++ x in
    let ys : List ℕ = xor_bytes x (f.keystream t) in
    let ld : length d ≡ n * r = h.long in
    let lx : length x ≡ length c - n * r = length-drop (n * r) c in
    let lm : length mc ≡ length c = omega (arith, length-append d x) in
    let front : take (n * r) mc ≡ d = take_at d x (n * r) ld in
    let back : drop (n * r) mc ≡ x = drop_at d x (n * r) ld in
    let far : length c < (n + 1) * r = (div-lt_iff_lt-mul {k = r} {x = length c} {y = n + 1} pos).0 (omega arith) in
    let near : (n + 1) * r ≡ n * r + r = omega arith in
    let whole : take r x ≡ x = take_all r x (omega arith) in
    let end = decrypt_end f f s t (absorbed_tail f t ys) c mc x ys n (n * r) (length mc) pos refl (ap (λ (j : ℕ). j / r) (sym lm)) (omega arith)
    h.state h.text back (sym back) refl refl refl (omega arith) in
    let gone : drop (length mc) (drop (n * r) mc) ≡ [] = drop_all (length mc) (drop (n * r) mc) (omega (arith, length-drop (n * r) mc)) in
    let same : put_mid (n * r) (length mc) mc ys ≡ plain_text f s c =
    ap (λ (v : List ℕ). v ++ (ys ++ drop (length mc) (drop (n * r) mc))) front ∙ ap (λ (v : List ℕ). d ++ (ys ++ v)) gone
    ∙ ap (λ (v : List ℕ). d ++ v) (append-nil ys)
    ∙ ap (λ (v : List ℕ). d ++ xor_bytes v (f.keystream t)) (sym whole) ∙ sym (opened_text_next f s c n) in
    ap (λ (v : List ℕ). cipher_text f s v) (sym same) ∙ sym end.0

-- the decryption of a cipher text
pub plain_text-cipher_text : (f : Family) (s : State) (m : List ℕ) → 0 < f.rate → plain_text f s (cipher_text f s m) ≡ m
plain_text-cipher_text f s m pos = one_text f s (plain_text f s (cipher_text f s m)) m pos (cipher_text-plain_text f s (cipher_text f s m) pos)
