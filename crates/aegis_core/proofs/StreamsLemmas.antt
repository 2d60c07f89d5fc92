-- What the calls of messages in pieces give, in the words of the ciphers.
use Rattle.std.proofs.Common.{◌≡◌, ◌+◌, ◌-◌, ◌<◌, ◌≤◌, ◌++◌, ℕ, List, [], length, take, drop, refl, sym, ap, ◌∙◌, arith, length-append, length-drop, subst}
use Rattle.std.proofs.lemmas.List.{take-append-drop, take_at, drop_at, drop-drop, length-take-le}
use Rattle.std.proofs.lemmas.Slice.{take-put_mid, take-put_mid_below, drop-put_mid}
use borrow.Rule.Slice.PartMut.{put_mid}
use Rattle.aegis_core.specs.Lanes.{State}
use Rattle.aegis_core.specs.Family.{Family, cipher_text, keyed, sealed_by, mac_by}
use Rattle.aegis_core.specs.Sealing.{family_of, seal, mac}
use Rattle.aegis_core.specs.Pieces.{Holds}
use Rattle.aegis_core.specs.Streams.{Decrypts}
use Rattle.aegis_core.specs.declared.pieces.Pieces.{Pieces}
use Rattle.aegis_core.specs.declared.decryptor.Decryptor.{Decryptor}
use Rattle.aegis_core.specs.declared.variant.Variant.{Variant}
use Rattle.aegis_core.proofs.OneText.{one_text}
use Rattle.aegis_core.proofs.FrontLemmas.{cipher_front}
use Rattle.aegis_core.proofs.TagLengths.{sound}

-- the cipher text of a family is that of its variant
pub text_as : (v : Variant) (t : ℕ) (key nonce ad m out : List ℕ) (n : ℕ) → out ≡ drop n (cipher_text (family_of v) (keyed (family_of v) key nonce ad) m)
    → out ≡ drop n (seal v t key nonce ad m).0
unfolding seal
text_as v t key nonce ad m out n e = e

pub tag_as : (v : Variant) (t u : ℕ) (key nonce ad m tag : List ℕ) → u ≡ t → tag ≡ (sealed_by (family_of v) u key nonce ad m).1 → tag ≡ (seal v t key nonce ad m).1
unfolding seal
tag_as v t u key nonce ad m tag eu e = e ∙ ap (λ (j : ℕ). (sealed_by (family_of v) j key nonce ad m).1) eu

pub mac_is : (v : Variant) (t u : ℕ) (key nonce m tag : List ℕ) → u ≡ t → tag ≡ mac_by (family_of v) u key nonce m → tag ≡ mac v t key nonce m
unfolding mac
mac_is v t u key nonce m tag eu e = e ∙ ap (λ (j : ℕ). mac_by (family_of v) j key nonce m) eu

-- the pieces and the tag of a message
pub sealed_as : (v : Variant) (t u : ℕ) (key nonce ad m c tag : List ℕ) → u ≡ t → c ≡ cipher_text (family_of v) (keyed (family_of v) key nonce ad) m
    → tag ≡ (sealed_by (family_of v) u key nonce ad m).1 → seal v t key nonce ad m ≡ (c, tag)
unfolding seal
sealed_as v t u key nonce ad m c tag eu ec et =
    let et2 : tag ≡ (sealed_by (family_of v) t key nonce ad m).1 = et ∙ ap (λ (j : ℕ). (sealed_by (family_of v) j key nonce ad m).1) eu in
    rw (ec, et2) refl

-- another tag is that of no message
pub none_as : (v : Variant) (t u : ℕ) (key nonce ad m c tag other : List ℕ) → u ≡ t → c ≡ cipher_text (family_of v) (keyed (family_of v) key nonce ad) m
    → tag ≡ (sealed_by (family_of v) u key nonce ad m).1 → (tag ≡ other → ⊥) → (q : List ℕ) → (seal v t key nonce ad q ≡ (c, other)) → ⊥
unfolding seal
none_as v t u key nonce ad m c tag other eu ec et differ q e =
    let f : Family = family_of v in
    let s : State = keyed f key nonce ad in
    let et2 : tag ≡ (sealed_by f t key nonce ad m).1 = et ∙ ap (λ (j : ℕ). (sealed_by f j key nonce ad m).1) eu in
    let same : m ≡ q = one_text f s m q (sound v).some (sym ec ∙ sym (ap (λ (p : List ℕ × List ℕ). p.0) e)) in
    differ (et2 ∙ ap (λ (x : List ℕ). (sealed_by f t key nonce ad x).1) same ∙ ap (λ (p : List ℕ × List ℕ). p.1) e)

-- a cipher text that grows by a piece
pub grown : (f : Family) (s : State) (old new c p : List ℕ) → 0 < f.rate → take (length old) new ≡ old → c ≡ cipher_text f s old
    → p ≡ drop (length old) (cipher_text f s new) → c ++ p ≡ cipher_text f s new
grown f s old new c p pos ef ec ep =
    let x : List ℕ = drop (length old) new in
    let whole : new ≡ old ++ x = sym (take-append-drop (length old) new) ∙ ap (λ (v : List ℕ). v ++ x) ef in
    let front : take (length old) (cipher_text f s new) ≡ c = ap (λ (v : List ℕ). take (length old) (cipher_text f s v)) whole ∙ cipher_front f s old x pos ∙ sym ec in
    ap (λ (v : List ℕ). v ++ p) (sym front) ∙ ap (λ (v : List ℕ). take (length old) (cipher_text f s new) ++ v) ep ∙ take-append-drop (length old) (cipher_text f s new)

-- the relation, with the family under another name
pub holds_as : {S : Type 0} (family : S → Family) (lanes : S → State) (f d : Family) (p : Pieces S) (key nonce ad m : List ℕ) → d ≡ f
    → Holds family lanes d p key nonce ad m → Holds family lanes f p key nonce ad m
holds_as family lanes f d p key nonce ad m e h =
    let P : Family → Type 0 = λ v. Holds family lanes v p key nonce ad m in
    subst P e h

pub cipher_text-nil : (f : Family) (s : State) → cipher_text f s [] ≡ []
cipher_text-nil f s = refl

pub decrypts_none : {K S : Type 0} {n t : ℕ} (family : S → Family) (lanes : S → State) (v : Variant) (d : Decryptor K S n t) (key nonce ad : List ℕ)
    → d.out.bytes ≡ [] → Holds family lanes (family_of v) d.pieces key nonce ad [] → Decrypts family lanes v d key nonce ad []
decrypts_none family lanes v d key nonce ad e h =
    let P : List ℕ → Type 0 = λ m. Holds family lanes (family_of v) d.pieces key nonce ad m in
    record {
      holds = subst P (sym e) h;
      text = ap (λ (m : List ℕ). cipher_text (family_of v) (keyed (family_of v) key nonce ad) m) (sym e);
    }

pub pos_of : (v : Variant) → 0 < (family_of v).rate
pos_of v = (sound v).some

length-put_mid : (a k : ℕ) (xs ys : List ℕ) → a + k ≤ length xs → length ys ≡ k → length (put_mid a k xs ys) ≡ length xs
length-put_mid a k xs ys room ly =
    let la : length (take a xs) ≡ a = length-take-le a xs (omega arith) in
    omega (arith, length-append (take a xs) (ys ++ drop k (drop a xs)), length-append ys (drop k (drop a xs)), length-drop k (drop a xs), length-drop a xs)

-- the piece that was put in the middle
pub mid_of : (n k : ℕ) (b y : List ℕ) → n ≤ length b → length y ≡ n + k - n → take (n + k - n) (drop n (put_mid n (n + k - n) b y)) ≡ y
mid_of n k b y room ly =
    let rest : List ℕ = drop (n + k - n) (drop n b) in
    ap (λ (v : List ℕ). take (n + k - n) v) (drop_at (take n b) (y ++ rest) n (length-take-le n b room)) ∙ take_at y rest (n + k - n) ly

-- what stands in front of the piece, and the piece decrypted
pub bytes_after : (b y z bytes : List ℕ) (n k : ℕ) → bytes ≡ take n b → n + k ≤ length b → length y ≡ k → length z ≡ k
    → take (n + k) (put_mid n (n + k - n) (put_mid n (n + k - n) b y) z) ≡ bytes ++ z
bytes_after b y z bytes n k eb room ly lz =
    let w : n + k - n ≡ k = omega arith in
    let b1 : List ℕ = put_mid n (n + k - n) b y in
    let l1 : length b1 ≡ length b = length-put_mid n (n + k - n) b y (omega arith) (ly ∙ sym w) in
    take-put_mid n (n + k - n) b1 z (n + k) (ap (λ (j : ℕ). n + j) (sym lz)) (omega arith)
    ∙ ap (λ (v : List ℕ). v ++ z) (take-put_mid_below n (n + k - n) b y n (omega arith) (omega arith) ∙ sym eb)

-- what stands behind the piece
pub rest_after : (b y rest : List ℕ) (n k : ℕ) → rest ≡ drop n b → n + k ≤ length b → length y ≡ k
    → drop (n + k) (put_mid n (n + k - n) b y) ≡ drop k rest
rest_after b y rest n k er room ly =
    let w : n + k - n ≡ k = omega arith in
    drop-put_mid n (n + k - n) b y (n + k) (omega arith) (omega arith) (ly ∙ sym w) ∙ sym (drop-drop k n b) ∙ ap (drop k) (sym er)

-- the same, and the piece decrypted
pub rest_after_both : (b y z rest : List ℕ) (n k : ℕ) → rest ≡ drop n b → n + k ≤ length b → length y ≡ k → length z ≡ k
    → drop (n + k) (put_mid n (n + k - n) (put_mid n (n + k - n) b y) z) ≡ drop k rest
rest_after_both b y z rest n k er room ly lz =
    let w : n + k - n ≡ k = omega arith in
    let l1 : length (put_mid n (n + k - n) b y) ≡ length b = length-put_mid n (n + k - n) b y (omega arith) (ly ∙ sym w) in
    drop-put_mid n (n + k - n) (put_mid n (n + k - n) b y) z (n + k) (omega arith) (omega arith) (lz ∙ sym w) ∙ rest_after b y rest n k er room ly

pub front_len : (bytes b : List ℕ) (n : ℕ) → bytes ≡ take n b → n ≤ length b → length bytes ≡ n
front_len bytes b n e h = ap length e ∙ length-take-le n b h
