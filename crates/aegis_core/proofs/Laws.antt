-- The laws of sealing.
use Rattle.std.proofs.Common.{replicate, [], ◌≡◌, ◌⊎◌, ℕ, ◌*◌, true, List, length, refl, sym, ap, ◌∙◌, Option, Some, None, if◌then◌else◌}
use Rattle.std.specs.Str.{bytes_eq}
use Rattle.std.proofs.lemmas.Bool.{cond-true}
use Rattle.std.proofs.lemmas.Option.{cond_some}
use Rattle.std.proofs.lemmas.Slice.Eq.{bytes_eq-Decides}
use Rattle.std.proofs.lemmas.List.{length-replicate}
use Rattle.aegis_core.proofs.BytesLemmas.{xor_twice}
use Rattle.aegis_core.specs.Family.{Family, absorbed, cipher_text, keyed, plain_text}
use Rattle.aegis_core.specs.Sealing.{family_of, seal, unsealed, mac, stream, Unseals}
use Rattle.aegis_core.specs.Laws.{IsSealing}
use Rattle.aegis_core.specs.declared.variant.Variant.{Variant}
use Rattle.aegis_core.proofs.OneText.{length-cipher_text, one_text}
use Rattle.aegis_core.proofs.OpenLemmas.{cipher_text-plain_text, plain_text-cipher_text}
use Rattle.aegis_core.proofs.TagLengths.{sound}

pub length-seal : (v : Variant) (t : ℕ) (key nonce ad m : List ℕ) → length (seal v t key nonce ad m).0 ≡ length m
unfolding seal
length-seal v t key nonce ad m = length-cipher_text (family_of v) (keyed (family_of v) key nonce ad) m (sound v).some

pub length-tag : (v : Variant) (t : ℕ) (key nonce ad m : List ℕ) → ((t ≡ 16) ⊎ (t ≡ 32)) → length (seal v t key nonce ad m).1 ≡ t
unfolding seal
length-tag v t key nonce ad m h =
    let f : Family = family_of v in
    (sound v).tag t (8 * length ad) (8 * length m) (absorbed f (keyed f key nonce ad) m) h

pub length-mac : (v : Variant) (t : ℕ) (key nonce text : List ℕ) → ((t ≡ 16) ⊎ (t ≡ 32)) → length (mac v t key nonce text) ≡ t
unfolding mac
length-mac v t key nonce text h = (sound v).tag t (8 * length text) (8 * t) (keyed (family_of v) key nonce text) h

-- what was sealed opens to itself
pub unsealed-seal : (v : Variant) (t : ℕ) (key nonce ad m : List ℕ)
    → unsealed v t key nonce ad (seal v t key nonce ad m).0 (seal v t key nonce ad m).1 ≡ Some m
unfolding seal unsealed
unsealed-seal v t key nonce ad m =
    let f : Family = family_of v in
    let s = keyed f key nonce ad in
    let tag : List ℕ → List ℕ = λ p. f.finalise t (8 * length ad) (8 * length p) (absorbed f s p) in
    let back : plain_text f s (cipher_text f s m) ≡ m = plain_text-cipher_text f s m (sound v).some in
    let answer : List ℕ → Option (List ℕ) = λ p. if bytes_eq (tag p) (tag m) then Some p else None in
    ap answer back ∙ cond-true (bytes_eq (tag m) (tag m)) (Some m) None ((bytes_eq-Decides (tag m) (tag m)).1 refl)

-- and nothing else opens
pub seal-unsealed : (v : Variant) (t : ℕ) (key nonce ad c tag m : List ℕ) → unsealed v t key nonce ad c tag ≡ Some m → seal v t key nonce ad m ≡ (c, tag)
unfolding seal unsealed
seal-unsealed v t key nonce ad c tag m e =
    let f : Family = family_of v in
    let s = keyed f key nonce ad in
    let tag_of : List ℕ → List ℕ = λ p. f.finalise t (8 * length ad) (8 * length p) (absorbed f s p) in
    let p : List ℕ = plain_text f s c in
    let found : (bytes_eq (tag_of p) tag ≡ true) × (p ≡ m) = cond_some (bytes_eq (tag_of p) tag) p m e in
    let text : cipher_text f s m ≡ c = ap (λ (q : List ℕ). cipher_text f s q) (sym found.1) ∙ cipher_text-plain_text f s c (sound v).some in
    let same : tag_of m ≡ tag = ap tag_of (sym found.1) ∙ (bytes_eq-Decides (tag_of p) tag).0 found.0 in
    rw (text, same) refl

pub one_message : (v : Variant) (t : ℕ) (key nonce ad m q : List ℕ) → (seal v t key nonce ad m).0 ≡ (seal v t key nonce ad q).0 → m ≡ q
unfolding seal
one_message v t key nonce ad m q e = one_text (family_of v) (keyed (family_of v) key nonce ad) m q (sound v).some e

opened : (v : Variant) (t : ℕ) (key nonce ad c tag m : List ℕ) → seal v t key nonce ad m ≡ (c, tag) → unsealed v t key nonce ad c tag ≡ Some m
opened v t key nonce ad c tag m e =
    ap (λ (p : List ℕ × List ℕ). unsealed v t key nonce ad p.0 p.1) (sym e) ∙ unsealed-seal v t key nonce ad m

unseals_as : (v : Variant) (t : ℕ) (key nonce ad c tag : List ℕ) (a : Option (List ℕ)) → unsealed v t key nonce ad c tag ≡ a → Unseals v t key nonce ad c tag a
unseals_as v t key nonce ad c tag (Some m) e = seal-unsealed v t key nonce ad c tag m e
unseals_as v t key nonce ad c tag None e = λ m h. let other : unsealed v t key nonce ad c tag ≡ Some m = opened v t key nonce ad c tag m h in cc

none_of : (v : Variant) (t : ℕ) (key nonce ad c tag : List ℕ) (x : Option (List ℕ)) → unsealed v t key nonce ad c tag ≡ x
    → ((m : List ℕ) → (seal v t key nonce ad m ≡ (c, tag)) → ⊥) → x ≡ None
none_of v t key nonce ad c tag (Some m) e h = absurd (h m (seal-unsealed v t key nonce ad c tag m e))
none_of v t key nonce ad c tag None e h = refl

-- unsealing has one answer
pub unsealed-answer : (v : Variant) (t : ℕ) (key nonce ad c tag : List ℕ) (a : Option (List ℕ)) → Unseals v t key nonce ad c tag a → unsealed v t key nonce ad c tag ≡ a
unsealed-answer v t key nonce ad c tag (Some m) h = opened v t key nonce ad c tag m h
unsealed-answer v t key nonce ad c tag None h = none_of v t key nonce ad c tag (unsealed v t key nonce ad c tag) refl h

pub seal-tag_len : (v : Variant) (t u : ℕ) (key nonce ad m : List ℕ) → (seal v t key nonce ad m).0 ≡ (seal v u key nonce ad m).0
unfolding seal
seal-tag_len v t u key nonce ad m = refl

pub length-stream : (v : Variant) (key nonce : List ℕ) (n : ℕ) → length (stream v key nonce n) ≡ n
unfolding stream
length-stream v key nonce n = length-seal v 16 key nonce [] (replicate n 0) ∙ length-replicate n 0

pub is_sealing : (v : Variant) (t : ℕ) → ((t ≡ 16) ⊎ (t ≡ 32)) → IsSealing v t
is_sealing v t h = record {
  text_len = length-seal v t;
  tag_len = λ key nonce ad m. length-tag v t key nonce ad m h;
  mac_len = λ key nonce text. length-mac v t key nonce text h;
  opens = unsealed-seal v t;
  seals = seal-unsealed v t;
  one_message = one_message v t;
  unseals = λ key nonce ad c tag. unseals_as v t key nonce ad c tag (unsealed v t key nonce ad c tag) refl;
  one_answer = unsealed-answer v t;
  same_text = λ u key nonce ad m. seal-tag_len v t u key nonce ad m;
  stream_len = length-stream v;
  stream_twice = λ key nonce m. xor_twice m (stream v key nonce (length m));
}
