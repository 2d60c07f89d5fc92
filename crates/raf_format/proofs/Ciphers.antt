-- An AEGIS cipher as the algorithm of a file.
use Rattle.std.proofs.Common.{◌≡◌, inl, inr, ℕ, ◌-◌, ◌≤◌, List, ◌++◌, length, take, drop, refl, sym, ◌∙◌, ap, subst, arith, length-append, take-append-drop}
use Rattle.std.specs.Prelude.{codes, ◌⊎◌}
use Rattle.std.proofs.lemmas.List.{take_at, drop_at}
use Rattle.aegis_core.specs.Sealing.{seal, unsealed, mac, key_len, nonce_len}
use Rattle.aegis_core.specs.Keys.{kdf, mac_variant, zero_nonce}
use Rattle.aegis_core.specs.Laws.{IsSealing}
use Rattle.aegis_core.specs.declared.variant.Variant.{Variant}
use Rattle.aegis_core.specs.declared.variant.Variant.TheVariants.{Aegis128L, Aegis128X2, Aegis128X4, Aegis256, Aegis256X2, Aegis256X4}
use Rattle.aegis_core.proofs.Laws.{is_sealing}
use Rattle.raf_format.specs.Cipher.{IsLawful, IsTagLen, cipher_of, id_of}

pub key_len_cases : (v : Variant) → (key_len v ≡ 16) ⊎ (key_len v ≡ 32)
key_len_cases Aegis128L = inl refl
key_len_cases Aegis128X2 = inl refl
key_len_cases Aegis128X4 = inl refl
key_len_cases Aegis256 = inr refl
key_len_cases Aegis256X2 = inr refl
key_len_cases Aegis256X4 = inr refl

nonce_least : (v : Variant) → 1 ≤ nonce_len v
nonce_least Aegis128L = omega arith
nonce_least Aegis128X2 = omega arith
nonce_least Aegis128X4 = omega arith
nonce_least Aegis256 = omega arith
nonce_least Aegis256X2 = omega arith
nonce_least Aegis256X4 = omega arith

nonce_most : (v : Variant) → nonce_len v ≤ 32
nonce_most Aegis128L = omega arith
nonce_most Aegis128X2 = omega arith
nonce_most Aegis128X4 = omega arith
nonce_most Aegis256 = omega arith
nonce_most Aegis256X2 = omega arith
nonce_most Aegis256X4 = omega arith

pub id_is : (v : Variant) → (cipher_of v).id ≡ id_of v
unfolding cipher_of
id_is v = refl

pub nonce_len_is : (v : Variant) → (cipher_of v).nonce_len ≡ nonce_len v
unfolding cipher_of
nonce_len_is v = refl

pub header_key_is : (v : Variant) (key id : List ℕ) → (cipher_of v).header_key key id ≡ kdf v key (codes "raf/head/" ++ id)
unfolding cipher_of
header_key_is v key id = refl

pub chunk_key_is : (v : Variant) (key id : List ℕ) → (cipher_of v).chunk_key key id ≡ kdf v key (codes "raf/data/" ++ id)
unfolding cipher_of
chunk_key_is v key id = refl

pub header_mac_is : (v : Variant) (key text : List ℕ) → (cipher_of v).header_mac key text ≡ mac (mac_variant v) 32 key (zero_nonce v) text
unfolding cipher_of
header_mac_is v key text = refl

pub kdf_is : (v : Variant) (key text : List ℕ) → kdf v key text ≡ mac (mac_variant v) (key_len v) key (zero_nonce v) text
unfolding kdf
kdf_is v key text = refl

pub seal_is : (v : Variant) (t : ℕ) (key nonce ad m : List ℕ) → (cipher_of v).seal t key nonce ad m ≡ (seal v t key nonce ad m).0 ++ (seal v t key nonce ad m).1
unfolding cipher_of
seal_is v t key nonce ad m = refl

unseal_cut : (v : Variant) (t : ℕ) (key nonce ad s : List ℕ) → (cipher_of v).unseal t key nonce ad s ≡ unsealed v t key nonce ad (take (length s - t) s) (drop (length s - t) s)
unfolding cipher_of
unseal_cut v t key nonce ad s = refl

-- sealed bytes that are given as cipher text and tag
pub unseal_is : (v : Variant) (t : ℕ) (key nonce ad c tag : List ℕ) → length tag ≡ t → (cipher_of v).unseal t key nonce ad (c ++ tag) ≡ unsealed v t key nonce ad c tag
unseal_is v t key nonce ad c tag len =
    let n : length c ≡ length (c ++ tag) - t = omega (arith, length-append c tag) in
    unseal_cut v t key nonce ad (c ++ tag)
    ∙ ap (λ (x : List ℕ). unsealed v t key nonce ad x (drop (length (c ++ tag) - t) (c ++ tag))) (take_at c tag (length (c ++ tag) - t) n)
    ∙ ap (λ (x : List ℕ). unsealed v t key nonce ad c x) (drop_at c tag (length (c ++ tag) - t) n)

pub lawful : (v : Variant) → IsLawful (cipher_of v)
lawful v = record {
  longer = λ t key nonce ad m l.
      omega (arith, ap length (seal_is v t key nonce ad m), length-append (seal v t key nonce ad m).0 (seal v t key nonce ad m).1, (laws t l).text_len key nonce ad m, (laws t l).tag_len key nonce ad m);
  opens = λ t key nonce ad m l.
      ap (λ (x : List ℕ). (cipher_of v).unseal t key nonce ad x) (seal_is v t key nonce ad m)
      ∙ unseal_is v t key nonce ad (seal v t key nonce ad m).0 (seal v t key nonce ad m).1 ((laws t l).tag_len key nonce ad m)
      ∙ (laws t l).opens key nonce ad m;
  only = λ t key nonce ad m s l is.
      seal_is v t key nonce ad m
      ∙ ap (λ (p : List ℕ × List ℕ). p.0 ++ p.1) ((laws t l).seals key nonce ad (take (length s - t) s) (drop (length s - t) s) m (sym (unseal_cut v t key nonce ad s) ∙ is))
      ∙ take-append-drop (length s - t) s;
  tag_len = λ key text. ap length (header_mac_is v key text) ∙ (is_sealing (mac_variant v) 32 (inr refl)).mac_len key (zero_nonce v) text;
  nonce_least = subst (λ (n : ℕ). 1 ≤ n) (sym (nonce_len_is v)) (nonce_least v);
  nonce_most = subst (λ (n : ℕ). n ≤ 32) (sym (nonce_len_is v)) (nonce_most v);
}
  where
    laws : (t : ℕ) → IsTagLen t → IsSealing v t
    laws t l = is_sealing v t l
