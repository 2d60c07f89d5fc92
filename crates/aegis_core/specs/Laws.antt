-- What sealing promises to those that know nothing of its blocks (this project's own).
use Rattle.std.specs.Prelude.{◌≡◌, ℕ, List, length, Option, Some}
use Rattle.aes_spec.specs.Bytes.{xor_bytes}
use Rattle.aegis_core.specs.Sealing.{seal, unsealed, mac, stream, Unseals}
use Rattle.aegis_core.specs.declared.variant.Variant.{Variant}

-- the laws of a cipher with tags of t bytes
pub record IsSealing (v : Variant) (t : ℕ) : Type 0 where
  -- the cipher text is as long as the message
  pub text_len : (key nonce ad m : List ℕ) → length (seal v t key nonce ad m).0 ≡ length m
  -- a tag has t bytes
  pub tag_len : (key nonce ad m : List ℕ) → length (seal v t key nonce ad m).1 ≡ t
  pub mac_len : (key nonce text : List ℕ) → length (mac v t key nonce text) ≡ t
  -- what was sealed opens to itself
  pub opens : (key nonce ad m : List ℕ)
      → unsealed v t key nonce ad (seal v t key nonce ad m).0 (seal v t key nonce ad m).1 ≡ Some m
  -- and nothing else opens
  pub seals : (key nonce ad c tag m : List ℕ) → unsealed v t key nonce ad c tag ≡ Some m → seal v t key nonce ad m ≡ (c, tag)
  -- the cipher text determines the message
  pub one_message : (key nonce ad m q : List ℕ) → (seal v t key nonce ad m).0 ≡ (seal v t key nonce ad q).0 → m ≡ q
  -- unsealing has one answer, which is the computed one
  pub unseals : (key nonce ad c tag : List ℕ) → Unseals v t key nonce ad c tag (unsealed v t key nonce ad c tag)
  pub one_answer : (key nonce ad c tag : List ℕ) (a : Option (List ℕ)) → Unseals v t key nonce ad c tag a → unsealed v t key nonce ad c tag ≡ a
  -- the cipher text does not depend on the tag's length
  pub same_text : (u : ℕ) (key nonce ad m : List ℕ) → (seal v t key nonce ad m).0 ≡ (seal v u key nonce ad m).0
  -- the keystream is as long as it was asked for, and added twice it gives the bytes back
  pub stream_len : (key nonce : List ℕ) (n : ℕ) → length (stream v key nonce n) ≡ n
  pub stream_twice : (key nonce m : List ℕ)
      → xor_bytes (xor_bytes m (stream v key nonce (length m))) (stream v key nonce (length m)) ≡ m
