-- Sealing, unsealing, MAC and stream of each cipher (AEGIS specification; the MAC of two and four lanes is this project's own).
use Rattle.std.specs.Prelude.{◌≡◌, ℕ, List, [], replicate, Option, Some, None}
use Rattle.aegis_core.specs.Family.{Family, family_128, family_256, sealed_by, unsealed_by, mac_by}
use Rattle.aegis_core.specs.declared.variant.Variant.{Variant}
use Rattle.aegis_core.specs.declared.variant.Variant.TheVariants.{Aegis128L, Aegis128X2, Aegis128X4, Aegis256, Aegis256X2, Aegis256X4}

-- the family and its lanes
abbrev pub family_of : Variant → Family
family_of Aegis128L = family_128 1
family_of Aegis128X2 = family_128 2
family_of Aegis128X4 = family_128 4
family_of Aegis256 = family_256 1
family_of Aegis256X2 = family_256 2
family_of Aegis256X4 = family_256 4

-- how many bytes a key has
abbrev pub key_len : Variant → ℕ
key_len Aegis128L = 16
key_len Aegis128X2 = 16
key_len Aegis128X4 = 16
key_len Aegis256 = 32
key_len Aegis256X2 = 32
key_len Aegis256X4 = 32

-- how many bytes a nonce has
abbrev pub nonce_len : Variant → ℕ
nonce_len Aegis128L = 16
nonce_len Aegis128X2 = 16
nonce_len Aegis128X4 = 16
nonce_len Aegis256 = 32
nonce_len Aegis256X2 = 32
nonce_len Aegis256X4 = 32

-- the cipher text and the tag of t bytes, t being 16 or 32, of a message under key, nonce and
-- associated data (AEGIS specification, "Authenticated Encryption")
unfoldable pub seal : Variant → ℕ → List ℕ → List ℕ → List ℕ → List ℕ → List ℕ × List ℕ
seal v t key nonce ad m = sealed_by (family_of v) t key nonce ad m

-- unsealing this cipher text and tag gives a message exactly where sealing the message gives them,
-- and nothing where no message does ("Authenticated Decryption")
abbrev pub Unseals : Variant → ℕ → List ℕ → List ℕ → List ℕ → List ℕ → List ℕ → Option (List ℕ) → Type 0
Unseals v t key nonce ad c tag (Some m) = seal v t key nonce ad m ≡ (c, tag)
Unseals v t key nonce ad c tag None = (m : List ℕ) → (seal v t key nonce ad m ≡ (c, tag)) → ⊥

-- the same, computed: the message that seals to this cipher text and tag
unfoldable pub unsealed : Variant → ℕ → List ℕ → List ℕ → List ℕ → List ℕ → List ℕ → Option (List ℕ)
unsealed v t key nonce ad c tag = unsealed_by (family_of v) t key nonce ad c tag

-- the MAC of a text, a tag of t bytes (the second length is the tag's; with two and four lanes this project's own)
unfoldable pub mac : Variant → ℕ → List ℕ → List ℕ → List ℕ → List ℕ
mac v t key nonce text = mac_by (family_of v) t key nonce text

-- n bytes of keystream: the cipher text of n zeros (AEGIS specification, "AEGIS as a Stream Cipher")
unfoldable pub stream : Variant → List ℕ → List ℕ → ℕ → List ℕ
stream v key nonce n = (seal v 16 key nonce [] (replicate n 0)).0
