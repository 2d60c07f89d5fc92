-- Keys and MACs that are derived from a key (this project's own).
use Rattle.std.specs.Prelude.{ℕ, List, ◌++◌, replicate, codes}
use Rattle.aegis_core.specs.Sealing.{key_len, nonce_len, mac}
use Rattle.aegis_core.specs.declared.variant.Variant.{Variant}
use Rattle.aegis_core.specs.declared.variant.Variant.TheVariants.{Aegis128L, Aegis128X2, Aegis128X4, Aegis256, Aegis256X2, Aegis256X4}

-- the nonce of zeros
abbrev pub zero_nonce : Variant → List ℕ
zero_nonce v = replicate (nonce_len v) 0

-- the cipher whose MAC derives keys of this length
abbrev pub mac_variant : Variant → Variant
mac_variant Aegis128L = Aegis128L
mac_variant Aegis128X2 = Aegis128L
mac_variant Aegis128X4 = Aegis128L
mac_variant Aegis256 = Aegis256
mac_variant Aegis256X2 = Aegis256
mac_variant Aegis256X4 = Aegis256

-- the key that a master key gives for a text: a MAC as long as the key
unfoldable pub kdf : Variant → List ℕ → List ℕ → List ℕ
kdf v master text = mac (mac_variant v) (key_len v) master (zero_nonce v) text

-- the key of a user's context
abbrev pub derived_key : Variant → List ℕ → List ℕ → List ℕ
derived_key v master context = kdf v master (codes "raf/user/" ++ context)

-- the key of a file's header
abbrev pub header_key : Variant → List ℕ → List ℕ → List ℕ
header_key v key id = kdf v key (codes "raf/head/" ++ id)

-- the key of a file's chunks
abbrev pub chunk_key : Variant → List ℕ → List ℕ → List ℕ
chunk_key v key id = kdf v key (codes "raf/data/" ++ id)

-- the tag of 32 bytes of a header's text, under its header key
abbrev pub header_mac : Variant → List ℕ → List ℕ → List ℕ
header_mac v key text = mac (mac_variant v) 32 key (zero_nonce v) text
