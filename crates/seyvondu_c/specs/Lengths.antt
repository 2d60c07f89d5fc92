-- The lengths, in bytes, that a call from C takes.
use Rattle.std.specs.Prelude.{◌≡◌, ◌⊎◌, ℕ, ◌^◌, ◌<◌, List, length}
use Rattle.aegis_core.specs.Sealing.{key_len, nonce_len}
use Rattle.aegis_core.specs.declared.variant.Variant.{Variant}

-- key and nonce have the cipher's lengths
pub record FitKeys (v : Variant) (key nonce : List ℕ) : Type 0 where
  pub key_fits : length key ≡ key_len v
  pub nonce_fits : length nonce ≡ nonce_len v

-- a tag's length
abbrev pub FitsTag : List ℕ → Type 0
FitsTag tag = (length tag ≡ 16) ⊎ (length tag ≡ 32)

-- so does what a MAC is given: a text has at most 2^61 - 1 bytes
pub record FitMac (v : Variant) (key nonce text tag : List ℕ) : Type 0 where
  pub keys : FitKeys v key nonce
  pub tag_fits : FitsTag tag
  pub text_short : length text < 2 ^ 61

-- so does what sealing and unsealing are given, with room for an answer as long as the text
pub record FitSeal (v : Variant) (key nonce ad text room tag : List ℕ) : Type 0 where
  pub keys : FitKeys v key nonce
  pub tag_fits : FitsTag tag
  pub ad_short : length ad < 2 ^ 61
  pub text_short : length text < 2 ^ 61
  pub room_fits : length room ≡ length text
