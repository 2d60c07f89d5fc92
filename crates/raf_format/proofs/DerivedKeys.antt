-- Keys and tags by the length of the key.
use Rattle.std.proofs.Common.{◌≡◌, ℕ, List, replicate, refl, arith}
use Rattle.aegis_core.specs.Sealing.{mac, key_len}
use Rattle.aegis_core.specs.Keys.{kdf, header_mac}
use Rattle.aegis_core.specs.declared.variant.Variant.{Variant}
use Rattle.aegis_core.specs.declared.variant.Variant.TheVariants.{Aegis128L, Aegis128X2, Aegis128X4, Aegis256, Aegis256X2, Aegis256X4}

pub short_kdf : (v : Variant) (key text : List ℕ) → key_len v ≡ 16 → mac Aegis128L 16 key (replicate 16 0) text ≡ kdf v key text
unfolding kdf
short_kdf Aegis128L key text is = refl
short_kdf Aegis128X2 key text is = refl
short_kdf Aegis128X4 key text is = refl
short_kdf Aegis256 key text is = absurd (omega (arith, is))
short_kdf Aegis256X2 key text is = absurd (omega (arith, is))
short_kdf Aegis256X4 key text is = absurd (omega (arith, is))

pub long_kdf : (v : Variant) (key text : List ℕ) → key_len v ≡ 32 → mac Aegis256 32 key (replicate 32 0) text ≡ kdf v key text
unfolding kdf
long_kdf Aegis128L key text is = absurd (omega (arith, is))
long_kdf Aegis128X2 key text is = absurd (omega (arith, is))
long_kdf Aegis128X4 key text is = absurd (omega (arith, is))
long_kdf Aegis256 key text is = refl
long_kdf Aegis256X2 key text is = refl
long_kdf Aegis256X4 key text is = refl

pub short_mac : (v : Variant) (key text : List ℕ) → key_len v ≡ 16 → mac Aegis128L 32 key (replicate 16 0) text ≡ header_mac v key text
short_mac Aegis128L key text is = refl
short_mac Aegis128X2 key text is = refl
short_mac Aegis128X4 key text is = refl
short_mac Aegis256 key text is = absurd (omega (arith, is))
short_mac Aegis256X2 key text is = absurd (omega (arith, is))
short_mac Aegis256X4 key text is = absurd (omega (arith, is))

pub long_mac : (v : Variant) (key text : List ℕ) → key_len v ≡ 32 → mac Aegis256 32 key (replicate 32 0) text ≡ header_mac v key text
long_mac Aegis128L key text is = absurd (omega (arith, is))
long_mac Aegis128X2 key text is = absurd (omega (arith, is))
long_mac Aegis128X4 key text is = absurd (omega (arith, is))
long_mac Aegis256 key text is = refl
long_mac Aegis256X2 key text is = refl
long_mac Aegis256X4 key text is = refl
