-- What each call from C answers and writes (this project's own): 1 where it did what it is for, 0 where a tag is none of the text, and -1,
-- with nothing written, where a length doesn't fit. Of what a call writes, "before" and "after" are the bytes around it.
use Rattle.std.specs.Prelude.{◌≡◌, ℕ, ℤ, pos, negsuc, List, length, replicate, Option, Some, None}
use Rattle.aes_spec.specs.Bytes.{xor_bytes}
use Rattle.aegis_core.specs.Sealing.{seal, Unseals, mac, stream}
use Rattle.aegis_core.specs.declared.variant.Variant.{Variant}
use Rattle.seyvondu_c.specs.Lengths.{FitKeys, FitMac, FitSeal}

-- sealing m wrote its cipher text over c and its tag over tag
pub record Sealed (v : Variant) (key nonce ad m c tag c_after tag_after : List ℕ) (answer : ℤ) : Type 0 where
  pub done : FitSeal v key nonce ad m c tag → (answer ≡ pos 1) × (seal v (length tag) key nonce ad m ≡ (c_after, tag_after))
  pub misfit : (FitSeal v key nonce ad m c tag → ⊥) → (answer ≡ negsuc 0) × (c_after ≡ c) × (tag_after ≡ tag)

-- what is told of a message of n bytes, and of none: then each byte is 0xaa
abbrev pub Tells : Option (List ℕ) → ℕ → List ℕ → ℤ → Type 0
Tells (Some m) n after answer = (answer ≡ pos 1) × (after ≡ m)
Tells None n after answer = (answer ≡ pos 0) × (after ≡ replicate n 0xaa)

-- unsealing c and tag wrote over m what it gives
pub record Unsealed (v : Variant) (key nonce ad c tag m m_after : List ℕ) (answer : ℤ) : Type 0 where
  pub done : FitSeal v key nonce ad c m tag → (a : Option (List ℕ)) × Unseals v (length tag) key nonce ad c tag a × Tells a (length c) m_after answer
  pub misfit : (FitSeal v key nonce ad c m tag → ⊥) → (answer ≡ negsuc 0) × (m_after ≡ m)

-- the MAC of a text was written over tag
pub record Tagged (v : Variant) (key nonce text tag tag_after : List ℕ) (answer : ℤ) : Type 0 where
  pub done : FitMac v key nonce text tag → (answer ≡ pos 1) × (tag_after ≡ mac v (length tag) key nonce text)
  pub misfit : (FitMac v key nonce text tag → ⊥) → (answer ≡ negsuc 0) × (tag_after ≡ tag)

-- the tag was compared with the MAC of a text
pub record Compared (v : Variant) (key nonce text tag : List ℕ) (answer : ℤ) : Type 0 where
  pub same : FitMac v key nonce text tag → tag ≡ mac v (length tag) key nonce text → answer ≡ pos 1
  pub other : FitMac v key nonce text tag → (tag ≡ mac v (length tag) key nonce text → ⊥) → answer ≡ pos 0
  pub misfit : (FitMac v key nonce text tag → ⊥) → answer ≡ negsuc 0

-- the keystream was added to a text
pub record Streamed (v : Variant) (key nonce text text_after : List ℕ) (answer : ℤ) : Type 0 where
  pub done : FitKeys v key nonce → (answer ≡ pos 1) × (text_after ≡ xor_bytes text (stream v key nonce (length text)))
  pub misfit : (FitKeys v key nonce → ⊥) → (answer ≡ negsuc 0) × (text_after ≡ text)
