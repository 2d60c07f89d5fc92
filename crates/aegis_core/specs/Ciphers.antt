-- What the calls of a cipher answer (this project's own).
use Rattle.std.specs.Prelude.{ℕ, List, None, ⊤}
use Rattle.aegis_core.specs.Sealing.{Unseals}
use Rattle.aegis_core.specs.declared.variant.Variant.{Variant}
use Rattle.aegis_core.specs.declared.cipher.Cipher.{Cipher}
use Rattle.aegis_core.specs.declared.error.Error.{Error}
use Rattle.aegis_core.specs.declared.error.Error.TheVariants.{InvalidTag, OutputBufferTooSmall, MessageTooLong, OutOfMemory}

-- the key of a cipher
abbrev pub key_of : {K S : Type 0} {n t : ℕ} → Cipher K S n t → List ℕ
key_of c = c.key

-- its nonce
abbrev pub nonce_of : {K S : Type 0} {n t : ℕ} → Cipher K S n t → List ℕ
nonce_of c = c.nonce

-- why a cipher text is refused: no message has this tag, or memory is short
abbrev pub RefusesText : Variant → ℕ → List ℕ → List ℕ → List ℕ → List ℕ → List ℕ → Error → Type 0
RefusesText v t key nonce ad c tag InvalidTag = Unseals v t key nonce ad c tag None
RefusesText v t key nonce ad c tag OutputBufferTooSmall = ⊥
RefusesText v t key nonce ad c tag MessageTooLong = ⊥
RefusesText v t key nonce ad c tag OutOfMemory = ⊤
