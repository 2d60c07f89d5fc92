-- What a message, a cipher text and a text hold that come in pieces (this project's own).
use Rattle.std.specs.Prelude.{◌≡◌, ℕ, ◌+◌, ◌^◌, ◌<◌, ◌≤◌, List, []}
use Rattle.aegis_core.specs.Lanes.{State}
use Rattle.aegis_core.specs.Family.{Family, cipher_text, keyed}
use Rattle.aegis_core.specs.Sealing.{family_of}
use Rattle.aegis_core.specs.Pieces.{Holds, total_of}
use Rattle.aegis_core.specs.declared.variant.Variant.{Variant}
use Rattle.aegis_core.specs.declared.encryptor.Encryptor.{Encryptor}
use Rattle.aegis_core.specs.declared.decryptor.Decryptor.{Decryptor}
use Rattle.aegis_core.specs.declared.mac.Mac.{Mac}
use Rattle.aegis_core.specs.declared.error.Error.{Error}
use Rattle.aegis_core.specs.declared.error.Error.TheVariants.{InvalidTag, OutputBufferTooSmall, MessageTooLong, OutOfMemory}

-- how many bytes have come
abbrev pub encrypted_total : {K S : Type 0} {n t : ℕ} → Encryptor K S n t → ℕ
encrypted_total e = total_of e.pieces

-- e holds the message m under key, nonce and associated data
abbrev pub Encrypts : {K S : Type 0} {n t : ℕ} → (S → Family) → (S → State) → Variant → Encryptor K S n t → List ℕ → List ℕ → List ℕ → List ℕ → Type 0
Encrypts family lanes v e key nonce ad m = Holds family lanes (family_of v) e.pieces key nonce ad m

abbrev pub decrypted_total : {K S : Type 0} {n t : ℕ} → Decryptor K S n t → ℕ
decrypted_total d = total_of d.pieces

-- the bytes that are written to the destination
abbrev pub decrypted_bytes : {K S : Type 0} {n t : ℕ} → Decryptor K S n t → List ℕ
decrypted_bytes d = d.out.bytes

-- the bytes of the destination behind them
abbrev pub decrypted_rest : {K S : Type 0} {n t : ℕ} → Decryptor K S n t → List ℕ
decrypted_rest d = d.out.rest

-- how many bytes the destination has
abbrev pub decrypted_room : {K S : Type 0} {n t : ℕ} → Decryptor K S n t → ℕ
decrypted_room d = d.out.capacity

-- d holds the cipher text c, whose plain text is written
pub record Decrypts {K S : Type 0} {n t : ℕ} (family : S → Family) (lanes : S → State) (v : Variant) (d : Decryptor K S n t) (key nonce ad c : List ℕ) : Type 0 where
  pub holds : Holds family lanes (family_of v) d.pieces key nonce ad d.out.bytes
  pub text : c ≡ cipher_text (family_of v) (keyed (family_of v) key nonce ad) d.out.bytes

-- why a piece is refused: it has no room, or else the total would pass 2^61 - 1
abbrev pub RefusesPiece : ℕ → ℕ → ℕ → ℕ → Error → Type 0
RefusesPiece room written total len InvalidTag = ⊥
RefusesPiece room written total len OutputBufferTooSmall = room < written + len
RefusesPiece room written total len MessageTooLong = (written + len ≤ room) × (2 ^ 61 ≤ total + len)
RefusesPiece room written total len OutOfMemory = ⊥

abbrev pub mac_total : {K S : Type 0} {n t : ℕ} → Mac K S n t → ℕ
mac_total m = total_of m.pieces

-- a MAC holds the text under key and nonce, and keeps the initial state under them
pub record Authenticates {K S : Type 0} {n t : ℕ} (family : S → Family) (lanes : S → State) (v : Variant) (m : Mac K S n t) (key nonce text : List ℕ) : Type 0 where
  pub holds : Holds family lanes (family_of v) m.pieces key nonce [] text
  pub same : family m.initial ≡ family_of v
  pub initial : lanes m.initial ≡ (family_of v).initial key nonce
