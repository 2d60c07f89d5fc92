-- Sealing, unsealing and the MAC, over what a family of AEGIS ciphers gives (AEGIS specification; the MAC of two and four lanes is this project's own).
use Rattle.std.specs.Prelude.{ℕ, ◌+◌, ◌*◌, ◌/◌, List, [], ◌∷◌, ◌++◌, length, take, replicate, fold, Option, Some, None, if◌then◌else◌}
use Rattle.std.specs.Str.{bytes_eq}
use Rattle.aes_spec.specs.Bytes.{xor_bytes}
use Rattle.aegis_core.specs.Blocks.{first_blocks, blocks}
use Rattle.aegis_core.specs.Lanes.{State}
use Rattle.aegis_core.specs.Lanes128.{initial_128, update_128, keystream_128, finalise_128}
use Rattle.aegis_core.specs.Lanes256.{initial_256, update_256, keystream_256, finalise_256}

-- a family with its lanes: the bytes in a block, the initial state from key and nonce, the update
-- with a whole block, the keystream of a block, and the tag of t bytes from two lengths in bits
pub record Family : Type 0 where
  pub rate : ℕ
  pub initial : List ℕ → List ℕ → State
  pub update : State → List ℕ → State
  pub keystream : State → List ℕ
  pub finalise : ℕ → ℕ → ℕ → State → List ℕ

-- the AEGIS-128 family with d lanes
abbrev pub family_128 : ℕ → Family
family_128 d = record {
  rate = 32 * d;
  initial = initial_128 d;
  update = update_128 d;
  keystream = keystream_128;
  finalise = finalise_128;
}

-- the AEGIS-256 family with d lanes
abbrev pub family_256 : ℕ → Family
family_256 d = record {
  rate = 16 * d;
  initial = initial_256 d;
  update = update_256;
  keystream = keystream_256;
  finalise = finalise_256;
}

-- the state after the blocks of the padded p (AEGIS specification, "The Absorb Function")
abbrev pub absorbed : Family → State → List ℕ → State
absorbed f s p = fold f.update s (blocks f.rate p)

-- each block with the keystream added, the state updated with the block ("The Enc Function")
unfoldable pub encrypted : Family → State → List (List ℕ) → List ℕ
encrypted f s [] = []
encrypted f s (b ∷ bs) = xor_bytes b (f.keystream s) ++ encrypted f (f.update s b) bs

-- the encryption of the padded m, cut to m's length
abbrev pub cipher_text : Family → State → List ℕ → List ℕ
cipher_text f s m = take (length m) (encrypted f s (blocks f.rate m))

-- the state of key and nonce that has absorbed the associated data
abbrev pub keyed : Family → List ℕ → List ℕ → List ℕ → State
keyed f key nonce ad = absorbed f (f.initial key nonce) ad

-- the cipher text and the tag of t bytes ("Authenticated Encryption")
abbrev pub sealed_by : Family → ℕ → List ℕ → List ℕ → List ℕ → List ℕ → List ℕ × List ℕ
sealed_by f t key nonce ad m =
    let s = keyed f key nonce ad in
    (cipher_text f s m, f.finalise t (8 * length ad) (8 * length m) (absorbed f s m))

-- the MAC of a text, with the tag's length in bits in the second place: the specification's with one lane, this
-- project's own with more
abbrev pub mac_by : Family → ℕ → List ℕ → List ℕ → List ℕ → List ℕ
mac_by f t key nonce text = f.finalise t (8 * length text) (8 * t) (keyed f key nonce text)

-- n bytes of keystream: the cipher text of zeros ("AEGIS as a Stream Cipher")
abbrev pub stream_by : Family → List ℕ → List ℕ → ℕ → List ℕ
stream_by f key nonce n = cipher_text f (keyed f key nonce []) (replicate n 0)

-- each block with the keystream added, the state updated with what that gives ("The Dec Function");
-- the last block may be short
unfoldable pub decrypted : Family → State → List (List ℕ) → List ℕ
decrypted f s [] = []
decrypted f s (b ∷ bs) =
    let p = xor_bytes b (f.keystream s) in
    p ++ decrypted f (f.update s p) bs

-- the decryption of a cipher text
abbrev pub plain_text : Family → State → List ℕ → List ℕ
plain_text f s c = decrypted f s (first_blocks f.rate c (length c / f.rate + 1))

-- the message that seals to this cipher text and tag, if there is one: decrypted, where its tag is
-- the one given ("Authenticated Decryption")
abbrev pub unsealed_by : Family → ℕ → List ℕ → List ℕ → List ℕ → List ℕ → List ℕ → Option (List ℕ)
unsealed_by f t key nonce ad c tag =
    let s = keyed f key nonce ad in
    let m = plain_text f s c in
    if bytes_eq (f.finalise t (8 * length ad) (8 * length m) (absorbed f s m)) tag then Some m else None
