-- What the calls on a record leave in its place (this project's own).
use Rattle.std.specs.Bool.{OnTrue, OnFalse}
use Rattle.std.specs.Prelude.{◌≡◌, ℕ, ◌+◌, ◌-◌, Bool, List, length, take, drop, replicate, Some, None}
use Rattle.raf_format.specs.Cipher.{Cipher}
use Rattle.raf_format.specs.File.{StandsFor}

-- the part of a record between its nonce and its tag
abbrev pub middle : Cipher → ℕ → List ℕ → List ℕ
middle C t r = take (length r - (C.nonce_len + t)) (drop C.nonce_len r)

-- a record was looked at: it is the sealed form of the chunk that stands in its middle now, or of none, and then 0xaa stands there;
-- nonce and tag stay
pub record Unsealed (C : Cipher) (t : ℕ) (chunk_key id : List ℕ) (index : ℕ) (old new : List ℕ) (opens : Bool) : Type 0 where
  pub chunk : OnTrue opens (StandsFor C t chunk_key id index old (Some (middle C t new)))
  pub none : OnFalse opens (StandsFor C t chunk_key id index old None)
  pub erased : OnFalse opens (middle C t new ≡ replicate (length old - (C.nonce_len + t)) 0xaa)
  pub nonce : take C.nonce_len new ≡ take C.nonce_len old
  pub tag : drop (length old - t) new ≡ drop (length old - t) old

-- a record was looked at, and its chunk asked for in another place: it is the sealed form of the bytes there now, or of none, and then the
-- place is as it was
pub record Released (C : Cipher) (t : ℕ) (chunk_key id : List ℕ) (index : ℕ) (r old new : List ℕ) (opens : Bool) : Type 0 where
  pub chunk : OnTrue opens (StandsFor C t chunk_key id index r (Some new))
  pub none : OnFalse opens (StandsFor C t chunk_key id index r None)
  pub stays : OnFalse opens (new ≡ old)
