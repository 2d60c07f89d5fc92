-- What contracts see of a sealer (this project's own).
use Rattle.std.specs.Prelude.{◌≡◌, ℕ, ◌+◌, ◌∷◌, [], ◌++◌, List, length, take, drop, Bool, false}
use Rattle.aegis_stream.specs.Grammar.{frame}
use Rattle.aegis_stream.specs.Spell.{spelled}

-- the key, the stream's prefix, how many frames were sealed, and whether the last of them ended the stream
pub record Sealing : Type 0 where
  pub key : List ℕ
  pub prefix : List ℕ
  pub frames : ℕ
  pub ended : Bool

-- a sealer has sealed these messages, and written these bytes, the prefix among them
pub record Spells (s : Sealing) (messages : List (List ℕ)) (written : List ℕ) : Type 0 where
  pub count : s.frames ≡ length messages
  pub stream : written ≡ spelled s.key s.prefix s.ended messages

-- a call sealed a message: out begins with the next frame of the stream, of n bytes
pub record IsSealed (old new : Sealing) (message : List ℕ) (last : Bool) (out_old out_new : List ℕ) (n : ℕ) : Type 0 where
  pub going : old.ended ≡ false
  pub now : new ≡ record old { frames = old.frames + 1; ended = last }
  pub count : n ≡ 21 + length message
  pub frame : take n out_new ≡ frame old.key old.prefix old.frames last message
  pub rest : drop n out_new ≡ drop n out_old
  -- what was written so far is the stream of the messages so far, whatever they were
  pub stream : (messages : List (List ℕ)) (written : List ℕ) → Spells old messages written
      → Spells new (messages ++ message ∷ []) (written ++ take n out_new)
