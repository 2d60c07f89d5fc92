-- What the stream of a list of messages gives back (this project's own).
use Rattle.std.specs.Prelude.{◌≡◌, ℕ, ◌<◌, ◌≤◌, ◌⊎◌, ◌↔◌, ◌++◌, List, length, take, slice_index, Bool, true, false}
use Rattle.aegis_stream.specs.Spell.{spell, spelled, AreMessages}
use Rattle.aegis_stream.specs.Unspell.{State, unspell}
use Rattle.aegis_stream.specs.Unspell.State.{Ended, Trailing, More}

-- each item is a byte
abbrev pub AreBytes : List ℕ → Type 0
AreBytes b = (i : ℕ) → slice_index b i < 256

-- the end was read
abbrev pub is_past : State → Bool
is_past Ended = true
is_past Trailing = true
is_past _ = false

-- b gives a front of these messages; it is ended, and gives them all, exactly where it is their whole stream
pub record GivesFront (key prefix : List ℕ) (messages : List (List ℕ)) (b : List ℕ) : Type 0 where
  pub front : take (length (unspell key b).messages) messages ≡ (unspell key b).messages
  pub ended : ((unspell key b).state ≡ Ended) ↔ (b ≡ spell key prefix messages)
  pub all : ((unspell key b).state ≡ Ended) ↔ ((unspell key b).messages ≡ messages)
  pub state : ((unspell key b).state ≡ Ended) ⊎ ((unspell key b).state ≡ More)

pub record IsStream : Type 0 where
  -- what is released of a front of a stream is a front of what was sealed, and the whole of it exactly at the end
  pub fronts : (key prefix : List ℕ) (messages : List (List ℕ)) (n : ℕ) → length prefix ≡ 8 → 0 < length messages → AreMessages messages
      → GivesFront key prefix messages (take n (spell key prefix messages))
  -- what is written of a stream that goes on is a front of each stream that it may become
  pub goes_on : (key prefix : List ℕ) (messages others : List (List ℕ)) → 0 < length others
      → take (length (spelled key prefix false messages)) (spell key prefix (messages ++ others)) ≡ spelled key prefix false messages
  -- and whatever bytes are unspelled, they begin with the spelling of their messages
  pub back : (key b : List ℕ) → AreBytes b → 8 ≤ length b
      → take (length (spelled key (take 8 b) (is_past (unspell key b).state) (unspell key b).messages)) b
      ≡ spelled key (take 8 b) (is_past (unspell key b).state) (unspell key b).messages
