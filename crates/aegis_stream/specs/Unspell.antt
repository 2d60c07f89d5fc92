-- The messages of a stream, and how it stands, as far as its bytes go (this project's own).
use Rattle.std.specs.Prelude.{ℕ, zero, suc, ◌+◌, ◌∷◌, [], ◌||◌, ◌&&◌, not, List, length, take, drop, slice_index, Bool, true, false, nat_le, nat_lt, nat_eq, if◌then◌else◌, Option, Some, None}
use Rattle.std.specs.Int.{w32, from_le_bytes}
use Rattle.aegis_core.specs.Sealing.{unsealed}
use Rattle.aegis_core.specs.declared.variant.Variant.TheVariants.{Aegis128L}
use Rattle.aegis_stream.specs.Grammar.{is_message_len, frame_nonce}

-- how a stream stands: it ended; bytes follow its end; the next frame's mark or length is in it and outside the
-- grammar; the next frame is whole and opens to no message; else more bytes are due
pub data State : Type 0 where
  Ended : State
  Trailing : State
  Frame : State
  Tag : State
  More : State

-- the messages of the frames that are whole and open, up to the first that is not, and how the stream stands there
pub record Unspelled : Type 0 where
  pub messages : List (List ℕ)
  pub state : State

-- what the bytes after the last frame begin with: a frame that opens, the last one or not, to a message; or none
pub data Next : Type 0 where
  Opens : Bool → List ℕ → Next
  Stops : State → Next

-- the length in a frame's bytes
abbrev pub length_in : List ℕ → ℕ
length_in b = from_le_bytes w32 (take 4 (drop 1 b))

-- the mark is there and is neither 0 nor 1, or all of the length is there and is none of a message under this mark
unfoldable pub is_malformed : List ℕ → Bool
is_malformed b =
    (nat_lt 0 (length b) && nat_lt 1 (slice_index b 0))
    || (nat_le 5 (length b) && not (is_message_len (nat_eq (slice_index b 0) 1) (length_in b)))

-- all bytes of a frame are there
unfoldable pub is_whole : List ℕ → Bool
is_whole b = nat_le 5 (length b) && nat_le (21 + length_in b) (length b)

-- the message of a whole frame, number i
unfoldable pub message_in : List ℕ → List ℕ → ℕ → List ℕ → Option (List ℕ)
message_in key prefix i b =
    let n = length_in b in
    unsealed Aegis128L 16 key (frame_nonce prefix i) (take 5 b) (take n (drop 5 b)) (take 16 (drop (5 + n) b))

-- a frame that opens to this message, or to none
abbrev pub of_message : Bool → Option (List ℕ) → Next
of_message last None = Stops Tag
of_message last (Some m) = Opens last m

-- what bytes begin with, frame number i being due
unfoldable pub next : List ℕ → List ℕ → ℕ → List ℕ → Next
next key prefix i b =
    if is_malformed b then Stops Frame else
    (if is_whole b then of_message (nat_eq (slice_index b 0) 1) (message_in key prefix i b) else Stops More)

-- no message
abbrev pub no_more : State → Unspelled
no_more s = record { messages = []; state = s }

-- after the end nothing may follow
abbrev pub past_end : List ℕ → State
past_end [] = Ended
past_end (_ ∷ _) = Trailing

-- a message, and where its frame isn't the last one, what comes after it
abbrev pub one_more : Bool → List ℕ → List ℕ → Unspelled → Unspelled
one_more true m rest u = record { messages = m ∷ []; state = past_end rest }
one_more false m rest u = record { messages = m ∷ u.messages; state = u.state }

-- what b gives that begins so: no message, or one, and then what the bytes after its frame give
abbrev pub follow : (List ℕ → Unspelled) → List ℕ → Next → Unspelled
follow rest b (Stops s) = no_more s
follow rest b (Opens last m) = let left = drop (21 + length m) b in one_more last m left (rest left)

-- the first n frames, from frame number i on
unfoldable pub unspell_frames : ℕ → List ℕ → List ℕ → ℕ → List ℕ → Unspelled
unspell_frames zero key prefix i b = no_more More
unspell_frames (suc n) key prefix i b = follow (unspell_frames n key prefix (suc i)) b (next key prefix i b)

-- the frames from number i on: there are fewer than bytes
abbrev pub unspell_from : List ℕ → List ℕ → ℕ → List ℕ → Unspelled
unspell_from key prefix i b = unspell_frames (length b) key prefix i b

-- the messages of a stream that begins with these bytes, and how it stands: 8 bytes of prefix, and frames
unfoldable pub unspell : List ℕ → List ℕ → Unspelled
unspell key b = if nat_lt (length b) 8 then no_more More else unspell_from key (take 8 b) 0 (drop 8 b)
