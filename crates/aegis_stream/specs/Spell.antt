-- The stream of a list of messages (this project's own).
use Rattle.std.specs.Prelude.{ℕ, suc, ◌∷◌, [], ◌++◌, List, length, Bool, true, false, IsTrue}
use Rattle.aegis_stream.specs.Grammar.{is_message_len, frame}

-- whether a message is the last one of a stream, which ends or goes on after the messages that follow it
abbrev pub is_last : Bool → List (List ℕ) → Bool
is_last ends [] = ends
is_last ends (_ ∷ _) = false

-- the frames of these messages, from frame number i on; where the stream ends with them, the last one says so
unfoldable pub frames_from : List ℕ → List ℕ → ℕ → Bool → List (List ℕ) → List ℕ
frames_from key prefix i ends [] = []
frames_from key prefix i ends (m ∷ ms) = frame key prefix i (is_last ends ms) m ++ frames_from key prefix (suc i) ends ms

-- the prefix and the frames of these messages
abbrev pub spelled : List ℕ → List ℕ → Bool → List (List ℕ) → List ℕ
spelled key prefix ends messages = prefix ++ frames_from key prefix 0 ends messages

-- the stream of these messages
abbrev pub spell : List ℕ → List ℕ → List (List ℕ) → List ℕ
spell key prefix messages = spelled key prefix true messages

-- each message has a length that a stream's message may have
abbrev pub AreMessages : List (List ℕ) → Type 0
AreMessages [] = Unit {0}
AreMessages (m ∷ ms) = IsTrue (is_message_len (is_last true ms) (length m)) × AreMessages ms
