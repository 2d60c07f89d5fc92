-- What contracts see of an opener (this project's own).
use Rattle.std.specs.Prelude.{◌≡◌, ℕ, ◌+◌, ◌<◌, ◌≤◌, ◌⊎◌, [], ◌++◌, List, length, take, drop, Bool, true, false, sum_by, Option, Some, None, Result, Ok, Err, nat_lt, if◌then◌else◌}
use Rattle.std.specs.List.{concat}
use Rattle.aegis_stream.specs.Unspell.{State, Unspelled, unspell, unspell_from, past_end, no_more}
use Rattle.aegis_stream.specs.Unspell.State.{Ended, Trailing, Frame, Tag, More}
use Rattle.aegis_stream.specs.declared.error.StreamError.{StreamError}
use Rattle.aegis_stream.specs.declared.error.StreamError.TheVariants as error
use Rattle.aegis_stream.specs.declared.fed.Fed.{Fed}

-- the key; the bytes of the prefix that were taken, and those of the frame that is begun; how many frames were
-- opened, and whether the last of them ended the stream; and the refusal that stands
pub record Opening : Type 0 where
  pub key : List ℕ
  pub prefix : List ℕ
  pub begun : List ℕ
  pub frames : ℕ
  pub ended : Bool
  pub refused : Option StreamError

abbrev pub is_ended : State → Bool
is_ended Ended = true
is_ended _ = false

-- the refusal that a stream meets which stands so
abbrev pub refusal_of : State → Option StreamError
refusal_of Ended = None
refusal_of Trailing = Some error.Trailing
refusal_of Frame = Some error.Frame
refusal_of Tag = Some error.InvalidTag
refusal_of More = None

-- messages, and then what the bytes after their frames give
abbrev pub after : List (List ℕ) → Unspelled → Unspelled
after messages u = record { messages = messages ++ u.messages; state = u.state }

-- what further bytes give, by what the opener keeps
unfoldable pub left_in : Opening → List ℕ → Unspelled
left_in o x =
    if nat_lt (length o.prefix) 8 then unspell o.key (o.prefix ++ x) else
    (if o.ended then no_more (past_end x) else unspell_from o.key o.prefix o.frames (o.begun ++ x))

-- an opener has taken these bytes of a stream
pub record Took (o : Opening) (taken : List ℕ) : Type 0 where
  -- it opened a frame for each message, and the end was read exactly where the stream is ended
  pub frames : o.frames ≡ length (unspell o.key taken).messages
  pub ended : o.ended ≡ is_ended (unspell o.key taken).state
  -- the bytes are those of the prefix, of the frames that it opened, and of the frame that is begun
  pub count : length taken ≡ length o.prefix + (sum_by (λ m. 21 + length m) (unspell o.key taken).messages + length o.begun)
  -- until a refusal, no frame is begun before the prefix is whole, and all that further bytes give follows from what is kept
  pub start : o.refused ≡ None → length o.prefix < 8 → (o.begun ≡ []) × (o.frames ≡ 0) × (o.ended ≡ false)
  pub further : o.refused ≡ None → (x : List ℕ) → unspell o.key (taken ++ x) ≡ after (unspell o.key taken).messages (left_in o x)

-- bytes of the input were taken
pub record IsFed (old new : Opening) (taken input out_old out_new : List ℕ) (fed : Fed) : Type 0 where
  pub key : new.key ≡ old.key
  pub going : (old.refused ≡ None) × (new.refused ≡ None)
  pub within : fed.taken ≤ length input
  pub takes : 0 < length input → 0 < fed.taken
  pub took : Took new (taken ++ take fed.taken input)
  -- what is written is what the bytes taken add to the messages
  pub released : concat (unspell old.key (taken ++ take fed.taken input)).messages
      ≡ concat (unspell old.key taken).messages ++ take fed.written out_new
  pub rest : drop fed.written out_new ≡ drop fed.written out_old
  pub ended : fed.ended ≡ is_ended (unspell old.key (taken ++ take fed.taken input)).state
  -- the input was taken to its end, which opens no frame, or to the end of the first frame that it completes
  pub stops : ((fed.taken ≡ length input) × (new.frames ≡ old.frames)) ⊎ ((new.frames ≡ old.frames + 1) × (new.begun ≡ []))
  -- no refusal was due: the input brings a message, or the stream then stands as one that goes on or ended
  pub due : (unspell old.key (taken ++ input)).messages ≡ (unspell old.key taken).messages
      → refusal_of (unspell old.key (taken ++ input)).state ≡ None

-- nothing was taken and nothing written, and this refusal stands from then on
pub record IsRefused (old new : Opening) (taken input out_old out_new : List ℕ) (e : StreamError) : Type 0 where
  pub key : new.key ≡ old.key
  pub stands : new.refused ≡ Some e
  pub took : Took new taken
  pub out : out_new ≡ out_old
  -- until then it was due: the input brings no message, and the stream then stands so
  pub due : old.refused ≡ None
      → ((unspell old.key (taken ++ input)).messages ≡ (unspell old.key taken).messages)
      × (refusal_of (unspell old.key (taken ++ input)).state ≡ Some e)

-- what a call of `feed` does to an opener that has taken these bytes
abbrev pub Feeds : Opening → Opening → List ℕ → List ℕ → List ℕ → List ℕ → Result Fed StreamError → Type 0
Feeds old new taken input out_old out_new (Ok fed) = IsFed old new taken input out_old out_new fed
Feeds old new taken input out_old out_new (Err e) = IsRefused old new taken input out_old out_new e
