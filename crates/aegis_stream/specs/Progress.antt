-- How far the frames of a stream are opened (this project's own).
use Rattle.std.specs.Prelude.{◌≡◌, ℕ, ◌+◌, ◌<◌, ◌≤◌, ◌⊎◌, [], ◌++◌, List, length, take, drop, Bool, true, false, Some, None, Result, Ok, Err, if◌then◌else◌}
use Rattle.aegis_stream.specs.Unspell.{State, Next, Unspelled, next, no_more, past_end, is_malformed, is_whole, unspell_from}
use Rattle.aegis_stream.specs.Unspell.Next.{Opens, Stops}
use Rattle.aegis_stream.specs.Opening.{is_ended, refusal_of}
use Rattle.aegis_stream.specs.declared.error.StreamError.{StreamError}
use Rattle.aegis_stream.specs.declared.fed.Fed.{Fed}

-- the bytes of the frame that is begun, how many frames were opened, and whether the last of them ended the stream
pub record Progress : Type 0 where
  pub begun : List ℕ
  pub frames : ℕ
  pub ended : Bool

-- bytes of a frame that is not whole, in the grammar as far as they go
pub record IsBegun (b : List ℕ) : Type 0 where
  pub formed : is_malformed b ≡ false
  pub part : is_whole b ≡ false

-- what further bytes bring
unfoldable pub next_in : List ℕ → List ℕ → Progress → List ℕ → Next
next_in key prefix p x = if p.ended then Stops (past_end x) else next key prefix p.frames (p.begun ++ x)

-- what further bytes give
unfoldable pub unspell_in : List ℕ → List ℕ → Progress → List ℕ → Unspelled
unspell_in key prefix p x = if p.ended then no_more (past_end x) else unspell_from key prefix p.frames (p.begun ++ x)

-- all of the input was taken, and brings no frame
pub record IsKept (key prefix : List ℕ) (old new : Progress) (input out_old out_new : List ℕ) (fed : Fed) : Type 0 where
  pub state : State
  pub brings : next_in key prefix old input ≡ Stops state
  pub due : refusal_of state ≡ None
  pub now : new ≡ record old { begun = old.begun ++ input }
  pub out : out_new ≡ out_old
  pub taken : fed.taken ≡ length input
  pub written : fed.written ≡ 0
  pub ended : (fed.ended ≡ is_ended state) × (fed.ended ≡ old.ended)

-- the rest of a frame was taken, and its message written
pub record IsOpened (key prefix : List ℕ) (old new : Progress) (input out_old out_new : List ℕ) (fed : Fed) : Type 0 where
  pub last : Bool
  pub message : List ℕ
  pub going : old.ended ≡ false
  pub whole : is_whole (old.begun ++ take fed.taken input) ≡ true
  pub opens : next key prefix old.frames (old.begun ++ take fed.taken input) ≡ Opens last message
  pub now : new ≡ record { begun = []; frames = old.frames + 1; ended = last }
  pub within : fed.taken ≤ length input
  pub taken : length old.begun + fed.taken ≡ 21 + length message
  pub some : 0 < fed.taken
  pub written : fed.written ≡ length message
  pub out : take fed.written out_new ≡ message
  pub rest : drop fed.written out_new ≡ drop fed.written out_old
  pub ended : fed.ended ≡ last

-- nothing was taken
pub record IsStopped (key prefix : List ℕ) (old new : Progress) (input out_old out_new : List ℕ) (e : StreamError) : Type 0 where
  pub state : State
  pub brings : next_in key prefix old input ≡ Stops state
  pub due : refusal_of state ≡ Some e
  pub count : length new.begun ≡ length old.begun
  pub frames : new.frames ≡ old.frames
  pub ended : new.ended ≡ old.ended
  pub out : out_new ≡ out_old

-- one call's way through the input
abbrev pub Moves : List ℕ → List ℕ → Progress → Progress → List ℕ → List ℕ → List ℕ → Result Fed StreamError → Type 0
Moves key prefix old new input out_old out_new (Ok fed) =
    IsKept key prefix old new input out_old out_new fed ⊎ IsOpened key prefix old new input out_old out_new fed
Moves key prefix old new input out_old out_new (Err e) = IsStopped key prefix old new input out_old out_new e
