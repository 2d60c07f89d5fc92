-- What opening a sealed source does (this project's own).
use Rattle.std.specs.Prelude.{◌≡◌, ℕ, ◌<◌, ◌≤◌, List, length, take, IfSome, ⊤}
use Rattle.std.specs.List.{concat}
use Rattle.std.specs.Io.KnownBytes.{Appends, IsAtEnd}
use Rattle.program_io.specs.Streams.{Intake, Output, AppendsPrefix}
use Rattle.aegis_stream.specs.Unspell.{State, unspell}
use Rattle.aegis_stream.specs.Unspell.State.{Ended, Trailing, Frame, Tag, More}
use Rattle.seal_run.specs.Ends.{Runs, Untouched, most_bytes}
use Rattle.seal_run.specs.declared.ends.StreamEnd.{StreamEnd}
use Rattle.seal_run.specs.declared.ends.StreamEnd.TheVariants.{Whole, ReadFault, WriteFault, OutOfMemory, NotAStream, TooLong}

-- what the first bytes of a source release, and how the stream stands after them
abbrev pub released : List ℕ → List ℕ → List ℕ
released key bytes = concat (unspell key (take most_bytes bytes)).messages

abbrev pub state_of : List ℕ → List ℕ → State
state_of key bytes = (unspell key (take most_bytes bytes)).state

-- these bytes are no stream: a frame has no form or does not open, bytes follow the end, or more are due and none are there
abbrev pub IsNoStream : State → List ℕ → Type 0
IsNoStream Ended bytes = ⊥
IsNoStream Trailing bytes = ⊤
IsNoStream Frame bytes = ⊤
IsNoStream Tag bytes = ⊤
IsNoStream More bytes = length bytes ≤ most_bytes

-- so far they may be one
abbrev pub MayBeStream : State → Type 0
MayBeStream Ended = ⊤
MayBeStream More = ⊤
MayBeStream _ = ⊥

module _ (key : List ℕ) (source : Intake) (sink : Output) where
  -- all that is released was written
  abbrev pub UnsealsAll : Type 0
  UnsealsAll = IfSome source.left (λ bytes. Appends sink.written sink.after (released key bytes))

  -- a front of it was written
  abbrev pub UnsealsFront : Type 0
  UnsealsFront = IfSome source.left (λ bytes. AppendsPrefix sink.written sink.after (released key bytes))

  -- what was taken and written, by how it ends
  abbrev pub UnsealsUpTo : StreamEnd → Type 0
  UnsealsUpTo Whole = IsAtEnd source.after × IfSome source.left (λ bytes. (length bytes ≤ most_bytes) × (state_of key bytes ≡ Ended)) × UnsealsAll
  UnsealsUpTo NotAStream = IfSome source.left (λ bytes. IsNoStream (state_of key bytes) bytes) × UnsealsAll
  UnsealsUpTo TooLong = IfSome source.left (λ bytes. (most_bytes < length bytes) × MayBeStream (state_of key bytes)) × UnsealsAll
  UnsealsUpTo ReadFault = UnsealsFront
  UnsealsUpTo WriteFault = UnsealsFront
  UnsealsUpTo OutOfMemory = Untouched source sink

-- `unseal`: what the source's stream releases
pub record Unseals (key : List ℕ) (source : Intake) (sink : Output) (end : StreamEnd) : Type 0 where
  pub runs : Runs source sink end
  pub writes : UnsealsUpTo key source sink end
