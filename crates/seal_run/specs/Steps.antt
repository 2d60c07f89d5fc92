-- One frame that is sealed and written, and one piece of a stream that is opened: what the code below `seal` and `unseal` hands on
-- (this project's own).
use Rattle.std.specs.Prelude.{◌≡◌, ℕ, ◌≤◌, ◌∷◌, [], ◌++◌, List, Bool, Option, Some, None, Result, Ok, Err, OnOk}
use Rattle.std.specs.List.{concat}
use Rattle.std.specs.Io.KnownBytes.{Appends}
use Rattle.counts.specs.Counts.{Rose, HasCause}
use Rattle.program_io.specs.Streams.{Output, AppendsPrefix, TellsAsBefore}
use Rattle.program_io.specs.declared.streams.Failed.{Failed}
use Rattle.aegis_stream.specs.Sealing.{Sealing, Spells}
use Rattle.aegis_stream.specs.Unspell.{unspell}
use Rattle.aegis_stream.specs.Opening.{Opening, Took, is_ended, refusal_of}
use Rattle.aegis_stream.specs.declared.error.StreamError.{StreamError}
use Rattle.seal_run.specs.declared.ends.StreamEnd.{StreamEnd}
use Rattle.seal_run.specs.declared.ends.StreamEnd.TheVariants.{WriteFault, NotAStream}

-- a message was sealed, and its frame written, or a front of it where the sink failed
pub record Puts (old new : Sealing) (message : List ℕ) (last : Bool) (sink : Output) (result : Result (Unit {0}) Failed) : Type 0 where
  pub key : new.key ≡ old.key
  pub prefix : new.prefix ≡ old.prefix
  pub ended : new.ended ≡ last
  pub text : List ℕ
  pub stream : (messages : List (List ℕ)) (so_far : List ℕ) → Spells old messages so_far → Spells new (messages ++ message ∷ []) (so_far ++ text)
  pub whole : OnOk result (Appends sink.written sink.after text)
  pub front : AppendsPrefix sink.written sink.after text
  pub cause : HasCause sink.faults sink.faults_after result
  pub tells : TellsAsBefore sink.written sink.after

-- an opener that had taken these bytes took more, and the stream goes on or is ended
pub record GoesOn (old new : Opening) (taken more : List ℕ) (answer : Bool) : Type 0 where
  pub key : new.key ≡ old.key
  pub going : new.refused ≡ None
  pub took : Took new (taken ++ more)
  pub ended : answer ≡ is_ended (unspell old.key (taken ++ more)).state
  pub due : refusal_of (unspell old.key (taken ++ more)).state ≡ None

-- further bytes of a stream release this text
abbrev pub Releases : List ℕ → List ℕ → List ℕ → List ℕ → Type 0
Releases key taken more text = concat (unspell key (taken ++ more)).messages ≡ concat (unspell key taken).messages ++ text

module _ (old new : Opening) (taken piece : List ℕ) (sink : Output) where
  -- all that the piece releases was written
  abbrev pub WritesAll : Type 0
  WritesAll = (text : List ℕ) × Releases old.key taken piece text × Appends sink.written sink.after text

  -- a front of it was written
  abbrev pub WritesFront : Type 0
  WritesFront = (text : List ℕ) × Releases old.key taken piece text × AppendsPrefix sink.written sink.after text

  -- a piece was opened: whether the stream is ended then, or why no more is taken
  abbrev pub Opens : Result Bool StreamEnd → Type 0
  Opens (Ok ended) = GoesOn old new taken piece ended × WritesAll × (sink.faults_after ≡ sink.faults)
  Opens (Err NotAStream) = ((e : StreamError) × (refusal_of (unspell old.key (taken ++ piece)).state ≡ Some e)) × WritesAll × (sink.faults_after ≡ sink.faults)
  Opens (Err WriteFault) = WritesFront × (sink.faults ≤ sink.faults_after) × Rose sink.faults sink.faults_after
  Opens (Err _) = ⊥
