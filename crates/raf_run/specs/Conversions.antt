-- How a conversion may end (this project's own).
use Rattle.std.specs.Prelude.{◌≡◌, ◌⊎◌, [], ℕ, List, Some, None, Result, Ok, Err}
use Rattle.aegis_core.specs.declared.variant.Variant.{Variant}
use Rattle.raf_format.specs.Cipher.{Cipher, cipher_of}
use Rattle.raf_format.specs.Numbers.{variant_of}
use Rattle.raf_format.specs.Version.{version_number}
use Rattle.raf_io.specs.Kinds.{kind_of}
use Rattle.raf_io.specs.declared.errors.Error.{Error}
use Rattle.raf_io.specs.declared.errors.ErrorKind.{ErrorKind}
use Rattle.raf_io.specs.declared.errors.ErrorKind.TheVariants.{OutOfMemory}
use Rattle.raf.specs.Converted.{Converted}
use Rattle.raf.specs.Handle.{Handle}
use Rattle.raf.specs.Opening.{Settings, Opened, NotOpened, Made, NotMade}
use Rattle.raf.specs.Outside.{Outside}
use Rattle.raf.specs.declared.command.Reply.{Reply}
use Rattle.raf.specs.declared.converting.ConvertError.{ConvertError}
use Rattle.raf_script.specs.declared.conversion.Conversion.{Conversion}
use Rattle.raf_run.specs.Disk.{memory_of, over}
use Rattle.raf_run.specs.Ends.{Ground, BuilderOf, answers_of}
use Rattle.raf_run.specs.declared.answer.End.{End}

-- a piece has so many bytes
abbrev pub piece_len : ℕ
piece_len = 65536

-- what a file without a hasher stands on
abbrev pub bare : Variant → List ℕ → List ℕ → Ground
bare v key random = record { cipher = cipher_of v; key = key; answers = answers_of None; most = None; setting = None; random = Some random }

-- ---- files in memory

module _ (G : Ground) where
  -- a file was opened in memory that held these bytes
  abbrev pub OpenedIn : List ℕ → Handle → Type 0
  OpenedIn bytes file = (b : Settings) × BuilderOf G b × Opened G.cipher G.answers G.key b.most (over (memory_of bytes) b.outside) file

  -- none was
  abbrev pub NotOpenedIn : List ℕ → ErrorKind → Type 0
  NotOpenedIn bytes kind = (b : Settings) × BuilderOf G b
      × ((after : Outside) × NotOpened G.cipher G.answers G.key b.most (over (memory_of bytes) b.outside) after kind)

  module _ (size number : ℕ) where
    -- the builder of a file of this chunk size and version number
    pub record Maker (b : Settings) : Type 0 where
      pub builder : BuilderOf G b
      pub chunk_size : b.chunk_size ≡ size
      pub version : b.version ≡ number

    -- such a file was made in empty memory
    abbrev pub MadeIn : Handle → Type 0
    MadeIn file = (b : Settings) × Maker b × Made G.cipher G.answers G.key b (over (memory_of []) b.outside) file

    -- none was, and the memory holds these bytes
    abbrev pub NotMadeIn : ErrorKind → List ℕ → Type 0
    NotMadeIn kind bytes = (b : Settings) × Maker b
        × ((after : Outside) × NotMade G.answers b (over (memory_of []) b.outside) after kind × (after.bytes ≡ Some bytes))

-- ---- conversions

-- refused by this kind of error
abbrev pub RefusedBy : ErrorKind → End → Type 0
RefusedBy kind end = (error : Error) × (end.outcome ≡ Err error) × (kind_of error ≡ kind)

-- the outcome of a conversion, which has no reply
abbrev pub outcome_of : Result (Unit {0}) ConvertError → Result (List Reply) Error
outcome_of (Ok _) = Ok []
outcome_of (Err e) = Err e.error

-- an open file was moved into a new one, as far as that goes, and this is what the new storage holds then
pub record Moved (C D : Cipher) (from to : Handle) (end : End) : Type 0 where
  pub from' : Handle
  pub to' : Handle
  pub result : Result (Unit {0}) ConvertError
  pub converted : Converted C D (answers_of None) (answers_of None) piece_len from from' to to' result
  pub outcome : end.outcome ≡ outcome_of result
  pub storage : to'.outside.bytes ≡ Some end.storage

module _ (c : Conversion) where
  -- what the old file stands on: it has no random bytes
  abbrev pub old_ground : Ground
  old_ground = bare (variant_of c.old_algorithm) c.old_key []

  -- what the new file stands on
  abbrev pub new_ground : Ground
  new_ground = bare (variant_of c.algorithm) c.key c.random

  -- the old file wasn't opened, and nothing is written
  abbrev pub EndsUnopened : End → Type 0
  EndsUnopened end = (kind : ErrorKind) × NotOpenedIn old_ground c.storage kind × RefusedBy kind end × (end.storage ≡ [])

  -- the old file was opened, and the new one wasn't made
  abbrev pub EndsUnmade : End → Type 0
  EndsUnmade end = (kind : ErrorKind) × NotMadeIn new_ground c.chunk_size (version_number c.version) kind end.storage × RefusedBy kind end

  -- the new file was made, and the old one moved into it
  abbrev pub EndsMoved : Handle → End → Type 0
  EndsMoved from end = (to : Handle) × MadeIn new_ground c.chunk_size (version_number c.version) to
      × Moved old_ground.cipher new_ground.cipher from to end

  -- no memory was found for a piece, before all else
  abbrev pub EndsStarved : End → Type 0
  EndsStarved end = RefusedBy OutOfMemory end × (end.storage ≡ [])

  -- how a conversion may end
  abbrev pub EndsConverted : End → Type 0
  EndsConverted end = EndsUnopened end ⊎ EndsStarved end
      ⊎ ((from : Handle) × OpenedIn old_ground c.storage from × (EndsUnmade end ⊎ EndsMoved from end))
