-- What a storage's header tells without a key, and why no key is derived (this project's own).
use Rattle.std.specs.Prelude.{◌≡◌, ℕ, false, List, Some, None, Result, IfOk, IfErr, OnOk, ⊤}
use Rattle.raf_format.specs.Header.{Says}
use Rattle.raf_format.specs.Numbers.{number_of}
use Rattle.raf_format.specs.Derived.{WhyNotDerived}
use Rattle.raf_format.specs.declared.header.Header.{Header}
use Rattle.raf_format.specs.declared.algorithm_id.AlgorithmId.{AlgorithmId}
use Rattle.raf_format.specs.declared.algorithm_id.RafInfo.{RafInfo}
use Rattle.raf_format.specs.declared.error.FormatError.{FormatError}
use Rattle.raf_format.specs.declared.error.FormatError.TheVariants as format
use Rattle.raf_io.specs.declared.storage.RafIo.{Ghosts as IoGhosts}
use Rattle.raf_io.specs.Kinds.{kind_of}
use Rattle.raf_io.specs.declared.errors.Error.{Error}
use Rattle.raf_io.specs.declared.errors.Reason.{Reason}
use Rattle.raf_io.specs.declared.errors.Reason.TheVariants as reason
use Rattle.raf_io.specs.declared.errors.ErrorKind.{ErrorKind}
use Rattle.raf_io.specs.declared.errors.ErrorKind.TheVariants.{Io, InvalidArgument}
use Rattle.raf.specs.Outside.{Outside, Kept, Quiet, Moved}
use Rattle.raf.specs.Opening.{RefusalFault}

-- a storage beside neither source nor hasher
abbrev pub alone : {I : Type 0} → IoGhosts I → I → Outside
alone io w = record {
  bytes = io.bytes w;
  durable = io.durable w;
  io_faults = io.faults w;
  reach = io.reach w;
  traffic = io.traffic w;
  changes = io.changes w;
  strays = io.strays w;
  left = None;
  rng_faults = 0;
  asked = 0;
  exact = false;
  setting = None;
  hash_faults = 0;
  calls = 0;
}

-- what a header tells
pub record TellsOf (b : List ℕ) (info : RafInfo) : Type 0 where
  pub header : Header
  pub says : Says b header
  pub algorithm : number_of info.algorithm ≡ header.algorithm
  pub chunk_size : info.chunk_size ≡ header.chunk_size
  pub file_size : info.file_size ≡ header.file_size

-- why bytes tell nothing, each cause where none before it stands
abbrev pub WhyNotProbed : List ℕ → ErrorKind → Type 0
WhyNotProbed b Io = ⊤
WhyNotProbed b (InvalidArgument reason.Header) = (h : Header) → Says b h → ⊥
WhyNotProbed b (InvalidArgument reason.UnknownAlgorithm) = (h : Header) × Says b h × ((a : AlgorithmId) → number_of a ≡ h.algorithm → ⊥)
WhyNotProbed b _ = ⊥

-- the kinds of it
abbrev pub IsProbeKind : ErrorKind → Type 0
IsProbeKind Io = ⊤
IsProbeKind (InvalidArgument reason.Header) = ⊤
IsProbeKind (InvalidArgument reason.UnknownAlgorithm) = ⊤
IsProbeKind _ = ⊥

-- a look at the header of a storage, which is read at most
pub record Probed (old new : Outside) (result : Result RafInfo Error) : Type 0 where
  pub told : (b : List ℕ) → old.bytes ≡ Some b → IfOk result (TellsOf b)
  pub why : (b : List ℕ) → old.bytes ≡ Some b → IfErr result (λ e. WhyNotProbed b (kind_of e))
  pub kinds : IfErr result (λ e. IsProbeKind (kind_of e))
  pub fault : IfErr result (λ e. RefusalFault (kind_of e) old new)
  pub quiet : OnOk result (Quiet old new)
  pub kept : Kept old new
  pub moved : Moved old new 96 96 0 0 0
  pub strays : (b : List ℕ) → old.bytes ≡ Some b → new.strays ≡ old.strays

-- the reason of the same name
abbrev pub reason_named : FormatError → Reason
reason_named format.Header = reason.Header
reason_named format.UnknownAlgorithm = reason.UnknownAlgorithm
reason_named format.KeyLength = reason.KeyLength
reason_named format.ContextTooLong = reason.ContextTooLong

-- why a key of this length gives none for a context of this length
abbrev pub WhyNoKey : ℕ → ℕ → ErrorKind → Type 0
WhyNoKey key_len context_len kind = (e : FormatError) × (kind ≡ InvalidArgument (reason_named e)) × WhyNotDerived key_len context_len e
