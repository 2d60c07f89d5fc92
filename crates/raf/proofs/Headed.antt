-- A file whose header was found, and why one was not opened before its tree was made.
use Rattle.std.proofs.Common.{◌≡◌, inl, inr, ℕ, ◌+◌, ◌≤◌, min, max, List, length, Option, Some, None, subst, arith}
use Rattle.raf_tree.specs.Hashing.{Hashing}
use Rattle.raf_format.specs.Cipher.{Cipher}
use Rattle.raf_format.specs.Header.{Tagged}
use Rattle.raf_format.specs.File.{chunk_count}
use Rattle.raf_format.specs.declared.header.Header.{Header}
use Rattle.raf_io.specs.declared.errors.ErrorKind.{ErrorKind}
use Rattle.raf_io.specs.declared.errors.ErrorKind.TheVariants.{Io, InvalidArgument, AuthenticationFailed, AlreadyExists, NotFound, Overflow, MerkleNotEnabled, CorruptedChunk, Rng, Hash, Broken, OutOfMemory}
use Rattle.raf_io.specs.declared.errors.Reason.TheVariants as reason
use Rattle.raf.specs.Outside.{Outside, Kept, Quiet, Moved}
use Rattle.raf.specs.Opening.{LaidOut, WhyNotLaidOut, WhyNoTree, WhyNotRead, NumbersRefuse, RefusalFault, Room, Looked, Within, NotOpened, TreeMade, opening_traffic}
use Rattle.std.specs.Option.{option_map}
use Rattle.raf_tree.specs.Kept.{Kept as Tree}
use Rattle.raf.proofs.Moves.{moved_later}

-- no more was asked than the header
pub looked_bare : (old new : Outside) (most : Option ℕ) → Kept old new → Moved old new 96 96 0 0 0 → ((b : List ℕ) → old.bytes ≡ Some b → Within old new (length b)) → Looked old new most
looked_bare old new most kept moved within = record {
  kept = kept;
  later = moved_later old new _ _ _ _ _ moved;
  moved = λ b tells. let w = within b tells in record {
    exact = moved.exact;
    setting = moved.setting;
    io_later = moved.io_later;
    rng_later = moved.rng_later;
    hash_later = moved.hash_later;
    reach_later = moved.reach_later;
    reach_most = w.reach;
    traffic_later = moved.traffic_later;
    traffic_most = traffic most (length b) w.traffic;
    asked_later = moved.asked_later;
    asked_most = moved.asked_most;
    changes_later = moved.changes_later;
    changes_most = moved.changes_most;
    calls_later = moved.calls_later;
    calls_most = omega arith;
    strays_later = moved.strays_later;
  };
  calls = λ b h tells says. omega (arith, moved.calls_most);
  unhashed = λ b tells none. omega (arith, moved.calls_later, moved.calls_most);
  header_alone = λ _. moved;
  strays = λ b tells. (within b tells).strays;
}
  where
    traffic : (most : Option ℕ) (len : ℕ) → new.traffic ≤ old.traffic + min 96 len → new.traffic ≤ old.traffic + opening_traffic most len
    traffic None len le = le
    traffic (Some n) len le = omega (arith, le)

module _ (C : Cipher) (E : List ℕ → Hashing) (key : List ℕ) (most : Option ℕ) (old new : Outside) (kept : Kept old new) (moved : Moved old new 96 96 0 0 0)
    (within : (b : List ℕ) → old.bytes ≡ Some b → Within old new (length b)) where
  -- no header was found
  pub refused_header : (kind : ErrorKind) → ((b : List ℕ) → old.bytes ≡ Some b → WhyNotLaidOut C b kind) → NumbersRefuse E old.setting most kind → RefusalFault kind old new
      → NotOpened C E key most old new kind
  refused_header kind why numbers fault = record {
    why = λ b tells. inl (why b tells);
    numbers = numbers;
    fault = fault;
    looked = looked_bare old new most kept moved within;
  }

  module _ (h : Header) (laid : (b : List ℕ) → old.bytes ≡ Some b → LaidOut C b h) (quiet : Quiet old new) where
    -- there is no tree for its hasher
    pub refused_tree : (kind : ErrorKind) → WhyNoTree E old.setting most (chunk_count h.chunk_size h.file_size) kind → NotOpened C E key most old new kind
    refused_tree kind why = record {
      why = λ b tells. inr (h, laid b tells, read kind why b);
      numbers = numbers kind why;
      fault = fault kind why;
      looked = looked_bare old new most kept moved within;
    }
      where
        read : (kind : ErrorKind) → WhyNoTree E old.setting most (chunk_count h.chunk_size h.file_size) kind → (b : List ℕ) → WhyNotRead C E key old.setting most b h kind
        read (InvalidArgument r) why b = why
        read Overflow why b = why
        read OutOfMemory why b = tt
        read Io why b = absurd why
        read AuthenticationFailed why b = absurd why
        read AlreadyExists why b = absurd why
        read NotFound why b = absurd why
        read MerkleNotEnabled why b = absurd why
        read (CorruptedChunk i) why b = absurd why
        read Rng why b = absurd why
        read Hash why b = absurd why
        read Broken why b = absurd why

        numbers : (kind : ErrorKind) → WhyNoTree E old.setting most (chunk_count h.chunk_size h.file_size) kind → NumbersRefuse E old.setting most kind
        numbers (InvalidArgument reason.HashLen) why = (chunk_count h.chunk_size h.file_size, why)
        numbers (InvalidArgument reason.MaxChunks) why = (chunk_count h.chunk_size h.file_size, why)
        numbers (InvalidArgument reason.Header) why = tt
        numbers (InvalidArgument reason.UnknownAlgorithm) why = absurd why
        numbers (InvalidArgument reason.AlgorithmMismatch) why = tt
        numbers (InvalidArgument reason.Layout) why = tt
        numbers (InvalidArgument reason.ChunkSize) why = absurd why
        numbers (InvalidArgument reason.KeyLength) why = absurd why
        numbers (InvalidArgument reason.ContextTooLong) why = absurd why
        numbers (InvalidArgument reason.CommitmentBuffer) why = absurd why
        numbers (InvalidArgument reason.SeekOverflow) why = absurd why
        numbers Overflow why = (chunk_count h.chunk_size h.file_size, why)
        numbers OutOfMemory why = (0, tt)
        numbers Io why = absurd why
        numbers AuthenticationFailed why = absurd why
        numbers AlreadyExists why = absurd why
        numbers NotFound why = absurd why
        numbers MerkleNotEnabled why = absurd why
        numbers (CorruptedChunk i) why = absurd why
        numbers Rng why = absurd why
        numbers Hash why = absurd why
        numbers Broken why = absurd why

        fault : (kind : ErrorKind) → WhyNoTree E old.setting most (chunk_count h.chunk_size h.file_size) kind → RefusalFault kind old new
        fault (InvalidArgument r) why = quiet
        fault Overflow why = quiet
        fault OutOfMemory why = quiet
        fault Io why = absurd why
        fault AuthenticationFailed why = quiet
        fault AlreadyExists why = quiet
        fault NotFound why = quiet
        fault MerkleNotEnabled why = quiet
        fault (CorruptedChunk i) why = quiet
        fault Rng why = absurd why
        fault Hash why = absurd why
        fault Broken why = quiet

    -- the header's tag is wrong
    pub refused_tag : Room E old.setting most (chunk_count h.chunk_size h.file_size) → ((b : List ℕ) → old.bytes ≡ Some b → Tagged C key b → ⊥) → NotOpened C E key most old new AuthenticationFailed
    refused_tag room wrong = record {
      why = λ b tells. inr (h, laid b tells, (room, inl (wrong b tells)));
      numbers = λ x n set limit. ((room x n set limit).0, omega arith);
      fault = quiet;
      looked = looked_bare old new most kept moved within;
    }

-- a tree that was made for a setting and a count that are these
pub made_for : (E : List ℕ → Hashing) (max : ℕ) (setting setting' : Option (List ℕ)) (count count' : ℕ) (tree : Option Tree) → setting ≡ setting' → count ≡ count'
    → TreeMade E setting (option_map (λ (_ : List ℕ). max) setting) count tree → TreeMade E setting' (option_map (λ (_ : List ℕ). max) setting') count' tree
made_for E max setting setting' count count' tree same counts made =
    subst (λ (o : Option (List ℕ)). TreeMade E o (option_map (λ (_ : List ℕ). max) o) count' tree) same
    (subst (λ (n : ℕ). TreeMade E setting (option_map (λ (_ : List ℕ). max) setting) n tree) counts made)
