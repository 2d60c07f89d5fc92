-- What reads of an open file do, and what they answer.
use Rattle.std.proofs.Common.{◌≡◌, inl, inr, ℕ, ◌+◌, ◌-◌, ◌*◌, ◌<◌, ◌≤◌, min, Bool, true, false, cond, List, [], ◌∷◌, length, get_or, Option, Some, None, refl, sym, ◌∙◌, ap, subst, arith}
use Rattle.std.specs.Prelude.{◌⊎◌, slice_get, nat_eq, nat_lt}
use Rattle.std.proofs.lemmas.Bool.{false≢true}
use Rattle.std.proofs.lemmas.Bool.Decides.{nat_tests}
use Rattle.raf_io.specs.Source.{Takes}
use Rattle.raf_tree.specs.Hashing.{Hashing}
use Rattle.raf_tree.specs.Tree.{height}
use Rattle.raf_format.specs.Cipher.{Cipher, IsLawful}
use Rattle.raf_format.specs.File.{File, tag_len, file_layout, chunk_count, record_at, IsSealedFor, shape_of, file_of}
use Rattle.raf_format.specs.declared.header.Header.{Header}
use Rattle.raf_format.proofs.Versions.{is_tag_len}
use Rattle.raf_format.proofs.Opened.{unsealed_for}
use Rattle.raf.specs.Due.{Due, Answers, is_fault, is_refused}
use Rattle.raf.specs.Due.Due.{Exactly}
use Rattle.raf.specs.Apply.{apply, answer, cause_of}
use Rattle.raf.specs.Concern.{valid, needed, none_missing, sum_where}
use Rattle.raf.specs.Image.{changes_by, calls_by, moved_chunks}
use Rattle.raf.specs.Meaning.{Authentic, Faultable}
use Rattle.raf.specs.Outside.{Caused}
use Rattle.raf.specs.Handle.{Handle, Holds, OfTree, KeptAnswer, handle_of, limit_of, outline}
use Rattle.raf.specs.Read.{IsByteOf}
use Rattle.raf.specs.Stepped.{Stepped, Went, Answered, refuses, with_size}
use Rattle.raf.specs.Converted.{OnlyRead}
use Rattle.raf.specs.declared.command.Command.TheVariants as command
use Rattle.raf.specs.declared.command.Reply.{Reply}
use Rattle.raf.specs.declared.command.Reply.TheVariants.{Bytes, Refused}
use Rattle.raf_io.specs.declared.errors.ErrorKind.{ErrorKind}
use Rattle.raf_io.specs.declared.errors.ErrorKind.TheVariants as kinds
use Rattle.raf.proofs.Chunks.{get_chunk}
use Rattle.raf.proofs.Moves.{moved_same, moved_less, moved_then}
use Rattle.raf.proofs.Places.{counts_below}
use Rattle.raf.proofs.StillSteps.{sum_none, still_file, still_asks}

-- ---- what a read counts

module _ (limit : Option ℕ) (F : File) (offset len : ℕ) where
  read_changes : changes_by limit F (command.Read offset len) ≡ 0
  read_changes = go (is_refused (apply limit F (command.Read offset len)).0)
    where
      same : nat_eq F.size F.size ≡ true
      same = grind (arith, nat_tests)

      less : nat_lt F.size F.size ≡ false
      less = grind (arith, nat_tests)

      go : (t : Bool) → cond {A = ℕ} t 0 (sum_where (λ _. false) (λ _. 1) 0 (chunk_count F.shape.chunk_size F.size) + cond {A = ℕ} (nat_eq F.size F.size) 0 1 + cond {A = ℕ} (nat_lt F.size F.size) 1 0) ≡ 0
      go true = refl
      go false =
          ap (λ (n : ℕ). n + cond {A = ℕ} (nat_eq F.size F.size) 0 1 + cond {A = ℕ} (nat_lt F.size F.size) 1 0) (sum_none (λ _. 1) 0 (chunk_count F.shape.chunk_size F.size))
          ∙ ap (λ (t : Bool). 0 + cond {A = ℕ} t 0 1 + cond {A = ℕ} (nat_lt F.size F.size) 1 0) same
          ∙ ap (λ (t : Bool). 0 + 0 + cond {A = ℕ} t 1 0) less

  read_moves : moved_chunks F (command.Read offset len) ≡ 0
  read_moves = ap (λ (n : ℕ). n + (chunk_count F.shape.chunk_size F.size - chunk_count F.shape.chunk_size F.size)) (sum_none (λ _. 1) 0 (chunk_count F.shape.chunk_size F.size)) ∙ omega arith

read_calls : (limit : Option ℕ) (F : File) (offset len : ℕ) → calls_by limit F (command.Read offset len) ≡ 0
read_calls None F offset len = refl
read_calls (Some most) F offset len = go (is_refused (apply (Some most) F (command.Read offset len)).0)
  where
    go : (t : Bool) → cond {A = ℕ} t 0 (min (moved_chunks F (command.Read offset len) * (2 * height most + 1)) (2 * moved_chunks F (command.Read offset len) + 3 * height most)) ≡ 0
    go true = refl
    go false = ap (λ (n : ℕ). min (n * (2 * height most + 1)) (2 * n + 3 * height most)) (read_moves (Some most) F offset len) ∙ omega arith

takes_nothing : (old new : Option (List ℕ)) (nonces : List ℕ) → length nonces ≡ 0 → Takes old nonces new → new ≡ old
takes_nothing None None nonces none taken = refl
takes_nothing None (Some y) nonces none taken = absurd taken
takes_nothing (Some x) None nonces none taken = absurd taken
takes_nothing (Some x) (Some y) [] none taken = ap (λ (l : List ℕ). Some l) (sym taken)
takes_nothing (Some x) (Some y) (n ∷ nonces) none taken = absurd (omega (arith, none))

-- ---- a file that was only read of

pub only_same : (C : Cipher) (h : Handle) → OnlyRead C h h
only_same C h = record {
  same = refl;
  bytes = refl;
  durable = refl;
  moved = moved_less h.outside h.outside 0 0 0 0 0 _ _ _ _ _ (moved_same h.outside h.outside refl) (omega arith) (omega arith) (omega arith) (omega arith) (omega arith);
  left = λ F held. refl;
  strays = λ F held. refl;
}

-- the handle holds what it held
pub still_held : (C : Cipher) (a b : Handle) → OnlyRead C a b → (F : File) → Holds C a F → Holds C b F
still_held C a b only F held = subst (λ (h : Handle). Holds C h F) (sym only.same) (record { bytes = held.bytes; tells = only.bytes ∙ held.tells; is_file = held.is_file; file = held.file })

pub only_then : (C : Cipher) (a b d : Handle) → OnlyRead C a b → OnlyRead C b d → OnlyRead C a d
only_then C a b d one two = record {
  same = two.same ∙ ap (λ (h : Handle). handle_of d.outside h.key h.header h.tree h.broken) one.same;
  bytes = two.bytes ∙ one.bytes;
  durable = two.durable ∙ one.durable;
  moved =
      let m = moved_then a.outside b.outside d.outside _ _ _ _ _ _ _ _ _ _ one.moved two.moved in
      let e : file_layout (outline C b.header) ≡ file_layout (outline C a.header) = ap (λ (h : Handle). file_layout (outline C h.header)) one.same in
      record {
        exact = m.exact;
        setting = m.setting;
        io_later = m.io_later;
        rng_later = m.rng_later;
        hash_later = m.hash_later;
        reach_later = m.reach_later;
        reach_most = omega (arith, m.reach_most, e);
        traffic_later = m.traffic_later;
        traffic_most = omega arith;
        asked_later = m.asked_later;
        asked_most = omega (arith, m.asked_most);
        changes_later = m.changes_later;
        changes_most = omega (arith, m.changes_most);
        calls_later = m.calls_later;
        calls_most = omega (arith, m.calls_most);
        strays_later = m.strays_later;
      };
  left = λ F held. two.left F (still_held C a b one F held) ∙ one.left F held;
  strays = λ F held. two.strays F (still_held C a b one F held) ∙ one.strays F held;
}

module _ (C : Cipher) (E : List ℕ → Hashing) (old new : Handle) (offset len : ℕ) (reply : Reply) (unmarked : old.broken ≡ false) (stepped : Stepped C E old new (command.Read offset len) reply) where
  went : Went C E old new (command.Read offset len) reply
  went = stepped.went unmarked

  header : new.header ≡ old.header
  header = go (refuses reply) went.stays.header
    where
      go : (t : Bool) → new.header ≡ cond {A = Header} t old.header (with_size old.header old.header.file_size) → new.header ≡ old.header
      go true is = is
      go false is = is

  broken : new.broken ≡ false
  broken = go new.broken refl
    where
      go : (t : Bool) → new.broken ≡ t → new.broken ≡ false
      go false is = is
      go true is = absurd (false≢true (went.marked.cause is).0)

  -- a read leaves the file
  pub only_read : OnlyRead C old new
  only_read = record {
    same = (λ i. handle_of new.outside (went.stays.key i) (header i) ((went.stays.bytes (inl refl)).1 i) ((broken ∙ sym unmarked) i));
    bytes = (went.stays.bytes (inl refl)).0;
    durable = went.stays.durable (inl refl);
    moved =
        let m = went.bounded (outline C old.header) (inr refl) in
        let still : file_layout (apply (limit_of old) (outline C old.header) (command.Read offset len)).1 ≡ file_layout (outline C old.header) =
        ap file_layout (still_file (limit_of old) (outline C old.header) (command.Read offset len) refl) in
        record {
          exact = m.exact;
          setting = m.setting;
          io_later = m.io_later;
          rng_later = m.rng_later;
          hash_later = m.hash_later;
          reach_later = m.reach_later;
          reach_most = omega (arith, m.reach_most, still);
          traffic_later = m.traffic_later;
          traffic_most = omega arith;
          asked_later = m.asked_later;
          asked_most = omega (arith, m.asked_most, still_asks (limit_of old) (outline C old.header) (command.Read offset len) refl);
          changes_later = m.changes_later;
          changes_most = omega (arith, m.changes_most, read_changes (limit_of old) (outline C old.header) offset len);
          calls_later = m.calls_later;
          calls_most = omega (arith, m.calls_most, read_calls (limit_of old) (outline C old.header) offset len);
          strays_later = m.strays_later;
        };
    left = λ F held. left F held (is_fault reply) refl;
    strays = went.strays;
  }
    where
      left : (F : File) → Holds C old F → (t : Bool) → is_fault reply ≡ t → new.outside.left ≡ old.outside.left
      left F held false calm =
          let a = went.answered F held calm in
          takes_nothing old.outside.left new.outside.left a.nonces (a.drawn ∙ still_asks (limit_of old) F (command.Read offset len) refl) a.taken
      left F held true fault =
          let (got, few, taken) = (went.cut F held fault).left in
          takes_nothing old.outside.left new.outside.left got (omega (arith, few, still_asks (limit_of old) F (command.Read offset len) refl)) taken

-- ---- what a read answers

-- a read that ends within the file answers as many bytes as were asked
pub read_len : (C : Cipher) (E : List ℕ → Hashing) (old new : Handle) (offset len : ℕ) (got : List ℕ) → old.broken ≡ false → Stepped C E old new (command.Read offset len) (Bytes got)
    → offset + len ≤ old.header.file_size → length got ≡ len
read_len C E old new offset len got unmarked stepped within = elim ((stepped.went unmarked).shaped refl) [
  | inl (is, _) ↦ absurd (other is)
  | inr (bytes, is, long) ↦ omega (arith, ap length (same bytes is), long, within)
]
  where
    other : Bytes got ≡ Refused kinds.AuthenticationFailed → ⊥
    other is = cc

    same : (bytes : List ℕ) → Bytes got ≡ Bytes bytes → got ≡ bytes
    same bytes is = cc

-- a chunk with this byte at this position, whose record is its sealed form
abbrev pub SealedByte : Cipher → List ℕ → List ℕ → File → ℕ → ℕ → Type 0
SealedByte C key b F position byte = (index : ℕ) × (m : List ℕ) × (index * F.shape.chunk_size ≤ position) × (position < index * F.shape.chunk_size + length m)
    × (byte ≡ get_or m (position - index * F.shape.chunk_size) 0)
    × IsSealedFor C (tag_len F.shape) (C.chunk_key key F.id) F.id index (record_at F.shape F.size index b) m

-- it is that of its chunk
sealed_chunk : (C : Cipher) (lawful : IsLawful C) (h : Handle) (F : File) (held : Holds C h F) (position byte : ℕ) → position < h.header.file_size → SealedByte C h.key held.bytes F position byte
    → IsByteOf F.shape.chunk_size F.chunks position byte
sealed_chunk C lawful h F held position byte inside sealed =
    subst (λ (G : File). IsByteOf G.shape.chunk_size G.chunks position byte) (sym held.file)
    (go (subst (λ (G : File). SealedByte C h.key held.bytes G position byte) held.file sealed))
  where
    go : SealedByte C h.key held.bytes (file_of C h.key h.header held.bytes) position byte → IsByteOf h.header.chunk_size (file_of C h.key h.header held.bytes).chunks position byte
    go (index, m, lo, hi, is, r) = (index, m, there, lo, hi, is)
      where
        had : index < chunk_count h.header.chunk_size h.header.file_size
        had = counts_below h.header.chunk_size h.header.file_size index (omega (arith, held.is_file.says.fields.least)) (omega (arith, lo, inside))

        there : slice_get (file_of C h.key h.header held.bytes).chunks index ≡ Some (Some m)
        there = get_chunk C (C.chunk_key h.key h.header.id) h.header held.bytes index had
            ∙ ap (λ (o : Option (List ℕ)). Some o) (unsealed_for C lawful (tag_len (shape_of C h.header)) (is_tag_len h.header.version) (C.chunk_key h.key h.header.id) h.header.id
            (record_at (shape_of C h.header) h.header.file_size index held.bytes) index m r)

module _ (C : Cipher) (lawful : IsLawful C) (E : List ℕ → Hashing) (old new : Handle) (offset len : ℕ) (got : List ℕ) (unmarked : old.broken ≡ false) (stepped : Stepped C E old new (command.Read offset len) (Bytes got))
    (within : offset + len ≤ old.header.file_size) where
  -- each byte is that of its chunk
  pub read_bytes : (F : File) → Holds C old F → (k : ℕ) → k < length got → IsByteOf F.shape.chunk_size F.chunks (offset + k) (get_or got k 0)
  read_bytes F held k lt =
      sealed_chunk C lawful old F held (offset + k) (get_or got k 0) (omega (arith, lt, read_len C E old new offset len got unmarked stepped within, within))
      (sealed (valid (limit_of old) F (command.Read offset len)) a.due a.authentic)
    where
      a : Answered C E old new F held.bytes (command.Read offset len) (Bytes got)
      a = (stepped.went unmarked).answered F held refl

      sealed : (t : Bool) → Answers (λ r. OfTree E old (KeptAnswer F (command.Read offset len) r)) (cond {A = Due × File} t (answer F (command.Read offset len), F) (Exactly (Refused (cause_of (limit_of old) F (command.Read offset len))), F)).0 (Bytes got)
          → Authentic C old.key held.bytes F (command.Read offset len) (cond {A = Due × File} t (answer F (command.Read offset len), F) (Exactly (Refused (cause_of (limit_of old) F (command.Read offset len))), F)).0
          → SealedByte C old.key held.bytes F (offset + k) (get_or got k 0)
      sealed true due authentic =
          subst (λ (l : List ℕ). SealedByte C old.key held.bytes F (offset + k) (get_or l k 0)) (sym (same _ due)) (authentic k (subst (λ (l : List ℕ). k < length l) (same _ due) lt))
        where
          same : (bytes : List ℕ) → Bytes got ≡ Bytes bytes → got ≡ bytes
          same bytes is = cc
      sealed false due authentic = absurd (other (cause_of (limit_of old) F (command.Read offset len)) due)
        where
          other : (kind : ErrorKind) → Bytes got ≡ Refused kind → ⊥
          other kind is = cc

-- ---- why a read is refused

module _ (C : Cipher) (E : List ℕ → Hashing) (old new : Handle) (offset len : ℕ) (kind : ErrorKind) (unmarked : old.broken ≡ false) (stepped : Stepped C E old new (command.Read offset len) (Refused kind)) where
  no_fault : is_fault (Refused kind) ≡ false → kind ≡ kinds.AuthenticationFailed
  no_fault calm = elim ((stepped.went unmarked).shaped calm) [
    | inl (is, _) ↦ same kind is
    | inr (bytes, is, _) ↦ absurd (other bytes is)
  ]
    where
      same : (kind : ErrorKind) → Refused kind ≡ Refused kinds.AuthenticationFailed → kind ≡ kinds.AuthenticationFailed
      same kind is = cc

      other : (bytes : List ℕ) → Refused kind ≡ Bytes bytes → ⊥
      other bytes is = cc

  pub read_cause : ((kind ≡ kinds.Io) × Caused kinds.Io old.outside new.outside) ⊎ (kind ≡ kinds.AuthenticationFailed)
  read_cause = go (is_fault (Refused kind)) refl
    where
      fault_of : (k : ErrorKind) → Refused kind ≡ Refused k → kind ≡ k
      fault_of k is = cc

      -- a fault of another kind can't come
      io : (k : ErrorKind) → Caused k old.outside new.outside → Faultable (limit_of old) k (outline C old.header) (command.Read offset len) → (k ≡ kinds.Io) × Caused kinds.Io old.outside new.outside
      io kinds.Io cause may = (refl, cause)
      io kinds.Rng cause may = absurd (omega (arith, may.1, still_asks (limit_of old) (outline C old.header) (command.Read offset len) refl))
      io kinds.Hash cause may = absurd (omega (arith, may.1, read_calls (limit_of old) (outline C old.header) offset len))
      io (kinds.InvalidArgument reason) cause may = absurd cause
      io kinds.AuthenticationFailed cause may = absurd cause
      io kinds.AlreadyExists cause may = absurd cause
      io kinds.NotFound cause may = absurd cause
      io kinds.Overflow cause may = absurd cause
      io kinds.MerkleNotEnabled cause may = absurd cause
      io (kinds.CorruptedChunk index) cause may = absurd cause
      io kinds.Broken cause may = absurd cause
      io kinds.OutOfMemory cause may = absurd cause

      go : (t : Bool) → is_fault (Refused kind) ≡ t → ((kind ≡ kinds.Io) × Caused kinds.Io old.outside new.outside) ⊎ (kind ≡ kinds.AuthenticationFailed)
      go false calm = inr (no_fault calm)
      go true fault =
          let f = (stepped.went unmarked).failed fault in
          let (is, cause) = io f.kind f.cause (f.may (outline C old.header) (inr refl)) in
          inl (fault_of f.kind f.is ∙ is, cause)

  -- a chunk of the piece is missing
  pub read_missing : (F : File) → Holds C old F → kind ≡ kinds.AuthenticationFailed → none_missing (needed F (command.Read offset len)) 0 F.chunks ≡ false
  read_missing F held is = go (none_missing (needed F (command.Read offset len)) 0 F.chunks) refl
    where
      due : Answers (λ r. OfTree E old (KeptAnswer F (command.Read offset len) r)) (apply (limit_of old) F (command.Read offset len)).0 (Refused kind)
      due = ((stepped.went unmarked).answered F held (ap (λ (k : ErrorKind). is_fault (Refused k)) is)).due

      go : (t : Bool) → none_missing (needed F (command.Read offset len)) 0 F.chunks ≡ t → none_missing (needed F (command.Read offset len)) 0 F.chunks ≡ false
      go false missing = missing
      go true yes_ = absurd (other _ (subst (λ (t : Bool). Answers (λ r. OfTree E old (KeptAnswer F (command.Read offset len) r))
          (cond {A = Due × File} t (answer F (command.Read offset len), F) (Exactly (Refused (cause_of (limit_of old) F (command.Read offset len))), F)).0 (Refused kind)) valid_is due))
        where
          valid_is : valid (limit_of old) F (command.Read offset len) ≡ true
          valid_is = rw yes_ refl

          other : (bytes : List ℕ) → Refused kind ≡ Bytes bytes → ⊥
          other bytes is = cc
