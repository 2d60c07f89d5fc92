-- Why a file without a hasher isn't opened or made: the causes, each where none before it stands, and no two at once.
use Rattle.std.proofs.Common.{◌≡◌, ℕ, ◌≤◌, Bool, true, false, ◌&&◌, List, length, Option, Some, None, refl, sym, ap, ◌∙◌, arith, subst, inl, inr}
use Rattle.std.specs.Prelude.{◌⊎◌, ◌≢◌, nat_le, is_some}
use Rattle.std.proofs.lemmas.Bool.Decides.{nat_tests}
use Rattle.raf_format.specs.Cipher.{Cipher}
use Rattle.raf_format.specs.Header.{Says, Tagged}
use Rattle.raf_format.specs.File.{File, Opens, shape_of, layout_len, chunk_count}
use Rattle.raf_format.specs.declared.header.Header.{Header}
use Rattle.raf_format.proofs.Headers.{says_one}
use Rattle.raf_io.specs.Source.{IsShort}
use Rattle.raf_io.specs.declared.errors.ErrorKind.{ErrorKind}
use Rattle.raf_io.specs.declared.errors.ErrorKind.TheVariants.{Io, InvalidArgument, AuthenticationFailed, AlreadyExists, NotFound, Overflow, MerkleNotEnabled, CorruptedChunk, Rng, Hash, Broken, OutOfMemory}
use Rattle.raf_io.specs.declared.errors.Reason.TheVariants as reason
use Rattle.raf_tree.specs.Hashing.{Hashing}
use Rattle.raf.specs.Outside.{Outside}
use Rattle.raf.specs.Opening.{Settings, WhyNoTree, WhyNotLaidOut, WhyNotRead, WhyNotOpened, WhyNotMade, LaidOut, IsChunkSize}
use Rattle.raf_run.specs.ConversionLaws.{is_want}

abbrev IsCause : ErrorKind → Type 0
IsCause kind = is_want kind ≡ false

no_want : (kind : ErrorKind) → is_want kind ≡ true → IsCause kind → ⊥
no_want kind is cause = let odd : true ≡ false = sym is ∙ cause in (cc)

-- no cause comes of a tree where there is no hasher
none_some : (x : List ℕ) → ◌≡◌ {A = Option (List ℕ)} None (Some x) → ⊥
none_some x is = (cc)

no_tree : (E : List ℕ → Hashing) (count : ℕ) (kind : ErrorKind) → WhyNoTree E None None count kind → IsCause kind → ⊥
no_tree E count (InvalidArgument reason.HashLen) why cause = none_some why.0 why.2
no_tree E count (InvalidArgument reason.MaxChunks) why cause = none_some why.0 why.2
no_tree E count Overflow why cause = none_some why.0 why.2
no_tree E count OutOfMemory why cause = no_want OutOfMemory refl cause
no_tree E count Io why cause = why
no_tree E count (InvalidArgument reason.Header) why cause = why
no_tree E count (InvalidArgument reason.UnknownAlgorithm) why cause = why
no_tree E count (InvalidArgument reason.AlgorithmMismatch) why cause = why
no_tree E count (InvalidArgument reason.Layout) why cause = why
no_tree E count (InvalidArgument reason.ChunkSize) why cause = why
no_tree E count (InvalidArgument reason.KeyLength) why cause = why
no_tree E count (InvalidArgument reason.ContextTooLong) why cause = why
no_tree E count (InvalidArgument reason.CommitmentBuffer) why cause = why
no_tree E count (InvalidArgument reason.SeekOverflow) why cause = why
no_tree E count AuthenticationFailed why cause = why
no_tree E count AlreadyExists why cause = why
no_tree E count NotFound why cause = why
no_tree E count MerkleNotEnabled why cause = why
no_tree E count (CorruptedChunk index) why cause = why
no_tree E count Rng why cause = why
no_tree E count Hash why cause = why
no_tree E count Broken why cause = why

not_some : (x : Option (List ℕ)) → x ≡ None → is_some x ≡ true → ⊥
not_some None e is = let odd : false ≡ true = is in (cc)
not_some (Some x) e is = none_some x (sym e)

-- ---- openings

module _ (C : Cipher) (key b : List ℕ) where
  -- the causes that a header leaves
  abbrev Behind : Header → ErrorKind → Type 0
  Behind h kind = ((kind ≡ InvalidArgument reason.AlgorithmMismatch) × (h.algorithm ≢ C.id))
      ⊎ (((kind ≡ InvalidArgument reason.Layout) × (h.algorithm ≡ C.id) × (length b ≢ layout_len (shape_of C h) h.file_size))
      ⊎ ((kind ≡ AuthenticationFailed) × (h.algorithm ≡ C.id) × (length b ≡ layout_len (shape_of C h) h.file_size) × (Tagged C key b → ⊥)))

  abbrev Cause : ErrorKind → Type 0
  Cause kind = ((kind ≡ InvalidArgument reason.Header) × ((h : Header) → Says b h → ⊥)) ⊎ ((h : Header) × Says b h × Behind h kind)

  laid_out : (kind : ErrorKind) → WhyNotLaidOut C b kind → IsCause kind → Cause kind
  laid_out Io why cause = absurd (no_want Io refl cause)
  laid_out (InvalidArgument reason.Header) why cause = inl (refl, why)
  laid_out (InvalidArgument reason.AlgorithmMismatch) why cause = inr (why.0, why.1, inl (refl, why.2))
  laid_out (InvalidArgument reason.Layout) why cause = inr (why.0, why.1, inr (inl (refl, why.2, why.3)))
  laid_out (InvalidArgument reason.UnknownAlgorithm) why cause = absurd why
  laid_out (InvalidArgument reason.ChunkSize) why cause = absurd why
  laid_out (InvalidArgument reason.HashLen) why cause = absurd why
  laid_out (InvalidArgument reason.MaxChunks) why cause = absurd why
  laid_out (InvalidArgument reason.KeyLength) why cause = absurd why
  laid_out (InvalidArgument reason.ContextTooLong) why cause = absurd why
  laid_out (InvalidArgument reason.CommitmentBuffer) why cause = absurd why
  laid_out (InvalidArgument reason.SeekOverflow) why cause = absurd why
  laid_out AuthenticationFailed why cause = absurd why
  laid_out AlreadyExists why cause = absurd why
  laid_out NotFound why cause = absurd why
  laid_out Overflow why cause = absurd why
  laid_out MerkleNotEnabled why cause = absurd why
  laid_out (CorruptedChunk index) why cause = absurd why
  laid_out Rng why cause = absurd why
  laid_out Hash why cause = absurd why
  laid_out Broken why cause = absurd why
  laid_out OutOfMemory why cause = absurd why

  module _ (E : List ℕ → Hashing) (h : Header) (laid : LaidOut C b h) where
    untagged : (Tagged C key b → ⊥) → Cause AuthenticationFailed
    untagged never = inr (h, laid.says, inr (inr (refl, laid.algorithm, laid.length_fits, never)))

    read : (kind : ErrorKind) → WhyNotRead C E key None None b h kind → IsCause kind → Cause kind
    read AuthenticationFailed (room, inl never) cause = untagged never
    read AuthenticationFailed (room, inr (tagged, some, missing)) cause = absurd (not_some None refl some)
    read Hash (room, tagged, some) cause = absurd (not_some None refl some)
    read Io why cause = absurd (no_tree E (chunk_count h.chunk_size h.file_size) Io why cause)
    read OutOfMemory why cause = absurd (no_tree E (chunk_count h.chunk_size h.file_size) OutOfMemory why cause)
    read Overflow why cause = absurd (no_tree E (chunk_count h.chunk_size h.file_size) Overflow why cause)
    read (InvalidArgument r) why cause = absurd (no_tree E (chunk_count h.chunk_size h.file_size) (InvalidArgument r) why cause)
    read AlreadyExists why cause = absurd why
    read NotFound why cause = absurd why
    read MerkleNotEnabled why cause = absurd why
    read (CorruptedChunk index) why cause = absurd why
    read Rng why cause = absurd why
    read Broken why cause = absurd why

  caused : (E : List ℕ → Hashing) (kind : ErrorKind) → WhyNotOpened C E key None None b kind → IsCause kind → Cause kind
  caused E kind (inl why) cause = laid_out kind why cause
  caused E kind (inr (h, laid, why)) cause = read E h laid kind why cause

  one_behind : (h : Header) (j k : ErrorKind) → Behind h j → Behind h k → j ≡ k
  one_behind h j k (inl p) (inl q) = p.0 ∙ sym q.0
  one_behind h j k (inl p) (inr (inl q)) = absurd (p.1 q.1)
  one_behind h j k (inl p) (inr (inr q)) = absurd (p.1 q.1)
  one_behind h j k (inr (inl p)) (inl q) = absurd (q.1 p.1)
  one_behind h j k (inr (inl p)) (inr (inl q)) = p.0 ∙ sym q.0
  one_behind h j k (inr (inl p)) (inr (inr q)) = absurd (p.2 q.2)
  one_behind h j k (inr (inr p)) (inl q) = absurd (q.1 p.1)
  one_behind h j k (inr (inr p)) (inr (inl q)) = absurd (q.2 p.2)
  one_behind h j k (inr (inr p)) (inr (inr q)) = p.0 ∙ sym q.0

  one_of : (j k : ErrorKind) → Cause j → Cause k → j ≡ k
  one_of j k (inl p) (inl q) = p.0 ∙ sym q.0
  one_of j k (inl p) (inr q) = absurd (p.1 q.0 q.1)
  one_of j k (inr p) (inl q) = absurd (q.1 p.0 p.1)
  one_of j k (inr p) (inr q) = one_behind q.0 j k (subst (λ (h : Header). Behind h j) (says_one b p.0 q.0 p.1 q.1) p.2) q.2

  -- one cause alone
  pub one_cause : (E : List ℕ → Hashing) (j k : ErrorKind) → WhyNotOpened C E key None None b j → WhyNotOpened C E key None None b k → is_want j ≡ false → is_want k ≡ false → j ≡ k
  one_cause E j k why why' cause cause' = one_of j k (caused E j why cause) (caused E k why' cause')

  -- and none where the bytes open to a file
  pub no_cause : (E : List ℕ → Hashing) (F : File) (k : ErrorKind) → Opens C key b F → WhyNotOpened C E key None None b k → is_want k ≡ false → ⊥
  no_cause E F k o why cause = against (caused E k why cause)
    where
      behind : (h : Header) → h ≡ o.header → Behind h k → ⊥
      behind h is (inl p) = p.1 (ap (λ (h : Header). h.algorithm) is ∙ o.is_file.algorithm)
      behind h is (inr (inl p)) = p.2 (o.is_file.length_fits ∙ ap (λ (h : Header). layout_len (shape_of C h) h.file_size) (sym is))
      behind h is (inr (inr p)) = p.3 o.is_file.tagged

      against : Cause k → ⊥
      against (inl p) = p.1 o.header o.is_file.says
      against (inr p) = behind p.0 (says_one b p.0 o.header p.1 o.is_file.says) p.2

-- ---- makings

abbrev Unmade : Settings → Outside → ErrorKind → Type 0
Unmade s old kind = ((kind ≡ InvalidArgument reason.ChunkSize) × (IsChunkSize s.chunk_size → ⊥)) ⊎ ((kind ≡ Rng) × IsChunkSize s.chunk_size × IsShort old.left 32)

-- why a file wasn't made whose builder has no hasher and may take the place of what is there
pub why_unmade : (E : List ℕ → Hashing) (s : Settings) (old : Outside) (kind : ErrorKind) → s.truncate ≡ true → s.outside.setting ≡ None → s.most ≡ None → old.exact ≡ true → WhyNotMade E s old kind
    → is_want kind ≡ false → ((kind ≡ InvalidArgument reason.ChunkSize) × (IsChunkSize s.chunk_size → ⊥)) ⊎ ((kind ≡ Rng) × IsChunkSize s.chunk_size × IsShort old.left 32)
why_unmade E s old kind may setting most exact why cause = go kind why cause
  where
    tree : (kind : ErrorKind) → WhyNoTree E s.outside.setting s.most 0 kind → IsCause kind → Unmade s old kind
    tree kind why cause =
        let bare : WhyNoTree E None None 0 kind =
        subst (λ (x : Option (List ℕ)). WhyNoTree E x None 0 kind) setting (subst (λ (m : Option ℕ). WhyNoTree E s.outside.setting m 0 kind) most why) in
        absurd (no_tree E 0 kind bare cause)

    go : (kind : ErrorKind) → WhyNotMade E s old kind → IsCause kind → Unmade s old kind
    go (InvalidArgument reason.ChunkSize) why cause = inl (refl, why)
    go Io why cause = absurd (no_want Io refl cause)
    go AlreadyExists why cause = let odd : true ≡ false = sym may ∙ why.1 in (cc)
    go Rng why cause = inr (refl, why.0.chunk_size, why.2 exact)
    go Hash why cause = absurd (not_some s.outside.setting setting why.2)
    go (InvalidArgument reason.Header) why cause = tree (InvalidArgument reason.Header) why.1 cause
    go (InvalidArgument reason.UnknownAlgorithm) why cause = tree (InvalidArgument reason.UnknownAlgorithm) why.1 cause
    go (InvalidArgument reason.AlgorithmMismatch) why cause = tree (InvalidArgument reason.AlgorithmMismatch) why.1 cause
    go (InvalidArgument reason.Layout) why cause = tree (InvalidArgument reason.Layout) why.1 cause
    go (InvalidArgument reason.HashLen) why cause = tree (InvalidArgument reason.HashLen) why.1 cause
    go (InvalidArgument reason.MaxChunks) why cause = tree (InvalidArgument reason.MaxChunks) why.1 cause
    go (InvalidArgument reason.KeyLength) why cause = tree (InvalidArgument reason.KeyLength) why.1 cause
    go (InvalidArgument reason.ContextTooLong) why cause = tree (InvalidArgument reason.ContextTooLong) why.1 cause
    go (InvalidArgument reason.CommitmentBuffer) why cause = tree (InvalidArgument reason.CommitmentBuffer) why.1 cause
    go (InvalidArgument reason.SeekOverflow) why cause = tree (InvalidArgument reason.SeekOverflow) why.1 cause
    go AuthenticationFailed why cause = tree AuthenticationFailed why.1 cause
    go NotFound why cause = tree NotFound why.1 cause
    go Overflow why cause = tree Overflow why.1 cause
    go MerkleNotEnabled why cause = tree MerkleNotEnabled why.1 cause
    go (CorruptedChunk index) why cause = tree (CorruptedChunk index) why.1 cause
    go Broken why cause = tree Broken why.1 cause
    go OutOfMemory why cause = absurd (no_want OutOfMemory refl cause)

-- ---- the test of a chunk size

pub size_is : (n : ℕ) → IsChunkSize n → nat_le 16 n && nat_le n 1048576 ≡ true
size_is n (least, most) = grind (arith, nat_tests)

pub size_not : (n : ℕ) → (IsChunkSize n → ⊥) → nat_le 16 n && nat_le n 1048576 ≡ false
size_not n never = go (nat_le 16 n && nat_le n 1048576) refl
  where
    go : (t : Bool) → nat_le 16 n && nat_le n 1048576 ≡ t → nat_le 16 n && nat_le n 1048576 ≡ false
    go false is = is
    go true is =
        let least : 16 ≤ n = grind (arith, nat_tests) in
        let most : n ≤ 1048576 = grind (arith, nat_tests) in
        absurd (never (least, most))
