-- A chunk of each of two files is opened.
use Rattle.std.proofs.Common.{◌≡◌, inl, inr, ℕ, ◌+◌, ◌++◌, ◌-◌, ◌<◌, ◌≤◌, Bool, List, [], length, map, take, drop, Option, Some, None, Result, Ok, Err, refl, sym, ◌∙◌, ap, subst, arith}
use Rattle.std.specs.Prelude.{get_or, slice_get}
use Rattle.std.specs.Option.{option_map}
use Rattle.std.specs.Bool.{Decides}
use Rattle.std.proofs.lemmas.List.{length-map, take_at}
use Rattle.std.proofs.lemmas.Option.{slice_get-map, get_or_from_slice_get}
use Rattle.raf_io.specs.Kinds.{kind_of}
use Rattle.raf_io.specs.declared.errors.Error.{Error}
use Rattle.raf_io.specs.declared.errors.ErrorKind.{ErrorKind}
use Rattle.raf_io.specs.declared.errors.ErrorKind.TheVariants.{Io, InvalidArgument, AuthenticationFailed, AlreadyExists, NotFound, Overflow, MerkleNotEnabled, CorruptedChunk, Rng, Hash, Broken, OutOfMemory}
use Rattle.raf_tree.specs.Hashing.{Hashing}
use Rattle.raf_tree.specs.Calls.{Content}
use Rattle.raf_format.specs.Cipher.{Cipher}
use Rattle.raf_format.specs.File.{File, shape_of, chunk_count, chunk_at}
use Rattle.raf.specs.Outside.{Outside, Quiet}
use Rattle.raf.specs.Handle.{Handle, handle_of}
use Rattle.raf.specs.Loaded.{Sound, Unopened, Loads}
use Rattle.raf.specs.Read.{chunks_of}
use Rattle.raf.specs.Clash.{HasContent, Looked, long}
use Rattle.raf.specs.Clashing.{Halts, Steps, Unreadable, SameChunk, records_between}
use Rattle.raf.proofs.Chunks.{get_chunk, length-chunks}
use Rattle.raf.proofs.Places.{within_layout}
use Rattle.raf.proofs.Moves.{moved_less, quiet_same}
use Rattle.raf.proofs.Verified.{further}
use Rattle.raf.proofs.Clashes.{looked_less, looked_same}

between_more : (x y n : ℕ) → x + n ≤ y → n ≤ y - x
between_more x y n le = omega (arith, le)

abbrev pub with_outside : Handle → Outside → Handle
with_outside a p = handle_of p a.key a.header a.tree a.broken

-- one file
module _ (C : Cipher) (a : Handle) (K : List ℕ) (i : ℕ) (sound : Sound C a.header) (derived : K ≡ C.chunk_key a.key a.header.id)
    (there : i < chunk_count a.header.chunk_size a.header.file_size) (p : Outside) (m : List ℕ) where
  pub looked_loads : (r : Result (Unit {0}) Error) → Loads C K a.header i a.outside p m r → Looked C (records_between C a i (i + 1)) 0 a (with_outside a p)
  looked_loads r s = record {
    key = refl;
    header = refl;
    tree = refl;
    broken = refl;
    kept = s.kept;
    moved = moved_less a.outside p _ _ _ _ _ (long C a) (records_between C a i (i + 1)) 0 0 0 s.moved
        (within_layout (shape_of C a.header) a.header.file_size i (omega (arith, sound.least)) there)
        (between_more _ _ _ (further C K a.header i sound there)) (omega arith) (omega arith) (omega arith);
    strays = s.strays;
  }

  pub unreadable : (e : Error) → (let was : Result (Unit {0}) Error = Err e in Loads C K a.header i a.outside p m was) → kind_of e ≡ AuthenticationFailed → Unreadable C a
  unreadable e s kind = λ b tells. (i, there, subst (λ (k : List ℕ). chunk_at C k a.header b i ≡ None) derived (s.missing b tells kind))

  -- the chunk that was opened is that of the content
  pub chunk_is : (E : List ℕ → Hashing) (setting : List ℕ) (x : Content) (u : Unit {0}) → (let was : Result (Unit {0}) Error = Ok u in Loads C K a.header i a.outside p m was)
      → HasContent C E setting a x → get_or x.chunks i [] ≡ m
  chunk_is E setting x u s has =
      let b = has.holds.bytes in
      let key = C.chunk_key a.key a.header.id in
      let opened : chunk_at C key a.header b i ≡ Some m = subst (λ (k : List ℕ). chunk_at C k a.header b i ≡ Some m) derived (s.loaded b has.holds.tells) in
      let stored : chunks_of C key a.header b ≡ map (λ (c : List ℕ). Some c) has.grown.chunks = sym (ap (λ (f : File). f.chunks) has.holds.file) ∙ has.grown.present in
      let got : slice_get (map (λ (c : List ℕ). Some c) has.grown.chunks) i ≡ Some (Some m) =
      ap (λ (l : List (Option (List ℕ))). slice_get l i) (sym stored) ∙ get_chunk C key a.header b i there ∙ ap (λ (o : Option (List ℕ)). Some o) opened in
      ap (λ (c : Content). get_or c.chunks i []) has.is
      ∙ get_or_from_slice_get has.grown.chunks i m [] (inner (slice_get has.grown.chunks i) (sym (slice_get-map (λ (c : List ℕ). Some c) has.grown.chunks i) ∙ got))
    where
      inner : (o : Option (List ℕ)) → option_map (λ (c : List ℕ). Some c) o ≡ Some (Some m) → o ≡ Some m
      inner None is = cc
      inner (Some c) is = cc

-- how many chunks the content has
pub content_count : (C : Cipher) (E : List ℕ → Hashing) (setting : List ℕ) (a : Handle) (x : Content) → HasContent C E setting a x → length x.chunks ≡ chunk_count a.header.chunk_size a.header.file_size
content_count C E setting a x has =
    let b = has.holds.bytes in
    let key = C.chunk_key a.key a.header.id in
    let stored : chunks_of C key a.header b ≡ map (λ (c : List ℕ). Some c) has.grown.chunks = sym (ap (λ (f : File). f.chunks) has.holds.file) ∙ has.grown.present in
    ap (λ (c : Content). length c.chunks) has.is ∙ sym (length-map has.grown.chunks (λ (c : List ℕ). Some c)) ∙ ap (λ (l : List (Option (List ℕ))). length l) (sym stored)
    ∙ length-chunks C key a.header b 0 (chunk_count a.header.chunk_size a.header.file_size)

-- why it stopped
halts_first : (C D : Cipher) (a b c d : Handle) (kind : ErrorKind) → (kind ≡ AuthenticationFailed → Unreadable C a) → Quiet b.outside d.outside → Unopened kind a.outside c.outside → Halts C D a b c d kind
halts_first C D a b c d Io why calm f = inl (f, calm)
halts_first C D a b c d AuthenticationFailed why calm f = (inl (why refl), f, calm)
halts_first C D a b c d Hash why calm f = absurd f
halts_first C D a b c d Rng why calm f = absurd f
halts_first C D a b c d (InvalidArgument r) why calm f = absurd f
halts_first C D a b c d AlreadyExists why calm f = absurd f
halts_first C D a b c d NotFound why calm f = absurd f
halts_first C D a b c d Overflow why calm f = absurd f
halts_first C D a b c d MerkleNotEnabled why calm f = absurd f
halts_first C D a b c d (CorruptedChunk i) why calm f = absurd f
halts_first C D a b c d Broken why calm f = absurd f
halts_first C D a b c d OutOfMemory why calm f = absurd f

halts_second : (C D : Cipher) (a b c d : Handle) (kind : ErrorKind) → (kind ≡ AuthenticationFailed → Unreadable D b) → Quiet a.outside c.outside → Unopened kind b.outside d.outside → Halts C D a b c d kind
halts_second C D a b c d Io why calm f = inr (calm, f)
halts_second C D a b c d AuthenticationFailed why calm f = (inr (why refl), calm, f)
halts_second C D a b c d Hash why calm f = absurd f
halts_second C D a b c d Rng why calm f = absurd f
halts_second C D a b c d (InvalidArgument r) why calm f = absurd f
halts_second C D a b c d AlreadyExists why calm f = absurd f
halts_second C D a b c d NotFound why calm f = absurd f
halts_second C D a b c d Overflow why calm f = absurd f
halts_second C D a b c d MerkleNotEnabled why calm f = absurd f
halts_second C D a b c d (CorruptedChunk i) why calm f = absurd f
halts_second C D a b c d Broken why calm f = absurd f
halts_second C D a b c d OutOfMemory why calm f = absurd f

-- both files
module _ (C D : Cipher) (a b : Handle) (K L : List ℕ) (i : ℕ) (sound_a : Sound C a.header) (sound_b : Sound D b.header)
    (derived_a : K ≡ C.chunk_key a.key a.header.id) (derived_b : L ≡ D.chunk_key b.key b.header.id)
    (there_a : i < chunk_count a.header.chunk_size a.header.file_size) (there_b : i < chunk_count b.header.chunk_size b.header.file_size) where
  pub stops_first : (p : Outside) (m : List ℕ) (e : Error) → (let was : Result (Unit {0}) Error = Err e in Loads C K a.header i a.outside p m was)
      → (let is : Result (Unit {0}) Error = Err e in Steps C D (records_between C a i (i + 1)) 0 (records_between D b i (i + 1)) 0 a b (with_outside a p) b is)
  stops_first p m e s = record {
    first = looked_loads C a K i sound_a derived_a there_a p m (Err e) s;
    second = looked_less D 0 0 (records_between D b i (i + 1)) 0 b b (omega arith) (omega arith) (looked_same D 0 0 b);
    quiet = tt;
    halted = halts_first C D a b (with_outside a p) b (kind_of e) (unreadable C a K i sound_a derived_a there_a p m e s) (quiet_same b.outside b.outside refl) s.kinds;
  }

  pub looks_both : (p q : Outside) (m n : List ℕ) (u : Unit {0}) (r : Result (Unit {0}) Error) → (let was : Result (Unit {0}) Error = Ok u in Loads C K a.header i a.outside p m was)
      → Loads D L b.header i b.outside q n r → Steps C D (records_between C a i (i + 1)) 0 (records_between D b i (i + 1)) 0 a b (with_outside a p) (with_outside b q) r
  looks_both p q m n u (Ok v) s t = record {
    first = looked_loads C a K i sound_a derived_a there_a p m (Ok u) s;
    second = looked_loads D b L i sound_b derived_b there_b q n (Ok v) t;
    quiet = (s.quiet, t.quiet);
    halted = tt;
  }
  looks_both p q m n u (Err e) s t = record {
    first = looked_loads C a K i sound_a derived_a there_a p m (Ok u) s;
    second = looked_loads D b L i sound_b derived_b there_b q n (Err e) t;
    quiet = tt;
    halted = halts_second C D a b (with_outside a p) (with_outside b q) (kind_of e) (unreadable D b L i sound_b derived_b there_b q n e t) s.quiet t.kinds;
  }

-- a test of what was opened
pub same_chunk_by : (r : Bool) (i : ℕ) (x y : Content) (m n : List ℕ) → i < length x.chunks → i < length y.chunks → get_or x.chunks i [] ≡ m → get_or y.chunks i [] ≡ n
    → Decides r (m ≡ n) → Decides r (SameChunk i x y)
same_chunk_by r i x y m n in_x in_y is_m is_n d = (λ yes. (in_x, in_y, is_m ∙ d.0 yes ∙ sym is_n), λ same. d.1 (sym is_m ∙ same.2 ∙ is_n))

-- the test is of what stands in both buffers
pub in_buffer : (n len k : ℕ) (m whole buf rest : List ℕ) → m ≡ take len (drop k whole) → whole ≡ take n (buf ++ rest) → length buf ≡ n → m ≡ take len (drop k buf)
in_buffer n len k m whole buf rest is stands long =
    is ∙ ap (λ (l : List ℕ). take len (drop k l)) (stands ∙ take_at buf rest n long)

pub decides_same : (r : Bool) (m n m' n' : List ℕ) → m ≡ m' → n ≡ n' → Decides r (m ≡ n) → Decides r (m' ≡ n')
decides_same r m n m' n' is_m is_n d = (λ yes. sym is_m ∙ d.0 yes ∙ is_n, λ same. d.1 (is_m ∙ same ∙ sym is_n))
