-- How a conversion ends: its verdict, and what follows of it.
use Rattle.std.proofs.Common.{◌≡◌, ℕ, suc, ◌+◌, ◌-◌, ◌<◌, ◌≤◌, min, Bool, true, false, ◌&&◌, List, [], ◌∷◌, length, take, drop, Option, Some, None, Result, Ok, Err, refl, sym, ap, ◌∙◌, arith, subst, inl, inr}
use Rattle.std.specs.Prelude.{◌⊎◌, nat_lt, nat_le, ◌≢◌, slice_index, IsErrAnd}
use Rattle.std.specs.List.{concat}
use Rattle.std.proofs.lemmas.Bool.Decides.{nat_tests}
use Rattle.std.proofs.lemmas.List.{length-append, length-drop}
use Rattle.raf_format.specs.Cipher.{Cipher, IsLawful, cipher_of}
use Rattle.raf_format.specs.Numbers.{variant_of}
use Rattle.raf_format.specs.Version.{version_number}
use Rattle.raf_format.specs.Header.{sealed_header}
use Rattle.raf_format.specs.File.{File, Opens, Shape, shape_of, chunk_count}
use Rattle.raf_format.specs.declared.header.Header.{Header}
use Rattle.raf_format.proofs.Ciphers.{lawful}
use Rattle.raf_format.proofs.Opened.{opens_of, opens_one}
use Rattle.raf_io.specs.Kinds.{kind_of}
use Rattle.raf_io.specs.Source.{Takes, IsShort}
use Rattle.raf_io.specs.declared.errors.ErrorKind.{ErrorKind}
use Rattle.raf_io.specs.declared.errors.ErrorKind.TheVariants.{Io, InvalidArgument, AuthenticationFailed, AlreadyExists, NotFound, Overflow, MerkleNotEnabled, CorruptedChunk, Rng, Hash, Broken, OutOfMemory}
use Rattle.raf.specs.Apply.{file_after}
use Rattle.raf.specs.Concern.{can_have, needed, none_missing}
use Rattle.raf.specs.Converted.{Begins, ArePieces, writes, Filled, Moves, Unread, Unwritten, Stopped, Ends}
use Rattle.raf.specs.Due.{is_fault}
use Rattle.raf.specs.Handle.{Handle, Holds, limit_of, outline}
use Rattle.raf.specs.Image.{asked_by, asked_in, traced}
use Rattle.raf.specs.Meaning.{Faultable, Starved}
use Rattle.raf.specs.Opening.{Settings, Opened, Made, IsChunkSize}
use Rattle.raf.specs.Outside.{Caused}
use Rattle.raf.specs.Read.{IsByteOf}
use Rattle.raf.specs.Stepped.{Failed, with_size}
use Rattle.raf.specs.declared.command.Command.{Command}
use Rattle.raf.specs.declared.command.Command.TheVariants as command
use Rattle.raf.specs.declared.command.Reply.TheVariants.{Refused}
use Rattle.raf.specs.declared.converting.ConvertError.{ConvertError}
use Rattle.raf.specs.declared.converting.Side.{Side}
use Rattle.raf.specs.declared.converting.Side.TheVariants as side
use Rattle.raf.proofs.Conversions.{held_short, held_some, held_count, total_le, can_have_less}
use Rattle.raf.proofs.Between.{Short}
use Rattle.raf.proofs.OnlyReads.{still_held}
use Rattle.raf_script.specs.declared.conversion.Conversion.{Conversion}
use Rattle.raf_run.specs.Disk.{memory_of, over}
use Rattle.raf_run.specs.Ends.{BuilderOf, answers_of}
use Rattle.raf_run.specs.Answers.{memory_status}
use Rattle.raf_run.specs.Conversions.{RefusedBy, Moved, Maker, piece_len, old_ground, new_ground, outcome_of}
use Rattle.raf_run.specs.ConversionLaws.{is_want, piece_refusal, asked_at, header_of, refusal, IsWhole, Converts, OneVerdict}
use Rattle.raf_run.specs.declared.answer.End.{End}
use Rattle.raf_run.proofs.OneText.{taken_so_many, new_file, NewFile, some_same}
use Rattle.raf_run.proofs.SamePieces.{Readable, Stops}
use Rattle.raf_run.proofs.Openings.{one_cause, no_cause, size_is}
use Rattle.raf_run.proofs.Refusals.{kind_status, refused_told, EndsRight, refused_right, unopened_right, unmade_right}
use Rattle.raf_run.proofs.Pieces.{AllThere, Wants, asked, moved_on, wants, none_missing_read, count_step}

-- ---- the old file is moved

-- what the new storage holds once these pieces were moved
abbrev pub stored : Conversion → List (List ℕ) → List ℕ
stored c pieces =
    let G : File = outline (new_ground c).cipher (header_of c) in
    traced None (new_ground c).cipher c.key G (writes 0 pieces) (take (asked_in None G (writes 0 pieces)) (drop 32 c.random)) (sealed_header (new_ground c).cipher c.key (header_of c))

-- the random bytes that are left once these pieces were moved
abbrev pub left_behind : Conversion → List (List ℕ) → List ℕ
left_behind c pieces = drop (asked_in None (outline (new_ground c).cipher (header_of c)) (writes 0 pieces)) (drop 32 c.random)

abbrev pub StarvedBy : Conversion → List ℕ → List (List ℕ) → List ℕ → Type 0
StarvedBy c storage pieces piece =
    Starved (new_ground c).cipher c.key (file_after None (outline (new_ground c).cipher (header_of c)) (writes 0 pieces))
    (command.Write (length (concat pieces)) piece) (stored c pieces) true (Some (left_behind c pieces)) (Some storage)

-- what the write of a piece leaves that found too few random bytes, behind the pieces that found theirs
pub record Dries (c : Conversion) (F : File) (storage : List ℕ) : Type 0 where
  pub refused : refusal c F ≡ Some Rng
  pub short : Short F.shape.chunk_size F.chunks
  pub pieces : List (List ℕ)
  pub are : ArePieces piece_len (F.size - 0) pieces
  pub read : Readable F 0 pieces
  pub wants : Wants F (new_ground c).cipher.nonce_len c.chunk_size 0 (length c.random - 32) pieces
  pub piece : List ℕ
  pub len : length piece ≡ min piece_len (F.size - length (concat pieces))
  pub byte : (k : ℕ) → k < length piece → IsByteOf F.shape.chunk_size F.chunks (length (concat pieces) + k) (slice_index piece k)
  pub starved : StarvedBy c storage pieces piece

-- what it leaves that was refused by its size, moved whole, or stopped at a piece that can't be read
abbrev pub Kept : Conversion → File → List ℕ → Type 0
Kept c F storage =
    ((can_have None (outline (new_ground c).cipher (header_of c)) F.size ≡ false) × (refusal c F ≡ Some Overflow) × (storage ≡ sealed_header (new_ground c).cipher c.key (header_of c)))
    ⊎ ((can_have None (outline (new_ground c).cipher (header_of c)) F.size ≡ true)
    × ((refusal c F ≡ None) ⊎ (refusal c F ≡ Some AuthenticationFailed)) × Short F.shape.chunk_size F.chunks
    × ((pieces : List (List ℕ)) × ArePieces piece_len (F.size - 0) pieces × Readable F 0 pieces × Stops F (0 + length (concat pieces)) × (storage ≡ stored c pieces)))

-- what a conversion of an old file leaves in the new storage
abbrev pub Leaves : Conversion → File → List ℕ → Type 0
Leaves c F storage = Dries c F storage ⊎ Kept c F storage

-- an open old file, and a new one
module _ (c : Conversion) (from to : Handle) (old_builder : Settings) (old_is : BuilderOf (old_ground c) old_builder)
    (opened : Opened (old_ground c).cipher (old_ground c).answers c.old_key old_builder.most (over (memory_of c.storage) old_builder.outside) from)
    (new_builder : Settings) (maker : Maker (new_ground c) c.chunk_size (version_number c.version) new_builder)
    (made : Made (new_ground c).cipher (new_ground c).answers c.key new_builder (over (memory_of []) new_builder.outside) to) where
  abbrev C : Cipher
  C = (old_ground c).cipher

  abbrev D : Cipher
  D = (new_ground c).cipher

  law_C : IsLawful (cipher_of (variant_of c.old_algorithm))
  law_C = lawful (variant_of c.old_algorithm)

  law_D : IsLawful (cipher_of (variant_of c.algorithm))
  law_D = lawful (variant_of c.algorithm)

  abbrev pub F : File
  F = (opened.holds c.storage refl).0

  pub opens_F : Opens (cipher_of (variant_of c.old_algorithm)) c.old_key c.storage F
  opens_F = (opened.holds c.storage refl).1

  holds_F : Holds (cipher_of (variant_of c.old_algorithm)) from F
  holds_F = (opened.holds c.storage refl).2

  size_F : F.size ≡ from.header.file_size
  size_F = ap (λ (F : File). F.size) holds_F.file

  abbrev pub G : File
  G = (made.holds [] refl).0

  holds_G : Holds (cipher_of (variant_of c.algorithm)) to G
  holds_G = (made.holds [] refl).1

  bare_G : G.chunks ≡ []
  bare_G = (made.holds [] refl).2

  new : NewFile (new_ground c) c.chunk_size (version_number c.version) c.random to
  new = new_file (new_ground c) c.chunk_size (version_number c.version) c.random [] new_builder (memory_of []) to maker.chunk_size maker.version maker.builder.left refl made

  header : to.header ≡ header_of c
  header = new.header

  shape_G : G.shape ≡ shape_of D (header_of c)
  shape_G = ap (λ (F : File). F.shape) holds_G.file ∙ ap (shape_of D) header

  id_G : G.id ≡ take 32 c.random
  id_G = ap (λ (F : File). F.id) holds_G.file ∙ ap (λ (h : Header). h.id) header

  size_G : G.size ≡ 0
  size_G = ap (λ (F : File). F.size) holds_G.file ∙ ap (λ (h : Header). h.file_size) header

  unlimited : limit_of to ≡ None
  unlimited = made.limit ∙ maker.builder.most

  -- what numbers say before the pieces
  abbrev P : File → ℕ → ℕ → ℕ → Option ErrorKind
  P F = piece_refusal D.nonce_len c.chunk_size F

  size_right : nat_le 16 c.chunk_size && nat_le c.chunk_size 1048576 ≡ true
  size_right = size_is c.chunk_size (subst IsChunkSize maker.chunk_size made.can.chunk_size)

  header_bytes : to.outside.bytes ≡ Some (sealed_header D c.key (header_of c))
  header_bytes = new.bytes

  G_is : G ≡ outline D (header_of c)
  G_is = λ i. record { shape = shape_G i; id = id_G i; size = size_G i; chunks = bare_G i }

  enough_id : nat_lt (length c.random) 32 ≡ false
  enough_id = let many : 32 ≤ length c.random = new.id in grind (arith, nat_tests)

  can_is : (t : Bool) → can_have None (outline D (header_of c)) F.size ≡ t → can_have (limit_of to) (outline D to.header) from.header.file_size ≡ t
  can_is t is =
      ap (λ (l : Option ℕ). can_have l (outline D to.header) from.header.file_size) unlimited
      ∙ ap (λ (h : Header). can_have None (outline D h) from.header.file_size) header
      ∙ ap (can_have None (outline D (header_of c))) (sym size_F)
      ∙ is

  too_long : can_have None (outline D (header_of c)) F.size ≡ false → refusal c F ≡ Some Overflow
  too_long is = rw (size_right, enough_id, is) refl

  by_pieces : can_have None (outline D (header_of c)) F.size ≡ true → refusal c F ≡ P F (chunk_count piece_len F.size) 0 (length c.random - 32)
  by_pieces is = rw (size_right, enough_id, is) refl

  -- pieces that were moved
  module _ (can : can_have None (outline D (header_of c)) F.size ≡ true) (here there : Handle) (pieces : List (List ℕ))
      (moves : Moves C D (answers_of None) piece_len from here to there pieces) where
    filled : Filled D (answers_of None) to there G holds_G.bytes (writes 0 pieces) (concat pieces)
    filled = moves.written G holds_G

    begins : Begins F (concat pieces)
    begins = moves.read F holds_F

    short_F : Short F.shape.chunk_size F.chunks
    short_F = held_short C law_C from F holds_F

    abbrev asks : ℕ
    asks = asked_in None G (writes 0 pieces)

    drawn : length filled.nonces ≡ asks
    drawn = filled.drawn ∙ ap (λ (l : Option ℕ). asked_in l G (writes 0 pieces)) unlimited

    taken : (filled.nonces ≡ take asks (drop 32 c.random)) × (there.outside.left ≡ Some (drop asks (drop 32 c.random)))
    taken = taken_so_many asks (drop 32 c.random) filled.nonces there.outside.left drawn (subst (λ (l : Option (List ℕ)). Takes l filled.nonces there.outside.left) new.left filled.taken)

    enough : asks ≤ length c.random - 32
    enough = fits there.outside.left (subst (λ (l : Option (List ℕ)). Takes l filled.nonces there.outside.left) new.left filled.taken)
      where
        fits : (l : Option (List ℕ)) → Takes (Some (drop 32 c.random)) filled.nonces l → asked_in None G (writes 0 pieces) ≤ length c.random - 32
        fits None t = absurd t
        fits (Some rest) t = omega (arith, ap length t, length-append filled.nonces rest, length-drop 32 c.random, drawn)

    readable : (at len : ℕ) → at + len ≤ 0 + length (concat pieces) → none_missing (needed F (command.Read at len)) 0 F.chunks ≡ true
    readable at len le = none_missing_read F short_F at len (λ p lo hi. (slice_index (concat pieces) p, begins p (omega (arith, hi, le))))

    are : ArePieces piece_len (F.size - 0) pieces
    are = let e : from.header.file_size ≡ F.size - 0 = omega (arith, size_F) in subst (λ (n : ℕ). ArePieces piece_len n pieces) e moves.are

    in_all : length (concat pieces) ≤ F.size
    in_all = omega (arith, total_le piece_len from.header.file_size pieces moves.are, size_F)

    can_G : can_have None G F.size ≡ true
    can_G = ap (λ (s : Shape). can_have None (record { shape = s; id = []; size = 0; chunks = [] }) F.size) shape_G ∙ can

    -- the first cause is that of the rest
    goes_on : refusal c F ≡ P F (chunk_count piece_len (F.size - length (concat pieces))) (length (concat pieces)) (length c.random - 32 - asked_in None G (writes 0 pieces))
    goes_on =
        by_pieces can
        ∙ ap (λ (s : Shape). piece_refusal s.nonce_len s.chunk_size F (chunk_count piece_len F.size) 0 (length c.random - 32)) (sym shape_G)
        ∙ moved_on F pieces G 0 (chunk_count piece_len F.size) (length c.random - 32) size_G (omega arith) are (held_some D to G holds_G)
        (subst AllThere (sym bare_G) tt) (held_count D to G holds_G) can_G readable whole enough
        ∙ ap (λ (s : Shape). piece_refusal s.nonce_len s.chunk_size F (chunk_count piece_len (F.size - (0 + length (concat pieces)))) (0 + length (concat pieces)) (length c.random - 32 - asked_in None G (writes 0 pieces))) shape_G
        ∙ ap (λ (n : ℕ). P F (chunk_count piece_len (F.size - n)) n (length c.random - 32 - asked_in None G (writes 0 pieces))) (let e : 0 + length (concat pieces) ≡ length (concat pieces) = omega arith in e)
      where
        whole : chunk_count piece_len F.size ≡ chunk_count piece_len (F.size - 0)
        whole = ap (chunk_count piece_len) (let e : F.size ≡ F.size - 0 = omega arith in e)

    -- the new storage then
    stored_there : there.outside.bytes ≡ Some (stored c pieces)
    stored_there =
        filled.tells
        ∙ ap (λ (l : Option ℕ). Some (traced l D to.key G (writes 0 pieces) filled.nonces holds_G.bytes)) unlimited
        ∙ ap (λ (k : List ℕ). Some (traced None D k G (writes 0 pieces) filled.nonces holds_G.bytes)) made.key_is
        ∙ ap (λ (n : List ℕ). Some (traced None D c.key G (writes 0 pieces) n holds_G.bytes)) taken.0
        ∙ ap (λ (b : List ℕ). Some (traced None D c.key G (writes 0 pieces) (take (asked_in None G (writes 0 pieces)) (drop 32 c.random)) b)) (some_same (sym holds_G.tells ∙ header_bytes))
        ∙ ap (λ (G : File). Some (traced None D c.key G (writes 0 pieces) (take (asked_in None G (writes 0 pieces)) (drop 32 c.random)) (sealed_header D c.key (header_of c)))) G_is

    read_all : Readable F 0 pieces
    read_all k lt = subst (λ (n : ℕ). IsByteOf F.shape.chunk_size F.chunks n (slice_index (concat pieces) k)) (let e : k ≡ 0 + k = omega arith in e) (begins k lt)

    leaves : (storage : List ℕ) → there.outside.bytes ≡ Some storage → (refusal c F ≡ None) ⊎ (refusal c F ≡ Some AuthenticationFailed) → Stops F (length (concat pieces)) → Leaves c F storage
    leaves storage tells why stop = inr (inr (
      can,
      why,
      short_F,
      (pieces, are, read_all, subst (Stops F) (let e : length (concat pieces) ≡ 0 + length (concat pieces) = omega arith in e) stop, some_same (sym tells ∙ stored_there)),
    ))

    -- a piece is next
    next : length (concat pieces) < F.size → chunk_count piece_len (F.size - length (concat pieces)) ≡ suc (chunk_count piece_len (F.size - length (concat pieces) - min piece_len (F.size - length (concat pieces))))
    next more = count_step (F.size - length (concat pieces)) (omega (arith, more))

    -- all were moved
    all_moved : length (concat pieces) ≡ F.size → refusal c F ≡ None
    all_moved all =
        let none : F.size - length (concat pieces) ≡ 0 = omega (arith, all) in
        goes_on ∙ ap (λ (n : ℕ). P F (chunk_count piece_len n) (length (concat pieces)) (length c.random - 32 - asked_in None G (writes 0 pieces))) none

    -- the next one can't be read
    unread : length (concat pieces) < F.size
        → none_missing (needed F (command.Read (length (concat pieces)) (min piece_len (F.size - length (concat pieces))))) 0 F.chunks ≡ false → refusal c F ≡ Some AuthenticationFailed
    unread more missing =
        goes_on ∙ ap (λ (n : ℕ). P F n (length (concat pieces)) (length c.random - 32 - asked_in None G (writes 0 pieces))) (next more) ∙ rw missing refl

    -- the next one can be read, and isn't written for want of random bytes
    unwritten : length (concat pieces) < F.size
        → none_missing (needed F (command.Read (length (concat pieces)) (min piece_len (F.size - length (concat pieces))))) 0 F.chunks ≡ true
        → length c.random - 32 - asked_in None G (writes 0 pieces) < asked_at D.nonce_len c.chunk_size (length (concat pieces)) (min piece_len (F.size - length (concat pieces)))
        → refusal c F ≡ Some Rng
    unwritten more there few =
        let short : nat_lt (length c.random - 32 - asked_in None G (writes 0 pieces)) (asked_at D.nonce_len c.chunk_size (length (concat pieces)) (min piece_len (F.size - length (concat pieces)))) ≡ true =
        grind (arith, nat_tests) in
        goes_on ∙ ap (λ (n : ℕ). P F n (length (concat pieces)) (length c.random - 32 - asked_in None G (writes 0 pieces))) (next more) ∙ rw (there, short) refl

    -- what is there when all were moved
    whole_there : (storage : List ℕ) → length (concat pieces) ≡ F.size → there.outside.bytes ≡ Some storage → IsWhole c storage
    whole_there storage all tells = record {
      old = F;
      opens_old = opens_F;
      new = file_after (limit_of to) G (writes 0 pieces);
      opens_new = opens;
      bytes = concat pieces;
      has_old = record { size = sym all; begins = begins };
      has_new = filled.has;
      shape = filled.shape ∙ shape_G;
      id = filled.id ∙ id_G;
    }
      where
        held : Holds D there (file_after (limit_of to) G (writes 0 pieces))
        held = filled.holds

        same : held.bytes ≡ storage
        same = some_same (sym held.tells ∙ tells)

        key : there.key ≡ c.key
        key = moves.key ∙ made.key_is

        opens : Opens D c.key storage (file_after (limit_of to) G (writes 0 pieces))
        opens =
            subst (λ (k : List ℕ). Opens D k storage (file_after (limit_of to) G (writes 0 pieces))) key
            (subst (λ (b : List ℕ). Opens D there.key b (file_after (limit_of to) G (writes 0 pieces))) same
            (subst (Opens D there.key held.bytes) (sym held.file) (opens_of D law_D there.key held.bytes there.header held.is_file)))

    -- why the next piece was refused
    module _ (end : End) (from' to' : Handle) (more : length (concat pieces) < from.header.file_size) where
      more_F : length (concat pieces) < F.size
      more_F = omega (arith, more, size_F)

      by_cause : (kind : ErrorKind) → RefusedBy kind end → (is_want kind ≡ false → refusal c F ≡ Some kind) → EndsRight c end
      by_cause kind by why = refused_right c end kind by (λ cause. inr (F, opens_F, sym (why cause)))

      len_is : min piece_len (from.header.file_size - length (concat pieces)) ≡ min piece_len (F.size - length (concat pieces))
      len_is = ap (λ (n : ℕ). min piece_len (n - length (concat pieces))) (sym size_F)

      unread_at : (kind : ErrorKind) → Unread C (answers_of None) here from' (length (concat pieces)) (min piece_len (from.header.file_size - length (concat pieces))) kind → kind ≡ AuthenticationFailed
          → none_missing (needed F (command.Read (length (concat pieces)) (min piece_len (F.size - length (concat pieces))))) 0 F.chunks ≡ false
      unread_at kind un is =
          ap (λ (n : ℕ). none_missing (needed F (command.Read (length (concat pieces)) n)) 0 F.chunks) (sym len_is)
          ∙ un.missing F (still_held C from here moves.only_read F holds_F) is

      at_read : (kind : ErrorKind) → RefusedBy kind end
          → Unread C (answers_of None) here from' (length (concat pieces)) (min piece_len (from.header.file_size - length (concat pieces))) kind → EndsRight c end
      at_read kind by un = go un.cause
        where
          go : ((kind ≡ Io) × Caused Io here.outside from'.outside) ⊎ (kind ≡ AuthenticationFailed) → EndsRight c end
          go (inl io) = inl (refused_told end kind by ∙ ap kind_status io.0)
          go (inr is) = by_cause kind by (λ cause. unread more_F (unread_at kind un is) ∙ ap (λ (k : ErrorKind). Some k) (sym is))

      -- the write of the next piece failed
      module _ (kind : ErrorKind) (x : ℕ) (xs : List ℕ) (len : length (x ∷ xs) ≡ min piece_len (from.header.file_size - length (concat pieces)))
          (un : Unwritten C D (answers_of None) (answers_of None) from here from' to there to' (length (concat pieces)) (x ∷ xs) kind) where
        fault : is_fault (Refused kind) ≡ true
        fault = un.told G holds_G

        failed : Failed D there to' (command.Write (length (concat pieces)) (x ∷ xs)) (Refused kind)
        failed = (un.stepped.went moves.unmarked).failed fault

        same : failed.kind ≡ kind
        same = let e : Refused kind ≡ Refused failed.kind = failed.is in (cc)

        bare : limit_of there ≡ None
        bare = moves.limit ∙ unlimited

        exact : there.outside.exact ≡ true
        exact = filled.moved.exact ∙ made.moved.exact ∙ maker.builder.exact

        hash : kind ≡ Hash → ⊥
        hash is =
            let may : Faultable None Hash (outline D there.header) (command.Write (length (concat pieces)) (x ∷ xs)) =
            subst (λ (k : ErrorKind). Faultable None k (outline D there.header) (command.Write (length (concat pieces)) (x ∷ xs))) (same ∙ is)
            (subst (λ (l : Option ℕ). Faultable l failed.kind (outline D there.header) (command.Write (length (concat pieces)) (x ∷ xs))) bare (failed.may (outline D there.header) (inr refl))) in
            omega (arith, may.1)

        len_F : length (x ∷ xs) ≡ min piece_len (F.size - length (concat pieces))
        len_F = len ∙ len_is

        can_read : none_missing (needed F (command.Read (length (concat pieces)) (min piece_len (F.size - length (concat pieces))))) 0 F.chunks ≡ true
        can_read =
            ap (λ (n : ℕ). none_missing (needed F (command.Read (length (concat pieces)) n)) 0 F.chunks) (sym len_F)
            ∙ none_missing_read F short_F (length (concat pieces)) (length (x ∷ xs)) byte
          where
            byte : (p : ℕ) → length (concat pieces) ≤ p → p < length (concat pieces) + length (x ∷ xs) → (byte : ℕ) × IsByteOf F.shape.chunk_size F.chunks p byte
            byte p lo hi =
                let e : length (concat pieces) + (p - length (concat pieces)) ≡ p = omega (arith, lo) in (
                  slice_index (x ∷ xs) (p - length (concat pieces)),
                  subst (λ (n : ℕ). IsByteOf F.shape.chunk_size F.chunks n (slice_index (x ∷ xs) (p - length (concat pieces)))) e
                      (un.bytes F holds_F (p - length (concat pieces)) (omega (arith, lo, hi))),
                )

        -- the random source fails where it has too few bytes
        few : kind ≡ Rng → length c.random - 32 - asked_in None G (writes 0 pieces) < asked_at D.nonce_len c.chunk_size (length (concat pieces)) (min piece_len (F.size - length (concat pieces)))
        few is =
            let asks_F : asked_at D.nonce_len c.chunk_size (length (concat pieces)) (length (x ∷ xs)) ≡ asked_at D.nonce_len c.chunk_size (length (concat pieces)) (min piece_len (F.size - length (concat pieces))) =
            ap (asked_at D.nonce_len c.chunk_size (length (concat pieces))) len_F in
            omega (arith, short, asks_F, length-drop (asked_in None G (writes 0 pieces)) (drop 32 c.random), length-drop 32 c.random)
          where
            header_there : there.header ≡ with_size (header_of c) (length (concat pieces))
            header_there = moves.header ∙ ap (λ (h : Header). with_size h (length (concat pieces))) header

            fits : can_have None (outline D (with_size (header_of c) (length (concat pieces)))) (length (concat pieces) + length (x ∷ xs)) ≡ true
            fits = can_have_less None (outline D (header_of c)) (length (concat pieces) + length (x ∷ xs)) F.size (omega (arith, len_F, more_F)) can

            is_asked : asked_by None (outline D (with_size (header_of c) (length (concat pieces)))) (command.Write (length (concat pieces)) (x ∷ xs))
                ≡ asked_at D.nonce_len c.chunk_size (length (concat pieces)) (length (x ∷ xs))
            is_asked = asked (outline D (with_size (header_of c) (length (concat pieces)))) (length (concat pieces)) x xs refl tt fits

            fewer : IsShort there.outside.left (asked_by None (outline D (with_size (header_of c) (length (concat pieces)))) (command.Write (length (concat pieces)) (x ∷ xs)))
            fewer =
                subst (λ (h : Header). IsShort there.outside.left (asked_by None (outline D h) (command.Write (length (concat pieces)) (x ∷ xs)))) header_there
                (subst (λ (l : Option ℕ). IsShort there.outside.left (asked_by l (outline D there.header) (command.Write (length (concat pieces)) (x ∷ xs)))) bare
                (failed.short (outline D there.header) (inr refl) (same ∙ is) exact))

            short : length (drop (asked_in None G (writes 0 pieces)) (drop 32 c.random)) < asked_at D.nonce_len c.chunk_size (length (concat pieces)) (length (x ∷ xs))
            short =
                subst (λ (n : ℕ). length (drop (asked_in None G (writes 0 pieces)) (drop 32 c.random)) < n) is_asked
                (subst (λ (l : Option (List ℕ)). IsShort l (asked_by None (outline D (with_size (header_of c) (length (concat pieces)))) (command.Write (length (concat pieces)) (x ∷ xs)))) taken.1 fewer)

        rng : kind ≡ Rng → refusal c F ≡ Some Rng
        rng is = unwritten more_F can_read (few is)

        wants_so : kind ≡ Rng → Wants F D.nonce_len c.chunk_size 0 (length c.random - 32) pieces
        wants_so is =
            subst (λ (s : Shape). Wants F s.nonce_len s.chunk_size 0 (length c.random - 32) pieces) shape_G
            (wants F pieces G 0 (length c.random - 32) size_G (omega arith) are (held_some D to G holds_G) (subst AllThere (sym bare_G) tt) (held_count D to G holds_G) can_G readable enough fewer)
          where
            here_G : length c.random - 32 - asked_in None G (writes 0 pieces) < asked_at G.shape.nonce_len G.shape.chunk_size (length (concat pieces)) (min piece_len (F.size - length (concat pieces)))
            here_G =
                subst (λ (s : Shape). length c.random - 32 - asked_in None G (writes 0 pieces) < asked_at s.nonce_len s.chunk_size (length (concat pieces)) (min piece_len (F.size - length (concat pieces))))
                (sym shape_G) (few is)

            fewer : length c.random - 32 - asked_in None G (writes 0 pieces) < asked_at G.shape.nonce_len G.shape.chunk_size (0 + length (concat pieces)) (min piece_len (F.size - (0 + length (concat pieces))))
            fewer =
                subst (λ (n : ℕ). length c.random - 32 - asked_in None G (writes 0 pieces) < asked_at G.shape.nonce_len G.shape.chunk_size n (min piece_len (F.size - n)))
                (let e : length (concat pieces) ≡ 0 + length (concat pieces) = omega arith in e) here_G

        -- and so it leaves what its write had put
        dries : kind ≡ Rng → (storage : List ℕ) → to'.outside.bytes ≡ Some storage → Dries c F storage
        dries is storage tells = record {
          refused = rng is;
          short = short_F;
          pieces = pieces;
          are = are;
          read = read_all;
          wants = wants_so is;
          piece = x ∷ xs;
          len = len_F;
          byte = un.bytes F holds_F;
          starved =
              subst (λ (now : Option (List ℕ)). Starved D c.key after c_write (stored c pieces) true (Some (left_behind c pieces)) now) tells
              (subst (λ (l : Option (List ℕ)). Starved D c.key after c_write (stored c pieces) true l to'.outside.bytes) left
              (subst (λ (e : Bool). Starved D c.key after c_write (stored c pieces) e there.outside.left to'.outside.bytes) exact
              (subst (λ (b : List ℕ). Starved D c.key after c_write b there.outside.exact there.outside.left to'.outside.bytes) (some_same (sym held.tells ∙ stored_there))
              (subst (λ (A : File). Starved D c.key A c_write held.bytes there.outside.exact there.outside.left to'.outside.bytes) (λ i. file_after (unlimited i) (G_is i) (writes 0 pieces))
              (subst (λ (k : List ℕ). Starved D k (file_after (limit_of to) G (writes 0 pieces)) c_write held.bytes there.outside.exact there.outside.left to'.outside.bytes) (moves.key ∙ made.key_is)
              ((un.stepped.went moves.unmarked).starved (file_after (limit_of to) G (writes 0 pieces)) held (ap (λ (k : ErrorKind). Refused k) is)))))));
        }
          where
            after : File
            after = file_after None (outline D (header_of c)) (writes 0 pieces)

            c_write : Command
            c_write = command.Write (length (concat pieces)) (x ∷ xs)

            held : Holds D there (file_after (limit_of to) G (writes 0 pieces))
            held = filled.holds

            left : there.outside.left ≡ Some (left_behind c pieces)
            left = taken.1 ∙ ap (λ (G : File). Some (drop (asked_in None G (writes 0 pieces)) (drop 32 c.random))) G_is

        why_unwritten : (kind ≡ Io) ⊎ (kind ≡ Rng)
        why_unwritten = go kind refl fault
          where
            go : (k : ErrorKind) → kind ≡ k → is_fault (Refused k) ≡ true → (kind ≡ Io) ⊎ (kind ≡ Rng)
            go Io is f = inl is
            go Rng is f = inr is
            go Hash is f = absurd (hash is)
            go (InvalidArgument r) is f = (cc)
            go AuthenticationFailed is f = (cc)
            go AlreadyExists is f = (cc)
            go NotFound is f = (cc)
            go Overflow is f = (cc)
            go MerkleNotEnabled is f = (cc)
            go (CorruptedChunk index) is f = (cc)
            go Broken is f = (cc)
            go OutOfMemory is f = (cc)

      -- the storage or the random source failed, and the latter leaves what its write had put
      at_write : (kind : ErrorKind) (piece : List ℕ) → length piece ≡ min piece_len (from.header.file_size - length (concat pieces))
          → Unwritten C D (answers_of None) (answers_of None) from here from' to there to' (length (concat pieces)) piece kind
          → (kind ≡ Io) ⊎ ((kind ≡ Rng) × (refusal c F ≡ Some kind) × ((storage : List ℕ) → to'.outside.bytes ≡ Some storage → Dries c F storage))
      at_write kind [] len un = absurd (omega (arith, len, more))
      at_write kind (x ∷ xs) len un = elim (why_unwritten kind x xs len un) [
        | inl io ↦ inl io
        | inr is ↦ inr (is, rng kind x xs len un is ∙ ap (λ (k : ErrorKind). Some k) (sym is), dries kind x xs len un is)
      ]

  -- ---- how it ended

  module _ (end : End) (from' to' : Handle) where
    barred : (result : Result (Unit {0}) ConvertError) → end.outcome ≡ outcome_of result → refusal c F ≡ Some Overflow
        → IsErrAnd result (λ e. (e.side ≡ side.To) × (kind_of e.error ≡ Overflow)) → EndsRight c end
    barred (Ok u) out why bar = absurd bar
    barred (Err e) out why bar = refused_right c end Overflow (e.error, out, bar.1) (λ cause. inr (F, opens_F, sym why))

    module _ (can : can_have None (outline D (header_of c)) F.size ≡ true) (here there : Handle) (pieces : List (List ℕ))
        (moves : Moves C D (answers_of None) piece_len from here to there pieces) where
      stopped : (s : Side) (kind : ErrorKind) → RefusedBy kind end → length (concat pieces) < from.header.file_size
          → Stopped C D (answers_of None) (answers_of None) piece_len from from' to to' here there pieces s kind → EndsRight c end
      stopped side.From kind by more (un, same) = at_read can here there pieces moves end from' to' more kind by un
      stopped side.To kind by more (piece, len, un, quiet) = go (at_write can here there pieces moves end from' to' more kind piece len un)
        where
          go : (kind ≡ Io) ⊎ ((kind ≡ Rng) × (refusal c F ≡ Some kind) × ((storage : List ℕ) → to'.outside.bytes ≡ Some storage → Dries c F storage)) → EndsRight c end
          go (inl io) = inl (refused_told end kind by ∙ ap kind_status io)
          go (inr rng) = refused_right c end kind by (λ cause. inr (F, opens_F, sym rng.1))

      ended : (result : Result (Unit {0}) ConvertError) → end.outcome ≡ outcome_of result → to'.outside.bytes ≡ Some end.storage
          → Ends C D (answers_of None) (answers_of None) piece_len from from' to to' here there pieces result → EndsRight c end
      ended (Ok u) out storage (all, read, wrote) =
          let all_F : length (concat pieces) ≡ F.size = all ∙ sym size_F in
          inr (
            None,
            inr (F, opens_F, sym (all_moved can here there pieces moves all_F)),
            (
              ap memory_status out,
              out,
              whole_there can here there pieces moves end.storage all_F (subst (λ (h : Handle). h.outside.bytes ≡ Some end.storage) wrote storage),
            ),
          )
      ended (Err e) out storage (more, why) = stopped e.side (kind_of e.error) (e.error, out, refl) more why

  pub moved_right : (end : End) → Moved (cipher_of (variant_of c.old_algorithm)) (cipher_of (variant_of c.algorithm)) from to end → EndsRight c end
  moved_right end m = go (can_have None (outline D (header_of c)) F.size) refl
    where
      go : (t : Bool) → can_have None (outline D (header_of c)) F.size ≡ t → EndsRight c end
      go false is = barred end m.from' m.to' m.result m.outcome (too_long is) (m.converted.too_long opened.unmarked made.unmarked (can_is false is)).0
      go true is =
          let goes = m.converted.goes opened.unmarked made.unmarked (can_is true is) in
          ended end m.from' m.to' is goes.here goes.there goes.pieces goes.moves m.result m.outcome m.storage goes.ends

  -- ---- what it left

  module _ (end : End) (from' to' : Handle) (other : memory_status end.outcome ≢ 7) (tells : to'.outside.bytes ≡ Some end.storage) where
    left_bare : can_have None (outline D (header_of c)) F.size ≡ false → to' ≡ to → Leaves c F end.storage
    left_bare is same = inr (inl (is, too_long is, some_same (sym tells ∙ ap (λ (h : Handle). h.outside.bytes) same ∙ header_bytes)))

    module _ (can : can_have None (outline D (header_of c)) F.size ≡ true) (here there : Handle) (pieces : List (List ℕ))
        (moves : Moves C D (answers_of None) piece_len from here to there pieces) where
      left_there : to' ≡ there → (refusal c F ≡ None) ⊎ (refusal c F ≡ Some AuthenticationFailed) → Stops F (length (concat pieces)) → Leaves c F end.storage
      left_there same why stop = leaves can here there pieces moves end.storage (ap (λ (h : Handle). h.outside.bytes) (sym same) ∙ tells) why stop

      left_by : (s : Side) (kind : ErrorKind) → RefusedBy kind end → length (concat pieces) < from.header.file_size
          → Stopped C D (answers_of None) (answers_of None) piece_len from from' to to' here there pieces s kind → Leaves c F end.storage
      left_by side.From kind by more (un, same) = go un.cause
        where
          go : ((kind ≡ Io) × Caused Io here.outside from'.outside) ⊎ (kind ≡ AuthenticationFailed) → Leaves c F end.storage
          go (inl io) = absurd (other (refused_told end kind by ∙ ap kind_status io.0))
          go (inr is) =
              let missing = unread_at can here there pieces moves end from' to' more kind un is in
              left_there same (inr (unread can here there pieces moves (omega (arith, more, size_F)) missing)) (inr missing)
      left_by side.To kind by more (piece, len, un, quiet) = go (at_write can here there pieces moves end from' to' more kind piece len un)
        where
          go : (kind ≡ Io) ⊎ ((kind ≡ Rng) × (refusal c F ≡ Some kind) × ((storage : List ℕ) → to'.outside.bytes ≡ Some storage → Dries c F storage)) → Leaves c F end.storage
          go (inl io) = absurd (other (refused_told end kind by ∙ ap kind_status io))
          go (inr rng) = inl (rng.2 end.storage tells)

      left_so : (result : Result (Unit {0}) ConvertError) → end.outcome ≡ outcome_of result
          → Ends C D (answers_of None) (answers_of None) piece_len from from' to to' here there pieces result → Leaves c F end.storage
      left_so (Ok u) out (all, read, wrote) =
          let all_F : length (concat pieces) ≡ F.size = all ∙ sym size_F in
          left_there wrote (inl (all_moved can here there pieces moves all_F)) (inl all_F)
      left_so (Err e) out (more, why) = left_by e.side (kind_of e.error) (e.error, out, refl) more why

  pub moved_leaves : (end : End) → Moved (cipher_of (variant_of c.old_algorithm)) (cipher_of (variant_of c.algorithm)) from to end
      → memory_status end.outcome ≢ 7 → Leaves c F end.storage
  moved_leaves end m other = go (can_have None (outline D (header_of c)) F.size) refl
    where
      go : (t : Bool) → can_have None (outline D (header_of c)) F.size ≡ t → Leaves c F end.storage
      go false is = left_bare end m.from' m.to' other m.storage is (m.converted.too_long opened.unmarked made.unmarked (can_is false is)).2
      go true is =
          let goes = m.converted.goes opened.unmarked made.unmarked (can_is true is) in
          left_so end m.from' m.to' other m.storage is goes.here goes.there goes.pieces goes.moves m.result m.outcome goes.ends

  -- a new file was made
  pub made_of : IsChunkSize c.chunk_size × (32 ≤ length c.random)
  made_of = (subst IsChunkSize maker.chunk_size made.can.chunk_size, new.id)

pub converts : Converts
converts c end (inl unopened) = unopened_right c end unopened
converts c end (inr (inl (by, empty))) = inl (refused_told end OutOfMemory by)
converts c end (inr (inr (from, (b, is, opened), inl unmade))) =
    unmade_right c (opened.holds c.storage refl).0 (opened.holds c.storage refl).1 end unmade
converts c end (inr (inr (from, (b, is, opened), inr (to, (maker, made_by, made), moved)))) =
    moved_right c from to b is opened maker made_by made end moved

pub one_verdict : OneVerdict
one_verdict c v w (inl (j, (cause, why), e)) (inl (k, (cause', why'), e')) =
    e ∙ ap (λ (k : ErrorKind). Some k) (one_cause (old_ground c).cipher c.old_key c.storage (old_ground c).answers j k why why' cause cause') ∙ sym e'
one_verdict c v w (inl (j, (cause, why), e)) (inr (F, opens, e')) = absurd (no_cause (old_ground c).cipher c.old_key c.storage (old_ground c).answers F j opens why cause)
one_verdict c v w (inr (F, opens, e)) (inl (k, (cause, why), e')) = absurd (no_cause (old_ground c).cipher c.old_key c.storage (old_ground c).answers F k opens why cause)
one_verdict c v w (inr (F, opens, e)) (inr (F', opens', e')) =
    e ∙ ap (refusal c) (opens_one (old_ground c).cipher (lawful (variant_of c.old_algorithm)) c.old_key c.storage F F' opens opens') ∙ sym e'
