-- A file that was opened, with and without a tree, and why one wasn't once its header was found.
use Rattle.std.proofs.Common.{◌≡◌, inl, inr, Bool, true, false, ℕ, zero, suc, ◌+◌, ◌*◌, ◌≤◌, ◌<◌, min, List, [], ◌∷◌, length, map, Option, Some, None, Result, Ok, Err, refl, sym, ◌∙◌, ap, subst, arith}
use Rattle.std.specs.Prelude.{is_some, unwrap_or, slice_get}
use Rattle.std.specs.Option.{option_map}
use Rattle.raf_tree.specs.Hashing.{Hashing}
use Rattle.raf_tree.specs.Tree.{height}
use Rattle.raf_tree.specs.Kept.{Kept as Tree, tree_height}
use Rattle.raf_format.specs.Cipher.{Cipher, IsLawful}
use Rattle.raf_format.specs.File.{shape_of, layout_len, chunk_count, chunk_at, chunks_from, file_of}
use Rattle.raf_format.specs.declared.header.Header.{Header}
use Rattle.raf_format.proofs.Opened.{opens_of}
use Rattle.raf_format.proofs.Headers.{says_one}
use Rattle.raf_io.specs.Kinds.{kind_of}
use Rattle.raf_io.specs.declared.errors.Error.{Error}
use Rattle.raf_io.specs.declared.errors.ErrorKind.{ErrorKind}
use Rattle.raf_io.specs.declared.errors.ErrorKind.TheVariants.{Io, InvalidArgument, AuthenticationFailed, AlreadyExists, NotFound, Overflow, MerkleNotEnabled, CorruptedChunk, Rng, Hash, Broken, OutOfMemory}
use Rattle.raf.specs.Outside.{Outside}
use Rattle.raf.specs.Concern.{none_missing}
use Rattle.raf.specs.Handle.{Holds, Paired, handle_of}
use Rattle.raf.specs.Carry.{SameTree}
use Rattle.raf.specs.Read.{chunks_of}
use Rattle.raf.specs.Session.{present}
use Rattle.raf.specs.Growing.{Grew, Ungrown}
use Rattle.raf.specs.Opening.{LaidOut, WhyNotOpened, NumbersRefuse, RefusalFault, Looked, OpenedBare, Opened, NotOpened, opening_traffic, opening_calls}
use Rattle.raf.proofs.Moves.{moved_less, moved_then, moved_later, quiet_then, kept_then, caused_later}
use Rattle.raf.proofs.Headed.{looked_bare}
use Rattle.raf.proofs.Chunks.{get_chunk}
use Rattle.raf.proofs.Needed.{one_missing}

-- chunks that are all there
pub all_some : (C : Cipher) (K : List ℕ) (h : Header) (b : List ℕ) (j n : ℕ) → ((i : ℕ) → j ≤ i → i < j + n → (m : List ℕ) × (chunk_at C K h b i ≡ Some m))
    → chunks_from C K h b j n ≡ map (λ m. Some m) (present (chunks_from C K h b j n))
all_some C K h b j zero there = refl
all_some C K h b j (suc n) there =
    let here = there j (omega arith) (omega arith) in
    ap (λ (l : List (Option (List ℕ))). chunk_at C K h b j ∷ l) (all_some C K h b (j + 1) n (λ i le lt. there i (omega (arith, le)) (omega (arith, lt))))
    ∙ ap (λ (o : Option (List ℕ)). o ∷ map (λ m. Some m) (present (chunks_from C K h b (j + 1) n))) (whole (chunk_at C K h b j) here.0 here.1)
  where
    whole : (o : Option (List ℕ)) (m : List ℕ) → o ≡ Some m → o ≡ Some (unwrap_or o [])
    whole (Some x) m is = refl
    whole None m is = cc

pub none_is : (o : Option Tree) → is_some o ≡ false → o ≡ None
none_is None is = refl
none_is (Some t) is = cc

no_tree : (o : Option Tree) (t : Tree) → o ≡ None → o ≡ Some t → ⊥
no_tree None t is other = cc
no_tree (Some u) t is other = cc

-- the limit of a tree of the same size
pub shapes_limit : (a b : Option Tree) → SameTree a b → option_map (λ (t : Tree). t.max_chunks) b ≡ option_map (λ (t : Tree). t.max_chunks) a
shapes_limit None None s = refl
shapes_limit (Some t) (Some u) s = ap (λ (n : ℕ). Some n) s.max_chunks
shapes_limit None (Some u) s = absurd s
shapes_limit (Some t) None s = absurd s

-- the tree that one of the same size was
pub shaped_from : (a b : Option Tree) (u : Tree) → SameTree a b → b ≡ Some u → (t : Tree) × (a ≡ Some t)
shaped_from (Some t) b u s is = (t, refl)
shaped_from None (Some x) u s is = absurd s
shaped_from None None u s is = cc

pub some_tree : (o : Option Tree) → is_some o ≡ true → (t : Tree) × (o ≡ Some t)
some_tree (Some t) is = (t, refl)
some_tree None is = cc

pub with_hasher : (E : List ℕ → Hashing) (setting : Option (List ℕ)) (tree : Option Tree) (t : Tree) → Paired E setting tree → tree ≡ Some t → is_some setting ≡ true
with_hasher E (Some s) tree t paired is = refl
with_hasher E None (Some u) t paired is = absurd paired
with_hasher E None None t paired is = cc

module _ (C : Cipher) (lawful : IsLawful C) (E : List ℕ → Hashing) (key : List ℕ) (most : Option ℕ) (old mid : Outside) (h : Header) (tree : Option Tree)
    (bare : OpenedBare C E key most old (handle_of mid key h tree false)) where
  laid : (b : List ℕ) → old.bytes ≡ Some b → LaidOut C b h
  laid b tells = let f = bare.is_file b tells in record { says = f.says; algorithm = f.algorithm; length_fits = f.length_fits }

  held : (new : Outside) (tree' : Option Tree) (b : List ℕ) → old.bytes ≡ Some b → new.bytes ≡ old.bytes → Holds C (handle_of new key h tree' false) (file_of C key h b)
  held new tree' b tells same = record { bytes = b; tells = same ∙ tells; is_file = bare.is_file b tells; file = refl }

  -- without a hasher
  pub opened_plain : tree ≡ None → Opened C E key most old (handle_of mid key h tree false)
  opened_plain none = record {
    key_is = refl;
    unmarked = refl;
    limit = bare.made.limit;
    room = bare.made.room;
    sound = bare.sound;
    quiet = bare.quiet;
    looked = looked_bare old mid most bare.kept bare.moved bare.within;
    moved =
        let len = layout_len (shape_of C h) h.file_size in
        let unlimited : most ≡ None = sym bare.made.limit ∙ ap (option_map (λ (t : Tree). t.max_chunks)) none in
        let traffic : opening_traffic most len ≡ min 96 len = ap (λ (o : Option ℕ). opening_traffic o len) unlimited in
        moved_less old mid _ _ _ _ _ len (opening_traffic most len) 0 0 (opening_calls most (chunk_count h.chunk_size h.file_size)) bare.moved
        (omega arith) (omega (arith, traffic)) (omega arith) (omega arith) (omega arith);
    holds = λ b tells. (file_of C key h b, opens_of C lawful key b h (bare.is_file b tells), held mid tree b tells bare.kept.bytes, λ x t set is. absurd (no_tree tree t none is));
  }

  -- with a hasher, up to the end or not
  module _ (K : List ℕ) (derived : K ≡ C.chunk_key key h.id) (some : is_some tree ≡ true) (new : Outside) (tree' : Option Tree) (begun : Bool) where
    most_is : (t : Tree) × (tree ≡ Some t) × (most ≡ Some t.max_chunks)
    most_is = let t = some_tree tree some in (t.0, t.1, sym bare.made.limit ∙ ap (option_map (λ (t : Tree). t.max_chunks)) t.1)

    looked : (result : Result (Unit {0}) Error) → Grew C E K h mid new tree tree' begun result → Looked old new most
    looked result grew = record {
      kept = kept_then old mid new bare.kept grew.kept;
      later = moved_later old new _ _ _ _ _ (moved_then old mid new _ _ _ _ _ _ _ _ _ _ bare.moved grew.moved);
      moved = λ b tells.
          let len : length b ≡ layout_len (shape_of C h) h.file_size = (bare.is_file b tells).length_fits in
          let traffic : opening_traffic most (length b) ≡ length b = ap (λ (o : Option ℕ). opening_traffic o (length b)) most_is.2 in
          let m = moved_then old mid new _ _ _ _ _ _ _ _ _ _ bare.moved grew.moved in
          let long : 96 ≤ length b = (bare.is_file b tells).says.long in
          moved_less old new _ _ _ _ _ (length b) (opening_traffic most (length b)) 0 0 new.calls m
          (omega (arith, len, long)) (omega (arith, len, long, traffic)) (omega arith) (omega arith) (omega arith);
      calls = λ b k tells says.
          let t = most_is in
          let same : h ≡ k = says_one b h k (bare.is_file b tells).says says in
          let bound : new.calls ≤ mid.calls + 2 * chunk_count h.chunk_size h.file_size + 2 * tree_height t.0 + 1 = grew.calls t.0 t.1 in
          let whole : opening_calls most (chunk_count h.chunk_size h.file_size) ≡ 2 * chunk_count h.chunk_size h.file_size + 2 * height t.0.max_chunks + 1 =
          ap (λ (o : Option ℕ). opening_calls o (chunk_count h.chunk_size h.file_size)) t.2 in
          subst (λ (k : Header). new.calls ≤ old.calls + opening_calls most (chunk_count k.chunk_size k.file_size)) same (omega (arith, bound, whole, bare.moved.calls_most));
      unhashed = λ b tells none. absurd (none h (bare.is_file b tells).says);
      header_alone = λ none. absurd (other (sym none ∙ most_is.2));
      strays = λ b tells.
          let len : length b ≡ layout_len (shape_of C h) h.file_size = (bare.is_file b tells).length_fits in
          grew.strays b (bare.kept.bytes ∙ tells) (omega (arith, len)) ∙ (bare.within b tells).strays;
    }
      where
        other : {n : ℕ} → None ≡ Some n → ⊥
        other same = cc

    pub opened_grown : Grew C E K h mid new tree tree' begun (Ok tt) → Opened C E key most old (handle_of new key h tree' false)
    opened_grown grew = record {
      key_is = refl;
      unmarked = refl;
      limit = shapes_limit tree tree' grew.shapes ∙ bare.made.limit;
      room = bare.made.room;
      sound = bare.sound;
      quiet = quiet_then old mid new bare.quiet grew.quiet;
      looked = looked (Ok tt) grew;
      moved =
          let t = most_is in
          let len = layout_len (shape_of C h) h.file_size in
          let n = chunk_count h.chunk_size h.file_size in
          let traffic : opening_traffic most len ≡ len = ap (λ (o : Option ℕ). opening_traffic o len) t.2 in
          let calls : opening_calls most n ≡ 2 * n + 2 * height t.0.max_chunks + 1 = ap (λ (o : Option ℕ). opening_calls o n) t.2 in
          let bound : new.calls ≤ mid.calls + 2 * n + 2 * tree_height t.0 + 1 = grew.calls t.0 t.1 in
          moved_less old new _ _ _ _ _ len (opening_traffic most len) 0 0 (opening_calls most n)
          (moved_then old mid new _ _ _ _ _ _ _ _ _ _ bare.moved grew.moved) (omega arith) (omega (arith, traffic)) (omega arith) (omega arith) (omega (arith, calls, bound));
      holds = λ b tells. (
        file_of C key h b,
        opens_of C lawful key b h (bare.is_file b tells),
        held new tree' b tells (grew.kept.bytes ∙ bare.kept.bytes),
        λ x u set is.
            let t = shaped_from tree tree' u grew.shapes is in
            let told = bare.kept.bytes ∙ tells in
            record {
              chunks = present (chunks_of C (C.chunk_key key h.id) h b);
              present = subst (λ (k : List ℕ). chunks_of C k h b ≡ map (λ m. Some m) (present (chunks_of C k h b))) derived
                  (all_some C K h b 0 (chunk_count h.chunk_size h.file_size) (λ i le lt. grew.there b told i (omega (arith, lt))));
              keeps = subst (λ (k : List ℕ). Rattle.raf_tree.specs.Kept.Keeps (E x) u (Rattle.raf_tree.specs.Tree.leaves (E x) (present (chunks_of C k h b)))) derived
                  (grew.grown b told x t.0 u (sym grew.moved.setting ∙ set) t.1 is);
            },
      );
    }

    pub refused_grow : (e : Error) → Grew C E K h mid new tree tree' begun (Err e) → NotOpened C E key most old new (kind_of e)
    refused_grow e grew = record {
      why = λ b tells. why (kind_of e) refl grew.kinds b tells;
      numbers = numbers (kind_of e) grew.kinds;
      fault = fault (kind_of e) grew.kinds;
      looked = looked (Err e) grew;
    }
      where
        hasher : is_some old.setting ≡ true
        hasher = let t = most_is in with_hasher E old.setting tree t.0 bare.made.paired t.1

        why : (k : ErrorKind) → kind_of e ≡ k → Ungrown k mid new → (b : List ℕ) → old.bytes ≡ Some b → WhyNotOpened C E key old.setting most b k
        why Io is u b tells = inl tt
        why Hash is u b tells = inr (h, laid b tells, (bare.made.room, (bare.is_file b tells).tagged, hasher))
        why AuthenticationFailed is u b tells =
            let bad = grew.missing b (bare.kept.bytes ∙ tells) is in
            let found : slice_get (chunks_of C K h b) bad.0 ≡ Some None = get_chunk C K h b bad.0 bad.1 ∙ ap (λ (o : Option (List ℕ)). Some o) bad.2 in
            inr (
              h,
              laid b tells,
              (
                bare.made.room,
                inr (
                  (bare.is_file b tells).tagged,
                  hasher,
                  subst (λ (k : List ℕ). none_missing (λ _. true) 0 (chunks_of C k h b) ≡ false) derived (one_missing (λ _. true) 0 bad.0 (chunks_of C K h b) found refl),
                ),
              ),
            )
        why Rng is u b tells = absurd u
        why (InvalidArgument r) is u b tells = absurd u
        why AlreadyExists is u b tells = absurd u
        why NotFound is u b tells = absurd u
        why Overflow is u b tells = absurd u
        why MerkleNotEnabled is u b tells = absurd u
        why (CorruptedChunk i) is u b tells = absurd u
        why Broken is u b tells = absurd u
        why OutOfMemory is u b tells = absurd u

        numbers : (k : ErrorKind) → Ungrown k mid new → NumbersRefuse E old.setting most k
        numbers Io u = tt
        numbers Hash u = (λ x n set limit. ((bare.made.room x n set limit).0, omega arith), hasher)
        numbers AuthenticationFailed u = λ x n set limit. ((bare.made.room x n set limit).0, omega arith)
        numbers Rng u = absurd u
        numbers (InvalidArgument r) u = absurd u
        numbers AlreadyExists u = absurd u
        numbers NotFound u = absurd u
        numbers Overflow u = absurd u
        numbers MerkleNotEnabled u = absurd u
        numbers (CorruptedChunk i) u = absurd u
        numbers Broken u = absurd u
        numbers OutOfMemory u = absurd u

        fault : (k : ErrorKind) → Ungrown k mid new → RefusalFault k old new
        fault Io u = caused_later Io old mid new bare.quiet u
        fault Hash u = caused_later Hash old mid new bare.quiet u
        fault AuthenticationFailed u = quiet_then old mid new bare.quiet u
        fault Rng u = absurd u
        fault (InvalidArgument r) u = absurd u
        fault AlreadyExists u = absurd u
        fault NotFound u = absurd u
        fault Overflow u = absurd u
        fault MerkleNotEnabled u = absurd u
        fault (CorruptedChunk i) u = absurd u
        fault Broken u = absurd u
        fault OutOfMemory u = absurd u
