-- A tree that is made anew once each chunk was seen to open.
use Rattle.std.proofs.Common.{◌≡◌, inl, inr, Bool, true, false, cond, ℕ, ◌+◌, ◌-◌, ◌*◌, ◌<◌, ◌≤◌, List, length, map, Option, Some, None, Result, Ok, Err, refl, sym, ◌∙◌, ap, subst, arith}
use Rattle.std.specs.Prelude.{◌⊎◌}
use Rattle.std.specs.Result.{OnOk}
use Rattle.std.proofs.lemmas.Bool.{false≢true}
use Rattle.counts.specs.Counts.{Rose}
use Rattle.raf_io.specs.Kinds.{kind_of}
use Rattle.raf_tree.specs.Hashing.{Hashing}
use Rattle.raf_tree.specs.Tree.{leaves}
use Rattle.raf_tree.specs.Kept.{Kept as Tree, Keeps, tree_height}
use Rattle.raf_tree.specs.Steps.{SameShape}
use Rattle.raf_format.specs.Cipher.{Cipher}
use Rattle.raf_format.specs.File.{File, chunk_count, chunk_at}
use Rattle.raf_format.specs.declared.header.Header.{Header}
use Rattle.raf_io.specs.declared.errors.Error.{Error}
use Rattle.raf_io.specs.declared.errors.ErrorKind.{ErrorKind}
use Rattle.raf_io.specs.declared.errors.ErrorKind.TheVariants.{Io, InvalidArgument, AuthenticationFailed, AlreadyExists, NotFound, Overflow, MerkleNotEnabled, CorruptedChunk, Rng, Hash, Broken, OutOfMemory}
use Rattle.raf.specs.Concern.{none_missing}
use Rattle.raf.specs.Meaning.{Faultable}
use Rattle.raf.specs.Outside.{Outside, Caused, Moved}
use Rattle.raf.specs.Handle.{Handle, KeptAnswer, handle_of, limit_of}
use Rattle.raf.specs.Stepped.{Went, Failed, done_reply, refuses}
use Rattle.raf.specs.Read.{chunks_of}
use Rattle.raf.specs.Session.{present}
use Rattle.raf.specs.Loaded.{Unopened}
use Rattle.raf.specs.Growing.{Grew, Ungrown}
use Rattle.raf.specs.Verifying.{AllThere}
use Rattle.raf.specs.declared.command.Command.TheVariants as command
use Rattle.raf.specs.declared.command.Reply.TheVariants as reply
use Rattle.raf.proofs.Moves.{moved_less, moved_then, quiet_then, kept_then, caused_later}
use Rattle.raf.proofs.Chunks.{get_chunk, length-chunks}
use Rattle.raf.proofs.Needed.{one_missing, all_there}
use Rattle.raf.proofs.Openings.{all_some}
use Rattle.raf.proofs.Grown.{shaped_as, same_shape}
use Rattle.raf.proofs.TreeSteps.{at, with_chunks, count, whole, measured, free, taken_up, went_rebuilt}
use Rattle.raf.proofs.TreeSteps.IsTreeCommand.{rebuild}

-- chunks of which one is missing, or none
pub some_missing : (C : Cipher) (K : List ℕ) (h : Header) (b : List ℕ) (i : ℕ) → i < chunk_count h.chunk_size h.file_size → chunk_at C K h b i ≡ None → none_missing (λ _. true) 0 (chunks_of C K h b) ≡ false
some_missing C K h b i lt is = one_missing (λ _. true) 0 i (chunks_of C K h b) (get_chunk C K h b i lt ∙ ap (λ (o : Option (List ℕ)). Some o) is) refl

no_missing : (C : Cipher) (K : List ℕ) (h : Header) (b : List ℕ) → ((i : ℕ) → i < chunk_count h.chunk_size h.file_size → (m : List ℕ) × (chunk_at C K h b i ≡ Some m))
    → none_missing (λ _. true) 0 (chunks_of C K h b) ≡ true
no_missing C K h b there = all_there (λ _. true) 0 (chunks_of C K h b) (λ k lt is.
    let below : k < chunk_count h.chunk_size h.file_size = omega (arith, lt, length-chunks C K h b 0 (chunk_count h.chunk_size h.file_size)) in
    let m = there k below in
    (m.0, get_chunk C K h b k below ∙ ap (λ (o : Option (List ℕ)). Some o) m.1))

module _ (C : Cipher) (E : List ℕ → Hashing) (key : List ℕ) (h : Header) (t : Tree) (a : Outside) (x : List ℕ) (set : a.setting ≡ Some x) (K : List ℕ) (derived : K ≡ C.chunk_key key h.id) where
  refused_due : (F : File) (b : List ℕ) → F.chunks ≡ chunks_of C (C.chunk_key key h.id) h b → none_missing (λ _. true) 0 (chunks_of C K h b) ≡ false
      → KeptAnswer F command.Rebuild (reply.Refused AuthenticationFailed) (E x) t
  refused_due F b is none =
      ap (λ (t : Bool). cond t reply.Done (reply.Refused AuthenticationFailed)) (sym (ap (none_missing (λ _. true) 0) is ∙ sym (ap (λ (k : List ℕ). none_missing (λ _. true) 0 (chunks_of C k h b)) derived) ∙ none))

  done_due : (F : File) (b : List ℕ) → F.chunks ≡ chunks_of C (C.chunk_key key h.id) h b → none_missing (λ _. true) 0 (chunks_of C K h b) ≡ true
      → KeptAnswer F command.Rebuild reply.Done (E x) t
  done_due F b is all =
      ap (λ (t : Bool). cond t reply.Done (reply.Refused AuthenticationFailed)) (sym (ap (none_missing (λ _. true) 0) is ∙ sym (ap (λ (k : List ℕ). none_missing (λ _. true) 0 (chunks_of C k h b)) derived) ∙ all))

  not_done : {k : ErrorKind} → reply.Refused k ≡ reply.Done → ⊥
  not_done is = cc

  not_refused : refuses reply.Done ≡ true → ⊥
  not_refused is = false≢true is

  -- a storage that failed, and a hasher
  failed_io : (b : Outside) (now : Handle) (tree : Option Tree) (broken : Bool) → now ≡ handle_of b key h tree broken → Caused Io a b → 1 ≤ chunk_count h.chunk_size h.file_size
      → Failed C (at C E key h t a x set a) now command.Rebuild (reply.Refused Io)
  failed_io b now tree broken is why some = record {
    kind = Io;
    is = refl;
    cause = subst (λ (n : Handle). Caused Io a n.outside) (sym is) why;
    may = measured C E key h t a x set (λ F. Faultable (limit_of (at C E key h t a x set a)) Io F command.Rebuild) (λ chunks. (free C E key h t a x set (with_chunks C E key h t a x set chunks) command.Rebuild rebuild, omega (arith, some)));
    short = λ F measures same exact. absurd (not_rng same);
  }
    where
      not_rng : Io ≡ Rng → ⊥
      not_rng same = cc

  failed_hash : (b : Outside) (now : Handle) (tree : Option Tree) (broken : Bool) → now ≡ handle_of b key h tree broken → Caused Hash a b
      → Failed C (at C E key h t a x set a) now command.Rebuild (reply.Refused Hash)
  failed_hash b now tree broken is why = record {
    kind = Hash;
    is = refl;
    cause = subst (λ (n : Handle). Caused Hash a n.outside) (sym is) why;
    may = measured C E key h t a x set (λ F. Faultable (limit_of (at C E key h t a x set a)) Hash F command.Rebuild) (λ chunks. (taken_up C E key h t a x set (with_chunks C E key h t a x set chunks) command.Rebuild rebuild, omega arith));
    short = λ F measures same exact. absurd (not_rng same);
  }
    where
      not_rng : Hash ≡ Rng → ⊥
      not_rng same = cc

  -- the first pass stopped
  pub went_unseen : (b : Outside) (e : Error) → AllThere C K h a b (Err e) → Went C E (handle_of a key h (Some t) false) (handle_of b key h (Some t) false) command.Rebuild (reply.Refused (kind_of e))
  went_unseen b e v = go (kind_of e) refl v.kinds
    where
      go : (k : ErrorKind) → kind_of e ≡ k → Unopened k a b → Went C E (handle_of a key h (Some t) false) (handle_of b key h (Some t) false) command.Rebuild (reply.Refused k)
      go Io is why =
          went_rebuilt C E key h t a x set K derived b t false (reply.Refused Io) (same_shape t) v.kept (moved_less a b _ _ _ _ _ _ _ _ _ _ v.moved (omega arith) (omega arith) (omega arith) (omega arith) (omega arith))
          v.strays (λ calm. absurd (false≢true (sym calm))) (λ _. inr (refl, omega (arith, v.moved.calls_later, v.moved.calls_most), refl)) (λ no. absurd (false≢true (sym no)))
          (λ F held calm. absurd (false≢true (sym calm))) (λ F held done. absurd (not_done done)) (λ _. failed_io b _ (Some t) false refl why v.some)
      go AuthenticationFailed is quiet =
          went_rebuilt C E key h t a x set K derived b t false (reply.Refused AuthenticationFailed) (same_shape t) v.kept
          (moved_less a b _ _ _ _ _ _ _ _ _ _ v.moved (omega arith) (omega arith) (omega arith) (omega arith) (omega arith))
          v.strays (λ _. (quiet, inr (refl, v.some))) (λ _. inr (refl, omega (arith, v.moved.calls_later, v.moved.calls_most), refl)) (λ no. absurd (false≢true (sym no)))
          (λ F held calm.
          let bad = v.missing held.bytes held.tells is in
          (refused_due F held.bytes (ap (λ (f : File). f.chunks) held.file) (some_missing C K h held.bytes bad.0 bad.1 bad.2), refl))
          (λ F held done. absurd (not_done done)) (λ fault. absurd (false≢true fault))
      go Rng is why = absurd why
      go Hash is why = absurd why
      go (InvalidArgument r) is why = absurd why
      go AlreadyExists is why = absurd why
      go NotFound is why = absurd why
      go Overflow is why = absurd why
      go MerkleNotEnabled is why = absurd why
      go (CorruptedChunk i) is why = absurd why
      go Broken is why = absurd why
      go OutOfMemory is why = absurd why

  -- the second pass
  module _ (m b : Outside) (seen : AllThere C K h a m (Ok tt)) (tree' : Option Tree) (broken : Bool) where
    moved_both : (result : Result (Unit {0}) Error) → Grew C E K h m b (Some t) tree' broken result
        → Moved a b (whole C E key h t a x set) (2 * (whole C E key h t a x set - 96)) 0 0 (2 * count C E key h t a x set + 2 * tree_height t + 1)
    moved_both result g = moved_less a b _ _ _ _ _ _ _ _ _ _ (moved_then a m b _ _ _ _ _ _ _ _ _ _ seen.moved g.moved)
        (omega arith) (omega arith) (omega arith) (omega arith) (omega (arith, g.calls t refl))

    strays_both : (result : Result (Unit {0}) Error) → Grew C E K h m b (Some t) tree' broken result
        → (l : List ℕ) → a.bytes ≡ Some l → whole C E key h t a x set ≤ length l → b.strays ≡ a.strays
    strays_both result g l tells long = g.strays l (seen.kept.bytes ∙ tells) long ∙ seen.strays l tells long

    pub went_grown : broken ≡ false → Grew C E K h m b (Some t) tree' broken (Ok tt) → Went C E (handle_of a key h (Some t) false) (handle_of b key h tree' broken) command.Rebuild reply.Done
    went_grown unmarked g =
        let u = shaped_as (Some t) tree' t g.shapes refl in
        subst (λ (o : Option Tree). Went C E (handle_of a key h (Some t) false) (handle_of b key h o broken) command.Rebuild reply.Done) (sym u.1)
        (went_rebuilt C E key h t a x set K derived b u.0 broken reply.Done u.2 (kept_then a m b seen.kept g.kept) (moved_both (Ok tt) g) (strays_both (Ok tt) g)
        (λ _. (quiet_then a m b seen.quiet g.quiet, inl refl)) (λ refused. absurd (not_refused refused)) (λ _. unmarked)
        (λ F held calm. (done_due F held.bytes (ap (λ (f : File). f.chunks) held.file) (no_missing C K h held.bytes (seen.there held.bytes held.tells)), unmarked))
        (λ F held done. record {
          chunks = present (chunks_of C (C.chunk_key key h.id) h held.bytes);
          present = ap (λ (f : File). f.chunks) held.file
              ∙ subst (λ (k : List ℕ). chunks_of C k h held.bytes ≡ map (λ m. Some m) (present (chunks_of C k h held.bytes))) derived
              (all_some C K h held.bytes 0 (chunk_count h.chunk_size h.file_size) (λ i le lt. seen.there held.bytes held.tells i (omega (arith, lt))));
          keeps = subst (λ (k : List ℕ). Keeps (E x) u.0 (leaves (E x) (present (chunks_of C k h held.bytes)))) derived
              (g.grown held.bytes (seen.kept.bytes ∙ held.tells) x t u.0 (seen.moved.setting ∙ set) refl u.1);
        })
        (λ fault. absurd (false≢true fault)))

    pub went_ungrown : (e : Error) → Grew C E K h m b (Some t) tree' broken (Err e) → Went C E (handle_of a key h (Some t) false) (handle_of b key h tree' broken) command.Rebuild (reply.Refused (kind_of e))
    went_ungrown e g =
        let u = shaped_as (Some t) tree' t g.shapes refl in
        subst (λ (o : Option Tree). Went C E (handle_of a key h (Some t) false) (handle_of b key h o broken) command.Rebuild (reply.Refused (kind_of e))) (sym u.1)
        (go u.0 u.1 u.2 (kind_of e) refl g.kinds)
      where
        stopped : (u : Tree) → tree' ≡ Some u → ((broken ≡ true) × Rose a.calls b.calls) ⊎ ((broken ≡ false) × (b.calls ≡ a.calls) × (u ≡ t))
        stopped u is = elim g.stopped [
          | inl set ↦ inl (set.0, omega (arith, set.1, seen.moved.calls_later))
          | inr not ↦ inr (not.0, omega (arith, not.1, seen.moved.calls_later, seen.moved.calls_most), inner (sym is ∙ not.2))
        ]
          where
            inner : Some u ≡ Some t → u ≡ t
            inner same = cc

        io_no_hash : Io ≡ Hash → ⊥
        io_no_hash same = cc

        go : (u : Tree) → tree' ≡ Some u → SameShape t u → (k : ErrorKind) → kind_of e ≡ k → Ungrown k m b
            → Went C E (handle_of a key h (Some t) false) (handle_of b key h (Some u) broken) command.Rebuild (reply.Refused k)
        go u tree_is shape Io is why =
            went_rebuilt C E key h t a x set K derived b u broken (reply.Refused Io) shape (kept_then a m b seen.kept g.kept) (moved_both (Err e) g) (strays_both (Err e) g)
            (λ calm. absurd (false≢true (sym calm))) (λ _. stopped u tree_is) (λ no. absurd (false≢true (sym no)))
            (λ F held calm. absurd (false≢true (sym calm))) (λ F held done. absurd (not_done done))
            (λ _. failed_io b _ (Some u) broken refl (caused_later Io a m b seen.quiet why) (g.some (λ other. io_no_hash (sym is ∙ other))))
        go u tree_is shape Hash is why =
            went_rebuilt C E key h t a x set K derived b u broken (reply.Refused Hash) shape (kept_then a m b seen.kept g.kept) (moved_both (Err e) g) (strays_both (Err e) g)
            (λ calm. absurd (false≢true (sym calm))) (λ _. stopped u tree_is) (λ no. absurd (false≢true (sym no)))
            (λ F held calm. absurd (false≢true (sym calm))) (λ F held done. absurd (not_done done))
            (λ _. failed_hash b _ (Some u) broken refl (caused_later Hash a m b seen.quiet why))
        go u tree_is shape AuthenticationFailed is quiet =
            went_rebuilt C E key h t a x set K derived b u broken (reply.Refused AuthenticationFailed) shape (kept_then a m b seen.kept g.kept) (moved_both (Err e) g) (strays_both (Err e) g)
            (λ _. (quiet_then a m b seen.quiet quiet, inr (refl, g.some (λ other. no_hash (sym is ∙ other))))) (λ _. stopped u tree_is) (λ no. absurd (false≢true (sym no)))
            (λ F held calm.
            let bad = g.missing held.bytes (seen.kept.bytes ∙ held.tells) is in
            let good = seen.there held.bytes held.tells bad.0 bad.1 in
            absurd (both (chunk_at C K h held.bytes bad.0) good.0 bad.2 good.1))
            (λ F held done. absurd (not_done done)) (λ fault. absurd (false≢true fault))
          where
            no_hash : AuthenticationFailed ≡ Hash → ⊥
            no_hash same = cc

            both : (o : Option (List ℕ)) (m : List ℕ) → o ≡ None → o ≡ Some m → ⊥
            both None m none some = cc
            both (Some y) m none some = cc
        go u tree_is shape Rng is why = absurd why
        go u tree_is shape (InvalidArgument r) is why = absurd why
        go u tree_is shape AlreadyExists is why = absurd why
        go u tree_is shape NotFound is why = absurd why
        go u tree_is shape Overflow is why = absurd why
        go u tree_is shape MerkleNotEnabled is why = absurd why
        go u tree_is shape (CorruptedChunk i) is why = absurd why
        go u tree_is shape Broken is why = absurd why
        go u tree_is shape OutOfMemory is why = absurd why

    pub went_second : (result : Result (Unit {0}) Error) → OnOk result (broken ≡ false) → Grew C E K h m b (Some t) tree' broken result
        → Went C E (handle_of a key h (Some t) false) (handle_of b key h tree' broken) command.Rebuild (done_reply result)
    went_second (Ok _) unmarked g = went_grown unmarked g
    went_second (Err e) unmarked g = went_ungrown e g
