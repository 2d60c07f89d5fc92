-- A read as a command on an open file.
use Rattle.std.proofs.Common.{◌≡◌, inl, inr, Bool, true, false, cond, ℕ, ◌+◌, ◌-◌, ◌*◌, ◌/◌, ◌<◌, ◌≤◌, min, max, List, [], ◌∷◌, ◌++◌, length, take, drop, Option, Some, refl, sym, ◌∙◌, ap, subst, arith}
use Rattle.std.specs.Prelude.{unwrap_or}
use Rattle.std.proofs.lemmas.Bool.{false≢true}
use Rattle.std.proofs.lemmas.List.{take_all}
use Rattle.std.proofs.lemmas.Option.{slice_get_within}
use Rattle.std.proofs.Math.Nat.{div-mul-le_self, lt-div-mul-add}
use Rattle.std.proofs.lemmas.Nat.{le-div}
use Rattle.raf_tree.specs.Hashing.{Hashing}
use Rattle.raf_tree.specs.Kept.{Kept as Tree}
use Rattle.raf_format.specs.Cipher.{Cipher, IsLawful}
use Rattle.raf_format.specs.File.{File, IsFile, shape_of, layout_len, chunk_count, record_len, record_at, chunk_at}
use Rattle.raf_format.specs.Version.{tag_len_of}
use Rattle.raf.specs.Due.{Due, Answers, is_barred}
use Rattle.raf.specs.Due.Due.{Exactly}
use Rattle.raf.specs.Concern.{needed, none_missing, sum_where, meets}
use Rattle.raf.specs.Apply.{apply, bytes_between}
use Rattle.raf.specs.Meaning.{Authentic, Faultable, Concerned}
use Rattle.raf.specs.Outside.{Outside, Moved}
use Rattle.raf.specs.Handle.{Handle, handle_of, Measures, OfTree, KeptAnswer, limit_of}
use Rattle.raf.specs.Loaded.{Sound, Unopened}
use Rattle.raf.specs.Read.{ReadSoFar, Unread, Filled, chunks_of, reached}
use Rattle.raf.specs.Stepped.{Went, Bounded, Needs}
use Rattle.raf_io.specs.Kinds.{kind_of}
use Rattle.raf_format.specs.declared.header.Header.{Header}
use Rattle.raf.specs.declared.command.Command.TheVariants.{Read, Rebuild, Sync}
use Rattle.raf.specs.declared.command.Reply.{Reply}
use Rattle.raf.specs.declared.command.Reply.TheVariants.{Bytes, Refused}
use Rattle.raf_io.specs.declared.errors.Error.{Error}
use Rattle.raf_io.specs.declared.errors.ErrorKind.{ErrorKind}
use Rattle.raf_io.specs.declared.errors.ErrorKind.TheVariants.{Io, InvalidArgument, AuthenticationFailed, AlreadyExists, NotFound, Overflow, MerkleNotEnabled, CorruptedChunk, Rng, Hash, Broken, OutOfMemory}
use Rattle.raf.proofs.Chunks.{get_chunk, length-chunks}
use Rattle.raf.proofs.Places.{meets_range, counts_below}
use Rattle.raf.proofs.Needed.{apply_read, met, meets_true, met_among, all_there, one_missing, sum_within}
use Rattle.raf.proofs.Moves.{moved_any, moved_same, moved_less}
use Rattle.raf_format.proofs.Versions.{is_tag_len}
use Rattle.raf_format.proofs.Opened.{sealed_for}
use Rattle.raf.proofs.StillSteps.{went_still}

pub no_bytes : (cs from end j : ℕ) (chunks : List (Option (List ℕ))) → end ≤ from → bytes_between cs from end j chunks ≡ []
no_bytes cs from end j [] le = refl
no_bytes cs from end j (c ∷ chunks) le =
    let n : end - max from (j * cs) ≡ 0 = omega (arith, le) in
    ap (λ (k : ℕ). take k (drop (from - j * cs) (unwrap_or c [])) ++ bytes_between cs from end (j + 1) chunks) n ∙ no_bytes cs from end (j + 1) chunks le

inner : (o : Option (List ℕ)) (m : List ℕ) → Some o ≡ Some (Some m) → o ≡ Some m
inner o m same = cc

module _ (C : Cipher) (lawful : IsLawful C) (E : List ℕ → Hashing) (key : List ℕ) (h : Header) (sound : Sound C h) (tree : Option Tree) (broken : Bool) (unmarked : broken ≡ false) (offset len : ℕ) where
  abbrev pub at : Outside → Handle
  at a = handle_of a key h tree broken

  -- a file of these numbers
  abbrev pub with_chunks : List (Option (List ℕ)) → File
  with_chunks chunks = record { shape = shape_of C h; id = h.id; size = h.file_size; chunks = chunks }

  abbrev pub K : List ℕ
  K = C.chunk_key key h.id

  no_rebuild : Read offset len ≡ Rebuild → ⊥
  no_rebuild is = cc

  no_sync : Read offset len ≡ Sync → ⊥
  no_sync is = cc

  some : 1 ≤ h.chunk_size
  some = omega (arith, sound.least)

  measured : (P : File → Type 0) (a : Outside) → ((chunks : List (Option (List ℕ))) → P (with_chunks chunks)) → (F : File) → Measures C (at a) F → P F
  measured P a all F (inl held) = subst P (sym held.file) (all (chunks_of C K h held.bytes))
  measured P a all F (inr same) = subst P (sym same) (all [])

  -- what is due, over these chunks
  abbrev pub IsDue : List ℕ → List (Option (List ℕ)) → Outside → File → Reply → Type 0
  IsDue b chunks a F reply =
      Answers (λ r. OfTree E (at a) (KeptAnswer F (Read offset len) r)) (apply (limit_of (at a)) F (Read offset len)).0 reply × Authentic C key b F (Read offset len) (apply (limit_of (at a)) F (Read offset len)).0

  due_bytes : (a : Outside) (b : List ℕ) (chunks : List (Option (List ℕ))) (got : List ℕ) → none_missing (needed (with_chunks chunks) (Read offset len)) 0 chunks ≡ true
      → bytes_between h.chunk_size offset (min (offset + len) h.file_size) 0 chunks ≡ got
      → Authentic C key b (with_chunks chunks) (Read offset len) (Exactly (Bytes got)) → IsDue b chunks a (with_chunks chunks) (Bytes got)
  due_bytes a b chunks got there is authentic =
      let F = with_chunks chunks in
      let L = limit_of (at a) in
      subst (λ (p : Due × File). Answers (λ r. OfTree E (at a) (KeptAnswer F (Read offset len) r)) p.0 (Bytes got) × Authentic C key b F (Read offset len) p.0)
      (sym (apply_read L F offset len true there ∙ ap (λ (l : List ℕ). (Exactly (Bytes l), F)) is)) (refl, authentic)

  due_missing : (a : Outside) (b : List ℕ) (chunks : List (Option (List ℕ))) → none_missing (needed (with_chunks chunks) (Read offset len)) 0 chunks ≡ false
      → IsDue b chunks a (with_chunks chunks) (Refused AuthenticationFailed)
  due_missing a b chunks missing =
      let F = with_chunks chunks in
      let L = limit_of (at a) in
      subst (λ (p : Due × File). Answers (λ r. OfTree E (at a) (KeptAnswer F (Read offset len) r)) p.0 (Refused AuthenticationFailed) × Authentic C key b F (Read offset len) p.0)
      (sym (apply_read L F offset len false missing)) (refl, tt)

  -- a read of no position below the size
  pub went_nothing : (a : Outside) → min (offset + len) h.file_size ≤ offset → Went C E (at a) (at a) (Read offset len) (Bytes [])
  went_nothing a none =
      went_still C E (at a) (at a) (Read offset len) (Bytes []) refl refl refl refl unmarked refl refl
      (λ F held calm.
      let chunks = chunks_of C K h held.bytes in
      subst (λ (F : File). IsDue held.bytes chunks a F (Bytes [])) (sym held.file)
      (due_bytes a held.bytes chunks []
      (all_there (needed (with_chunks chunks) (Read offset len)) 0 chunks (λ k lt is. absurd (omega (arith, (met ((0 + k) * h.chunk_size) h.chunk_size offset (min (offset + len) h.file_size) is).2, none))))
      (no_bytes h.chunk_size offset (min (offset + len) h.file_size) 0 chunks none)
      (λ k lt. absurd (omega (arith, lt)))))
      (λ fault. absurd (false≢true fault))
      (λ _. record { io = refl; rng = refl; hash = refl })
      (λ _. inr ([], refl, omega (arith, none)))
      (λ F measures. moved_any a a _ _ _ _ _ (moved_same a a refl))
      (λ F held. refl) refl refl (λ _. refl) (λ both. no_rebuild both.0) (λ _. refl) (λ is. absurd (no_sync is)) tt

  module _ (n first stop : ℕ) (n_is : n ≡ min (offset + len) h.file_size - offset) (had : 0 < n) (first_is : first ≡ offset / h.chunk_size) (stop_is : stop ≡ (offset + n - 1) / h.chunk_size + 1) where
    end : offset + n ≡ min (offset + len) h.file_size
    end = omega (arith, n_is, had)

    among : (i : ℕ) → first ≤ i → i < stop → (i * h.chunk_size < offset + n) × (offset < i * h.chunk_size + h.chunk_size)
    among i least most =
        let m = meets_range h.chunk_size offset n i some had (omega (arith, least, first_is)) (omega (arith, most, stop_is)) in
        let next : (i + 1) * h.chunk_size ≡ i * h.chunk_size + h.chunk_size = omega arith in
        (m.0, omega (arith, m.1, next))

    pass : (chunks : List (Option (List ℕ))) (i : ℕ) → first ≤ i → i < stop → needed (with_chunks chunks) (Read offset len) i ≡ true
    pass chunks i least most =
        let m = among i least most in
        let is : meets (i * h.chunk_size) h.chunk_size offset (offset + n) ≡ true = meets_true (i * h.chunk_size) h.chunk_size offset (offset + n) (omega (arith, had)) m.0 m.1 in
        subst (λ (x : ℕ). meets (i * h.chunk_size) h.chunk_size offset x ≡ true) end is

    ordered : first < stop
    ordered =
        let le = le-div (offset / h.chunk_size) (offset + n - 1) h.chunk_size some (omega (arith, div-mul-le_self offset h.chunk_size, had)) in
        omega (arith, le, first_is, stop_is)

    counted : stop ≤ chunk_count h.chunk_size h.file_size
    counted =
        let m = among (stop - 1) (omega (arith, ordered)) (omega (arith, ordered)) in
        let c = counts_below h.chunk_size h.file_size (stop - 1) some (omega (arith, m.0, end)) in
        omega (arith, c, ordered)

    -- the most that it asks
    bounded_by : (a b : Outside) → Moved a b (layout_len (shape_of C h) h.file_size) (sum_where (λ _. true) (record_len (shape_of C h) h.file_size) first (stop - first)) 0 0 0
        → (F : File) → Measures C (at a) F → Bounded (limit_of (at a)) a b F (Read offset len)
    bounded_by a b moved F measures = measured (λ F. Bounded (limit_of (at a)) a b F (Read offset len)) a (λ chunks.
        let sum = sum_within (needed (with_chunks chunks) (Read offset len)) (record_len (shape_of C h) h.file_size) 0 (chunk_count h.chunk_size h.file_size) first (stop - first) (omega arith)
        (omega (arith, counted, ordered)) (λ i least most. pass chunks i least (omega (arith, most, ordered))) in
        moved_less a b _ _ _ _ _ _ _ _ _ _ moved (omega arith) (omega (arith, sum)) (omega arith) (omega arith) (omega arith)) F measures

    concerned : (chunks : List (Option (List ℕ))) → Concerned (with_chunks chunks) (Read offset len)
    concerned chunks =
        let sum = sum_within (needed (with_chunks chunks) (Read offset len)) (λ _. 1) 0 (chunk_count h.chunk_size h.file_size) first 1 (omega arith) (omega (arith, counted, ordered))
        (λ i least most. pass chunks i least (omega (arith, most, ordered))) in
        omega (arith, sum)

    all_reached : (m : ℕ) → m ≡ n → reached h.chunk_size offset m stop ≡ n
    all_reached m is =
        let x = offset + n - 1 in
        let over : x < x / h.chunk_size * h.chunk_size + h.chunk_size = lt-div-mul-add some in
        let up : stop * h.chunk_size ≡ (x / h.chunk_size + 1) * h.chunk_size = ap (λ (s : ℕ). s * h.chunk_size) stop_is in
        let next : (x / h.chunk_size + 1) * h.chunk_size ≡ x / h.chunk_size * h.chunk_size + h.chunk_size = omega arith in
        omega (arith, over, up, next, is, had)

    module _ (b : List ℕ) (is_file : IsFile C key b h) (before got : List ℕ) (long : length before ≡ n) (filled : Filled h.chunk_size (chunks_of C K h b) offset first stop before got) where
      chunks : List (Option (List ℕ))
      chunks = chunks_of C K h b

      got_len : length got ≡ n
      got_len = filled.len ∙ long

      whole : bytes_between h.chunk_size offset (min (offset + len) h.file_size) 0 (chunks_of C K h b) ≡ got
      whole =
          let r = all_reached (length before) long in
          ap (λ (e : ℕ). bytes_between h.chunk_size offset e 0 (chunks_of C K h b)) (sym end)
          ∙ ap (λ (k : ℕ). bytes_between h.chunk_size offset (offset + k) 0 (chunks_of C K h b)) (sym r)
          ∙ sym filled.bytes
          ∙ take_all (reached h.chunk_size offset (length before) stop) got (omega (arith, r, got_len))

      present : none_missing (needed (with_chunks (chunks_of C K h b)) (Read offset len)) 0 (chunks_of C K h b) ≡ true
      present = all_there (needed (with_chunks (chunks_of C K h b)) (Read offset len)) 0 (chunks_of C K h b) (λ k lt is.
          let m = met ((0 + k) * h.chunk_size) h.chunk_size offset (min (offset + len) h.file_size) is in
          let z : (0 + k) * h.chunk_size ≡ k * h.chunk_size = omega arith in
          let i = met_among h.chunk_size offset n k some had (omega (arith, m.0, end, z)) (omega (arith, m.1, z)) in
          filled.there k (omega (arith, i.0, first_is)) (omega (arith, i.1, stop_is)))

      authentic : Authentic C key b (with_chunks (chunks_of C K h b)) (Read offset len) (Exactly (Bytes got))
      authentic = λ k lt.
          let r = all_reached (length before) long in
          let o = filled.opened k (omega (arith, r, got_len, lt)) in
          let index = o.0 in
          let m = o.1 in
          let count = chunk_count h.chunk_size h.file_size in
          let below : index < count = omega (arith, slice_get_within (chunks_of C K h b) index (Some m) o.2, length-chunks C K h b 0 count) in
          let opened : chunk_at C K h b index ≡ Some m = inner (chunk_at C K h b index) m (sym (get_chunk C K h b index below) ∙ o.2) in
          (index, m, o.3, o.4, o.5, sealed_for C lawful (tag_len_of h.version) (is_tag_len h.version) K h.id (record_at (shape_of C h) h.file_size index b) index m opened)

      read_due : (a : Outside) → IsDue b (chunks_of C K h b) a (with_chunks (chunks_of C K h b)) (Bytes got)
      read_due a = due_bytes a b (chunks_of C K h b) got present whole authentic

    needs : Needs (with_chunks []) (Read offset len)
    needs =
        let sum = sum_within (needed (with_chunks []) (Read offset len)) (λ _. 1) 0 (chunk_count h.chunk_size h.file_size) first 1 (omega arith) (omega (arith, counted, ordered))
        (λ i least most. pass [] i least (omega (arith, most, ordered))) in
        omega (arith, sum)

    pub went_read : (a b : Outside) (before got : List ℕ) → length before ≡ n → length got ≡ n → ReadSoFar C K h offset first stop a b before got → Went C E (at a) (at b) (Read offset len) (Bytes got)
    went_read a b before got long got_long so_far =
        went_still C E (at a) (at b) (Read offset len) (Bytes got) refl refl refl refl unmarked so_far.kept.bytes so_far.kept.left
        (λ F held calm. subst (λ (F : File). IsDue held.bytes (chunks_of C K h held.bytes) a F (Bytes got)) (sym held.file)
        (read_due held.bytes held.is_file before got long (so_far.filled held.bytes held.tells held.is_file.length_fits) a))
        (λ fault. absurd (false≢true fault))
        (λ _. so_far.quiet)
        (λ _. inr (got, refl, omega (arith, got_long, n_is)))
        (bounded_by a b so_far.moved)
        (λ F held. so_far.strays held.bytes held.tells (omega (arith, held.is_file.length_fits)))
        so_far.moved.setting (omega (arith, so_far.moved.changes_later, so_far.moved.changes_most)) (λ _. omega (arith, so_far.moved.calls_later, so_far.moved.calls_most))
        (λ both. no_rebuild both.0) (λ _. so_far.kept.durable) (λ is. absurd (no_sync is)) tt

    free : (L : Option ℕ) (chunks : List (Option (List ℕ))) → is_barred (apply L (with_chunks chunks) (Read offset len)).0 ≡ false
    free L chunks = ap (λ (p : Due × File). is_barred p.0) (apply_read L (with_chunks chunks) offset len (none_missing (needed (with_chunks chunks) (Read offset len)) 0 chunks) refl)
        ∙ go (none_missing (needed (with_chunks chunks) (Read offset len)) 0 chunks)
      where
        go : (t : Bool) → is_barred (cond {A = Due × File} t (Exactly (Bytes (bytes_between h.chunk_size offset (min (offset + len) h.file_size) 0 chunks)), with_chunks chunks)
            (Exactly (Refused AuthenticationFailed), with_chunks chunks)).0 ≡ false
        go true = refl
        go false = refl

    pub went_unread : (a b : Outside) (before buf : List ℕ) (e : Error) → Unread C K h offset first stop a b before buf e → Went C E (at a) (at b) (Read offset len) (Refused (kind_of e))
    went_unread a b before buf e unread = go (kind_of e) refl unread.kind
      where
        not_rng : Io ≡ Rng → ⊥
        not_rng is = cc

        go : (k : ErrorKind) → kind_of e ≡ k → Unopened k a b → Went C E (at a) (at b) (Read offset len) (Refused k)
        go Io is caused =
            went_still C E (at a) (at b) (Read offset len) (Refused Io) refl refl refl refl unmarked unread.kept.bytes unread.kept.left
            (λ F held calm. absurd (false≢true (sym calm)))
            (λ _. record {
              kind = Io;
              is = refl;
              cause = caused;
              may = measured (λ F. Faultable (limit_of (at a)) Io F (Read offset len)) a (λ chunks. (free (limit_of (at a)) chunks, concerned chunks));
              short = λ F measures is exact. absurd (not_rng is);
            })
            (λ calm. absurd (false≢true (sym calm)))
            (λ calm. absurd (false≢true (sym calm)))
            (bounded_by a b unread.moved)
            (λ F held. unread.strays held.bytes held.tells (omega (arith, held.is_file.length_fits)))
            unread.moved.setting (omega (arith, unread.moved.changes_later, unread.moved.changes_most)) (λ _. omega (arith, unread.moved.calls_later, unread.moved.calls_most))
            (λ both. no_rebuild both.0) (λ _. unread.kept.durable) (λ is. absurd (no_sync is)) tt
        go AuthenticationFailed is quiet =
            went_still C E (at a) (at b) (Read offset len) (Refused AuthenticationFailed) refl refl refl refl unmarked unread.kept.bytes unread.kept.left
            (λ F held calm. subst (λ (F : File). IsDue held.bytes (chunks_of C K h held.bytes) a F (Refused AuthenticationFailed)) (sym held.file)
            (due_missing a held.bytes (chunks_of C K h held.bytes)
            (one_missing (needed (with_chunks (chunks_of C K h held.bytes)) (Read offset len)) 0 unread.index (chunks_of C K h held.bytes) (unread.missing held.bytes held.tells is)
            (let z : unread.index ≡ 0 + unread.index = omega arith in subst (λ (i : ℕ). needed (with_chunks (chunks_of C K h held.bytes)) (Read offset len) i ≡ true) z (pass (chunks_of C K h held.bytes) unread.index unread.among.0 unread.among.1)))))
            (λ fault. absurd (false≢true fault))
            (λ _. quiet)
            (λ _. inl (refl, needs))
            (bounded_by a b unread.moved)
            (λ F held. unread.strays held.bytes held.tells (omega (arith, held.is_file.length_fits)))
            unread.moved.setting (omega (arith, unread.moved.changes_later, unread.moved.changes_most)) (λ _. omega (arith, unread.moved.calls_later, unread.moved.calls_most))
            (λ both. no_rebuild both.0) (λ _. unread.kept.durable) (λ is. absurd (no_sync is)) tt
        go Rng is why = absurd why
        go Hash is why = absurd why
        go (InvalidArgument r) is why = absurd why
        go AlreadyExists is why = absurd why
        go NotFound is why = absurd why
        go Overflow is why = absurd why
        go MerkleNotEnabled is why = absurd why
        go (CorruptedChunk i) is why = absurd why
        go Broken is why = absurd why
        go OutOfMemory is why = absurd why
