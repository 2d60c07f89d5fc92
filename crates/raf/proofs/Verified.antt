-- Chunks that are compared with a tree, or opened, one after the other.
use Rattle.std.proofs.Common.{◌≡◌, inl, inr, Bool, true, false, ℕ, ◌+◌, ◌-◌, ◌*◌, ◌<◌, ◌≤◌, min, List, length, Option, Some, None, Result, Ok, Err, refl, sym, ◌∙◌, subst, arith}
use Rattle.std.specs.Result.{IfOk, IfErr, OnOk}
use Rattle.std.proofs.lemmas.Bool.{cases_lt}
use Rattle.raf_io.specs.Kinds.{kind_of}
use Rattle.raf_tree.specs.Hashing.{Hashing}
use Rattle.raf_tree.specs.Kept.{Kept as Tree, kept}
use Rattle.raf_format.specs.Cipher.{Cipher}
use Rattle.raf_format.specs.File.{shape_of, tag_len, layout_len, record_start, record_len, chunk_count, chunk_at}
use Rattle.raf_format.specs.declared.header.Header.{Header}
use Rattle.raf_io.specs.declared.errors.Error.{Error}
use Rattle.raf_io.specs.declared.errors.ErrorKind.{ErrorKind}
use Rattle.raf_io.specs.declared.errors.ErrorKind.TheVariants.{Io, InvalidArgument, AuthenticationFailed, AlreadyExists, NotFound, Overflow, MerkleNotEnabled, CorruptedChunk, Rng, Hash, Broken, OutOfMemory}
use Rattle.raf.specs.Outside.{Outside, Kept, Quiet, Caused, Moved}
use Rattle.raf.specs.Handle.{Matches}
use Rattle.raf.specs.Loaded.{Sound, Unopened}
use Rattle.raf.specs.Verifying.{Unanswered, UnderSetting, Compares, MatchedSoFar, Verifies, ThereSoFar, AllThere}
use Rattle.raf.proofs.Places.{within_layout}
use Rattle.raf.proofs.Moves.{moved_same, moved_less, moved_then, quiet_same, quiet_then, kept_same, kept_then, caused_later, unopened_later}

module _ (C : Cipher) (K : List ℕ) (h : Header) where
  abbrev pub whole : ℕ
  whole = layout_len (shape_of C h) h.file_size

  abbrev pub so_long : ℕ → ℕ
  so_long index = min (record_start (shape_of C h) index) (layout_len (shape_of C h) h.file_size) - 96

  -- a record more
  pub further : (index : ℕ) → Sound C h → index < chunk_count h.chunk_size h.file_size → so_long index + record_len (shape_of C h) h.file_size index ≤ so_long (index + 1)
  further index sound there =
      more index (C.nonce_len + h.chunk_size + tag_len (shape_of C h)) (record_len (shape_of C h) h.file_size index) whole
      (within_layout (shape_of C h) h.file_size index (omega (arith, sound.least)) there) (omega arith)
    where
      more : (i s n l : ℕ) → 96 + i * s + n ≤ l → n ≤ s → min (96 + i * s) l - 96 + n ≤ min (96 + (i + 1) * s) l - 96
      more i s n l le short = omega (arith, le, short)

  inside : (index : ℕ) → Sound C h → index < chunk_count h.chunk_size h.file_size → so_long index + record_len (shape_of C h) h.file_size index ≤ whole - 96
  inside index sound there = omega (arith, further index sound there)

  -- one chunk that opened, compared
  pub compared : (E : List ℕ → Hashing) (t : Tree) (index : ℕ) (p q r : Outside) (chunk : List ℕ) → Sound C h → index < chunk_count h.chunk_size h.file_size
      → ((b : List ℕ) → p.bytes ≡ Some b → chunk_at C K h b index ≡ Some chunk) → Quiet p q → Kept p q
      → Moved p q (record_start (shape_of C h) index + record_len (shape_of C h) h.file_size index) (record_len (shape_of C h) h.file_size index) 0 0 0
      → ((b : List ℕ) → p.bytes ≡ Some b → whole ≤ length b → q.strays ≡ p.strays)
      → (result : Result Bool Error)
      → IfOk result (λ same. (x : List ℕ) → q.setting ≡ Some x → (same ≡ true → (E x).leaf chunk index ≡ kept t 0 index) × (same ≡ false → (E x).leaf chunk index ≡ kept t 0 index → ⊥))
      → Kept q r → IfErr result (λ e. (kind_of e ≡ Hash) × Caused Hash q r) → OnOk result (Quiet q r) → Moved q r 0 0 0 0 1 → r.strays ≡ q.strays
      → Compares C E K h t index p r result
  compared E t index p q r chunk sound there opened quiet_q kept_q moved_q strays_q result same kept_r failed quiet_r moved_r strays_r = record {
    same = λ b tells. equal result same b tells;
    kinds = kinds result failed;
    quiet = calm result quiet_r;
    kept = kept_then p q r kept_q kept_r;
    moved = moved_less p r _ _ _ _ _ whole (record_len (shape_of C h) h.file_size index) 0 0 1 (moved_then p q r _ _ _ _ _ _ _ _ _ _ moved_q moved_r)
        (omega (arith, within_layout (shape_of C h) h.file_size index (omega (arith, sound.least)) there)) (omega arith) (omega arith) (omega arith) (omega arith);
    strays = λ b tells long. strays_r ∙ strays_q b tells long;
  }
    where
      equal : (result : Result Bool Error)
          → IfOk result (λ same. (x : List ℕ) → q.setting ≡ Some x → (same ≡ true → (E x).leaf chunk index ≡ kept t 0 index) × (same ≡ false → (E x).leaf chunk index ≡ kept t 0 index → ⊥))
          → (b : List ℕ) → p.bytes ≡ Some b
          → IfOk result (λ r. UnderSetting E p.setting (λ H. (r ≡ true → Matches H t index (chunk_at C K h b index)) × (r ≡ false → Matches H t index (chunk_at C K h b index) → ⊥)))
      equal (Ok s) same b tells = λ x set.
          let both = same x (moved_q.setting ∙ set) in
          subst (λ (o : Option (List ℕ)). (s ≡ true → Matches (E x) t index o) × (s ≡ false → Matches (E x) t index o → ⊥)) (sym (opened b tells)) both
      equal (Err e) same b tells = tt

      kinds : (result : Result Bool Error) → IfErr result (λ e. (kind_of e ≡ Hash) × Caused Hash q r) → IfErr result (λ e. Unanswered (kind_of e) p r)
      kinds (Ok s) why = tt
      kinds (Err e) why = subst (λ (k : ErrorKind). Unanswered k p r) (sym why.0) (caused_later Hash p q r quiet_q why.1)

      calm : (result : Result Bool Error) → OnOk result (Quiet q r) → OnOk result (Quiet p r)
      calm (Ok s) quiet = quiet_then p q r quiet_q quiet
      calm (Err e) quiet = tt

  module _ (E : List ℕ → Hashing) (t : Tree) (a : Outside) where
    pub matched_none : MatchedSoFar C E K h t 0 a a
    matched_none = record {
      same = λ b tells x set i lt. absurd (omega (arith, lt));
      quiet = quiet_same a a refl;
      kept = kept_same a a refl;
      moved = moved_less a a 0 0 0 0 0 whole (so_long 0) 0 0 0 (moved_same a a refl) (omega arith) (omega arith) (omega arith) (omega arith) (omega arith);
      strays = λ b tells long. refl;
    }

    module _ (index : ℕ) (p q : Outside) (sound : Sound C h) (there : index < chunk_count h.chunk_size h.file_size) (so_far : MatchedSoFar C E K h t index a p) where
      moved_more : Moved p q whole (record_len (shape_of C h) h.file_size index) 0 0 1 → Moved a q whole (so_long (index + 1)) 0 0 (index + 1)
      moved_more moved = moved_less a q _ _ _ _ _ whole (so_long (index + 1)) 0 0 (index + 1) (moved_then a p q _ _ _ _ _ _ _ _ _ _ so_far.moved moved)
          (omega arith) (further index sound there) (omega arith) (omega arith) (omega arith)

      moved_all : Moved p q whole (record_len (shape_of C h) h.file_size index) 0 0 1 → Moved a q whole (whole - 96) 0 0 (chunk_count h.chunk_size h.file_size)
      moved_all moved = moved_less a q _ _ _ _ _ whole (whole - 96) 0 0 (chunk_count h.chunk_size h.file_size) (moved_then a p q _ _ _ _ _ _ _ _ _ _ so_far.moved moved)
          (omega arith) (inside index sound there) (omega arith) (omega arith) (omega (arith, there))

      pub matched_more : (same : Bool) → same ≡ true → Compares C E K h t index p q (Ok same) → MatchedSoFar C E K h t (index + 1) a q
      matched_more same is c = record {
        same = λ b tells x set i lt. elim (cases_lt i index) [
          | inl below ↦ so_far.same b tells x set i below
          | inr above ↦
              let e : index ≡ i = omega (arith, lt, above) in
              subst (λ (i : ℕ). Matches (E x) t i (chunk_at C K h b i)) e ((c.same b (so_far.kept.bytes ∙ tells) x (so_far.moved.setting ∙ set)).0 is)
        ];
        quiet = quiet_then a p q so_far.quiet c.quiet;
        kept = kept_then a p q so_far.kept c.kept;
        moved = moved_more c.moved;
        strays = λ b tells long. c.strays b (so_far.kept.bytes ∙ tells) long ∙ so_far.strays b tells long;
      }

      pub verified_first : (same : Bool) → same ≡ false → Compares C E K h t index p q (Ok same) → Verifies C E K h t a q (Ok (Some index))
      verified_first same is c = record {
        all = λ b tells x set none. absurd (not_none none);
        first = λ b tells x set n found.
            let e : index ≡ n = inner found in
            subst (λ (n : ℕ). (n < chunk_count h.chunk_size h.file_size) × ((i : ℕ) → i < n → Matches (E x) t i (chunk_at C K h b i)) × (Matches (E x) t n (chunk_at C K h b n) → ⊥)) e
            (there, so_far.same b tells x set, (c.same b (so_far.kept.bytes ∙ tells) x (so_far.moved.setting ∙ set)).1 is);
        kinds = tt;
        some = tt;
        quiet = quiet_then a p q so_far.quiet c.quiet;
        kept = kept_then a p q so_far.kept c.kept;
        moved = moved_all c.moved;
        strays = λ b tells long. c.strays b (so_far.kept.bytes ∙ tells) long ∙ so_far.strays b tells long;
      }
        where
          not_none : Some index ≡ None → ⊥
          not_none same = cc

          inner : {n : ℕ} → Some index ≡ Some n → index ≡ n
          inner same = cc

      pub verified_not : (e : Error) → Compares C E K h t index p q (Err e) → Verifies C E K h t a q (Err e)
      verified_not e c = record {
        all = λ b tells. tt;
        first = λ b tells. tt;
        kinds = later (kind_of e) c.kinds;
        some = omega (arith, there);
        quiet = tt;
        kept = kept_then a p q so_far.kept c.kept;
        moved = moved_all c.moved;
        strays = λ b tells long. c.strays b (so_far.kept.bytes ∙ tells) long ∙ so_far.strays b tells long;
      }
        where
          later : (k : ErrorKind) → Unanswered k p q → Unanswered k a q
          later Io f = caused_later Io a p q so_far.quiet f
          later Hash f = caused_later Hash a p q so_far.quiet f
          later AuthenticationFailed f = absurd f
          later Rng f = absurd f
          later (InvalidArgument r) f = absurd f
          later AlreadyExists f = absurd f
          later NotFound f = absurd f
          later Overflow f = absurd f
          later MerkleNotEnabled f = absurd f
          later (CorruptedChunk i) f = absurd f
          later Broken f = absurd f
          later OutOfMemory f = absurd f

    pub verified_all : (p : Outside) → MatchedSoFar C E K h t (chunk_count h.chunk_size h.file_size) a p → Verifies C E K h t a p (Ok None)
    verified_all p so_far = record {
      all = λ b tells x set none. so_far.same b tells x set;
      first = λ b tells x set n found. absurd (not_some found);
      kinds = tt;
      some = tt;
      quiet = so_far.quiet;
      kept = so_far.kept;
      moved = moved_less a p _ _ _ _ _ whole (whole - 96) 0 0 (chunk_count h.chunk_size h.file_size) so_far.moved (omega arith) (omega arith) (omega arith) (omega arith) (omega arith);
      strays = so_far.strays;
    }
      where
        not_some : {n : ℕ} → None ≡ Some n → ⊥
        not_some same = cc

  module _ (a : Outside) where
    pub there_none : ThereSoFar C K h 0 a a
    there_none = record {
      there = λ b tells i lt. absurd (omega (arith, lt));
      quiet = quiet_same a a refl;
      kept = kept_same a a refl;
      moved = moved_less a a 0 0 0 0 0 whole (so_long 0) 0 0 0 (moved_same a a refl) (omega arith) (omega arith) (omega arith) (omega arith) (omega arith);
      strays = λ b tells long. refl;
    }

    module _ (index : ℕ) (p q : Outside) (sound : Sound C h) (there : index < chunk_count h.chunk_size h.file_size) (so_far : ThereSoFar C K h index a p) (kept_q : Kept p q)
        (moved_q : Moved p q (record_start (shape_of C h) index + record_len (shape_of C h) h.file_size index) (record_len (shape_of C h) h.file_size index) 0 0 0)
        (strays_q : (b : List ℕ) → p.bytes ≡ Some b → whole ≤ length b → q.strays ≡ p.strays) where
      reach : record_start (shape_of C h) index + record_len (shape_of C h) h.file_size index ≤ whole
      reach = within_layout (shape_of C h) h.file_size index (omega (arith, sound.least)) there

      strays_all : (b : List ℕ) → a.bytes ≡ Some b → whole ≤ length b → q.strays ≡ a.strays
      strays_all b tells long = strays_q b (so_far.kept.bytes ∙ tells) long ∙ so_far.strays b tells long

      pub there_more : ((b : List ℕ) → p.bytes ≡ Some b → (m : List ℕ) × (chunk_at C K h b index ≡ Some m)) → Quiet p q → ThereSoFar C K h (index + 1) a q
      there_more opened quiet = record {
        there = λ b tells i lt. elim (cases_lt i index) [
          | inl below ↦ so_far.there b tells i below
          | inr above ↦
              let e : index ≡ i = omega (arith, lt, above) in
              subst (λ (i : ℕ). (m : List ℕ) × (chunk_at C K h b i ≡ Some m)) e (opened b (so_far.kept.bytes ∙ tells))
        ];
        quiet = quiet_then a p q so_far.quiet quiet;
        kept = kept_then a p q so_far.kept kept_q;
        moved = moved_less a q _ _ _ _ _ whole (so_long (index + 1)) 0 0 0 (moved_then a p q _ _ _ _ _ _ _ _ _ _ so_far.moved moved_q)
            (omega (arith, reach)) (further index sound there) (omega arith) (omega arith) (omega arith);
        strays = strays_all;
      }

      pub there_not : (e : Error) → ((b : List ℕ) → p.bytes ≡ Some b → kind_of e ≡ AuthenticationFailed → chunk_at C K h b index ≡ None) → Unopened (kind_of e) p q → AllThere C K h a q (Err e)
      there_not e missing kind = record {
        there = λ b tells. tt;
        missing = λ b tells auth. (index, there, missing b (so_far.kept.bytes ∙ tells) auth);
        kinds = unopened_later (kind_of e) a p q so_far.quiet kind;
        some = omega (arith, there);
        quiet = tt;
        kept = kept_then a p q so_far.kept kept_q;
        moved = moved_less a q _ _ _ _ _ whole (whole - 96) 0 0 0 (moved_then a p q _ _ _ _ _ _ _ _ _ _ so_far.moved moved_q)
            (omega (arith, reach)) (inside index sound there) (omega arith) (omega arith) (omega arith);
        strays = strays_all;
      }

    pub there_all : (p : Outside) → ThereSoFar C K h (chunk_count h.chunk_size h.file_size) a p → AllThere C K h a p (Ok tt)
    there_all p so_far = record {
      there = λ b tells. so_far.there b tells;
      missing = λ b tells. tt;
      kinds = tt;
      some = tt;
      quiet = so_far.quiet;
      kept = so_far.kept;
      moved = moved_less a p _ _ _ _ _ whole (whole - 96) 0 0 0 so_far.moved (omega arith) (omega arith) (omega arith) (omega arith) (omega arith);
      strays = so_far.strays;
    }
