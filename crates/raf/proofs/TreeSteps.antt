-- The commands that ask for a tree.
use Rattle.std.proofs.Common.{◌≡◌, inl, inr, Bool, true, false, cond, not, ◌&&◌, ℕ, zero, suc, ◌+◌, ◌-◌, ◌*◌, ◌<◌, ◌≤◌, List, [], length, Option, Some, None, Result, Ok, Err, refl, sym, ◌∙◌, ap, subst, arith}
use Rattle.std.specs.Prelude.{◌⊎◌}
use Rattle.std.specs.Result.{OnOk, IfErr}
use Rattle.std.proofs.lemmas.Bool.{cases_lt, false≢true}
use Rattle.counts.specs.Counts.{Rose}
use Rattle.raf_io.specs.Source.{Takes}
use Rattle.raf_io.specs.Kinds.{kind_of}
use Rattle.raf_tree.specs.Hashing.{Hashing}
use Rattle.raf_tree.specs.Kept.{Kept as Tree, kept, tree_height}
use Rattle.raf_tree.specs.Steps.{SameShape}
use Rattle.raf_format.specs.Cipher.{Cipher}
use Rattle.raf_format.specs.File.{File, shape_of, layout_len, chunk_count, chunk_at, chunks_from}
use Rattle.raf_format.specs.declared.header.Header.{Header}
use Rattle.raf_io.specs.declared.errors.Error.{Error}
use Rattle.raf_io.specs.declared.errors.ErrorKind.{ErrorKind}
use Rattle.raf_io.specs.declared.errors.ErrorKind.TheVariants.{Io, InvalidArgument, AuthenticationFailed, AlreadyExists, NotFound, Overflow, MerkleNotEnabled, CorruptedChunk, Rng, Hash, Broken, OutOfMemory}
use Rattle.raf.specs.Due.{Due, Answers, is_barred, is_refused, is_fault}
use Rattle.raf.specs.Due.Due.{Exactly, Merkle}
use Rattle.raf.specs.Concern.{none_missing}
use Rattle.raf.specs.Apply.{apply}
use Rattle.raf.specs.Image.{traffic_by, calls_by}
use Rattle.raf.specs.Meaning.{Authentic, Faultable}
use Rattle.raf.specs.Outside.{Outside, Kept, Quiet, Caused, Moved}
use Rattle.raf.specs.Handle.{Handle, Holds, Measures, WithTree, OfTree, Grown, Paired, KeptAnswer, Matches, FirstBad, handle_of, limit_of, outline}
use Rattle.raf.specs.Stepped.{Went, Committed, Failed, Bounded, Shaped, HasForm, with_size, refuses, verify_reply, commitment_reply}
use Rattle.raf.specs.Read.{chunks_of}
use Rattle.raf.specs.Verifying.{Unanswered, Verifies}
use Rattle.raf.specs.declared.command.Command.{Command}
use Rattle.raf.specs.declared.command.Command.TheVariants as command
use Rattle.raf.specs.declared.command.Reply.{Reply}
use Rattle.raf.specs.declared.command.Reply.TheVariants as reply
use Rattle.raf.proofs.Moves.{moved_any, moved_same, moved_less, takes_none}
use Rattle.raf.proofs.Syncs.{none_asked}
use Rattle.raf.proofs.StillSteps.{may_change, went_still, unstarved, still_bytes, still_asks}

-- with a limit the tree decides, and without one they are refused
decides : (F : File) (t : Bool) → t ≡ true → cond {A = Due × File} (t && true) (Merkle, F) (Exactly (reply.Refused (cond (not t) AuthenticationFailed MerkleNotEnabled)), F) ≡ (Merkle, F)
decides F t is = ap (λ (t : Bool). cond {A = Due × File} (t && true) (Merkle, F) (Exactly (reply.Refused (cond (not t) AuthenticationFailed MerkleNotEnabled)), F)) is

refuses_it : (F : File) (t : Bool) → t ≡ true → cond {A = Due × File} (t && false) (Merkle, F) (Exactly (reply.Refused (cond (not t) AuthenticationFailed MerkleNotEnabled)), F) ≡ (Exactly (reply.Refused MerkleNotEnabled), F)
refuses_it F t is = ap (λ (t : Bool). cond {A = Due × File} (t && false) (Merkle, F) (Exactly (reply.Refused (cond (not t) AuthenticationFailed MerkleNotEnabled)), F)) is

-- the three commands
pub data IsTreeCommand : Command → Type 0 where
  rebuild : IsTreeCommand command.Rebuild
  verify : IsTreeCommand command.Verify
  commitment : IsTreeCommand command.Commitment

still : (c : Command) → IsTreeCommand c → may_change c ≡ false
still c rebuild = refl
still c verify = refl
still c commitment = refl

no_sync : (c : Command) → IsTreeCommand c → c ≡ command.Sync → ⊥
no_sync c rebuild is = cc
no_sync c verify is = cc
no_sync c commitment is = cc

pub apply_some : (most : ℕ) (F : File) (c : Command) → IsTreeCommand c → apply (Some most) F c ≡ (Merkle, F)
apply_some most F c rebuild = decides F (none_missing (λ _. false) 0 F.chunks) (none_asked 0 F.chunks)
apply_some most F c verify = decides F (none_missing (λ _. false) 0 F.chunks) (none_asked 0 F.chunks)
apply_some most F c commitment = decides F (none_missing (λ _. false) 0 F.chunks) (none_asked 0 F.chunks)

apply_none : (F : File) (c : Command) → IsTreeCommand c → apply None F c ≡ (Exactly (reply.Refused MerkleNotEnabled), F)
apply_none F c rebuild = refuses_it F (none_missing (λ _. false) 0 F.chunks) (none_asked 0 F.chunks)
apply_none F c verify = refuses_it F (none_missing (λ _. false) 0 F.chunks) (none_asked 0 F.chunks)
apply_none F c commitment = refuses_it F (none_missing (λ _. false) 0 F.chunks) (none_asked 0 F.chunks)

authentic : (C : Cipher) (key b : List ℕ) (F : File) (c : Command) (due : Due) → IsTreeCommand c → Authentic C key b F c due
authentic C key b F c due rebuild = tt
authentic C key b F c due verify = tt
authentic C key b F c due commitment = tt

not_done : (k : ErrorKind) → reply.Refused k ≡ reply.Done → ⊥
not_done k is = cc

-- without a hasher
pub went_unmerkled : (C : Cipher) (E : List ℕ → Hashing) (a : Outside) (key : List ℕ) (h : Header) (c : Command) → IsTreeCommand c
    → Went C E (handle_of a key h None false) (handle_of a key h None false) c (reply.Refused MerkleNotEnabled)
went_unmerkled C E a key h c is =
    went_still C E old old c (reply.Refused MerkleNotEnabled) (still c is) refl refl refl refl refl refl
    (λ F held calm. (
      subst (λ (p : Due × File). Answers (λ r. OfTree E old (KeptAnswer F c r)) p.0 (reply.Refused MerkleNotEnabled)) (sym (apply_none F c is)) refl,
      authentic C key held.bytes F c (apply None F c).0 is,
    ))
    (λ fault. absurd (false≢true fault))
    (λ _. record { io = refl; rng = refl; hash = refl })
    (λ _. shape c is)
    (λ F measures. moved_any a a _ _ _ _ _ (moved_same a a refl))
    (λ F held. refl) refl refl (λ _. refl) (λ both. not_done MerkleNotEnabled both.1) (λ _. refl) (λ sync. absurd (no_sync c is sync)) (refused_uncommitted c is)
  where
    old : Handle
    old = handle_of a key h None false

    refused_uncommitted : (c : Command) → IsTreeCommand c → Committed E old c (reply.Refused MerkleNotEnabled)
    refused_uncommitted c rebuild = tt
    refused_uncommitted c verify = tt
    refused_uncommitted c commitment = tt

    shape : (c : Command) → IsTreeCommand c → Shaped None (outline C h) c (reply.Refused MerkleNotEnabled)
    shape c rebuild = (λ _. refl, λ other. absurd (false≢true (sym other ∙ ap (λ (p : Due × File). is_refused p.0) (apply_none (outline C h) command.Rebuild rebuild))))
    shape c verify = inr (subst (λ (p : Due × File). Answers (HasForm command.Verify) p.0 (reply.Refused MerkleNotEnabled)) (sym (apply_none (outline C h) command.Verify verify)) refl)
    shape c commitment = inr (subst (λ (p : Due × File). Answers (HasForm command.Commitment) p.0 (reply.Refused MerkleNotEnabled)) (sym (apply_none (outline C h) command.Commitment commitment)) refl)

-- the setting of a hasher that goes with a tree
pub paired_setting : (E : List ℕ → Hashing) (setting : Option (List ℕ)) (tree : Option Tree) (t : Tree) → Paired E setting tree → tree ≡ Some t
    → (x : List ℕ) × (setting ≡ Some x) × ((E x).len ≡ t.hash_len)
paired_setting E (Some x) (Some u) t paired is = (x, refl, paired ∙ ap (λ (t : Tree). t.hash_len) (inner is))
  where
    inner : Some u ≡ Some t → u ≡ t
    inner same = cc
paired_setting E (Some x) None t paired is = absurd paired
paired_setting E None (Some u) t paired is = absurd paired
paired_setting E None None t paired is = cc

-- what holds at a tree and without a mark holds where these are they
pub at_these : (P : Option Tree → Bool → Type 0) (tree : Option Tree) (broken : Bool) (o : Option Tree) → tree ≡ o → broken ≡ false → P o false → P tree broken
at_these P tree broken o is unmarked holds = subst (λ (b : Bool). P tree b) (sym unmarked) (subst (λ (t : Option Tree). P t false) (sym is) holds)

-- with one
module _ (C : Cipher) (E : List ℕ → Hashing) (key : List ℕ) (h : Header) (t : Tree) (a : Outside) (x : List ℕ) (set : a.setting ≡ Some x) where
  abbrev pub at : Outside → Handle
  at b = handle_of b key h (Some t) false

  abbrev pub count : ℕ
  count = chunk_count h.chunk_size h.file_size

  abbrev pub whole : ℕ
  whole = layout_len (shape_of C h) h.file_size

  abbrev pub with_chunks : List (Option (List ℕ)) → File
  with_chunks chunks = record { shape = shape_of C h; id = h.id; size = h.file_size; chunks = chunks }

  -- what holds of the header's numbers, whatever the chunks, holds of the file that is held and of the outline
  pub measured : (P : File → Type 0) → ((chunks : List (Option (List ℕ))) → P (with_chunks chunks)) → (F : File) → Measures C (at a) F → P F
  measured P all F (inl held) = subst P (sym held.file) (all (chunks_of C (C.chunk_key key h.id) h held.bytes))
  measured P all F (inr is) = subst P (sym is) (all [])

  of_tree : (P : Hashing → Tree → Type 0) → P (E x) t → OfTree E (at a) P
  of_tree P holds = (x, t, set, refl, holds)

  merkle_due : (F : File) (c : Command) (r : Reply) → IsTreeCommand c → KeptAnswer F c r (E x) t → Answers (λ r. OfTree E (at a) (KeptAnswer F c r)) (apply (limit_of (at a)) F c).0 r
  merkle_due F c r is holds =
      subst (λ (p : Due × File). Answers (λ r. OfTree E (at a) (KeptAnswer F c r)) p.0 r) (sym (apply_some t.max_chunks F c is)) (of_tree (KeptAnswer F c r) holds)

  pub free : (F : File) (c : Command) → IsTreeCommand c → is_barred (apply (limit_of (at a)) F c).0 ≡ false
  free F c is = ap (λ (p : Due × File). is_barred p.0) (apply_some t.max_chunks F c is)

  pub taken_up : (F : File) (c : Command) → IsTreeCommand c → is_refused (apply (limit_of (at a)) F c).0 ≡ false
  taken_up F c is = ap (λ (p : Due × File). is_refused p.0) (apply_some t.max_chunks F c is)

  -- the chunks that match, and the first that doesn't
  module _ (K b : List ℕ) where
    first_none : (j n : ℕ) → ((i : ℕ) → j ≤ i → i < j + n → Matches (E x) t i (chunk_at C K h b i)) → FirstBad (E x) t j (chunks_from C K h b j n) None
    first_none j zero all = refl
    first_none j (suc n) all = inl (all j (omega arith) (omega arith), first_none (j + 1) n (λ i le lt. all i (omega (arith, le)) (omega (arith, lt))))

    first_some : (j n k : ℕ) → j ≤ k → k < j + n → ((i : ℕ) → j ≤ i → i < k → Matches (E x) t i (chunk_at C K h b i)) → (Matches (E x) t k (chunk_at C K h b k) → ⊥)
        → FirstBad (E x) t j (chunks_from C K h b j n) (Some k)
    first_some j zero k le lt all bad = absurd (omega (arith, le, lt))
    first_some j (suc n) k le lt all bad = elim (cases_lt j k) [
      | inl more ↦ inl (all j (omega arith) more, first_some (j + 1) n k (omega (arith, more)) (omega (arith, lt)) (λ i least most. all i (omega (arith, least)) most) bad)
      | inr same ↦
          let e : k ≡ j = omega (arith, le, same) in
          inr (subst (λ (i : ℕ). Matches (E x) t i (chunk_at C K h b i) → ⊥) e bad, ap (λ (i : ℕ). Some i) e)
    ]

  module _ (K : List ℕ) (derived : K ≡ C.chunk_key key h.id) (b : Outside) where
    bounded : (c : Command) (traffic calls : ℕ) → IsTreeCommand c → Moved a b whole traffic 0 0 calls
        → ((chunks : List (Option (List ℕ))) → traffic ≤ traffic_by (limit_of (at a)) (with_chunks chunks) c) → ((chunks : List (Option (List ℕ))) → calls ≤ calls_by (limit_of (at a)) (with_chunks chunks) c)
        → (F : File) → Measures C (at a) F → Bounded (limit_of (at a)) a b F c
    bounded c traffic calls is moved most hashes = measured (λ F. Bounded (limit_of (at a)) a b F c)
        (λ chunks. moved_less a b _ _ _ _ _ _ _ _ _ _ moved (omega arith) (most chunks) (omega arith) (omega arith) (hashes chunks))

    -- the comparison of all chunks
    module _ (result : Result (Option ℕ) Error) (v : Verifies C E K h t a b result) where
      same : (n : ℕ) → b.changes ≡ a.changes
      same n = omega (arith, v.moved.changes_later, v.moved.changes_most)

      verify_bounded : (F : File) → Measures C (at a) F → Bounded (limit_of (at a)) a b F command.Verify
      verify_bounded = bounded command.Verify (whole - 96) count verify v.moved (λ chunks. omega arith) (λ chunks. omega arith)

      verify_strays : (F : File) → Holds C (at a) F → b.strays ≡ a.strays
      verify_strays F held = v.strays held.bytes held.tells (omega (arith, held.is_file.length_fits))

    pub went_found : (found : Option ℕ) → Verifies C E K h t a b (Ok found) → Went C E (at a) (at b) command.Verify (reply.Verified found)
    went_found found v =
        went_still C E (at a) (at b) command.Verify (reply.Verified found) refl refl refl refl refl v.kept.bytes v.kept.left
        (λ F held calm. (
          merkle_due F command.Verify (reply.Verified found) verify (
            found,
            refl,
            subst (λ (F : File). FirstBad (E x) t 0 F.chunks found) (sym held.file)
                (subst (λ (k : List ℕ). FirstBad (E x) t 0 (chunks_of C k h held.bytes) found) derived (bad found v held.bytes held.tells)),
          ),
          tt,
        ))
        (λ fault. absurd (false≢true fault))
        (λ _. v.quiet)
        (λ _. inr (subst (λ (p : Due × File). Answers (HasForm command.Verify) p.0 (reply.Verified found)) (sym (apply_some t.max_chunks (outline C h) command.Verify verify)) (found, refl)))
        (verify_bounded (Ok found) v) (verify_strays (Ok found) v) v.moved.setting (same (Ok found) v 0)
        (λ why. absurd (elim why [ inl may ↦ false≢true may | inr both ↦ false≢true both.0 ]))
        (λ both. absurd (other both.0)) (λ _. v.kept.durable) (λ sync. absurd (no_sync command.Verify verify sync)) tt
      where
        other : command.Verify ≡ command.Rebuild → ⊥
        other is = cc

        bad : (found : Option ℕ) → Verifies C E K h t a b (Ok found) → (bytes : List ℕ) → a.bytes ≡ Some bytes → FirstBad (E x) t 0 (chunks_of C K h bytes) found
        bad None v bytes tells = first_none K bytes 0 count (λ i le lt. v.all bytes tells x set refl i (omega (arith, lt)))
        bad (Some n) v bytes tells =
            let f = v.first bytes tells x set n refl in
            first_some K bytes 0 count n (omega arith) (omega (arith, f.0)) (λ i le lt. f.1 i lt) f.2

    pub went_unverified : (e : Error) → Verifies C E K h t a b (Err e) → Went C E (at a) (at b) command.Verify (reply.Refused (kind_of e))
    went_unverified e v = go (kind_of e) v.kinds
      where
        other : command.Verify ≡ command.Rebuild → ⊥
        other is = cc

        not_rng : Io ≡ Rng → ⊥
        not_rng is = cc

        not_rng' : Hash ≡ Rng → ⊥
        not_rng' is = cc

        go : (k : ErrorKind) → Unanswered k a b → Went C E (at a) (at b) command.Verify (reply.Refused k)
        go Io why =
            went_still C E (at a) (at b) command.Verify (reply.Refused Io) refl refl refl refl refl v.kept.bytes v.kept.left
            (λ F held calm. absurd (false≢true (sym calm)))
            (λ _. record {
              kind = Io;
              is = refl;
              cause = why;
              may = measured (λ F. Faultable (limit_of (at a)) Io F command.Verify) (λ chunks. (free (with_chunks chunks) command.Verify verify, omega (arith, v.some)));
              short = λ F measures is exact. absurd (not_rng is);
            })
            (λ calm. absurd (false≢true (sym calm))) (λ calm. absurd (false≢true (sym calm)))
            (verify_bounded (Err e) v) (verify_strays (Err e) v) v.moved.setting (same (Err e) v 0)
            (λ why. absurd (elim why [ inl may ↦ false≢true may | inr both ↦ false≢true (sym both.1) ]))
            (λ both. absurd (other both.0)) (λ _. v.kept.durable) (λ sync. absurd (no_sync command.Verify verify sync)) tt
        go Hash why =
            went_still C E (at a) (at b) command.Verify (reply.Refused Hash) refl refl refl refl refl v.kept.bytes v.kept.left
            (λ F held calm. absurd (false≢true (sym calm)))
            (λ _. record {
              kind = Hash;
              is = refl;
              cause = why;
              may = measured (λ F. Faultable (limit_of (at a)) Hash F command.Verify) (λ chunks. (taken_up (with_chunks chunks) command.Verify verify, omega (arith, v.some)));
              short = λ F measures is exact. absurd (not_rng' is);
            })
            (λ calm. absurd (false≢true (sym calm))) (λ calm. absurd (false≢true (sym calm)))
            (verify_bounded (Err e) v) (verify_strays (Err e) v) v.moved.setting (same (Err e) v 0)
            (λ why. absurd (elim why [ inl may ↦ false≢true may | inr both ↦ false≢true (sym both.1) ]))
            (λ both. absurd (other both.0)) (λ _. v.kept.durable) (λ sync. absurd (no_sync command.Verify verify sync)) tt
        go AuthenticationFailed why = absurd why
        go Rng why = absurd why
        go (InvalidArgument r) why = absurd why
        go AlreadyExists why = absurd why
        go NotFound why = absurd why
        go Overflow why = absurd why
        go MerkleNotEnabled why = absurd why
        go (CorruptedChunk i) why = absurd why
        go Broken why = absurd why
        go OutOfMemory why = absurd why

    pub went_verified : (result : Result (Option ℕ) Error) → Verifies C E K h t a b result → Went C E (at a) (at b) command.Verify (verify_reply result)
    went_verified (Ok found) v = went_found found v
    went_verified (Err e) v = went_unverified e v

    -- the commitment
    module _ (kept_b : Kept a b) (moved : Moved a b 0 0 0 0 1) (strays : b.strays ≡ a.strays) where
      commit_bounded : (F : File) → Measures C (at a) F → Bounded (limit_of (at a)) a b F command.Commitment
      commit_bounded = bounded command.Commitment 0 1 commitment (moved_less a b _ _ _ _ _ whole 0 0 0 1 moved (omega arith) (omega arith) (omega arith) (omega arith) (omega arith)) (λ chunks. omega arith) (λ chunks. omega arith)

      unchanged : b.changes ≡ a.changes
      unchanged = omega (arith, moved.changes_later, moved.changes_most)

      other_command : command.Commitment ≡ command.Rebuild → ⊥
      other_command is = cc

      pub went_committed : (out : List ℕ) → Quiet a b → out ≡ (E x).commitment (kept t (tree_height t) 0) h.id h.file_size → Went C E (at a) (at b) command.Commitment (reply.Commitment out)
      went_committed out quiet is =
          went_still C E (at a) (at b) command.Commitment (reply.Commitment out) refl refl refl refl refl kept_b.bytes kept_b.left
          (λ F held calm. (
            merkle_due F command.Commitment (reply.Commitment out) commitment
                (subst (λ (F : File). reply.Commitment out ≡ reply.Commitment ((E x).commitment (kept t (tree_height t) 0) F.id F.size)) (sym held.file) (ap (λ (l : List ℕ). reply.Commitment l) is)),
            tt,
          ))
          (λ fault. absurd (false≢true fault))
          (λ _. quiet)
          (λ _. inr (subst (λ (p : Due × File). Answers (HasForm command.Commitment) p.0 (reply.Commitment out)) (sym (apply_some t.max_chunks (outline C h) command.Commitment commitment)) (out, refl)))
          commit_bounded (λ F held. strays) moved.setting unchanged
          (λ why. absurd (elim why [ inl may ↦ false≢true may | inr both ↦ false≢true both.0 ]))
          (λ both. absurd (other_command both.0)) (λ _. kept_b.durable) (λ sync. absurd (no_sync command.Commitment commitment sync)) (x, t, set, refl, is)

      pub went_uncommitted : (e : Error) → (kind_of e ≡ Hash) × Caused Hash a b → Went C E (at a) (at b) command.Commitment (reply.Refused (kind_of e))
      went_uncommitted e why = subst (λ (k : ErrorKind). Went C E (at a) (at b) command.Commitment (reply.Refused k)) (sym why.0)
          (went_still C E (at a) (at b) command.Commitment (reply.Refused Hash) refl refl refl refl refl kept_b.bytes kept_b.left
          (λ F held calm. absurd (false≢true (sym calm)))
          (λ _. record {
            kind = Hash;
            is = refl;
            cause = why.1;
            may = measured (λ F. Faultable (limit_of (at a)) Hash F command.Commitment) (λ chunks. (taken_up (with_chunks chunks) command.Commitment commitment, omega arith));
            short = λ F measures is exact. absurd (not_rng is);
          })
          (λ calm. absurd (false≢true (sym calm))) (λ calm. absurd (false≢true (sym calm)))
          commit_bounded (λ F held. strays) moved.setting unchanged
          (λ why. absurd (elim why [ inl may ↦ false≢true may | inr both ↦ false≢true (sym both.1) ]))
          (λ both. absurd (other_command both.0)) (λ _. kept_b.durable) (λ sync. absurd (no_sync command.Commitment commitment sync)) tt)
        where
          not_rng : Hash ≡ Rng → ⊥
          not_rng is = cc

      pub went_commitment : (out : List ℕ) (result : Result (Unit {0}) Error) → OnOk result (Quiet a b) → OnOk result (out ≡ (E x).commitment (kept t (tree_height t) 0) h.id h.file_size)
          → IfErr result (λ e. (kind_of e ≡ Hash) × Caused Hash a b) → Went C E (at a) (at b) command.Commitment (commitment_reply out result)
      went_commitment out (Ok _) quiet is why = went_committed out quiet is
      went_commitment out (Err e) quiet is why = went_uncommitted e why

    -- a tree that is made anew, or not
    module _ (u : Tree) (broken : Bool) (answer : Reply) (shape : SameShape t u) (kept_b : Kept a b) (moved : Moved a b whole (2 * (whole - 96)) 0 0 (2 * count + 2 * tree_height t + 1))
        (strays_b : (bytes : List ℕ) → a.bytes ≡ Some bytes → whole ≤ length bytes → b.strays ≡ a.strays)
        (calm : is_fault answer ≡ false → Quiet a b × ((answer ≡ reply.Done) ⊎ ((answer ≡ reply.Refused AuthenticationFailed) × (1 ≤ count))))
        (stopped : refuses answer ≡ true → ((broken ≡ true) × Rose a.calls b.calls) ⊎ ((broken ≡ false) × (b.calls ≡ a.calls) × (u ≡ t)))
        (done : refuses answer ≡ false → broken ≡ false) where
      abbrev pub now : Handle
      now = handle_of b key h (Some u) broken

      b_changes : b.changes ≡ a.changes
      b_changes = omega (arith, moved.changes_later, moved.changes_most)

      rebuild_bounded : (F : File) → Measures C (at a) F → Bounded (limit_of (at a)) a b F command.Rebuild
      rebuild_bounded = bounded command.Rebuild (2 * (whole - 96)) (2 * count + 2 * tree_height t + 1) rebuild moved (λ chunks. omega arith) (λ chunks. omega arith)

      limit_is : limit_of now ≡ limit_of (at a)
      limit_is = ap (λ (n : ℕ). Some n) shape.max_chunks

      holds_now : (F : File) → Holds C (at a) F → Holds C now F
      holds_now F held = record { bytes = held.bytes; tells = kept_b.bytes ∙ held.tells; is_file = held.is_file; file = held.file }

      still_there : (F : File) → (apply (limit_of (at a)) F command.Rebuild).1 ≡ F
      still_there F = ap (λ (p : Due × File). p.1) (apply_some t.max_chunks F command.Rebuild rebuild)

      not_broken : (x : Bool) → x ≡ true → x ≡ false → ⊥
      not_broken x on off = false≢true (sym off ∙ on)

      pub went_rebuilt : ((F : File) (held : Holds C (at a) F) → is_fault answer ≡ false → KeptAnswer F command.Rebuild answer (E x) t × (broken ≡ false))
          → ((F : File) (held : Holds C (at a) F) → answer ≡ reply.Done → Grown F (E x) u) → (is_fault answer ≡ true → Failed C (at a) now command.Rebuild answer)
          → Went C E (at a) now command.Rebuild answer
      went_rebuilt due grown failed = record {
        answered = λ F held c. record {
          due = merkle_due F command.Rebuild answer rebuild (due F held c).0;
          nonces = [];
          drawn = sym (still_asks (limit_of (at a)) F command.Rebuild refl);
          taken = subst (λ (o : Option (List ℕ)). Takes a.left [] o) (sym kept_b.left) (takes_none a.left);
          tells = kept_b.bytes ∙ held.tells ∙ ap (λ (l : List ℕ). Some l) (sym (still_bytes (limit_of (at a)) F C key [] held.bytes command.Rebuild refl));
          holds = subst (Holds C now) (sym (still_there F)) (holds_now F held);
          authentic = tt;
          grown = λ was. subst (λ (G : File). WithTree E now (Grown G)) (sym (still_there F)) (with_it F held c was);
          unmarked = (due F held c).1;
          still = λ refused. (
            b_changes,
            elim (stopped refused) [
              | inl set ↦ absurd (not_broken broken set.0 (due F held c).1)
              | inr not ↦ not.1
            ],
          );
        };
        cut = λ F held fault. record {
          left = ([], omega arith, subst (λ (o : Option (List ℕ)). Takes a.left [] o) (sym kept_b.left) (takes_none a.left));
          bytes = held.bytes;
          tells = kept_b.bytes ∙ held.tells;
          spares = record { untouched = λ _. refl; header = λ _. refl; records = λ index lt there not. refl };
        };
        starved = unstarved C (at a) now command.Rebuild answer refl failed;
        failed = failed;
        quiet = λ c. (calm c).0;
        shaped = λ c. (λ refused. absurd (false≢true (sym (taken_up (outline C h) command.Rebuild rebuild) ∙ refused)), λ _. (calm c).1);
        bounded = rebuild_bounded;
        strays = λ F held. strays_b held.bytes held.tells (omega (arith, held.is_file.length_fits));
        committed = tt;
        marked = record {
          sets = λ may refused began. elim (stopped refused) [
            | inl set ↦ set.0
            | inr not ↦ absurd (elim began [ inl more ↦ omega (arith, more, b_changes) | inr more ↦ omega (arith, more, not.1) ])
          ];
          cause = λ set. (refl, refused_of set, inr (rose_of set));
          calmly = λ set c. elim (calm c).1 [
            | inl finished ↦ absurd (not_broken broken set (done (ap refuses finished)))
            | inr auth ↦ (refl, auth.0)
          ];
        };
        stays = record {
          key = refl;
          limit = limit_is;
          header = same_header (refuses answer);
          bytes = λ why. elim why [
            | inl still ↦ absurd (false≢true (sym still))
            | inr both ↦ (
              kept_b.bytes,
              elim (stopped both.0) [
                | inl set ↦ absurd (not_broken broken set.0 both.1)
                | inr not ↦ ap (λ (t : Tree). Some t) not.2
              ],
            )
          ];
          durable = λ _. kept_b.durable;
          synced = λ sync. absurd (no_sync command.Rebuild rebuild sync);
        };
      }
        where
          refused_of : broken ≡ true → refuses answer ≡ true
          refused_of set = go (refuses answer) refl
            where
              go : (t : Bool) → refuses answer ≡ t → refuses answer ≡ true
              go true is = is
              go false is = absurd (not_broken broken set (done is))

          rose_of : broken ≡ true → Rose a.calls b.calls
          rose_of set = elim (stopped (refused_of set)) [ inl both ↦ both.1 | inr not ↦ absurd (not_broken broken set not.0) ]

          same_header : (t : Bool) → h ≡ cond {A = Header} t h (with_size h h.file_size)
          same_header true = refl
          same_header false = refl

          refused_auth : answer ≡ reply.Refused AuthenticationFailed → refuses answer ≡ true
          refused_auth is = ap refuses is

          with_it : (F : File) (held : Holds C (at a) F) → is_fault answer ≡ false → WithTree E (at a) (Grown F) ⊎ ((command.Rebuild ≡ command.Rebuild) × (answer ≡ reply.Done)) → WithTree E now (Grown F)
          with_it F held c was s v is kept_is = elim (calm c).1 [
            | inl finished ↦ at_setting s v is kept_is (grown F held finished)
            | inr auth ↦
                elim (stopped (refused_auth auth.0)) [
                  | inl set ↦ absurd (not_broken broken set.0 (due F held c).1)
                  | inr not ↦
                      elim was [
                        | inl before ↦ before s v (sym moved.setting ∙ is) (ap (λ (t : Tree). Some t) (sym not.2) ∙ kept_is)
                        | inr both ↦ absurd (other (sym auth.0 ∙ both.1))
                      ]
                ]
          ]
            where
              other : reply.Refused AuthenticationFailed ≡ reply.Done → ⊥
              other same = cc

              at_setting : (s : List ℕ) (v : Tree) → b.setting ≡ Some s → Some u ≡ Some v → Grown F (E x) u → Grown F (E s) v
              at_setting s v is kept_is g = subst (λ (v : Tree). Grown F (E s) v) (inner kept_is) (subst (λ (s : List ℕ). Grown F (E s) u) (inner' (sym set ∙ sym moved.setting ∙ is)) g)
                where
                  inner : Some u ≡ Some v → u ≡ v
                  inner same = cc

                  inner' : Some x ≡ Some s → x ≡ s
                  inner' same = cc
