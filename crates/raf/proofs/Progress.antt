-- A run on an open file goes on by a command that had no fault.
use Rattle.std.proofs.Common.{◌≡◌, inl, Bool, true, false, ℕ, max, List, [], ◌∷◌, ◌++◌, length, Option, Some, None, refl, sym, ◌∙◌, ap, subst, arith, length-append}
use Rattle.std.proofs.lemmas.Bool.{false≢true}
use Rattle.raf_io.specs.Storage.{Told, SyncedTo}
use Rattle.raf_tree.specs.Hashing.{Hashing}
use Rattle.raf_tree.specs.Kept.{Kept as Tree}
use Rattle.raf_format.specs.Cipher.{Cipher}
use Rattle.raf_format.specs.File.{File, file_layout}
use Rattle.raf.specs.Due.{Due, Answers}
use Rattle.raf.specs.Due.Due.{Exactly, Merkle}
use Rattle.raf.specs.Apply.{apply, file_after}
use Rattle.raf.specs.Image.{traced, bytes_after, asked_by, changes_by, traffic_by, calls_by}
use Rattle.raf.specs.Meaning.{Authentic}
use Rattle.raf.specs.Outside.{Moved}
use Rattle.std.specs.Option.{option_map}
use Rattle.raf.specs.Handle.{Handle, Holds, WithTree, OfTree, Grown, KeptAnswer, limit_of}
use Rattle.raf.specs.Stepped.{may_settle, Stepped, Went, Answered, Bounded}
use Rattle.raf.specs.Session.{TreeDecides, settles, settled_after, IsDurable}
use Rattle.raf.specs.Ran.{ground, SoFar}
use Rattle.raf.specs.Due.{is_fault}
use Rattle.raf.specs.declared.command.Command.{Command}
use Rattle.raf.specs.declared.command.Command.TheVariants as command
use Rattle.raf.specs.declared.command.Reply.{Reply}
use Rattle.raf.specs.declared.command.Reply.TheVariants.{Done}
use Rattle.raf.proofs.Decided.{decided}
use Rattle.raf.proofs.Syncs.{apply_sync}
use Rattle.raf.proofs.StillSteps.{may_change, still_bytes}
use Rattle.raf.proofs.Moves.{moved_less, moved_then, takes_then}
use Rattle.raf.proofs.Runs.{after-push, asked-push, changes-push, calls-push, traffic-push, longest-push, longest_last, traced-push, answer-push, authentic-push, settled-push}

told_synced : (told od nd : Option (List ℕ)) (b d : List ℕ) → Told (SyncedTo told) od nd → told ≡ Some b → nd ≡ Some d → d ≡ b
told_synced told od None b d t is durable = cc
told_synced told None (Some x) b d t is durable = absurd t
told_synced told (Some y) (Some x) b d t is durable = same d x (sym durable) ∙ t b is
  where
    same : (d x : List ℕ) → Some d ≡ Some x → d ≡ x
    same d x e = cc

module _ (C : Cipher) (E : List ℕ → Hashing) (old mid new : Handle) (c : Command) (reply : Reply) (stepped : Stepped C E mid new c reply) (calm : is_fault reply ≡ false)
    (key : mid.key ≡ old.key) (limit : limit_of mid ≡ limit_of old) (setting : mid.outside.setting ≡ old.outside.setting) where
  decides : (F : File) → WithTree E mid (Grown F) → (due : Due) → Answers (λ r. OfTree E mid (KeptAnswer F c r)) due reply
      → Answers (TreeDecides E old.outside.setting (limit_of old) F c) due reply
  decides F grown (Exactly r) is = is
  decides F grown Merkle (s, t, set, kept, answer) =
      subst (λ (o : Option (List ℕ)). TreeDecides E o (limit_of old) F c reply) (sym set ∙ setting)
      (subst (λ (o : Option ℕ). TreeDecides E (Some s) o F c reply) (sym (ap (option_map (λ (t : Tree). t.max_chunks)) kept) ∙ limit) (decided (E s) t F c reply (grown s t set kept) answer))

  module _ (F : File) (b : List ℕ) (commands : List Command) (replies : List Reply) (so_far : SoFar C E old mid F b commands replies) where
    abbrev pub L : Option ℕ
    L = limit_of old

    abbrev pub now : File
    now = file_after (limit_of old) F commands

    went : Went C E mid new c reply
    went = stepped.went so_far.unmarked

    answered : Answered C E mid new (file_after (limit_of old) F commands) so_far.holds.bytes c reply
    answered = went.answered now so_far.holds calm

    bytes : so_far.holds.bytes ≡ traced (limit_of old) C old.key F commands so_far.nonces b
    bytes = same so_far.holds.bytes (traced (limit_of old) C old.key F commands so_far.nonces b) (sym so_far.holds.tells ∙ so_far.tells)
      where
        same : (x y : List ℕ) → Some x ≡ Some y → x ≡ y
        same x y e = cc

    drawn : length answered.nonces ≡ asked_by (limit_of old) now c
    drawn = subst (λ (o : Option ℕ). length answered.nonces ≡ asked_by o now c) limit answered.drawn

    tells : new.outside.bytes ≡ Some (bytes_after (limit_of old) C old.key now c answered.nonces (traced (limit_of old) C old.key F commands so_far.nonces b))
    tells =
        answered.tells
        ∙ ap (λ (o : Option ℕ). Some (bytes_after o C mid.key now c answered.nonces so_far.holds.bytes)) limit
        ∙ ap (λ (k : List ℕ). Some (bytes_after (limit_of old) C k now c answered.nonces so_far.holds.bytes)) key
        ∙ ap (λ (l : List ℕ). Some (bytes_after (limit_of old) C old.key now c answered.nonces l)) bytes

    after : file_after (limit_of old) F (commands ++ c ∷ []) ≡ (apply (limit_of old) now c).1
    after = after-push (limit_of old) F commands c

    moved : Moved mid.outside new.outside (max (file_layout now) (file_layout (apply (limit_of old) now c).1)) (traffic_by (limit_of old) now c) (asked_by (limit_of old) now c)
        (changes_by (limit_of old) now c) (calls_by (limit_of old) now c)
    moved = subst (λ (o : Option ℕ). Bounded o mid.outside new.outside now c) limit (went.bounded now (inl so_far.holds))

    authentic : Authentic C old.key (traced (limit_of old) C old.key F commands so_far.nonces b) now c (apply (limit_of old) now c).0
    authentic =
        subst (λ (l : List ℕ). Authentic C old.key l now c (apply (limit_of old) now c).0) bytes
        (subst (λ (k : List ℕ). Authentic C k so_far.holds.bytes now c (apply (limit_of old) now c).0) key
        (subst (λ (o : Option ℕ). Authentic C mid.key so_far.holds.bytes now c (apply o now c).0) limit answered.authentic))

    -- a command that leaves the file leaves the storage
    same_bytes : may_change c ≡ false → new.outside.bytes ≡ mid.outside.bytes
    same_bytes still = answered.tells ∙ ap (λ (l : List ℕ). Some l) (still_bytes (limit_of mid) now C mid.key answered.nonces so_far.holds.bytes c still) ∙ sym so_far.holds.tells

    -- a sync makes durable what the storage holds
    synced_now : command.Sync ≡ c → IsDurable new.outside
    synced_now is = λ x d bytes_are durable_is.
        told_synced mid.outside.bytes mid.outside.durable new.outside.durable x d (went.stays.synced (sym is) done) (sym (same_bytes (ap may_change (sym is))) ∙ bytes_are) durable_is
      where
        done : reply ≡ Done
        done =
            let due : Answers (λ r. OfTree E mid (KeptAnswer now command.Sync r)) (apply (limit_of mid) now command.Sync).0 reply =
            subst (λ (x : Command). Answers (λ r. OfTree E mid (KeptAnswer now x r)) (apply (limit_of mid) now x).0 reply) (sym is) answered.due in
            subst (λ (p : Due × File). Answers (λ r. OfTree E mid (KeptAnswer now command.Sync r)) p.0 reply) (apply_sync (limit_of mid) now) due

    keeps_durable : may_change c ≡ false → may_settle c ≡ false → IsDurable mid.outside → IsDurable new.outside
    keeps_durable still quiet durable = λ x d bytes_are durable_is. durable x d (sym (same_bytes still) ∙ bytes_are) (sym (went.stays.durable (inl quiet)) ∙ durable_is)

    step_settled : (s : Bool) → (s ≡ true → IsDurable mid.outside) → (d : Command) → d ≡ c → settles s c ≡ true → IsDurable new.outside
    step_settled s durable d is settled = go d is (subst (λ (x : Command). settles s x ≡ true) (sym is) settled)
      where
        go : (d : Command) → d ≡ c → settles s d ≡ true → IsDurable new.outside
        go command.Sync is yes_ = synced_now is
        go (command.Write offset bytes) is yes_ = absurd (false≢true yes_)
        go (command.Truncate size) is yes_ = absurd (false≢true yes_)
        go (command.Read offset len) is yes_ = keeps_durable (ap may_change (sym is)) (ap may_settle (sym is)) (durable yes_)
        go command.Size is yes_ = keeps_durable (ap may_change (sym is)) (ap may_settle (sym is)) (durable yes_)
        go command.Rebuild is yes_ = keeps_durable (ap may_change (sym is)) (ap may_settle (sym is)) (durable yes_)
        go command.Verify is yes_ = keeps_durable (ap may_change (sym is)) (ap may_settle (sym is)) (durable yes_)
        go command.Commitment is yes_ = keeps_durable (ap may_change (sym is)) (ap may_settle (sym is)) (durable yes_)

    pub so_far_more : SoFar C E old new F b (commands ++ c ∷ []) (replies ++ reply ∷ [])
    so_far_more = record {
      played = answer-push (ground C E old) F commands replies c reply so_far.played
          (decides now so_far.grown (apply (limit_of old) now c).0 (subst (λ (o : Option ℕ). Answers (λ r. OfTree E mid (KeptAnswer now c r)) (apply o now c).0 reply) limit answered.due));
      nonces = so_far.nonces ++ answered.nonces;
      drawn = omega (arith, length-append so_far.nonces answered.nonces, so_far.drawn, drawn, asked-push (limit_of old) F commands c);
      taken = takes_then old.outside.left mid.outside.left new.outside.left so_far.nonces answered.nonces so_far.taken answered.taken;
      tells = tells ∙ ap (λ (l : List ℕ). Some l) (sym (traced-push (limit_of old) C old.key F commands c so_far.nonces answered.nonces b so_far.drawn drawn));
      holds = subst (Holds C new) (sym after) (subst (λ (o : Option ℕ). Holds C new (apply o now c).1) limit answered.holds);
      grown = subst (λ (G : File). WithTree E new (Grown G)) (sym after) (subst (λ (o : Option ℕ). WithTree E new (Grown (apply o now c).1)) limit (answered.grown (inl so_far.grown)));
      authentic = authentic-push (ground C E old) F commands c so_far.nonces answered.nonces b so_far.drawn so_far.authentic authentic;
      moved = moved_less old.outside new.outside _ _ _ _ _ _ _ _ _ _ (moved_then old.outside mid.outside new.outside _ _ _ _ _ _ _ _ _ _ so_far.moved moved)
          (omega (arith, longest-push (limit_of old) F commands c, longest_last (limit_of old) F commands))
          (omega (arith, traffic-push (limit_of old) F commands c))
          (omega (arith, asked-push (limit_of old) F commands c))
          (omega (arith, changes-push (limit_of old) F commands c))
          (omega (arith, calls-push (limit_of old) F commands c));
      strays = went.strays now so_far.holds ∙ so_far.strays;
      unmarked = answered.unmarked;
      settled = λ is. step_settled (settled_after false commands) so_far.settled c refl (sym (settled-push false commands c) ∙ is);
    }
