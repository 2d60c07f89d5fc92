-- How a run on an open file ends.
use Rattle.std.proofs.Common.{◌≡◌, inl, inr, Bool, true, false, ℕ, List, [], ◌∷◌, ◌++◌, length, take, Option, Some, refl, sym, ◌∙◌, ap, subst, arith, length-append, append_assoc}
use Rattle.std.proofs.lemmas.List.{take_all, take_at}
use Rattle.std.proofs.lemmas.Bool.{false≢true}
use Rattle.raf_io.specs.Source.{TakesAtMost, IsShort}
use Rattle.raf_tree.specs.Hashing.{Hashing}
use Rattle.raf_format.specs.Cipher.{Cipher, IsLawful}
use Rattle.raf_format.specs.File.{File, Opens}
use Rattle.raf.specs.Apply.{apply, file_after, longest}
use Rattle.raf.specs.Image.{traced, asked_by, asked_in, changes_in, traffic_in, calls_in}
use Rattle.raf.specs.Change.{change_of}
use Rattle.std.specs.Prelude.{is_some}
use Rattle.raf.specs.Meaning.{Spares, Starved, Faultable}
use Rattle.raf.specs.Outside.{Outside, Quiet, Moved}
use Rattle.raf.specs.Handle.{Handle, Holds, WithTree, Grown, limit_of, outline}
use Rattle.raf.specs.Stepped.{Stepped, Went, Bounded, may_settle}
use Rattle.raf.specs.Session.{Ground, AllAnswer, Course, begun}
use Rattle.raf.specs.Ran.{ground, SoFar, Progress, NumbersSoFar, Ended}
use Rattle.raf.proofs.Numbers.{numbers_none, numbers_more, numbers_cut, numbers_whole}
use Rattle.raf.specs.Due.{is_fault}
use Rattle.raf.specs.declared.command.Command.{Command}
use Rattle.raf.specs.declared.command.Command.TheVariants as command
use Rattle.raf.specs.declared.command.Reply.{Reply}
use Rattle.raf.specs.declared.command.Reply.TheVariants.{Refused}
use Rattle.raf_io.specs.declared.errors.ErrorKind.{ErrorKind}
use Rattle.raf.proofs.Moves.{moved_same, moved_less, moved_then, quiet_same, quiet_then, caused_later, takes_none}
use Rattle.raf.proofs.Opened.{holds_opens}
use Rattle.raf.proofs.Progress.{so_far_more}
use Rattle.raf.proofs.Runs.{asked-push, changes-push, calls-push, traffic-push, longest-push, longest_last}

same_bytes : (x y : List ℕ) → Some x ≡ Some y → x ≡ y
same_bytes x y e = cc

pub answers_len : (G : Ground) (F : File) (xs : List Command) (rs : List Reply) → AllAnswer G F xs rs → length rs ≡ length xs
answers_len G F [] [] all = refl
answers_len G F [] (r ∷ rs) all = absurd all
answers_len G F (x ∷ xs) [] all = absurd all
answers_len G F (x ∷ xs) (r ∷ rs) all = omega (arith, answers_len G (apply G.limit F x).1 xs rs all.1)

no_change : (F : File) (c : Command) → may_settle c ≡ false → is_some (change_of F c) ≡ false
no_change F (command.Read offset len) quiet = refl
no_change F (command.Write offset bytes) quiet = absurd cc
no_change F (command.Truncate size) quiet = absurd cc
no_change F command.Size quiet = refl
no_change F command.Sync quiet = absurd cc
no_change F command.Rebuild quiet = refl
no_change F command.Verify quiet = refl
no_change F command.Commitment quiet = refl

moved_on : (L : Option ℕ) (F : File) (done : List Command) (c : Command) (a b d : Outside) → Moved a b (longest L F done) (traffic_in L F done) (asked_in L F done) (changes_in L F done) (calls_in L F done)
    → Bounded L b d (file_after L F done) c
    → Moved a d (longest L F (done ++ c ∷ [])) (traffic_in L F (done ++ c ∷ [])) (asked_in L F (done ++ c ∷ [])) (changes_in L F (done ++ c ∷ [])) (calls_in L F (done ++ c ∷ []))
moved_on L F done c a b d m n =
    moved_less a d _ _ _ _ _ _ _ _ _ _ (moved_then a b d _ _ _ _ _ _ _ _ _ _ m n)
    (omega (arith, longest-push L F done c, longest_last L F done)) (omega (arith, traffic-push L F done c)) (omega (arith, asked-push L F done c)) (omega (arith, changes-push L F done c)) (omega (arith, calls-push L F done c))

module _ (C : Cipher) (lawful : IsLawful C) (E : List ℕ → Hashing) (old : Handle) where
  pub so_far_none : (F : File) (held : Holds C old F) → WithTree E old (Grown F) → old.broken ≡ false → SoFar C E old old F held.bytes [] []
  so_far_none F held grown unmarked = record {
    played = tt;
    nonces = [];
    drawn = refl;
    taken = takes_none old.outside.left;
    tells = held.tells;
    holds = held;
    grown = grown;
    authentic = tt;
    moved = moved_less old.outside old.outside 0 0 0 0 0 _ _ _ _ _ (moved_same old.outside old.outside refl) (omega arith) (omega arith) (omega arith) (omega arith) (omega arith);
    strays = refl;
    unmarked = unmarked;
    settled = λ is. absurd (false≢true is);
  }

  pub progress_none : (replies : List Reply) → replies ≡ [] → Progress C E old old [] replies
  progress_none replies none = record {
    told = λ F held grown unmarked. subst (λ (l : List Reply). SoFar C E old old F held.bytes [] l) (sym none) (so_far_none F held grown unmarked);
    numbers = λ unmarked. subst (λ (l : List Reply). NumbersSoFar C old old [] l) (sym none) (numbers_none C old unmarked);
    quiet = λ _. quiet_same old.outside old.outside refl;
    key = refl;
    limit = refl;
    exact = refl;
    setting = refl;
  }

  course_of : (now : Handle) (F : File) (b : List ℕ) (commands : List Command) (replies : List Reply) → now.key ≡ old.key → (so_far : SoFar C E old now F b commands replies)
      → Course (ground C E old) F b commands replies so_far.nonces
  course_of now F b commands replies key so_far = record {
    played = so_far.played;
    drawn = so_far.drawn;
    opens = subst (λ (k : List ℕ). Opens C k (traced (limit_of old) C old.key F commands so_far.nonces b) (file_after (limit_of old) F commands)) key
        (subst (λ (l : List ℕ). Opens C now.key l (file_after (limit_of old) F commands)) (same_bytes so_far.holds.bytes _ (sym so_far.holds.tells ∙ so_far.tells))
        (holds_opens C lawful now (file_after (limit_of old) F commands) so_far.holds));
    authentic = so_far.authentic;
  }

  pub ended_whole : (now : Handle) (commands done : List Command) (replies : List Reply) → done ≡ commands → Progress C E old now done replies → Ended C E old now commands replies
  ended_whole now commands done replies all progress = subst (λ (l : List Command). Ended C E old now l replies) all (record {
    told = λ F held grown unmarked.
        let s = progress.told F held grown unmarked in
        let n : begun (ground C E old) done replies ≡ done = take_all (length replies) done (omega (arith, answers_len (ground C E old) F done replies s.played)) in
        record {
          run = inl (record {
            nonces = s.nonces;
            course = course_of now F held.bytes done replies progress.key s;
            bytes = s.tells;
            left = s.taken;
            quiet = progress.quiet unmarked;
            settled = s.settled;
          });
          moved = subst (λ (l : List Command). Moved old.outside now.outside (longest (limit_of old) F l) (traffic_in (limit_of old) F l) (asked_in (limit_of old) F l) (changes_in (limit_of old) F l) (calls_in (limit_of old) F l)) (sym n) s.moved;
          strays = s.strays;
        };
    numbers = λ unmarked. numbers_whole C old now done replies (progress.numbers unmarked) (progress.quiet unmarked);
  })

  module _ (mid new : Handle) (done : List Command) (c : Command) (reply : Reply) (replies : List Reply) (progress : Progress C E old mid done replies) (stepped : Stepped C E mid new c reply) where
    -- what holds where nothing happened, and where the command was looked at, holds
    either : (P : Handle → Handle → Type 0) → P mid mid → (Went C E mid new c reply → P mid new) → P mid new
    either P same went = go mid.broken refl
      where
        go : (b : Bool) → mid.broken ≡ b → P mid new
        go true is = subst (λ (h : Handle). P mid h) (sym (stepped.barred is).1) same
        go false is = went (stepped.went is)

    pub progress_more : is_fault reply ≡ false → Progress C E old new (done ++ c ∷ []) (replies ++ reply ∷ [])
    progress_more calm = record {
      told = λ F held grown unmarked. so_far_more C E old mid new c reply stepped calm progress.key progress.limit progress.setting F held.bytes done replies (progress.told F held grown unmarked);
      numbers = λ unmarked. numbers_more C E old mid new done c reply replies (progress.numbers unmarked) progress.limit stepped calm;
      quiet = λ unmarked. quiet_then old.outside mid.outside new.outside (progress.quiet unmarked) (either (λ h k. Quiet h.outside k.outside) (quiet_same mid.outside mid.outside refl) (λ w. w.quiet calm));
      key = either (λ h k. k.key ≡ h.key) refl (λ w. w.stays.key) ∙ progress.key;
      limit = either (λ h k. limit_of k ≡ limit_of h) refl (λ w. w.stays.limit) ∙ progress.limit;
      exact = either (λ h k. k.outside.exact ≡ h.outside.exact) refl (λ w. (w.bounded (outline C mid.header) (inr refl)).exact) ∙ progress.exact;
      setting = either (λ h k. k.outside.setting ≡ h.outside.setting) refl (λ w. (w.bounded (outline C mid.header) (inr refl)).setting) ∙ progress.setting;
    }

    pub ended_cut : (commands rest : List Command) → commands ≡ done ++ c ∷ rest → is_fault reply ≡ true → Ended C E old new commands (replies ++ reply ∷ [])
    ended_cut commands rest split fault = record {
      told = λ F held grown unmarked.
          let s = progress.told F held grown unmarked in
          let L = limit_of old in
          let F' = file_after (limit_of old) F done in
          let went = stepped.went s.unmarked in
          let failed = went.failed fault in
          let cut = went.cut F' s.holds fault in
          let bytes : s.holds.bytes ≡ traced (limit_of old) C old.key F done s.nonces held.bytes = same_bytes s.holds.bytes _ (sym s.holds.tells ∙ s.tells) in
          record {
            run = inr (record {
              done = done;
              command = c;
              rest = rest;
              split = split;
              answered = replies;
              kind = failed.kind;
              last = ap (λ (r : Reply). replies ++ r ∷ []) failed.is;
              nonces = s.nonces;
              course = course_of mid F held.bytes done replies progress.key s;
              cause = caused_later failed.kind old.outside mid.outside new.outside (progress.quiet unmarked) failed.cause;
              due = subst (λ (o : Option ℕ). Faultable o failed.kind F' c) progress.limit (failed.may F' (inl s.holds));
              middle = mid.outside.left;
              short = λ is exact. subst (λ (o : Option ℕ). IsShort mid.outside.left (asked_by o F' c)) progress.limit (failed.short F' (inl s.holds) is (progress.exact ∙ exact));
              taken = s.taken;
              starved = λ is.
                  subst (λ (k : List ℕ). Starved C k F' c (traced (limit_of old) C old.key F done s.nonces held.bytes) old.outside.exact mid.outside.left new.outside.bytes) progress.key
                  (subst (λ (x : Bool). Starved C mid.key F' c (traced (limit_of old) C old.key F done s.nonces held.bytes) x mid.outside.left new.outside.bytes) progress.exact
                  (subst (λ (l : List ℕ). Starved C mid.key F' c l mid.outside.exact mid.outside.left new.outside.bytes) bytes
                  (went.starved F' s.holds (failed.is ∙ ap (λ (k : ErrorKind). Refused k) is))));
              left = subst (λ (o : Option ℕ). TakesAtMost mid.outside.left (asked_by o F' c) new.outside.left) progress.limit cut.left;
              bytes = cut.bytes;
              tells = cut.tells;
              settled = λ was quiet. λ x d bytes_are durable_is.
                  s.settled was x d (s.holds.tells ∙ ap (λ (l : List ℕ). Some l) (sym (cut.spares.untouched (no_change F' c quiet))) ∙ sym cut.tells ∙ bytes_are) (sym (went.stays.durable (inl quiet)) ∙ durable_is);
              spares = subst (λ (l : List ℕ). Spares F' c l cut.bytes) bytes cut.spares;
            });
            moved =
                let len : length replies ≡ length done = answers_len (ground C E old) F done replies s.played in
                let n : length (done ++ c ∷ []) ≡ length (replies ++ reply ∷ []) = omega (arith, length-append done (c ∷ []), length-append replies (reply ∷ []), len) in
                let begun_is : done ++ c ∷ [] ≡ take (length (replies ++ reply ∷ [])) commands =
                sym (take_at (done ++ c ∷ []) rest (length (replies ++ reply ∷ [])) n) ∙ ap (λ (l : List Command). take (length (replies ++ reply ∷ [])) l) (append_assoc done (c ∷ []) rest ∙ sym split) in
                subst (λ (l : List Command). Moved old.outside new.outside (longest (limit_of old) F l) (traffic_in (limit_of old) F l) (asked_in (limit_of old) F l) (changes_in (limit_of old) F l) (calls_in (limit_of old) F l)) begun_is
                (moved_on (limit_of old) F done c old.outside mid.outside new.outside s.moved (subst (λ (o : Option ℕ). Bounded o mid.outside new.outside F' c) progress.limit (went.bounded F' (inl s.holds))));
            strays = went.strays F' s.holds ∙ s.strays;
          };
      numbers = λ unmarked. numbers_cut C E old mid new done c reply replies (progress.numbers unmarked) progress.limit stepped commands rest split fault (progress.quiet unmarked);
    }
