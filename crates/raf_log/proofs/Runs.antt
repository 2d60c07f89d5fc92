-- Commands on an open log, one after the other.
use Rattle.std.proofs.Common.{◌≡◌, inl, inr, true, false, ℕ, List, [], ◌∷◌, ◌++◌, length, take, Option, Some, None, Result, Ok, Err, refl, sym, ◌∙◌, ap, subst, arith, length-append, append_assoc}
use Rattle.std.specs.Result.{IsOkAnd}
use Rattle.std.proofs.lemmas.Bool.{false≢true}
use Rattle.std.proofs.lemmas.List.{append-nil, take_all, take_at}
use Rattle.raf_tree.specs.Hashing.{Hashing}
use Rattle.raf_format.specs.Cipher.{Cipher, IsLawful}
use Rattle.raf_format.specs.File.{Opens}
use Rattle.raf.specs.Outside.{Outside, Caused}
use Rattle.raf.specs.Handle.{WithTree, Grown, limit_of}
use Rattle.raf.specs.Session.{Ground}
use Rattle.raf.specs.Ran.{ground, Progress}
use Rattle.raf.specs.declared.command.Command.{Command}
use Rattle.raf.specs.declared.command.Reply.{Reply}
use Rattle.raf_io.specs.declared.errors.ErrorKind.{ErrorKind}
use Rattle.raf_log.specs.Log.{LogHandle, LogFile, KeepsLog, Extent, extent_of}
use Rattle.raf_log.specs.Call.{is_log_fault, asked_of, known_reply, log_reply, LogAnswers, apply_log, extent_after, LogAnswered, LogStepped}
use Rattle.raf_log.specs.Parts.{Parts, extent_along}
use Rattle.raf_log.specs.Session.{AllLogAnswer, log_after}
use Rattle.raf_log.specs.Ran.{LogSoFar, PartsSoFar, LogProgress, LogEnded, LogServes}
use Rattle.raf_log.specs.declared.error.LogError.{LogError}
use Rattle.raf_log.specs.declared.command.LogCommand.{LogCommand}
use Rattle.raf_log.specs.declared.command.LogCommand.TheVariants as command
use Rattle.raf_log.specs.declared.command.LogReply.{LogReply}
use Rattle.raf_log.specs.declared.command.LogReply.TheVariants as reply
use Rattle.raf_log.specs.declared.error.LogErrorKind.TheVariants.{Raf}
use Rattle.raf.proofs.Moves.{caused_later}
use Rattle.raf.proofs.Ends as ends
use Rattle.raf.proofs.Opened.{holds_opens}
use Rattle.raf_log.proofs.Idle.{fault_same}
use Rattle.raf_log.proofs.Asked.{parts_long, parts-push, extent-push, idle_part, asked_part}

-- ---- one command

calm_known : (e : Extent) (c : LogCommand) → is_log_fault (known_reply e c) ≡ false
calm_known e (command.Append entry) = refl
calm_known e (command.Get index) = refl
calm_known e command.Count = refl
calm_known e command.Commitment = refl

record Fails (old new : Outside) (r : LogReply) : Type 0 where
  kind : ErrorKind
  is : r ≡ reply.Refused (Raf kind)
  cause : Caused kind old new

module _ (C : Cipher) (E : List ℕ → Hashing) (old new : LogHandle) (c : LogCommand) (r : LogReply) (stepped : LogStepped C E old new c r) where
  fails_log : old.file.broken ≡ false → is_log_fault r ≡ true → Fails old.file.outside new.file.outside r
  fails_log unmarked fault = go (asked_of (extent_of old) c) refl
    where
      go : (o : Option Command) → asked_of (extent_of old) c ≡ o → Fails old.file.outside new.file.outside r
      go None is = absurd (false≢true (sym (calm_known (extent_of old) c) ∙ ap is_log_fault (sym (stepped.idle is).0) ∙ fault))
      go (Some ask) is =
          let s = stepped.asked ask is in
          let f = (s.1.went unmarked).failed (sym (fault_same (extent_of old) s.0) ∙ ap is_log_fault (sym s.2) ∙ fault) in
          record { kind = f.kind; is = s.2 ∙ ap (log_reply (extent_of old)) f.is; cause = f.cause }

-- ---- lists of commands

module _ (G : Ground) where
  after-push : (L : LogFile) (cs : List LogCommand) (c : LogCommand) → log_after G L (cs ++ c ∷ []) ≡ (apply_log G.limit (log_after G L cs) c).1
  after-push L [] c = refl
  after-push L (x ∷ cs) c = after-push (apply_log G.limit L x).1 cs c

  answer-push : (L : LogFile) (cs : List LogCommand) (rs : List LogReply) (c : LogCommand) (r : LogReply) → AllLogAnswer G L cs rs
      → LogAnswers G.answers G.setting G.limit (log_after G L cs).file (apply_log G.limit (log_after G L cs) c).0 r → AllLogAnswer G L (cs ++ c ∷ []) (rs ++ r ∷ [])
  answer-push L [] [] c r all due = (due, tt)
  answer-push L [] (x ∷ rs) c r all due = absurd all
  answer-push L (x ∷ cs) [] c r all due = absurd all
  answer-push L (x ∷ cs) (y ∷ rs) c r all due = (all.0, answer-push (apply_log G.limit L x).1 cs rs c r all.1 due)

module _ (C : Cipher) (lawful : IsLawful C) (E : List ℕ → Hashing) (old : LogHandle) where
  pub progress_none : (replies : List LogReply) → replies ≡ [] → LogProgress C E old old [] replies
  progress_none replies none = subst (λ (l : List LogReply). LogProgress C E old old [] l) (sym none) (record {
    told = λ L keeps grown unmarked. record { played = tt; keeps = keeps; grown = grown; unmarked = unmarked };
    file = record { asks = []; answers = []; parts = tt; progress = ends.progress_none C lawful E old.file [] refl; extent = refl };
  })

  module _ (mid new : LogHandle) (done : List LogCommand) (c : LogCommand) (r : LogReply) (replies : List LogReply) (progress : LogProgress C E old mid done replies) (stepped : LogStepped C E mid new c r) where
    even : length done ≡ length replies
    even = parts_long (extent_of old) done replies progress.file.asks progress.file.answers progress.file.parts

    -- what was asked, with the command's part
    pub parts : (more : List Command) (others : List Reply) → Parts (extent_of mid) (c ∷ []) (r ∷ []) more others
        → Parts (extent_of old) (done ++ c ∷ []) (replies ++ r ∷ []) (progress.file.asks ++ more) (progress.file.answers ++ others)
    parts more others part =
        parts-push (extent_of old) done replies progress.file.asks more progress.file.answers others c r progress.file.parts
        (subst (λ (e : Extent). Parts e (c ∷ []) (r ∷ []) more others) progress.file.extent part)

    extent : extent_of new ≡ extent_along (extent_of old) (done ++ c ∷ []) (replies ++ r ∷ [])
    extent = stepped.extent ∙ ap (λ (e : Extent). extent_after e c r) progress.file.extent ∙ sym (extent-push (extent_of old) done replies c r even)

    file_more : is_log_fault r ≡ false → PartsSoFar C E old new (done ++ c ∷ []) (replies ++ r ∷ [])
    file_more calm = go (asked_of (extent_of mid) c) refl
      where
        f : PartsSoFar C E old mid done replies
        f = progress.file

        go : (o : Option Command) → asked_of (extent_of mid) c ≡ o → PartsSoFar C E old new (done ++ c ∷ []) (replies ++ r ∷ [])
        go None is = record {
          asks = f.asks ++ [];
          answers = f.answers ++ [];
          parts = parts [] [] (idle_part (extent_of mid) c r is (stepped.idle is).0);
          progress = subst (λ (l : LogHandle). Progress C E old.file l.file (f.asks ++ []) (f.answers ++ [])) (sym (stepped.idle is).1)
              (subst (λ (l : List Command). Progress C E old.file mid.file l (f.answers ++ [])) (sym (append-nil f.asks))
              (subst (λ (l : List Reply). Progress C E old.file mid.file f.asks l) (sym (append-nil f.answers)) f.progress));
          extent = extent;
        }
        go (Some ask) is =
            let s = stepped.asked ask is in
            record {
              asks = f.asks ++ ask ∷ [];
              answers = f.answers ++ s.0 ∷ [];
              parts = parts (ask ∷ []) (s.0 ∷ []) (asked_part (extent_of mid) c r ask s.0 is s.2);
              progress = ends.progress_more C lawful E old.file mid.file new.file f.asks ask s.0 f.answers f.progress s.1 (sym (fault_same (extent_of mid) s.0) ∙ ap is_log_fault (sym s.2) ∙ calm);
              extent = extent;
            }

    so_far_more : (L : LogFile) → LogSoFar C E old mid L done replies → is_log_fault r ≡ false → LogSoFar C E old new L (done ++ c ∷ []) (replies ++ r ∷ [])
    so_far_more L s calm =
        let G : Ground = ground C E old.file in
        let limit : limit_of mid.file ≡ limit_of old.file = progress.file.progress.limit in
        let setting : mid.file.outside.setting ≡ old.file.outside.setting = progress.file.progress.setting in
        let a : LogAnswered C E mid new (log_after (ground C E old.file) L done) c r = stepped.told (log_after (ground C E old.file) L done) s.keeps s.grown s.unmarked calm in
        let next : log_after (ground C E old.file) L (done ++ c ∷ []) ≡ (apply_log (limit_of old.file) (log_after (ground C E old.file) L done) c).1 = after-push (ground C E old.file) L done c in
        let at_limit : (apply_log (limit_of mid.file) (log_after (ground C E old.file) L done) c).1 ≡ log_after (ground C E old.file) L (done ++ c ∷ []) =
        ap (λ (o : Option ℕ). (apply_log o (log_after (ground C E old.file) L done) c).1) limit ∙ sym next in
        record {
          played = answer-push (ground C E old.file) L done replies c r s.played
              (subst (λ (o : Option ℕ). LogAnswers E old.file.outside.setting o (log_after (ground C E old.file) L done).file (apply_log o (log_after (ground C E old.file) L done) c).0 r) limit
              (subst (λ (x : Option (List ℕ)). LogAnswers E x (limit_of mid.file) (log_after (ground C E old.file) L done).file (apply_log (limit_of mid.file) (log_after (ground C E old.file) L done) c).0 r) setting a.due));
          keeps = subst (KeepsLog C new) at_limit a.keeps;
          grown = subst (λ (l : LogFile). WithTree E new.file (Grown l.file)) at_limit a.grown;
          unmarked = a.unmarked;
        }

    pub progress_more : is_log_fault r ≡ false → LogProgress C E old new (done ++ c ∷ []) (replies ++ r ∷ [])
    progress_more calm = record {
      told = λ L keeps grown unmarked. so_far_more L (progress.told L keeps grown unmarked) calm;
      file = file_more calm;
    }

    pub ended_cut : (commands rest : List LogCommand) → commands ≡ done ++ c ∷ rest → is_log_fault r ≡ true → LogEnded C E old new commands (replies ++ r ∷ [])
    ended_cut commands rest split fault = go (asked_of (extent_of mid) c) refl
      where
        f : PartsSoFar C E old mid done replies
        f = progress.file

        begun_is : done ++ c ∷ [] ≡ take (length (replies ++ r ∷ [])) commands
        begun_is =
            let n : length (done ++ c ∷ []) ≡ length (replies ++ r ∷ []) = omega (arith, length-append done (c ∷ []), length-append replies (r ∷ []), even) in
            sym (take_at (done ++ c ∷ []) rest (length (replies ++ r ∷ [])) n)
            ∙ ap (λ (l : List LogCommand). take (length (replies ++ r ∷ [])) l) (append_assoc done (c ∷ []) rest ∙ sym split)

        go : (o : Option Command) → asked_of (extent_of mid) c ≡ o → LogEnded C E old new commands (replies ++ r ∷ [])
        go None is = absurd (false≢true (sym (calm_known (extent_of mid) c) ∙ ap is_log_fault (sym (stepped.idle is).0) ∙ fault))
        go (Some ask) is =
            let s = stepped.asked ask is in
            record {
              told = λ L keeps grown unmarked.
                  let so_far = progress.told L keeps grown unmarked in
                  let cut = fails_log C E mid new c r stepped so_far.unmarked fault in
                  inr (record {
                    done = done;
                    command = c;
                    rest = rest;
                    split = split;
                    answered = replies;
                    kind = cut.kind;
                    last = ap (λ (x : LogReply). replies ++ x ∷ []) cut.is;
                    played = so_far.played;
                    cause = caused_later cut.kind old.file.outside mid.file.outside new.file.outside (f.progress.quiet unmarked) cut.cause;
                  });
              asks = f.asks ++ ask ∷ [];
              answers = f.answers ++ s.0 ∷ [];
              parts = subst (λ (l : List LogCommand). Parts (extent_of old) l (replies ++ r ∷ []) (f.asks ++ ask ∷ []) (f.answers ++ s.0 ∷ [])) begun_is
                  (parts (ask ∷ []) (s.0 ∷ []) (asked_part (extent_of mid) c r ask s.0 is s.2));
              ended = ends.ended_cut C lawful E old.file mid.file new.file f.asks ask s.0 f.answers f.progress s.1 (f.asks ++ ask ∷ []) [] refl
                  (sym (fault_same (extent_of mid) s.0) ∙ ap is_log_fault (sym s.2) ∙ fault);
            }

  pub ended_whole : (now : LogHandle) (commands done : List LogCommand) (replies : List LogReply) → done ≡ commands → LogProgress C E old now done replies → LogEnded C E old now commands replies
  ended_whole now commands done replies all progress = subst (λ (l : List LogCommand). LogEnded C E old now l replies) all (record {
    told = λ L keeps grown unmarked.
        let s = progress.told L keeps grown unmarked in
        let held = s.keeps.holds in
        inl (record {
          played = s.played;
          ends = record {
            bytes = held.bytes;
            tells = held.tells;
            opens = subst (λ (k : List ℕ). Opens C k held.bytes (log_after (ground C E old.file) L done).file) f.progress.key
                (holds_opens C lawful now.file (log_after (ground C E old.file) L done).file held);
            is_log = s.keeps.is_log;
          };
          quiet = f.progress.quiet unmarked;
        });
    asks = f.asks;
    answers = f.answers;
    parts = subst (λ (l : List LogCommand). Parts (extent_of old) l replies f.asks f.answers)
        (sym (take_all (length replies) done (omega (arith, parts_long (extent_of old) done replies f.asks f.answers f.parts)))) f.parts;
    ended = ends.ended_whole C lawful E old.file now.file f.asks f.asks f.answers refl f.progress;
  })
    where
      f : PartsSoFar C E old now done replies
      f = progress.file

-- ---- room for more entries changes nothing else

ended_spare : (C : Cipher) (E : List ℕ → Hashing) (a : LogHandle) (n : ℕ) (now : LogHandle) (cs : List LogCommand) (rs : List LogReply)
    → LogEnded C E (record { file = a.file; starts = a.starts; spare = n }) now cs rs → LogEnded C E a now cs rs
ended_spare C E a n now cs rs e = record {
  told = λ L k grown unmarked. e.told L (record { holds = k.holds; is_log = k.is_log; starts = k.starts }) grown unmarked;
  asks = e.asks;
  answers = e.answers;
  parts = e.parts;
  ended = e.ended;
}

pub ended_same : (C : Cipher) (E : List ℕ → Hashing) (a b now : LogHandle) (cs : List LogCommand) (rs : List LogReply) → b.file ≡ a.file → b.starts ≡ a.starts → LogEnded C E b now cs rs → LogEnded C E a now cs rs
ended_same C E a b now cs rs f s e =
    ended_spare C E a b.spare now cs rs (subst (λ (l : LogHandle). LogEnded C E l now cs rs) (λ i. record { file = f i; starts = s i; spare = b.spare }) e)

pub serves_ok : (C : Cipher) (E : List ℕ → Hashing) (a b : LogHandle) (commands : List LogCommand) (after : Outside) (outcome : Result (List LogReply) LogError) → b.file ≡ a.file → b.starts ≡ a.starts
    → IsOkAnd outcome (λ answers. (now : LogHandle) × LogEnded C E b now commands answers × (after ≡ now.file.outside)) → LogServes C E a commands after outcome
serves_ok C E a b commands after (Ok replies) f s ok = record { answered = (ok.0, ended_same C E a b ok.0 commands replies f s ok.1, ok.2); none = tt }
serves_ok C E a b commands after (Err e) f s ok = absurd ok
