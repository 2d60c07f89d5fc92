-- An entry is put at the end of a log.
use Rattle.std.proofs.Common.{◌≡◌, inl, Bool, true, false, cond, ℕ, ◌+◌, ◌-◌, ◌<◌, ◌≤◌, List, [], ◌∷◌, ◌++◌, length, take, drop, replicate, Option, Some, None, refl, sym, ◌∙◌, ap, subst, arith}
use Rattle.std.specs.Prelude.{nat_lt}
use Rattle.std.proofs.lemmas.Bool.Decides.{nat_tests}
use Rattle.std.proofs.lemmas.List.{take_all, drop_all, append-nil}
use Rattle.raf_io.specs.Storage.{spliced}
use Rattle.raf_tree.specs.Hashing.{Hashing}
use Rattle.raf_format.specs.Cipher.{Cipher}
use Rattle.raf_format.specs.File.{File}
use Rattle.raf.specs.Concern.{fits}
use Rattle.raf.specs.Due.{Due, Answers, is_fault}
use Rattle.raf.specs.Due.Due.{Exactly}
use Rattle.raf.specs.Apply.{apply}
use Rattle.raf.specs.Handle.{Handle, Holds, WithTree, OfTree, KeptAnswer, Grown, limit_of}
use Rattle.raf.specs.Stepped.{Stepped, Answered}
use Rattle.raf.specs.Content.{content, Written, Contents}
use Rattle.raf.specs.declared.command.Command.{Command}
use Rattle.raf.specs.declared.command.Command.TheVariants as asks
use Rattle.raf.specs.declared.command.Reply.{Reply}
use Rattle.raf.specs.declared.command.Reply.TheVariants as answers
use Rattle.raf_io.specs.declared.errors.ErrorKind.{ErrorKind}
use Rattle.raf_io.specs.declared.errors.ErrorKind.TheVariants.{Overflow}
use Rattle.raf_log.specs.Entries.{spelled, spell, starts_from}
use Rattle.raf_log.specs.Log.{LogHandle, LogFile, KeepsLog, extent_of, log_handle}
use Rattle.raf_log.specs.Call.{log_reply, appends, LogDue, appended, apply_log, LogAnswered, LogStepped}
use Rattle.raf_log.specs.declared.command.LogCommand.TheVariants as command
use Rattle.raf_log.specs.declared.command.LogReply.TheVariants as reply
use Rattle.raf_log.specs.declared.error.LogErrorKind.TheVariants.{Raf, TooLong}
use Rattle.raf_log.proofs.Spelled.{spelled_long, spell-push, entries-push, starts-push, length-starts}
use Rattle.raf_log.proofs.Idle.{answered_by, asked_step}
use Rattle.raf_log.proofs.Extents.{size_refused, write_size}

-- an entry at the end of the bytes
append_at : (at : ℕ) (new b : List ℕ) → length b ≡ at → spliced at new b ≡ b ++ new
append_at at new b long =
    let none : at - length b ≡ 0 = omega (arith, long) in
    ap (λ (l : List ℕ). l ++ new ++ drop (at + length new) b)
    (ap (λ (n : ℕ). take at b ++ replicate n 0) none ∙ append-nil (take at b) ∙ take_all at b (omega (arith, long)))
    ∙ ap (λ (l : List ℕ). b ++ new ++ l) (drop_all (at + length new) b (omega (arith, long)))
    ∙ append-nil (b ++ new)

module _ (C : Cipher) (contents : Contents C) (E : List ℕ → Hashing) (old new : LogHandle) (L : LogFile) (keeps : KeepsLog C old L) (grown : WithTree E old.file (Grown L.file)) (unmarked : old.file.broken ≡ false) where
  abbrev F : File
  F = L.file

  abbrev limit : Option ℕ
  limit = limit_of old.file

  size_is : L.file.size ≡ old.file.header.file_size
  size_is = ap (λ (f : File). f.size) keeps.holds.file

  never_read : (at n : ℕ) (r : Reply) → OfTree E old.file (KeptAnswer L.file (asks.Read at n) r) → ⊥
  never_read at n r (s, t, a, b, odd) = odd

  -- ---- an entry is appended

  module _ (entry : List ℕ) (short : length entry ≤ 65536) (a : Reply) (stepped : Stepped C E old.file new.file (asks.Write L.file.size (spelled entry)) a) (calm : is_fault a ≡ false)
      (starts : new.starts ≡ cond (appends (log_reply (extent_of old) a)) (old.starts ++ L.file.size ∷ []) old.starts) where
    abbrev W : Command
    W = asks.Write L.file.size (spelled entry)

    did : Answered C E old.file new.file L.file keeps.holds.bytes (asks.Write L.file.size (spelled entry)) a
    did = (stepped.went unmarked).answered L.file keeps.holds calm

    exactly : (d : Due) (r : Reply) → d ≡ Exactly r → Answers (λ r. OfTree E old.file (KeptAnswer L.file W r)) d a → a ≡ r
    exactly d r is due = subst (λ (d : Due). Answers (λ r. OfTree E old.file (KeptAnswer L.file W r)) d a) is due

    is_short : nat_lt 65536 (length entry) ≡ false
    is_short = grind (arith, nat_tests)

    due_is : (d : Due) → (apply (limit_of old.file) L.file W).0 ≡ d → apply_log (limit_of old.file) L (command.Append entry) ≡ appended L entry (apply (limit_of old.file) L.file W).1 d
    due_is d is =
        ap (λ (t : Bool). cond {A = LogDue × LogFile} t (LogDue.Known (reply.Refused TooLong), L) (appended L entry (apply (limit_of old.file) L.file W).1 (apply (limit_of old.file) L.file W).0)) is_short
        ∙ ap (appended L entry (apply (limit_of old.file) L.file W).1) is

    written_list : (d : List ℕ) → 0 < length d → fits (limit_of old.file) L.file (asks.Write L.file.size d) ≡ true → Written (limit_of old.file) L.file L.file.size d
    written_list [] some fit = absurd (omega (arith, some))
    written_list (x ∷ xs) some fit = contents.written old.file L.file keeps.holds keeps.is_log.whole (limit_of old.file) L.file.size x xs fit

    overflown_list : (d : List ℕ) → 0 < length d → fits (limit_of old.file) L.file (asks.Write L.file.size d) ≡ false
        → apply (limit_of old.file) L.file (asks.Write L.file.size d) ≡ (Exactly (answers.Refused Overflow), L.file)
    overflown_list [] some unfit = absurd (omega (arith, some))
    overflown_list (x ∷ xs) some unfit = contents.overflown old.file L.file keeps.holds keeps.is_log.whole (limit_of old.file) L.file.size x xs unfit

    some : 0 < length (spelled entry)
    some = omega (arith, spelled_long entry)

    at_end : length (content L.file) ≡ L.file.size
    at_end = contents.long old.file L.file keeps.holds keeps.is_log.whole

    wrote : Written (limit_of old.file) L.file L.file.size (spelled entry) → LogAnswered C E old new L (command.Append entry) (log_reply (extent_of old) a)
    wrote w =
        let is : a ≡ answers.Wrote (length (spelled entry)) = exactly (apply (limit_of old.file) L.file W).0 (answers.Wrote (length (spelled entry))) w.due did.due in
        let count : length old.starts ≡ length L.entries = ap (λ (s : List ℕ). length s) keeps.starts ∙ length-starts 0 L.entries in
        let place : L.file.size ≡ 0 + length (spell L.entries) = omega (arith, at_end, ap (λ (l : List ℕ). length l) keeps.is_log.entries.1) in
        answered_by C E old new L (command.Append entry) (log_reply (extent_of old) a)
        (LogDue.Known (reply.Appended (length L.entries)), record { file = (apply (limit_of old.file) L.file W).1; entries = L.entries ++ entry ∷ [] })
        (due_is (Exactly (answers.Wrote (length (spelled entry)))) w.due)
        (ap (log_reply (extent_of old)) is ∙ ap (λ (n : ℕ). reply.Appended n) count)
        (record {
          holds = did.holds;
          is_log = record {
            whole = w.whole;
            entries = (
              entries-push L.entries entry keeps.is_log.entries.0 short,
              w.content_is ∙ append_at L.file.size (spelled entry) (content L.file) at_end ∙ ap (λ (l : List ℕ). l ++ spelled entry) keeps.is_log.entries.1 ∙ sym (spell-push L.entries entry),
            );
          };
          starts =
              starts ∙ ap (λ (r : Reply). cond (appends (log_reply (extent_of old) r)) (old.starts ++ L.file.size ∷ []) old.starts) is
              ∙ ap (λ (s : List ℕ). s ++ L.file.size ∷ []) keeps.starts ∙ ap (λ (n : ℕ). starts_from 0 L.entries ++ n ∷ []) place ∙ sym (starts-push 0 L.entries entry);
        })
        (did.grown (inl grown))
        did.unmarked

    overflew : apply (limit_of old.file) L.file (asks.Write L.file.size (spelled entry)) ≡ (Exactly (answers.Refused Overflow), L.file) → LogAnswered C E old new L (command.Append entry) (log_reply (extent_of old) a)
    overflew o =
        let due : (apply (limit_of old.file) L.file W).0 ≡ Exactly (answers.Refused Overflow) = ap (λ (p : Due × File). p.0) o in
        let file : (apply (limit_of old.file) L.file W).1 ≡ L.file = ap (λ (p : Due × File). p.1) o in
        let is : a ≡ answers.Refused Overflow = exactly (apply (limit_of old.file) L.file W).0 (answers.Refused Overflow) due did.due in
        answered_by C E old new L (command.Append entry) (log_reply (extent_of old) a) (LogDue.Known (reply.Refused (Raf Overflow)), L)
        (due_is (Exactly (answers.Refused Overflow)) due)
        (ap (log_reply (extent_of old)) is)
        (record {
          holds = subst (Holds C new.file) file did.holds;
          is_log = keeps.is_log;
          starts = starts ∙ ap (λ (r : Reply). cond (appends (log_reply (extent_of old) r)) (old.starts ++ L.file.size ∷ []) old.starts) is ∙ keeps.starts;
        })
        (subst (λ (f : File). WithTree E new.file (Grown f)) file (did.grown (inl grown)))
        did.unmarked

    pub append_told : LogAnswered C E old new L (command.Append entry) (log_reply (extent_of old) a)
    append_told = go (fits (limit_of old.file) L.file (asks.Write L.file.size (spelled entry))) refl
      where
        go : (t : Bool) → fits (limit_of old.file) L.file (asks.Write L.file.size (spelled entry)) ≡ t → LogAnswered C E old new L (command.Append entry) (log_reply (extent_of old) a)
        go true fit = wrote (written_list (spelled entry) some fit)
        go false unfit = overflew (overflown_list (spelled entry) some unfit)

module _ (C : Cipher) (contents : Contents C) (E : List ℕ → Hashing) (old new : LogHandle) where
  append_step : (entry : List ℕ) → length entry ≤ 65536 → (a : Reply) → Stepped C E old.file new.file (asks.Write old.file.header.file_size (spelled entry)) a
      → new.starts ≡ cond (appends (log_reply (extent_of old) a)) (old.starts ++ old.file.header.file_size ∷ []) old.starts
      → new.file.header.file_size ≡ cond (appends (log_reply (extent_of old) a)) (old.file.header.file_size + (4 + length entry)) old.file.header.file_size
      → new.spare + cond (appends (log_reply (extent_of old) a)) 1 0 ≡ old.spare → LogStepped C E old new (command.Append entry) (log_reply (extent_of old) a)
  append_step entry short a stepped starts size spare =
      let is : nat_lt 65536 (length entry) ≡ false = grind (arith, nat_tests) in
      asked_step C E old new (command.Append entry) (asks.Write old.file.header.file_size (spelled entry)) a
      (ap (λ (t : Bool). cond t None (Some (asks.Write old.file.header.file_size (spelled entry)))) is) stepped starts size spare
      (λ L keeps grown unmarked calm.
      let end : old.file.header.file_size ≡ L.file.size = sym (ap (λ (f : File). f.size) keeps.holds.file) in
      append_told C contents E old new L keeps grown unmarked entry short a (subst (λ (n : ℕ). Stepped C E old.file new.file (asks.Write n (spelled entry)) a) end stepped) calm
      (subst (λ (n : ℕ). new.starts ≡ cond (appends (log_reply (extent_of old) a)) (old.starts ++ n ∷ []) old.starts) end starts))

-- the same, from what was written
module _ (C : Cipher) (contents : Contents C) (E : List ℕ → Hashing) (file after : Handle) (starts : List ℕ) (spare : ℕ) (entry line : List ℕ) (end : ℕ)
    (short : length entry ≤ 65536) (is : line ≡ spelled entry) (at : end ≡ file.header.file_size) where
  written : (a : Reply) → Stepped C E file after (asks.Write end line) a → Stepped C E file after (asks.Write file.header.file_size (spelled entry)) a
  written a stepped = subst (λ (d : List ℕ). Stepped C E file after (asks.Write file.header.file_size d) a) is (subst (λ (k : ℕ). Stepped C E file after (asks.Write k line) a) at stepped)

  pub append_refused : (kind : ErrorKind) → Stepped C E file after (asks.Write end line) (answers.Refused kind)
      → LogStepped C E (log_handle file starts spare) (log_handle after starts spare) (command.Append entry) (reply.Refused (Raf kind))
  append_refused kind stepped =
      append_step C contents E (log_handle file starts spare) (log_handle after starts spare) entry short (answers.Refused kind) (written (answers.Refused kind) stepped) refl
      (size_refused C E file after (asks.Write end line) kind stepped) (omega arith)

  pub size_written : (k : ℕ) → Stepped C E file after (asks.Write end line) (answers.Wrote k) → after.header.file_size ≡ file.header.file_size + (4 + length entry)
  size_written k stepped = omega (arith, write_size C E file after (spelled entry) k (omega (arith, spelled_long entry)) (written (answers.Wrote k) stepped), spelled_long entry)

  pub append_done : (k : ℕ) (now : List ℕ) (left : ℕ) → Stepped C E file after (asks.Write end line) (answers.Wrote k) → now ≡ starts ++ end ∷ [] → left + 1 ≡ spare
      → LogStepped C E (log_handle file starts spare) (log_handle after now left) (command.Append entry) (reply.Appended (length starts))
  append_done k now left stepped pushed less =
      append_step C contents E (log_handle file starts spare) (log_handle after now left) entry short (answers.Wrote k) (written (answers.Wrote k) stepped)
      (pushed ∙ ap (λ (n : ℕ). starts ++ n ∷ []) at) (size_written k stepped) less
