-- What a call on a log does, from what it asks of its file.
use Rattle.std.proofs.Common.{◌≡◌, Bool, true, false, cond, ℕ, ◌+◌, ◌-◌, ◌<◌, List, [], ◌∷◌, ◌++◌, length, Option, Some, None, refl, sym, ◌∙◌, ap, subst, arith}
use Rattle.std.specs.Prelude.{nat_lt, slice_get}
use Rattle.std.specs.Option.{option_map}
use Rattle.std.proofs.lemmas.Bool.{false≢true}
use Rattle.std.proofs.lemmas.Bool.Decides.{nat_tests}
use Rattle.raf_tree.specs.Hashing.{Hashing}
use Rattle.raf_format.specs.Cipher.{Cipher}
use Rattle.raf.specs.Due.{is_fault}
use Rattle.raf.specs.Apply.{apply}
use Rattle.raf.specs.Handle.{WithTree, Grown, limit_of}
use Rattle.raf.specs.Stepped.{Stepped}
use Rattle.raf.specs.declared.command.Command.{Command}
use Rattle.raf.specs.declared.command.Command.TheVariants as asks
use Rattle.raf.specs.declared.command.Reply.{Reply}
use Rattle.raf.specs.declared.command.Reply.TheVariants as answers
use Rattle.raf_io.specs.declared.errors.ErrorKind.TheVariants.{Io, InvalidArgument, AuthenticationFailed, AlreadyExists, NotFound, Overflow, MerkleNotEnabled, CorruptedChunk, Rng, Hash, Broken, OutOfMemory}
use Rattle.raf_log.specs.Entries.{spelled}
use Rattle.raf_log.specs.Log.{LogHandle, LogFile, KeepsLog, Extent, extent_of, entry_end}
use Rattle.raf_log.specs.Call.{is_log_fault, asked_of, known_reply, log_reply, appends, line_len, LogDue, LogAnswers, appended, found, apply_log, LogAnswered, LogStepped}
use Rattle.raf_log.specs.declared.command.LogCommand.{LogCommand}
use Rattle.raf_log.specs.declared.command.LogCommand.TheVariants as command
use Rattle.raf_log.specs.declared.command.LogReply.{LogReply}
use Rattle.raf_log.specs.declared.command.LogReply.TheVariants as reply
use Rattle.raf_log.specs.declared.error.LogErrorKind.TheVariants.{TooLong}
use Rattle.raf_log.proofs.Spelled.{length-starts}
use Rattle.raf_log.proofs.Starts.{none_stood}
use Rattle.raf_log.proofs.Extents.{extent_is}

-- a reply of the log is a fault where that of its file is
pub fault_same : (e : Extent) (a : Reply) → is_log_fault (log_reply e a) ≡ is_fault a
fault_same e (answers.Bytes b) = refl
fault_same e (answers.Wrote n) = refl
fault_same e answers.Done = refl
fault_same e (answers.Size n) = refl
fault_same e (answers.Verified f) = refl
fault_same e (answers.Commitment out) = refl
fault_same e (answers.Refused Io) = refl
fault_same e (answers.Refused (InvalidArgument r)) = refl
fault_same e (answers.Refused AuthenticationFailed) = refl
fault_same e (answers.Refused AlreadyExists) = refl
fault_same e (answers.Refused NotFound) = refl
fault_same e (answers.Refused Overflow) = refl
fault_same e (answers.Refused MerkleNotEnabled) = refl
fault_same e (answers.Refused (CorruptedChunk i)) = refl
fault_same e (answers.Refused Rng) = refl
fault_same e (answers.Refused Hash) = refl
fault_same e (answers.Refused Broken) = refl
fault_same e (answers.Refused OutOfMemory) = refl

some_none : (c : Command) → None ≡ Some c → ⊥
some_none c e = cc

same_some : (a b : Command) → Some a ≡ Some b → a ≡ b
same_some a b e = cc

-- a log that was answered, from what is due
pub answered_by : (C : Cipher) (E : List ℕ → Hashing) (old new : LogHandle) (L : LogFile) (c : LogCommand) (r : LogReply) (p : LogDue × LogFile) → apply_log (limit_of old.file) L c ≡ p
    → LogAnswers E old.file.outside.setting (limit_of old.file) L.file p.0 r → KeepsLog C new p.1 → WithTree E new.file (Grown p.1.file) → new.file.broken ≡ false → LogAnswered C E old new L c r
answered_by C E old new L c r p is due keeps grown unmarked = record {
  due = subst (λ (p : LogDue × LogFile). LogAnswers E old.file.outside.setting (limit_of old.file) L.file p.0 r) (sym is) due;
  keeps = subst (λ (p : LogDue × LogFile). KeepsLog C new p.1) (sym is) keeps;
  grown = subst (λ (p : LogDue × LogFile). WithTree E new.file (Grown p.1.file)) (sym is) grown;
  unmarked = unmarked;
}

-- ---- nothing is asked

pub idle_step : (C : Cipher) (E : List ℕ → Hashing) (l : LogHandle) (c : LogCommand) → asked_of (extent_of l) c ≡ None → appends (known_reply (extent_of l) c) ≡ false
    → ((L : LogFile) → KeepsLog C l L → apply_log (limit_of l.file) L c ≡ (LogDue.Known (known_reply (extent_of l) c), L)) → LogStepped C E l l c (known_reply (extent_of l) c)
idle_step C E l c none plain due = record {
  idle = λ _. (refl, refl);
  asked = λ ask is. absurd (some_none ask (sym none ∙ is));
  extent = ap (λ (t : Bool). cond {A = Extent} t (record { starts = l.starts ++ l.file.header.file_size ∷ []; size = l.file.header.file_size + line_len c }) (extent_of l)) (sym plain);
  spare = omega arith;
  exact = λ yes. absurd (false≢true (sym plain ∙ yes));
  told = λ L keeps grown unmarked calm. answered_by C E l l L c (known_reply (extent_of l) c) (LogDue.Known (known_reply (extent_of l) c), L) (due L keeps) refl keeps grown unmarked;
}

pub long_step : (C : Cipher) (E : List ℕ → Hashing) (l : LogHandle) (entry : List ℕ) → 65536 < length entry → LogStepped C E l l (command.Append entry) (reply.Refused TooLong)
long_step C E l entry long =
    let is : nat_lt 65536 (length entry) ≡ true = grind (arith, nat_tests) in
    idle_step C E l (command.Append entry) (ap (λ (t : Bool). cond t None (Some (asks.Write l.file.header.file_size (spelled entry)))) is) refl
    (λ L keeps. ap (λ (t : Bool). cond {A = LogDue × LogFile} t (LogDue.Known (reply.Refused TooLong), L)
    (appended L entry (apply (limit_of l.file) L.file (asks.Write L.file.size (spelled entry))).1 (apply (limit_of l.file) L.file (asks.Write L.file.size (spelled entry))).0)) is)

pub count_step : (C : Cipher) (E : List ℕ → Hashing) (l : LogHandle) → LogStepped C E l l command.Count (reply.Count (length l.starts))
count_step C E l = idle_step C E l command.Count refl refl
    (λ L keeps. ap (λ (n : ℕ). (LogDue.Known (reply.Count n), L)) (sym (ap (λ (s : List ℕ). length s) keeps.starts ∙ length-starts 0 L.entries)))

pub absent_step : (C : Cipher) (E : List ℕ → Hashing) (l : LogHandle) (index : ℕ) → slice_get l.starts index ≡ None → LogStepped C E l l (command.Get index) reply.Absent
absent_step C E l index none = idle_step C E l (command.Get index) (ap (option_map (λ o. asks.Read (o + 4) (entry_end (extent_of l) index - (o + 4)))) none) refl
    (λ L keeps. ap (λ (o : Option (List ℕ)). (LogDue.Known (found o), L)) (none_stood 0 L.entries index (sym (ap (λ (s : List ℕ). slice_get s index) keeps.starts) ∙ none)))

-- ---- one command is asked

pub asked_step : (C : Cipher) (E : List ℕ → Hashing) (old new : LogHandle) (c : LogCommand) (ask : Command) (a : Reply) → asked_of (extent_of old) c ≡ Some ask → Stepped C E old.file new.file ask a
    → new.starts ≡ cond (appends (log_reply (extent_of old) a)) (old.starts ++ old.file.header.file_size ∷ []) old.starts
    → new.file.header.file_size ≡ cond (appends (log_reply (extent_of old) a)) (old.file.header.file_size + line_len c) old.file.header.file_size
    → new.spare + cond (appends (log_reply (extent_of old) a)) 1 0 ≡ old.spare
    → ((L : LogFile) → KeepsLog C old L → WithTree E old.file (Grown L.file) → old.file.broken ≡ false → is_fault a ≡ false → LogAnswered C E old new L c (log_reply (extent_of old) a))
    → LogStepped C E old new c (log_reply (extent_of old) a)
asked_step C E old new c ask a is stepped starts size spare told = record {
  idle = λ none. absurd (some_none ask (sym none ∙ is));
  asked = λ other same. (a, subst (λ (k : Command). Stepped C E old.file new.file k a) (same_some ask other (sym is ∙ same)) stepped, refl);
  extent = extent_is old new (line_len c) (appends (log_reply (extent_of old) a)) starts size;
  spare = omega (arith, spare);
  exact = λ yes. ap (λ (t : Bool). new.spare + cond t 1 0) (sym yes) ∙ spare;
  told = λ L keeps grown unmarked calm. told L keeps grown unmarked (sym (fault_same (extent_of old) a) ∙ calm);
}
