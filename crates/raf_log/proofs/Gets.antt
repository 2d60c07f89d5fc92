-- An entry of a log is read.
use Rattle.std.proofs.Common.{get_or, length-take, take-append-drop, ◌≡◌, inl, inr, Bool, true, false, cond, ℕ, suc, ◌+◌, ◌-◌, ◌<◌, ◌≤◌, List, [], ◌∷◌, ◌++◌, length, take, drop, Option, Some, refl, sym, ◌∙◌, ap, subst, arith}
use Rattle.std.specs.Prelude.{◌⊎◌, slice_get, unwrap_or}
use Rattle.std.specs.Option.{option_map}
use Rattle.std.proofs.lemmas.List.{drop-append-le, get_or_append_left, get_or-append_right, get_or-take, get_or-drop}
use Rattle.std.proofs.lemmas.Bool.{cases_lt}
use Rattle.raf.specs.Read.{OldOrOpened, IsByteOf}
use Rattle.raf_tree.specs.Hashing.{Hashing}
use Rattle.raf_format.specs.Cipher.{Cipher}
use Rattle.raf_format.specs.File.{File}
use Rattle.raf.specs.Concern.{valid}
use Rattle.raf.specs.Due.{Due, Answers, is_fault}
use Rattle.raf.specs.Due.Due.{Exactly}
use Rattle.raf.specs.Apply.{apply, answer, changed, cause_of}
use Rattle.raf.specs.Handle.{Handle, Holds, WithTree, OfTree, KeptAnswer, Grown, limit_of}
use Rattle.raf.specs.Stepped.{Stepped, Answered}
use Rattle.raf.specs.Content.{content, Contents}
use Rattle.raf.specs.declared.command.Command.{Command}
use Rattle.raf.specs.declared.command.Command.TheVariants as asks
use Rattle.raf.specs.declared.command.Reply.{Reply}
use Rattle.raf.specs.declared.command.Reply.TheVariants as answers
use Rattle.raf_log.specs.Entries.{spell, starts_from}
use Rattle.raf_log.specs.Log.{LogHandle, LogFile, KeepsLog, extent_of, log_handle, entry_end}
use Rattle.raf_log.specs.Call.{log_reply, appends, LogDue, found, LogAnswered, LogStepped}
use Rattle.raf_log.specs.declared.command.LogCommand.TheVariants as command
use Rattle.raf_log.specs.declared.command.LogReply.TheVariants as reply
use Rattle.raf_log.proofs.Starts.{Stood, stood}
use Rattle.raf_log.proofs.Idle.{answered_by, asked_step}
use Rattle.raf_log.proofs.Extents.{size_stays}

module _ (C : Cipher) (contents : Contents C) (E : List ℕ → Hashing) (old new : LogHandle) (L : LogFile) (keeps : KeepsLog C old L) (grown : WithTree E old.file (Grown L.file)) (unmarked : old.file.broken ≡ false) where
  abbrev F : File
  F = L.file

  abbrev limit : Option ℕ
  limit = limit_of old.file

  size_is : L.file.size ≡ old.file.header.file_size
  size_is = ap (λ (f : File). f.size) keeps.holds.file

  never_read : (at n : ℕ) (r : Reply) → OfTree E old.file (KeptAnswer L.file (asks.Read at n) r) → ⊥
  never_read at n r (s, t, a, b, odd) = odd

  -- ---- an entry is read

  -- a command that changes nothing leaves the file
  stays : (c : Command) → changed L.file c ≡ L.file → (apply (limit_of old.file) L.file c).1 ≡ L.file
  stays c same = go (valid (limit_of old.file) L.file c)
    where
      go : (t : Bool) → (cond {A = Due × File} t (answer L.file c, changed L.file c) (Exactly (answers.Refused (cause_of (limit_of old.file) L.file c)), L.file)).1 ≡ L.file
      go true = same
      go false = refl

  module _ (index o : ℕ) (there : slice_get old.starts index ≡ Some o) (a : Reply) (starts : new.starts ≡ old.starts)
      (stepped : Stepped C E old.file new.file (asks.Read (o + 4) (entry_end (extent_of old) index - (o + 4))) a) (calm : is_fault a ≡ false) where
    abbrev len : ℕ
    len = entry_end (extent_of old) index - (o + 4)

    got : Answered C E old.file new.file L.file keeps.holds.bytes (asks.Read (o + 4) (entry_end (extent_of old) index - (o + 4))) a
    got = (stepped.went unmarked).answered L.file keeps.holds calm

    at : Stood 0 L.entries index o
    at = stood 0 L.entries index o (sym (ap (λ (s : List ℕ). slice_get s index) keeps.starts) ∙ there)

    len_is : entry_end (extent_of old) index - (o + 4) ≡ length at.entry
    len_is =
        let next : index + 1 ≡ suc index = omega arith in
        let total : old.file.header.file_size ≡ 0 + length (spell L.entries) = omega (arith, size_is, contents.long old.file L.file keeps.holds keeps.is_log.whole, ap (λ (l : List ℕ). length l) keeps.is_log.entries.1) in
        let end : entry_end (extent_of old) index ≡ o + 4 + length at.entry =
        ap (λ (k : ℕ). unwrap_or (slice_get old.starts k) old.file.header.file_size) next
        ∙ ap (λ (s : List ℕ). unwrap_or (slice_get s (suc index)) old.file.header.file_size) keeps.starts
        ∙ ap (λ (k : ℕ). unwrap_or (slice_get (starts_from 0 L.entries) (suc index)) k) total
        ∙ at.end in
        omega (arith, end)

    bytes_are : take (entry_end (extent_of old) index - (o + 4)) (drop (o + 4) (content L.file)) ≡ at.entry
    bytes_are =
        let z : o + 4 ≡ o + 4 - 0 = omega arith in
        ap (λ (n : ℕ). take n (drop (o + 4) (content L.file))) len_is
        ∙ ap (λ (l : List ℕ). take (length at.entry) (drop (o + 4) l)) keeps.is_log.entries.1
        ∙ ap (λ (k : ℕ). take (length at.entry) (drop k (spell L.entries))) z
        ∙ at.bytes

    answer_is : a ≡ answers.Bytes at.entry
    answer_is =
        subst (λ (d : Due). Answers (λ r. OfTree E old.file (KeptAnswer L.file (asks.Read (o + 4) (entry_end (extent_of old) index - (o + 4))) r)) d a)
        (contents.read old.file L.file keeps.holds keeps.is_log.whole (limit_of old.file) (o + 4) (entry_end (extent_of old) index - (o + 4))) got.due
        ∙ ap (λ (l : List ℕ). answers.Bytes l) bytes_are

    pub get_told : LogAnswered C E old new L (command.Get index) (log_reply (extent_of old) a)
    get_told =
        let file : (apply (limit_of old.file) L.file (asks.Read (o + 4) (entry_end (extent_of old) index - (o + 4)))).1 ≡ L.file = stays (asks.Read (o + 4) (entry_end (extent_of old) index - (o + 4))) refl in
        answered_by C E old new L (command.Get index) (log_reply (extent_of old) a) (LogDue.Known (reply.Entry at.entry), L)
        (ap (λ (o : Option (List ℕ)). (LogDue.Known (found o), L)) at.is)
        (ap (log_reply (extent_of old)) answer_is)
        (record { holds = subst (Holds C new.file) file got.holds; is_log = keeps.is_log; starts = starts ∙ keeps.starts })
        (subst (λ (f : File). WithTree E new.file (Grown f)) file (got.grown (inl grown)))
        got.unmarked

module _ (C : Cipher) (contents : Contents C) (E : List ℕ → Hashing) (file after : Handle) (starts : List ℕ) (spare index o : ℕ) (there : slice_get starts index ≡ Some o)
    (len : ℕ) (is : len ≡ unwrap_or (slice_get starts (index + 1)) file.header.file_size - (o + 4)) where
  -- what was read of the file is what is asked of it
  pub get_done : (a : Reply) → appends (log_reply (extent_of (log_handle file starts spare)) a) ≡ false → Stepped C E file after (asks.Read (o + 4) len) a
      → LogStepped C E (log_handle file starts spare) (log_handle after starts spare) (command.Get index) (log_reply (extent_of (log_handle file starts spare)) a)
  get_done a none stepped =
      let read : Stepped C E file after (asks.Read (o + 4) (entry_end (extent_of (log_handle file starts spare)) index - (o + 4))) a = subst (λ (n : ℕ). Stepped C E file after (asks.Read (o + 4) n) a) is stepped in
      asked_step C E (log_handle file starts spare) (log_handle after starts spare) (command.Get index) (asks.Read (o + 4) (entry_end (extent_of (log_handle file starts spare)) index - (o + 4))) a
      (ap (option_map (λ o. asks.Read (o + 4) (entry_end (extent_of (log_handle file starts spare)) index - (o + 4)))) there) read
      (ap (λ (t : Bool). cond t (starts ++ file.header.file_size ∷ []) starts) (sym none))
      (size_stays C E file after (asks.Read (o + 4) len) a stepped refl ∙ ap (λ (t : Bool). cond t (file.header.file_size + 0) file.header.file_size) (sym none))
      (ap (λ (t : Bool). spare + cond t 1 0) none ∙ (let e : spare + 0 ≡ spare = omega arith in e))
      (λ L keeps grown unmarked calm. get_told C contents E (log_handle file starts spare) (log_handle after starts spare) L keeps grown unmarked index o there a refl read calm)

-- ---- the buffer of an entry

-- what stands behind it
pub behind_stays : (n len : ℕ) (out buf : List ℕ) → drop n buf ≡ drop n (take len out) → n ≤ length buf → length buf ≡ length (take len out) → drop n (buf ++ drop len out) ≡ drop n out
behind_stays n len out buf is le same =
    drop-append-le n buf (drop len out) le ∙ ap (λ (l : List ℕ). l ++ drop len out) is
    ∙ sym (drop-append-le n (take len out) (drop len out) (omega (arith, le, same))) ∙ ap (λ (l : List ℕ). drop n l) (take-append-drop len out)

-- what a read that was refused left in front of it
pub old_or_opened : (F : File) (offset len : ℕ) (out buf : List ℕ) → length buf ≡ length (take len out) → OldOrOpened F offset (take len out) buf → OldOrOpened F offset out (buf ++ drop len out)
old_or_opened F offset len out buf same read = λ k lt. go k lt (cases_lt k (length buf))
  where
    front : (k : ℕ) → k < length buf → get_or (buf ++ drop len out) k 0 ≡ get_or buf k 0
    front k within = get_or_append_left buf (drop len out) 0 k within

    go : (k : ℕ) → k < length out → (k < length buf) ⊎ (length buf ≤ k)
        → (get_or (buf ++ drop len out) k 0 ≡ get_or out k 0) ⊎ IsByteOf F.shape.chunk_size F.chunks (offset + k) (get_or (buf ++ drop len out) k 0)
    go k lt (inl within) = inner (read k (omega (arith, within, same)))
      where
        inner : (get_or buf k 0 ≡ get_or (take len out) k 0) ⊎ IsByteOf F.shape.chunk_size F.chunks (offset + k) (get_or buf k 0)
            → (get_or (buf ++ drop len out) k 0 ≡ get_or out k 0) ⊎ IsByteOf F.shape.chunk_size F.chunks (offset + k) (get_or (buf ++ drop len out) k 0)
        inner (inl old) = inl (front k within ∙ old ∙ get_or-take len out k 0 (omega (arith, within, same, length-take len out)))
        inner (inr opened) = inr (subst (λ (x : ℕ). IsByteOf F.shape.chunk_size F.chunks (offset + k) x) (sym (front k within)) opened)
    go k lt (inr past) =
        let place : len + (k - length buf) ≡ k = omega (arith, same, length-take len out, lt, past) in
        inl (get_or-append_right buf (drop len out) (length buf) k 0 refl past ∙ get_or-drop len out (k - length buf) 0 ∙ ap (λ (n : ℕ). get_or out n 0) place)
