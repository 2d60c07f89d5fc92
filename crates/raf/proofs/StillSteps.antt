-- Commands that leave the file as it is.
use Rattle.std.proofs.Common.{◌≡◌, inl, inr, Bool, true, false, cond, ℕ, zero, suc, ◌+◌, List, [], Option, Some, refl, sym, ◌∙◌, ap, subst, arith}
use Rattle.std.specs.Prelude.{◌⊎◌, if◌then◌else◌}
use Rattle.raf_io.specs.Storage.{Told, SyncedTo}
use Rattle.raf_io.specs.Source.{Takes}
use Rattle.raf_tree.specs.Hashing.{Hashing}
use Rattle.raf_format.specs.Cipher.{Cipher}
use Rattle.raf_format.specs.File.{File, IsFile, chunk_count, file_of}
use Rattle.raf.specs.Due.{Due, Answers, is_refused}
use Rattle.raf.specs.Due.Due.{Exactly}
use Rattle.raf.specs.Concern.{touched, sum_where, size_after, valid}
use Rattle.raf.specs.Apply.{apply, answer, changed, cause_of}
use Rattle.raf.specs.Image.{bytes_after, asked_by, image}
use Rattle.raf.specs.Change.{change_of}
use Rattle.std.specs.Prelude.{is_some}
use Rattle.raf.specs.Meaning.{Authentic, Faultable, Starved}
use Rattle.raf_io.specs.declared.errors.ErrorKind.{ErrorKind}
use Rattle.raf_io.specs.declared.errors.ErrorKind.TheVariants.{Rng}
use Rattle.std.specs.Option.{option_map}
use Rattle.std.proofs.lemmas.Bool.{false≢true}
use Rattle.raf_tree.specs.Kept.{Kept as Tree}
use Rattle.raf.specs.Outside.{Quiet}
use Rattle.raf.proofs.Moves.{takes_none}
use Rattle.raf.specs.Handle.{Handle, Holds, Measures, WithTree, OfTree, Grown, KeptAnswer, limit_of, outline}
use Rattle.raf.specs.Stepped.{Failed, Bounded, Shaped, Committed, Went, with_size, refuses, may_mark, may_settle}
use Rattle.raf.specs.Due.{is_fault}
use Rattle.raf_format.specs.declared.header.Header.{Header}
use Rattle.raf.specs.declared.command.Command.{Command}
use Rattle.raf.specs.declared.command.Command.TheVariants as command
use Rattle.raf.specs.declared.command.Reply.{Reply}
use Rattle.raf.specs.declared.command.Reply.TheVariants.{Done, Refused}

-- a write or a truncation
abbrev pub may_change : Command → Bool
may_change (command.Write offset bytes) = true
may_change (command.Truncate size) = true
may_change _ = false

-- such a change or rebuild leaves what is durable
still_settles : (c : Command) → may_change c ≡ false → may_mark c ≡ true → may_settle c ≡ false
still_settles (command.Read offset len) still marks = refl
still_settles (command.Write offset bytes) still marks = absurd cc
still_settles (command.Truncate size) still marks = absurd cc
still_settles command.Size still marks = refl
still_settles command.Sync still marks = absurd cc
still_settles command.Rebuild still marks = refl
still_settles command.Verify still marks = refl
still_settles command.Commitment still marks = refl

-- a change answers no commitment
pub change_uncommitted : (E : List ℕ → Hashing) (old : Handle) (c : Command) (reply : Reply) → may_change c ≡ true → Committed E old c reply
change_uncommitted E old (command.Read offset len) reply changes = tt
change_uncommitted E old (command.Write offset bytes) reply changes = tt
change_uncommitted E old (command.Truncate size) reply changes = tt
change_uncommitted E old command.Size reply changes = tt
change_uncommitted E old command.Sync reply changes = tt
change_uncommitted E old command.Rebuild reply changes = tt
change_uncommitted E old command.Verify reply changes = tt
change_uncommitted E old command.Commitment reply changes = absurd cc

pub sum_none : (f : ℕ → ℕ) (i n : ℕ) → sum_where (λ _. false) f i n ≡ 0
sum_none f i zero = refl
sum_none f i (suc n) = ap (λ (x : ℕ). 0 + x) (sum_none f (i + 1) n)

module _ (limit : Option ℕ) (F : File) where
  -- any other command that is valid or not leaves the file
  pub still_file : (c : Command) → may_change c ≡ false → (apply limit F c).1 ≡ F
  still_file c still = go (valid limit F c) (unchanged c still)
    where
      unchanged : (c : Command) → may_change c ≡ false → changed F c ≡ F
      unchanged (command.Read offset len) still = refl
      unchanged (command.Write offset bytes) still = absurd cc
      unchanged (command.Truncate size) still = absurd cc
      unchanged command.Size still = refl
      unchanged command.Sync still = refl
      unchanged command.Rebuild still = refl
      unchanged command.Verify still = refl
      unchanged command.Commitment still = refl

      go : (t : Bool) → changed F c ≡ F → (cond {A = Due × File} t (answer F c, changed F c) (Exactly (Refused (cause_of limit F c)), F)).1 ≡ F
      go true same = same
      go false same = refl

  pub still_untouched : (c : Command) → may_change c ≡ false → (touched F c ≡ (λ _. false)) × (is_some (change_of F c) ≡ false) × (size_after F c ≡ F.size)
  still_untouched (command.Read offset len) still = (refl, refl, refl)
  still_untouched (command.Write offset bytes) still = absurd cc
  still_untouched (command.Truncate size) still = absurd cc
  still_untouched command.Size still = (refl, refl, refl)
  still_untouched command.Sync still = (refl, refl, refl)
  still_untouched command.Rebuild still = (refl, refl, refl)
  still_untouched command.Verify still = (refl, refl, refl)
  still_untouched command.Commitment still = (refl, refl, refl)

  -- and the storage, and asks nothing of the random source
  pub still_bytes : (C : Cipher) (key nonces b : List ℕ) (c : Command) → may_change c ≡ false → bytes_after limit C key F c nonces b ≡ b
  still_bytes C key nonces b c still = go (is_refused (apply limit F c).0) (is_some (change_of F c)) (still_untouched c still).1
    where
      go : (t u : Bool) → u ≡ false → cond {A = List ℕ} t b (cond {A = List ℕ} u (image C key b (apply limit F c).1 (touched F c) nonces) b) ≡ b
      go true u same = refl
      go false true same = absurd cc
      go false false same = refl

  pub still_asks : (c : Command) → may_change c ≡ false → asked_by limit F c ≡ 0
  still_asks c still =
      go (is_refused (apply limit F c).0)
      (ap (λ (test : ℕ → Bool). sum_where test (λ _. F.shape.nonce_len) 0 (chunk_count F.shape.chunk_size (size_after F c))) (still_untouched c still).0 ∙ sum_none (λ _. F.shape.nonce_len) 0 (chunk_count F.shape.chunk_size (size_after F c)))
    where
      go : (t : Bool) → sum_where (touched F c) (λ _. F.shape.nonce_len) 0 (chunk_count F.shape.chunk_size (size_after F c)) ≡ 0
          → cond {A = ℕ} t 0 (sum_where (touched F c) (λ _. F.shape.nonce_len) 0 (chunk_count F.shape.chunk_size (size_after F c))) ≡ 0
      go true none = refl
      go false none = none

-- a command that changes nothing asks no random byte, so that its fault, if any, is none of the random source
pub unstarved : (C : Cipher) (old new : Handle) (c : Command) (reply : Reply) → may_change c ≡ false → (is_fault reply ≡ true → Failed C old new c reply)
    → (F : File) (held : Holds C old F) → reply ≡ Refused Rng → Starved C old.key F c held.bytes old.outside.exact old.outside.left new.outside.bytes
unstarved C old new c reply still failed F held is = absurd (none_asked (from (failed (ap is_fault is))))
  where
    kind_is : (k : ErrorKind) → Refused Rng ≡ Refused k → k ≡ Rng
    kind_is k same = cc

    none_asked : Faultable (limit_of old) Rng F c → ⊥
    none_asked may = omega (arith, may.1, still_asks (limit_of old) F c still)

    from : Failed C old new c reply → Faultable (limit_of old) Rng F c
    from f = subst (λ (k : ErrorKind). Faultable (limit_of old) k F c) (kind_is f.kind (sym is ∙ f.is)) (f.may F (inl held))

-- a command that left all as it was but the counts, and was answered so
module _ (C : Cipher) (E : List ℕ → Hashing) (old new : Handle) (c : Command) (reply : Reply) (still : may_change c ≡ false) (key : new.key ≡ old.key) (header : new.header ≡ old.header)
    (tree : new.tree ≡ old.tree) (unmarked : new.broken ≡ false) (bytes : new.outside.bytes ≡ old.outside.bytes) (left : new.outside.left ≡ old.outside.left) where
  pub still_holds : (F : File) → Holds C old F → Holds C new F
  still_holds F held = record {
    bytes = held.bytes;
    tells = bytes ∙ held.tells;
    is_file = subst (λ (k : List ℕ). IsFile C k held.bytes new.header) (sym key) (subst (λ (h : Header). IsFile C old.key held.bytes h) (sym header) held.is_file);
    file = held.file ∙ ap (λ (k : List ℕ). file_of C k old.header held.bytes) (sym key) ∙ ap (λ (h : Header). file_of C new.key h held.bytes) (sym header);
  }

  same_header : new.header ≡ (if refuses reply then old.header else with_size old.header (size_after (outline C old.header) c))
  same_header = go (refuses reply)
    where
      go : (t : Bool) → new.header ≡ cond {A = Header} t old.header (with_size old.header (size_after (outline C old.header) c))
      go true = header
      go false = header ∙ ap (λ (n : ℕ). with_size old.header n) (sym (still_untouched (limit_of old) (outline C old.header) c still).2)

  pub went_still : ((F : File) (held : Holds C old F) → is_fault reply ≡ false → Answers (λ r. OfTree E old (KeptAnswer F c r)) (apply (limit_of old) F c).0 reply
      × Authentic C old.key held.bytes F c (apply (limit_of old) F c).0)
      → (is_fault reply ≡ true → Failed C old new c reply)
      → (is_fault reply ≡ false → Quiet old.outside new.outside)
      → (is_fault reply ≡ false → Shaped (limit_of old) (outline C old.header) c reply)
      → ((F : File) → Measures C old F → Bounded (limit_of old) old.outside new.outside F c)
      → ((F : File) → Holds C old F → new.outside.strays ≡ old.outside.strays)
      → new.outside.setting ≡ old.outside.setting
      → new.outside.changes ≡ old.outside.changes
      → (may_mark c ≡ true ⊎ ((refuses reply ≡ true) × (is_fault reply ≡ false)) → new.outside.calls ≡ old.outside.calls)
      → ((c ≡ command.Rebuild) × (reply ≡ Done) → ⊥)
      → (may_settle c ≡ false → new.outside.durable ≡ old.outside.durable)
      → (c ≡ command.Sync → reply ≡ Done → Told (SyncedTo old.outside.bytes) old.outside.durable new.outside.durable)
      → Committed E old c reply
      → Went C E old new c reply
  went_still due failed quiet shaped bounded strays setting changes calls other durable synced committed = record {
    answered = λ F held calm. record {
      due = (due F held calm).0;
      nonces = [];
      drawn = sym (still_asks (limit_of old) F c still);
      taken = subst (λ (o : Option (List ℕ)). Takes old.outside.left [] o) (sym left) (takes_none old.outside.left);
      tells = bytes ∙ held.tells ∙ ap (λ (b : List ℕ). Some b) (sym (still_bytes (limit_of old) F C old.key [] held.bytes c still));
      holds = subst (Holds C new) (sym (still_file (limit_of old) F c still)) (still_holds F held);
      authentic = (due F held calm).1;
      grown = λ was. elim was [
        | inl grown ↦ subst (λ (G : File). WithTree E new (Grown G)) (sym (still_file (limit_of old) F c still)) (λ s t is kept. grown s t (sym setting ∙ is) (sym tree ∙ kept))
        | inr rebuilt ↦ absurd (other rebuilt)
      ];
      unmarked = unmarked;
      still = λ refused. (changes, calls (inr (refused, calm)));
    };
    cut = λ F held fault. record {
      left = ([], omega arith, subst (λ (o : Option (List ℕ)). Takes old.outside.left [] o) (sym left) (takes_none old.outside.left));
      bytes = held.bytes;
      tells = bytes ∙ held.tells;
      spares = record { untouched = λ _. refl; header = λ _. refl; records = λ index lt there not. refl };
    };
    starved = unstarved C old new c reply still failed;
    failed = failed;
    quiet = quiet;
    shaped = shaped;
    bounded = bounded;
    strays = strays;
    committed = committed;
    marked = record { sets = λ may refused began. absurd (elim began [ inl more ↦ omega (arith, more, changes) | inr more ↦ omega (arith, more, calls (inl may)) ]); cause = λ set. absurd (false≢true (sym unmarked ∙ set)); calmly = λ set. absurd (false≢true (sym unmarked ∙ set)) };
    stays = record {
      key = key;
      limit = ap (option_map (λ (t : Tree). t.max_chunks)) tree;
      header = same_header;
      bytes = λ _. (bytes, tree);
      durable = λ calm. elim calm [
        | inl unsettled ↦ durable unsettled
        | inr refused ↦ durable (still_settles c still refused.0)
      ];
      synced = synced;
    };
  }
