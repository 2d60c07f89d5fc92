-- A write or a truncation that does nothing: its numbers don't fit, or there is nothing to change.
use Rattle.std.proofs.Common.{◌≡◌, inl, inr, ℕ, ◌+◌, Bool, true, false, cond, not, ◌&&◌, ◌||◌, List, [], ◌∷◌, Option, Some, None, refl, sym, ◌∙◌, ap, subst, arith}
use Rattle.std.specs.Prelude.{if◌then◌else◌, is_some}
use Rattle.std.proofs.lemmas.Bool.{false≢true}
use Rattle.raf_tree.specs.Hashing.{Hashing}
use Rattle.raf_format.specs.Cipher.{Cipher}
use Rattle.raf_format.specs.File.{File, chunk_count}
use Rattle.raf.specs.Due.{Due, Answers, is_fault, is_refused}
use Rattle.raf.specs.Due.Due.{Exactly}
use Rattle.raf.specs.Concern.{can_have, is_touched, is_needed, touched, needed, fits, none_missing, is_merkle, size_after, sum_where}
use Rattle.raf.specs.Apply.{apply, answer, changed, after}
use Rattle.raf.specs.Change.{Change, change_of}
use Rattle.raf.specs.Image.{image, bytes_after, asked_by}
use Rattle.raf.specs.Handle.{Handle, Holds, WithTree, OfTree, Grown, KeptAnswer, limit_of, outline}
use Rattle.raf.specs.Stepped.{Answered, HasForm, Went, with_size, refuses}
use Rattle.raf.specs.declared.command.Command.{Command}
use Rattle.raf.specs.declared.command.Reply.{Reply}
use Rattle.raf.specs.declared.command.Reply.TheVariants.{Refused}
use Rattle.raf_io.specs.declared.errors.ErrorKind.{ErrorKind}
use Rattle.raf_io.specs.declared.errors.ErrorKind.TheVariants.{AuthenticationFailed, Overflow, MerkleNotEnabled}
use Rattle.raf_format.specs.declared.header.Header.{Header}
use Rattle.raf.proofs.StillSteps.{may_change, change_uncommitted, sum_none}
use Rattle.raf.proofs.Moves.{takes_none, moved_any, moved_same, quiet_same}
use Rattle.raf.proofs.Arms.{Alters, with_chunks, arm_overflow, needed_by, no_merkle}
use Rattle.raf.proofs.ReadyChanges.{authentic_by, shaped_by}

module _ (C : Cipher) (E : List ℕ → Hashing) (old : Handle) (c : Command) (reply : Reply) (kind : may_change c ≡ true) (unmarked : old.broken ≡ false) (calm : is_fault reply ≡ false)
    (due : (chunks : List (Option (List ℕ))) → apply (limit_of old) (with_chunks C old.header chunks) c ≡ (Exactly reply, with_chunks C old.header chunks))
    (asks : (chunks : List (Option (List ℕ))) → asked_by (limit_of old) (with_chunks C old.header chunks) c ≡ 0)
    (stays : (chunks : List (Option (List ℕ))) (b : List ℕ) → bytes_after (limit_of old) C old.key (with_chunks C old.header chunks) c [] b ≡ b)
    (header : (if refuses reply then old.header else with_size old.header (size_after (outline C old.header) c)) ≡ old.header) where
  answered : (chunks : List (Option (List ℕ))) (b : List ℕ) → old.outside.bytes ≡ Some b → Holds C old (with_chunks C old.header chunks) → Answered C E old old (with_chunks C old.header chunks) b c reply
  answered chunks b tells holds = record {
    due = subst (λ (d : Due × File). Answers (λ r. OfTree E old (KeptAnswer (with_chunks C old.header chunks) c r)) d.0 reply) (sym (due chunks)) refl;
    nonces = [];
    drawn = sym (asks chunks);
    taken = takes_none old.outside.left;
    tells = tells ∙ ap (λ (l : List ℕ). Some l) (sym (stays chunks b));
    holds = subst (λ (d : Due × File). Holds C old d.1) (sym (due chunks)) holds;
    authentic = authentic_by C old.key b (with_chunks C old.header chunks) (apply (limit_of old) (with_chunks C old.header chunks) c).0 c kind;
    grown = λ was. subst (λ (d : Due × File). WithTree E old (Grown d.1)) (sym (due chunks)) (elim was [
      | inl grown ↦ grown
      | inr rebuilt ↦ absurd (false≢true (sym (ap may_change rebuilt.0) ∙ kind))
    ]);
    unmarked = unmarked;
    still = λ _. (refl, refl);
  }

  pub went_idle : Went C E old old c reply
  went_idle = record {
    answered = λ F held _. subst (λ (G : File). Holds C old G → Answered C E old old G held.bytes c reply) (sym held.file) (answered _ held.bytes held.tells) held;
    cut = λ F held fault. absurd (false≢true (sym calm ∙ fault));
    starved = λ F held is. absurd (false≢true (sym calm ∙ ap is_fault is));
    failed = λ fault. absurd (false≢true (sym calm ∙ fault));
    quiet = λ _. quiet_same old.outside old.outside refl;
    shaped = λ _. shaped_by (limit_of old) (outline C old.header) reply c kind (inr (subst (λ (d : Due × File). Answers (HasForm c) d.0 reply) (sym (due [])) refl));
    bounded = λ F measures. moved_any old.outside old.outside _ _ _ _ _ (moved_same old.outside old.outside refl);
    strays = λ F held. refl;
    committed = change_uncommitted E old c reply kind;
    marked = record { sets = λ may refused began. absurd (elim began [ inl more ↦ omega (arith, more) | inr more ↦ omega (arith, more) ]); cause = λ set. absurd (false≢true (sym unmarked ∙ set)); calmly = λ set. absurd (false≢true (sym unmarked ∙ set)) };
    stays = record {
      key = refl;
      limit = refl;
      header = sym header;
      bytes = λ _. (refl, refl);
      durable = λ _. refl;
      synced = λ is. absurd (false≢true (sym (ap may_change is) ∙ kind));
    };
  }

-- numbers that don't fit
pub went_overflow : (C : Cipher) (E : List ℕ → Hashing) (old : Handle) (c : Command) (K : Change) (done : Reply) → Alters C old.header c K done → old.broken ≡ false
    → can_have (limit_of old) (outline C old.header) K.size ≡ false → Went C E old old c (Refused Overflow)
went_overflow C E old c K done alters unmarked past =
    went_idle C E old c (Refused Overflow) alters.kind unmarked refl due
    (λ chunks. ap (λ (t : Bool). cond {A = ℕ} t 0 (sum_where (touched (with_chunks C old.header chunks) c) (λ _. C.nonce_len) 0 (chunk_count old.header.chunk_size (size_after (with_chunks C old.header chunks) c)))) (refused chunks))
    (λ chunks b. ap (λ (t : Bool). cond {A = List ℕ} t b (cond {A = List ℕ} (is_some (change_of (with_chunks C old.header chunks) c))
    (image C old.key b (apply (limit_of old) (with_chunks C old.header chunks) c).1 (touched (with_chunks C old.header chunks) c) []) b)) (refused chunks))
    refl
  where
    due : (chunks : List (Option (List ℕ))) → apply (limit_of old) (with_chunks C old.header chunks) c ≡ (Exactly (Refused Overflow), with_chunks C old.header chunks)
    due chunks = arm_overflow C old.header c K done alters (limit_of old) chunks past

    refused : (chunks : List (Option (List ℕ))) → is_refused (apply (limit_of old) (with_chunks C old.header chunks) c).0 ≡ true
    refused chunks = ap (λ (d : Due × File). is_refused d.0) (arm_overflow C old.header c K done alters (limit_of old) chunks past)

-- nothing to change
none_asked : (index : ℕ) (chunks : List (Option (List ℕ))) → none_missing (λ _. false) index chunks ≡ true
none_asked index [] = refl
none_asked index (c ∷ chunks) = none_asked (index + 1) chunks

module _ (limit : Option ℕ) (F : File) (c : Command) (kind : may_change c ≡ true) (none : change_of F c ≡ None) where
  untouched : touched F c ≡ (λ _. false)
  untouched = ap {B = ℕ → Bool} (λ (o : Option Change) (i : ℕ). elim o [ None ↦ false | Some K ↦ is_touched F K i ]) none

  unneeded : needed F c ≡ (λ _. false)
  unneeded = needed_by F c kind ∙ ap {B = ℕ → Bool} (λ (o : Option Change) (i : ℕ). elim o [ None ↦ false | Some K ↦ is_needed F K i ]) none

  abbrev arms : Bool → Bool → Bool → Due × File
  arms fits there plain =
      cond {A = Due × File} (fits && there && (plain || is_some limit)) (answer F c, changed F c)
      (Exactly (Refused (cond {A = ErrorKind} (not fits) Overflow (cond {A = ErrorKind} (not there) AuthenticationFailed MerkleNotEnabled))), F)

  pub unchanged : apply limit F c ≡ (answer F c, F)
  unchanged =
      ap (λ (o : Option Change). arms (elim o [ None ↦ true | Some K ↦ can_have limit F K.size ]) (none_missing (needed F c) 0 F.chunks) (not (is_merkle c))) none
      ∙ ap (λ (test : ℕ → Bool). arms true (none_missing test 0 F.chunks) (not (is_merkle c))) unneeded
      ∙ ap (λ (t : Bool). arms true t (not (is_merkle c))) (none_asked 0 F.chunks)
      ∙ ap (λ (t : Bool). arms true true (not t)) (no_merkle c kind)
      ∙ ap (λ (o : Option Change). (answer F c, elim o [ None ↦ F | Some K ↦ after F K ])) none

  pub asks_none : asked_by limit F c ≡ 0
  asks_none =
      go (is_refused (apply limit F c).0) (ap (λ (test : ℕ → Bool). sum_where test (λ _. F.shape.nonce_len) 0 (chunk_count F.shape.chunk_size (size_after F c))) untouched
      ∙ sum_none (λ _. F.shape.nonce_len) 0 (chunk_count F.shape.chunk_size (size_after F c)))
    where
      go : (t : Bool) → sum_where (touched F c) (λ _. F.shape.nonce_len) 0 (chunk_count F.shape.chunk_size (size_after F c)) ≡ 0
          → cond {A = ℕ} t 0 (sum_where (touched F c) (λ _. F.shape.nonce_len) 0 (chunk_count F.shape.chunk_size (size_after F c))) ≡ 0
      go true zero = refl
      go false zero = zero

  pub bytes_stay : (C : Cipher) (key nonces b : List ℕ) → bytes_after limit C key F c nonces b ≡ b
  bytes_stay C key nonces b = go (is_refused (apply limit F c).0) (is_some (change_of F c)) (ap is_some none)
    where
      go : (t u : Bool) → u ≡ false → cond {A = List ℕ} t b (cond {A = List ℕ} u (image C key b (apply limit F c).1 (touched F c) nonces) b) ≡ b
      go true u same = refl
      go false true same = absurd cc
      go false false same = refl

  pub size_stays : size_after F c ≡ F.size
  size_stays = ap (λ (o : Option Change). elim o [ None ↦ F.size | Some K ↦ K.size ]) none

pub went_nothing : (C : Cipher) (E : List ℕ → Hashing) (old : Handle) (c : Command) (done : Reply) → may_change c ≡ true → old.broken ≡ false → is_fault done ≡ false → refuses done ≡ false
    → ((chunks : List (Option (List ℕ))) → change_of (with_chunks C old.header chunks) c ≡ None) → ((F : File) → answer F c ≡ Exactly done) → Went C E old old c done
went_nothing C E old c done kind unmarked calm plain none answers =
    went_idle C E old c done kind unmarked calm
    (λ chunks. unchanged (limit_of old) (with_chunks C old.header chunks) c kind (none chunks) ∙ ap (λ (d : Due). (d, with_chunks C old.header chunks)) (answers (with_chunks C old.header chunks)))
    (λ chunks. asks_none (limit_of old) (with_chunks C old.header chunks) c kind (none chunks))
    (λ chunks b. bytes_stay (limit_of old) (with_chunks C old.header chunks) c kind (none chunks) C old.key [] b)
    (ap (λ (t : Bool). cond {A = Header} t old.header (with_size old.header (size_after (outline C old.header) c))) plain
    ∙ ap (λ (n : ℕ). with_size old.header n) (size_stays (limit_of old) (outline C old.header) c kind (none [])))
