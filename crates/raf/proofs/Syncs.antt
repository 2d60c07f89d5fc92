-- A sync.
use Rattle.std.proofs.Common.{◌≡◌, inr, Bool, true, false, cond, ℕ, ◌+◌, List, [], ◌∷◌, Option, Result, Ok, Err, refl, sym, ◌∙◌, ap, subst, arith}
use Rattle.std.specs.Prelude.{not, ◌&&◌}
use Rattle.std.specs.Result.{OnOk, IfErr}
use Rattle.std.proofs.lemmas.Bool.{false≢true}
use Rattle.raf_io.specs.Storage.{Told, SyncedTo}
use Rattle.raf_tree.specs.Hashing.{Hashing}
use Rattle.raf_format.specs.Cipher.{Cipher}
use Rattle.raf_format.specs.File.{File}
use Rattle.raf.specs.Due.{Due, Answers, is_barred}
use Rattle.raf.specs.Due.Due.{Exactly}
use Rattle.raf.specs.Concern.{none_missing}
use Rattle.raf.specs.Apply.{apply}
use Rattle.raf.specs.Outside.{Quiet, Caused, Moved}
use Rattle.raf.specs.Meaning.{Authentic}
use Rattle.raf.specs.Handle.{Handle, Holds, OfTree, KeptAnswer, limit_of}
use Rattle.raf.specs.Stepped.{Went, done_reply}
use Rattle.raf_io.specs.Kinds.{kind_of}
use Rattle.raf.specs.Due.{is_fault}
use Rattle.raf.specs.declared.command.Command.TheVariants.{Sync, Rebuild}
use Rattle.raf.specs.declared.command.Reply.{Reply}
use Rattle.raf.specs.declared.command.Reply.TheVariants.{Done, Refused}
use Rattle.raf_io.specs.declared.errors.Error.{Error}
use Rattle.raf_io.specs.declared.errors.ErrorKind.{ErrorKind}
use Rattle.raf_io.specs.declared.errors.ErrorKind.TheVariants.{Io, AuthenticationFailed, MerkleNotEnabled, Rng}
use Rattle.raf.proofs.Moves.{moved_any}
use Rattle.raf.proofs.StillSteps.{went_still}

-- chunks that no test asks may be missing
pub none_asked : (index : ℕ) (chunks : List (Option (List ℕ))) → none_missing (λ _. false) index chunks ≡ true
none_asked index [] = refl
none_asked index (c ∷ chunks) = none_asked (index + 1) chunks

pub apply_sync : (limit : Option ℕ) (F : File) → apply limit F Sync ≡ (Exactly Done, F)
apply_sync limit F =
    ap (λ (t : Bool). cond {A = Due × File} (t && true) (Exactly Done, F) (Exactly (Refused (cond (not t) AuthenticationFailed MerkleNotEnabled)), F)) (none_asked 0 F.chunks)

module _ (C : Cipher) (E : List ℕ → Hashing) (old new : Handle) (key : new.key ≡ old.key) (header : new.header ≡ old.header) (tree : new.tree ≡ old.tree) (unmarked : new.broken ≡ false)
    (bytes : new.outside.bytes ≡ old.outside.bytes) (left : new.outside.left ≡ old.outside.left) (moved : Moved old.outside new.outside 0 0 0 0 0)
    (strays : new.outside.strays ≡ old.outside.strays) where
  other : Sync ≡ Rebuild → ⊥
  other is = cc

  not_rng : Io ≡ Rng → ⊥
  not_rng is = cc

  authentic : (F : File) (held : Holds C old F) → Authentic C old.key held.bytes F Sync (apply (limit_of old) F Sync).0
  authentic F held = tt

  went : (reply : Reply) → (is_fault reply ≡ false → reply ≡ Done)
      → (is_fault reply ≡ true → (reply ≡ Refused Io) × Caused Io old.outside new.outside)
      → (is_fault reply ≡ false → Quiet old.outside new.outside)
      → (reply ≡ Done → Told (SyncedTo old.outside.bytes) old.outside.durable new.outside.durable) → Went C E old new Sync reply
  went reply calm fault quiet synced =
      went_still C E old new Sync reply refl key header tree unmarked bytes left
      (λ F held is. (subst (λ (p : Due × File). Answers (λ r. OfTree E old (KeptAnswer F Sync r)) p.0 reply) (sym (apply_sync (limit_of old) F)) (calm is), authentic F held))
      (λ is. record { kind = Io; is = (fault is).0; cause = (fault is).1; may = λ F measures. (ap (λ (p : Due × File). is_barred p.0) (apply_sync (limit_of old) F), omega arith); short = λ F measures is exact. absurd (not_rng is) })
      quiet
      (λ is. inr (calm is))
      (λ F measures. moved_any old.outside new.outside _ _ _ _ _ moved)
      (λ F held. strays)
      moved.setting
      (omega (arith, moved.changes_later, moved.changes_most))
      (λ _. omega (arith, moved.calls_later, moved.calls_most))
      (λ both. other both.0)
      (λ is. absurd (false≢true (sym is)))
      (λ _. synced) tt

  pub synced : (r : Result (Unit {0}) Error) → OnOk r (Told (SyncedTo old.outside.bytes) old.outside.durable new.outside.durable)
      → IfErr r (λ e. (kind_of e ≡ Io) × Caused Io old.outside new.outside) → OnOk r (Quiet old.outside new.outside) → Went C E old new Sync (done_reply r)
  synced (Ok u) told failed quiet = went Done (λ _. refl) (λ is. absurd (false≢true is)) (λ _. quiet) (λ _. told)
  synced (Err e) told failed quiet =
      went (Refused (kind_of e)) (λ is. absurd (false≢true (sym is ∙ fault))) (λ _. (ap (λ (k : ErrorKind). Refused k) failed.0, failed.1)) (λ is. absurd (false≢true (sym is ∙ fault))) (λ is. absurd (no_done is))
    where
      fault : is_fault (Refused (kind_of e)) ≡ true
      fault = ap (λ (k : ErrorKind). is_fault (Refused k)) failed.0

      no_done : Refused (kind_of e) ≡ Done → ⊥
      no_done is = cc
