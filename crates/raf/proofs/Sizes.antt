-- The size, as a command.
use Rattle.std.proofs.Common.{◌≡◌, inr, Bool, true, cond, ℕ, List, Option, refl, sym, ap, subst}
use Rattle.std.specs.Prelude.{not, ◌&&◌}
use Rattle.std.proofs.lemmas.Bool.{false≢true}
use Rattle.raf_tree.specs.Hashing.{Hashing}
use Rattle.raf_format.specs.Cipher.{Cipher}
use Rattle.raf_format.specs.File.{File}
use Rattle.raf.specs.Due.{Due, Answers}
use Rattle.raf.specs.Due.Due.{Exactly}
use Rattle.raf.specs.Apply.{apply}
use Rattle.raf.specs.Handle.{Handle, OfTree, KeptAnswer, limit_of, outline}
use Rattle.raf.specs.Stepped.{Stepped, Shaped, HasForm}
use Rattle.raf.specs.declared.command.Command.TheVariants.{Size, Rebuild, Sync}
use Rattle.raf.specs.declared.command.Reply.TheVariants as reply
use Rattle.raf_io.specs.declared.errors.ErrorKind.TheVariants.{AuthenticationFailed, MerkleNotEnabled}
use Rattle.raf.proofs.Syncs.{none_asked}
use Rattle.raf.proofs.Moves.{moved_same, moved_any}
use Rattle.raf.proofs.StillSteps.{went_still}

apply_size : (limit : Option ℕ) (F : File) → apply limit F Size ≡ (Exactly (reply.Size F.size), F)
apply_size limit F =
    ap (λ (t : Bool). cond {A = Due × File} (t && true) (Exactly (reply.Size F.size), F) (Exactly (reply.Refused (cond (not t) AuthenticationFailed MerkleNotEnabled)), F)) (none_asked 0 F.chunks)

pub stepped_size : (C : Cipher) (E : List ℕ → Hashing) (h : Handle) → Stepped C E h h Size (reply.Size h.header.file_size)
stepped_size C E h = record {
  barred = λ set. (refl, refl);
  went = λ unmarked. went_still C E h h Size (reply.Size h.header.file_size) refl refl refl refl unmarked refl refl
      (λ F held calm. (
        subst (λ (p : Due × File). Answers (λ r. OfTree E h (KeptAnswer F Size r)) p.0 (reply.Size h.header.file_size)) (sym (apply_size (limit_of h) F)) (ap (λ (n : ℕ). reply.Size n) (sym (ap (λ (f : File). f.size) held.file))),
        tt,
      ))
      (λ fault. absurd (false≢true fault))
      (λ _. record { io = refl; rng = refl; hash = refl })
      (λ _. inr refl)
      (λ F measures. moved_any h.outside h.outside _ _ _ _ _ (moved_same h.outside h.outside refl))
      (λ F held. refl) refl refl (λ _. refl) (λ both. no_rebuild both.0) (λ _. refl) (λ is. absurd (no_sync is)) tt;
}
  where
    no_rebuild : Size ≡ Rebuild → ⊥
    no_rebuild is = cc

    no_sync : Size ≡ Sync → ⊥
    no_sync is = cc

-- its reply is the size, whatever the storage tells
pub stepped_shape : (C : Cipher) (E : List ℕ → Hashing) (h : Handle) → Shaped (limit_of h) (outline C h.header) Size (reply.Size h.header.file_size)
stepped_shape C E h = inr (subst (λ (p : Due × File). Answers (HasForm Size) p.0 (reply.Size h.header.file_size)) (sym (apply_size (limit_of h) (outline C h.header))) refl)
