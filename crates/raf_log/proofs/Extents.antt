-- Where the entries begin, and how long the file is, after a command.
use Rattle.std.proofs.Common.{◌≡◌, Bool, true, false, cond, ℕ, ◌+◌, ◌<◌, List, [], ◌∷◌, ◌++◌, length, refl, ◌∙◌, ap, arith}
use Rattle.raf_tree.specs.Hashing.{Hashing}
use Rattle.raf_format.specs.Cipher.{Cipher}
use Rattle.raf_format.specs.declared.header.Header.{Header}
use Rattle.raf.specs.Concern.{size_after}
use Rattle.raf.specs.Handle.{Handle, outline}
use Rattle.raf.specs.Stepped.{Stepped, Stays, refuses, with_size}
use Rattle.raf.specs.declared.command.Command.{Command}
use Rattle.raf.specs.declared.command.Command.TheVariants as asks
use Rattle.raf.specs.declared.command.Reply.{Reply}
use Rattle.raf.specs.declared.command.Reply.TheVariants as answers
use Rattle.raf_io.specs.declared.errors.ErrorKind.{ErrorKind}
use Rattle.raf_io.specs.declared.errors.ErrorKind.TheVariants.{Broken}
use Rattle.raf_log.specs.Log.{LogHandle, Extent, extent_of}

pub extent_is : (old new : LogHandle) (n : ℕ) (t : Bool) → new.starts ≡ cond t (old.starts ++ old.file.header.file_size ∷ []) old.starts
    → new.file.header.file_size ≡ cond t (old.file.header.file_size + n) old.file.header.file_size
    → extent_of new ≡ cond {A = Extent} t (record { starts = old.starts ++ old.file.header.file_size ∷ []; size = old.file.header.file_size + n }) (extent_of old)
extent_is old new n true starts size = λ i. record { starts = starts i; size = size i }
extent_is old new n false starts size = λ i. record { starts = starts i; size = size i }

module _ (C : Cipher) (E : List ℕ → Hashing) (old new : Handle) where
  -- nothing happens where the kept mark is set
  either : (c : Command) (a : Reply) → Stepped C E old new c a → (Stays C old new c a → new.header.file_size ≡ old.header.file_size) → new.header.file_size ≡ old.header.file_size
  either c a stepped stays = go old.broken refl
    where
      go : (t : Bool) → old.broken ≡ t → new.header.file_size ≡ old.header.file_size
      go true set = ap (λ (h : Handle). h.header.file_size) (stepped.barred set).1
      go false unmarked = stays (stepped.went unmarked).stays

  pub size_refused : (c : Command) (kind : ErrorKind) → Stepped C E old new c (answers.Refused kind) → new.header.file_size ≡ old.header.file_size
  size_refused c kind stepped = either c (answers.Refused kind) stepped (λ s. ap (λ (h : Header). h.file_size) s.header)

  pub size_stays : (c : Command) (a : Reply) → Stepped C E old new c a → size_after (outline C old.header) c ≡ old.header.file_size → new.header.file_size ≡ old.header.file_size
  size_stays c a stepped same = either c a stepped (λ s. ap (λ (h : Header). h.file_size) s.header ∙ at (refuses a))
    where
      at : (t : Bool) → (cond {A = Header} t old.header (with_size old.header (size_after (outline C old.header) c))).file_size ≡ old.header.file_size
      at true = refl
      at false = same

-- how long the file is after an entry was written
pub write_size : (C : Cipher) (E : List ℕ → Hashing) (old new : Handle) (d : List ℕ) (k : ℕ) → 0 < length d → Stepped C E old new (asks.Write old.header.file_size d) (answers.Wrote k)
    → new.header.file_size ≡ old.header.file_size + length d
write_size C E old new [] k some stepped = absurd (omega (arith, some))
write_size C E old new (x ∷ xs) k some stepped = go old.broken refl
  where
    odd : answers.Wrote k ≡ answers.Refused Broken → ⊥
    odd e = cc

    go : (t : Bool) → old.broken ≡ t → new.header.file_size ≡ old.header.file_size + length (x ∷ xs)
    go true set = absurd (odd (stepped.barred set).0)
    go false unmarked = omega (arith, ap (λ (h : Header). h.file_size) (stepped.went unmarked).stays.header)
