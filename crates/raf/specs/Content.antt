-- A file none of whose chunks is missing, as one list of bytes (this project's own).
use Rattle.std.specs.Prelude.{◌≡◌, ℕ, ◌+◌, ◌*◌, ◌≤◌, true, false, nat_lt, List, ◌∷◌, length, take, drop, Option}
use Rattle.std.specs.List.{concat}
use Rattle.raf_io.specs.Storage.{spliced}
use Rattle.raf_format.specs.Cipher.{Cipher}
use Rattle.raf_format.specs.File.{File}
use Rattle.raf.specs.Concern.{none_missing, fits}
use Rattle.raf.specs.Due.{is_refused}
use Rattle.raf.specs.Due.Due.{Exactly}
use Rattle.raf.specs.Apply.{apply}
use Rattle.raf.specs.Handle.{Handle, Holds}
use Rattle.raf.specs.Session.{present}
use Rattle.raf.specs.declared.command.Command.TheVariants as command
use Rattle.raf.specs.declared.command.Reply.TheVariants.{Bytes, Wrote, Refused}
use Rattle.raf_io.specs.declared.errors.ErrorKind.TheVariants.{Overflow}

-- no chunk is missing
abbrev pub IsWhole : File → Type 0
IsWhole F = none_missing (λ _. true) 0 F.chunks ≡ true

-- no chunk is missing that begins below this position
abbrev pub IsWholeTo : ℕ → File → Type 0
IsWholeTo end F = none_missing (λ i. nat_lt (i * F.shape.chunk_size) end) 0 F.chunks ≡ true

-- the bytes of a file: those of its chunks, one after the other
abbrev pub content : File → List ℕ
content F = concat (present F.chunks)

-- a write that isn't refused puts its data into the bytes, and leaves no chunk missing
pub record Written (limit : Option ℕ) (F : File) (offset : ℕ) (bytes : List ℕ) : Type 0 where
  pub due : (apply limit F (command.Write offset bytes)).0 ≡ Exactly (Wrote (length bytes))
  pub whole : IsWhole (apply limit F (command.Write offset bytes)).1
  pub content_is : content (apply limit F (command.Write offset bytes)).1 ≡ spliced offset bytes (content F)

-- what reads and writes of a file do by its bytes, where no chunk is missing; and how reads, one after the other, show that none is
pub record Contents (C : Cipher) : Type 0 where
  pub long : (h : Handle) (F : File) → Holds C h F → IsWhole F → length (content F) ≡ F.size
  pub read : (h : Handle) (F : File) → Holds C h F → IsWhole F → (limit : Option ℕ) (offset len : ℕ)
      → (apply limit F (command.Read offset len)).0 ≡ Exactly (Bytes (take len (drop offset (content F))))
  pub written : (h : Handle) (F : File) → Holds C h F → IsWhole F → (limit : Option ℕ) (offset x : ℕ) (xs : List ℕ)
      → fits limit F (command.Write offset (x ∷ xs)) ≡ true → Written limit F offset (x ∷ xs)
  pub overflown : (h : Handle) (F : File) → Holds C h F → IsWhole F → (limit : Option ℕ) (offset x : ℕ) (xs : List ℕ)
      → fits limit F (command.Write offset (x ∷ xs)) ≡ false → apply limit F (command.Write offset (x ∷ xs)) ≡ (Exactly (Refused Overflow), F)
  pub begins : (F : File) → IsWholeTo 0 F
  pub goes_on : (h : Handle) (F : File) → Holds C h F → (limit : Option ℕ) (end offset len : ℕ) → IsWholeTo end F → offset ≤ end
      → offset + len ≤ F.size → is_refused (apply limit F (command.Read offset len)).0 ≡ false → IsWholeTo (offset + len) F
  pub ends : (h : Handle) (F : File) → Holds C h F → IsWholeTo F.size F → IsWhole F
  pub missing : (F : File) (limit : Option ℕ) (offset len : ℕ) → is_refused (apply limit F (command.Read offset len)).0 ≡ true
      → none_missing (λ _. true) 0 F.chunks ≡ false
