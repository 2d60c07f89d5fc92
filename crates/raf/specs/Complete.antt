-- Valid input and no fault: what each call then gives, by what it states (this project's own).
use Rattle.std.specs.Prelude.{◌≡◌, ℕ, ◌^◌, ◌<◌, true, false, List, ◌∷◌, length, Option, Some, Result, IfOk, IfErr}
use Rattle.std.specs.Prelude.{is_some, ⊤}
use Rattle.raf_tree.specs.Hashing.{Hashing}
use Rattle.raf_format.specs.Cipher.{Cipher}
use Rattle.raf_format.specs.File.{File, Opens}
use Rattle.raf.specs.Concern.{valid, none_missing}
use Rattle.raf.specs.Apply.{apply}
use Rattle.raf.specs.Outside.{Outside, Caused}
use Rattle.raf.specs.Handle.{Handle, Holds, limit_of, hash_len_of}
use Rattle.raf.specs.Stepped.{Stepped, refuses}
use Rattle.raf.specs.Opening.{Settings, Room, CanMake, IsFree, NotOpened, NotMade}
use Rattle.raf.specs.Session.{AllAnswer, Meets, room_total}
use Rattle.raf_io.specs.Kinds.{kind_of}
use Rattle.raf.specs.declared.command.Command.{Command}
use Rattle.raf.specs.declared.command.Command.TheVariants as command
use Rattle.raf.specs.declared.command.Reply.{Reply}
use Rattle.raf_io.specs.declared.errors.Error.{Error}
use Rattle.raf_io.specs.declared.errors.ErrorKind.{ErrorKind}
use Rattle.raf_io.specs.declared.errors.ErrorKind.TheVariants.{OutOfMemory}

-- nothing has failed
abbrev pub NoneFailed : Outside → Outside → Type 0
NoneFailed old new = (kind : ErrorKind) → Caused kind old new → ⊥

-- each command that is valid at its point is answered by no refusal
abbrev pub AllServed : Option ℕ → File → List Command → List Reply → Type 0
AllServed limit F (c ∷ commands) (r ∷ replies) =
    (valid limit F c ≡ true → refuses r ≡ false) × AllServed limit (apply limit F c).1 commands replies
AllServed limit F _ _ = ⊤

-- bytes that open to this file, of which, where there is a hasher, no chunk is missing, and whose tree can be made
pub record CanOpen (C : Cipher) (E : List ℕ → Hashing) (key : List ℕ) (setting : Option (List ℕ)) (most : Option ℕ) (b : List ℕ)
    (F : File) : Type 0 where
  pub opens : Opens C key b F
  pub room : Room E setting most (length F.chunks)
  pub whole : is_some setting ≡ true → none_missing (λ _. true) 0 F.chunks ≡ true

-- a valid command is answered, a rebuild where no chunk is missing; a file is opened or made, but for want of memory; and so is a session,
-- whose replies are those that are due, those to commands that are valid at their points no refusals
pub record Complete (C : Cipher) (E : List ℕ → Hashing) : Type 0 where
  pub calls : (old new : Handle) (F : File) (c : Command) (reply : Reply) → Stepped C E old new c reply → old.broken ≡ false → Holds C old F
      → (c ≡ command.Rebuild → none_missing (λ _. true) 0 F.chunks ≡ true)
      → valid (limit_of old) F c ≡ true → NoneFailed old.outside new.outside → refuses reply ≡ false
  pub opening : (key b : List ℕ) (F : File) (most : Option ℕ) (old new : Outside) (kind : ErrorKind) → NotOpened C E key most old new kind
      → old.bytes ≡ Some b → CanOpen C E key old.setting most b F → NoneFailed old new → kind ≡ OutOfMemory
  pub making : (b : List ℕ) (s : Settings) (old new : Outside) (kind : ErrorKind) → NotMade E s old new kind
      → old.bytes ≡ Some b → CanMake E s → IsFree s old → NoneFailed old new → kind ≡ OutOfMemory
  pub sessions : (key b : List ℕ) (F : File) (s : Settings) (commands : List Command) (before after : Outside)
      (outcome : Result (List Reply) Error)
      → Meets C E key s commands before after outcome → before.setting ≡ s.outside.setting → before.bytes ≡ Some b
      → CanOpen C E key before.setting s.most b F → room_total (hash_len_of E s.outside.setting) commands < 2 ^ 64 → NoneFailed before after
      → IfErr outcome (λ e. kind_of e ≡ OutOfMemory)
      × IfOk outcome (λ replies. AllAnswer (record { cipher = C; answers = E; setting = s.outside.setting; limit = s.most; key = key }) F
      commands replies
      × AllServed s.most F commands replies)
