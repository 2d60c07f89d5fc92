-- Commands on an open file, one after the other: what the code of a session hands on (this project's own).
use Rattle.std.specs.Prelude.{◌≡◌, ℕ, ◌⊎◌, Bool, true, false, List, ◌∷◌, length, replicate, Some, Result, IfOk, IfErr, ⊤}
use Rattle.raf_io.specs.Source.{Takes}
use Rattle.raf_tree.specs.Hashing.{Hashing}
use Rattle.raf_format.specs.Cipher.{Cipher}
use Rattle.raf_format.specs.File.{File}
use Rattle.raf.specs.Apply.{file_after, longest}
use Rattle.raf.specs.Image.{traced, asked_in, changes_in, traffic_in, calls_in}
use Rattle.raf.specs.Outside.{Outside, Quiet, Moved}
use Rattle.raf.specs.Handle.{Handle, Holds, WithTree, Grown, limit_of, outline}
use Rattle.raf.specs.Session.{Ground, AllAnswer, AllAuthentic, Whole, Faulted, settled_after, IsDurable, begun, room_of}
use Rattle.raf.specs.Unseen.{Mark, mark_after, AllShaped, CutShort, numbers_in, BoundedAlong}
use Rattle.raf.specs.Unseen.Mark.{Clear, Unknown, Set}
use Rattle.raf.specs.declared.command.Command.{Command}
use Rattle.raf.specs.declared.command.Reply.{Reply}
use Rattle.raf_io.specs.Kinds.{kind_of}
use Rattle.raf_io.specs.declared.errors.Error.{Error}
use Rattle.raf_io.specs.declared.errors.ErrorKind.TheVariants.{OutOfMemory}

-- what a session on this handle stands on
abbrev pub ground : Cipher → (List ℕ → Hashing) → Handle → Ground
ground C E h = record { cipher = C; answers = E; setting = h.outside.setting; limit = limit_of h; key = h.key }

-- room for a reply's bytes
abbrev pub room_for : ℕ → Command → List ℕ
room_for hash_len c = replicate (room_of hash_len c) 0

-- what is known of the kept mark after commands and their replies
abbrev pub mark_in : Mark → List Command → List Reply → Mark
mark_in m (c ∷ commands) (r ∷ replies) = mark_in (mark_after m c r) commands replies
mark_in m _ _ = m

-- so it stands
abbrev pub Knows : Mark → Bool → Type 0
Knows Clear broken = broken ≡ false
Knows Unknown broken = ⊤
Knows Set broken = broken ≡ true

-- how commands on an open file ended, over a storage that tells
pub record Ran (G : Ground) (F : File) (b : List ℕ) (commands : List Command) (before after : Outside) (replies : List Reply) : Type 0 where
  pub run : Whole G F b commands before after replies ⊎ Faulted G F b commands before after replies
  pub moved : Moved before after (longest G.limit F (begun G commands replies)) (traffic_in G.limit F (begun G commands replies))
      (asked_in G.limit F (begun G commands replies))
      (changes_in G.limit F (begun G commands replies)) (calls_in G.limit F (begun G commands replies))
  pub strays : after.strays ≡ before.strays

-- commands without a fault so far, over a storage that tells
pub record SoFar (C : Cipher) (E : List ℕ → Hashing) (old now : Handle) (F : File) (b : List ℕ) (commands : List Command)
    (replies : List Reply) : Type 0 where
  pub played : AllAnswer (ground C E old) F commands replies
  pub nonces : List ℕ
  pub drawn : length nonces ≡ asked_in (limit_of old) F commands
  pub taken : Takes old.outside.left nonces now.outside.left
  pub tells : now.outside.bytes ≡ Some (traced (limit_of old) C old.key F commands nonces b)
  pub holds : Holds C now (file_after (limit_of old) F commands)
  pub grown : WithTree E now (Grown (file_after (limit_of old) F commands))
  pub authentic : AllAuthentic (ground C E old) F commands nonces b
  pub moved : Moved old.outside now.outside (longest (limit_of old) F commands) (traffic_in (limit_of old) F commands)
      (asked_in (limit_of old) F commands)
      (changes_in (limit_of old) F commands) (calls_in (limit_of old) F commands)
  pub strays : now.outside.strays ≡ old.outside.strays
  pub unmarked : now.broken ≡ false
  pub settled : settled_after false commands ≡ true → IsDurable now.outside

-- the same by numbers, over any storage
pub record NumbersSoFar (C : Cipher) (old now : Handle) (commands : List Command) (replies : List Reply) : Type 0 where
  pub shaped : AllShaped (limit_of old) Clear (outline C old.header) commands replies
  pub outline_is : outline C now.header ≡ numbers_in (limit_of old) (outline C old.header) commands replies
  pub marked : Knows (mark_in Clear commands replies) now.broken
  pub moved : BoundedAlong (limit_of old) (outline C old.header) commands replies old.outside now.outside

-- both
pub record Progress (C : Cipher) (E : List ℕ → Hashing) (old now : Handle) (commands : List Command) (replies : List Reply) : Type 0 where
  pub told : (F : File) (held : Holds C old F) → WithTree E old (Grown F) → old.broken ≡ false
      → SoFar C E old now F held.bytes commands replies
  pub numbers : old.broken ≡ false → NumbersSoFar C old now commands replies
  pub quiet : old.broken ≡ false → Quiet old.outside now.outside
  pub key : now.key ≡ old.key
  pub limit : limit_of now ≡ limit_of old
  pub exact : now.outside.exact ≡ old.outside.exact
  pub setting : now.outside.setting ≡ old.outside.setting

-- by numbers, commands that are done, up to the first fault
pub record EndedByNumbers (C : Cipher) (old new : Handle) (commands : List Command) (replies : List Reply) : Type 0 where
  pub run : (AllShaped (limit_of old) Clear (outline C old.header) commands replies × Quiet old.outside new.outside)
      ⊎ CutShort (limit_of old) (outline C old.header) commands old.outside new.outside replies
  pub moved : BoundedAlong (limit_of old) (outline C old.header) commands replies old.outside new.outside

-- commands that are done, up to the first fault
pub record Ended (C : Cipher) (E : List ℕ → Hashing) (old new : Handle) (commands : List Command) (replies : List Reply) : Type 0 where
  pub told : (F : File) (held : Holds C old F) → WithTree E old (Grown F) → old.broken ≡ false
      → Ran (ground C E old) F held.bytes commands old.outside new.outside replies
  pub numbers : old.broken ≡ false → EndedByNumbers C old new commands replies

-- how a session ended
pub record End : Type 0 where
  pub outcome : Result (List Reply) Error
  pub outside : Outside

-- commands on a file that was opened: they were answered, or no memory was found for the replies, and then nothing happened
pub record Serves (C : Cipher) (E : List ℕ → Hashing) (old : Handle) (commands : List Command) (after : Outside)
    (outcome : Result (List Reply) Error) : Type 0 where
  pub answered : IfOk outcome (λ replies. (now : Handle) × Ended C E old now commands replies × (after ≡ now.outside))
  pub none : IfErr outcome (λ e. (kind_of e ≡ OutOfMemory) × (after ≡ old.outside))
