-- A session over any storage, by numbers alone (this project's own).
use Rattle.std.specs.Prelude.{◌≡◌, ℕ, ◌+◌, ◌⊎◌, max, Bool, true, false, if◌then◌else◌, List, [], ◌∷◌, ◌++◌, Option, ⊤}
use Rattle.raf_format.specs.Cipher.{Cipher}
use Rattle.raf_format.specs.File.{File, chunk_count, file_layout}
use Rattle.raf_format.specs.declared.header.Header.{Header}
use Rattle.raf.specs.Apply.{apply}
use Rattle.raf.specs.Image.{asked_by, changes_by, traffic_by, calls_by}
use Rattle.raf.specs.Meaning.{Faultable}
use Rattle.raf.specs.Outside.{Outside, Quiet, Caused, Moved}
use Rattle.raf.specs.Handle.{outline}
use Rattle.raf.specs.Concern.{size_after}
use Rattle.raf.specs.Loaded.{Sound}
use Rattle.raf.specs.Stepped.{refuses, Shaped, broken_at}
use Rattle.raf.specs.Opening.{opening_calls}
use Rattle.raf.specs.declared.command.Command.{Command}
use Rattle.raf.specs.declared.command.Command.TheVariants as command
use Rattle.raf.specs.declared.command.Reply.{Reply}
use Rattle.raf.specs.declared.command.Reply.TheVariants.{Refused}
use Rattle.raf_io.specs.declared.errors.ErrorKind.{ErrorKind}
use Rattle.raf_io.specs.declared.errors.ErrorKind.TheVariants.{AuthenticationFailed, Broken}

-- a file of which the numbers are known, and no chunk, after a reply: a command that is refused leaves it
abbrev pub numbers_after : File → Command → Reply → File
numbers_after F c r = if refuses r then F else record { shape = F.shape; id = F.id; size = size_after F c; chunks = F.chunks }

-- what is known of the kept mark: that it isn't set, nothing, or that it is
pub data Mark : Type 0 where
  Clear : Mark
  Unknown : Mark
  Set : Mark

abbrev pub is_size : Command → Bool
is_size command.Size = true
is_size _ = false

abbrev pub says_broken : Reply → Bool
says_broken (Refused Broken) = true
says_broken _ = false

-- the command was a rebuild that a missing chunk stopped: the file may have the kept mark then
abbrev pub stops : Command → Reply → Bool
stops command.Rebuild (Refused AuthenticationFailed) = true
stops _ _ = false

-- after a reply that is no fault: a size tells nothing of the mark, `Broken` that it is set, a stopped rebuild that it may be, and any
-- other reply that it isn't
abbrev pub mark_after : Mark → Command → Reply → Mark
mark_after m c r = if is_size c then m else if says_broken r then Set else if stops c r then Unknown else Clear

-- the sum, over commands and their replies, of what each asks by the numbers that it finds
abbrev pub sum_along : (File → Command → ℕ) → File → List Command → List Reply → ℕ
sum_along by F (c ∷ commands) (r ∷ replies) = by F c + sum_along by (numbers_after F c r) commands replies
sum_along by F _ _ = 0

module _ (limit : Option ℕ) where
  -- the reply is one by numbers, or, where the mark is set, the size or `Broken`
  abbrev pub ShapedBy : Mark → File → Command → Reply → Type 0
  ShapedBy Clear F c r = Shaped limit F c r
  ShapedBy Unknown F c r = Shaped limit F c r ⊎ (r ≡ broken_at F.size c)
  ShapedBy Set F c r = r ≡ broken_at F.size c

  -- each reply is
  abbrev pub AllShaped : Mark → File → List Command → List Reply → Type 0
  AllShaped m F [] [] = ⊤
  AllShaped m F [] (r ∷ replies) = ⊥
  AllShaped m F (c ∷ commands) [] = ⊥
  AllShaped m F (c ∷ commands) (r ∷ replies) = ShapedBy m F c r × AllShaped (mark_after m c r) (numbers_after F c r) commands replies

  -- the numbers after commands and their replies
  abbrev pub numbers_in : File → List Command → List Reply → File
  numbers_in F (c ∷ commands) (r ∷ replies) = numbers_in (numbers_after F c r) commands replies
  numbers_in F _ _ = F

  -- the longest storage on the way
  abbrev pub longest_by : File → Command → ℕ
  longest_by F c = max (file_layout F) (file_layout (apply limit F c).1)

  abbrev pub longest_along : File → List Command → List Reply → ℕ
  longest_along F (c ∷ commands) (r ∷ replies) = max (longest_by F c) (longest_along (numbers_after F c r) commands replies)
  longest_along F _ _ = 0

  -- the most that commands with these replies asked
  abbrev pub BoundedAlong : File → List Command → List Reply → Outside → Outside → Type 0
  BoundedAlong F commands replies old new = Moved old new (longest_along F commands replies) (sum_along (traffic_by limit) F commands replies)
      (sum_along (asked_by limit) F commands replies) (sum_along (changes_by limit) F commands replies)
      (sum_along (calls_by limit) F commands replies)

  -- the last command met a fault
  pub record CutShort (F : File) (commands : List Command) (before after : Outside) (replies : List Reply) : Type 0 where
    pub done : List Command
    pub command : Command
    pub rest : List Command
    pub split : commands ≡ done ++ command ∷ rest
    pub answered : List Reply
    pub kind : ErrorKind
    pub last : replies ≡ answered ++ Refused kind ∷ []
    pub shaped : AllShaped Clear F done answered
    pub cause : Caused kind before after
    pub may : Faultable limit kind (numbers_in F done answered) command

-- a session over any storage, for some header of this algorithm whose numbers can be: the replies by numbers, and a fault by its count,
-- which is the last reply; no count fell; and the most that was asked, where the opening reads so many bytes of a file with these numbers
pub record ByNumbers (C : Cipher) (limit : Option ℕ) (looked : File → ℕ) (commands : List Command) (before after : Outside)
    (replies : List Reply) : Type 0 where
  pub header : Header
  pub sound : Sound C header
  pub run : (AllShaped limit Clear (outline C header) commands replies × Quiet before after)
      ⊎ CutShort limit (outline C header) commands before after replies
  pub moved : Moved before after (max (file_layout (outline C header)) (longest_along limit (outline C header) commands replies))
      (looked (outline C header) + sum_along (traffic_by limit) (outline C header) commands replies)
      (sum_along (asked_by limit) (outline C header) commands replies)
      (sum_along (changes_by limit) (outline C header) commands replies)
      (opening_calls limit (chunk_count header.chunk_size header.file_size)
      + sum_along (calls_by limit) (outline C header) commands replies)
