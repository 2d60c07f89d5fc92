-- What a session answers (this project's own).
use Rattle.std.specs.Prelude.{◌≡◌, ℕ, ◌+◌, ◌^◌, ◌<◌, ◌≤◌, max, Bool, true, false, List, [], ◌∷◌, ◌++◌, length, take}
use Rattle.std.specs.Prelude.{drop, Option, Some, None, unwrap_or, Result, IfOk, IfErr, ⊤, ◌⊎◌}
use Rattle.raf_io.specs.Source.{Takes, TakesAtMost, IsShort}
use Rattle.raf_tree.specs.Hashing.{Hashing}
use Rattle.raf_tree.specs.Tree.{root, leaves, height}
use Rattle.raf_format.specs.Cipher.{Cipher}
use Rattle.raf_format.specs.File.{File, Opens, file_layout}
use Rattle.raf.specs.Due.{Answers}
use Rattle.raf.specs.Apply.{apply, file_after, longest}
use Rattle.raf.specs.Concern.{none_missing}
use Rattle.raf.specs.Image.{traced, bytes_after, asked_by, asked_in, changes_in, traffic_in, calls_in}
use Rattle.raf.specs.Meaning.{Spares, Starved, Faultable, Authentic}
use Rattle.raf.specs.Outside.{Outside, Quiet, Caused}
use Rattle.raf.specs.Handle.{hash_len_of}
use Rattle.raf.specs.Stepped.{may_settle}
use Rattle.raf.specs.Opening.{Settings, Room, NotOpened, opening_calls, opening_traffic}
use Rattle.raf.specs.Unseen.{ByNumbers}
use Rattle.raf_io.specs.Kinds.{kind_of}
use Rattle.raf.specs.declared.command.Command.{Command}
use Rattle.raf.specs.declared.command.Command.TheVariants as command
use Rattle.raf.specs.declared.command.Reply.{Reply}
use Rattle.raf.specs.declared.command.Reply.TheVariants.{Done, Verified, Commitment, Refused}
use Rattle.raf_io.specs.declared.errors.Error.{Error}
use Rattle.raf_io.specs.declared.errors.ErrorKind.{ErrorKind}
use Rattle.raf_io.specs.declared.errors.ErrorKind.TheVariants.{Rng, Overflow}

-- how many bytes the reply to a command has at most, with hashes of this length
abbrev pub room_of : ℕ → Command → ℕ
room_of hash_len (command.Read offset len) = len
room_of hash_len command.Commitment = hash_len
room_of hash_len _ = 0

abbrev pub room_total : ℕ → List Command → ℕ
room_total hash_len [] = 0
room_total hash_len (c ∷ commands) = room_of hash_len c + room_total hash_len commands

-- the chunks, of which none is missing
abbrev pub present : List (Option (List ℕ)) → List (List ℕ)
present [] = []
present (c ∷ chunks) = unwrap_or c [] ∷ present chunks

-- what the hasher's tree of a file decides
abbrev pub tree_reply : Hashing → ℕ → File → Command → Reply
tree_reply H most F command.Verify = Verified None
tree_reply H most F command.Commitment = Commitment (H.commitment (root H (height most) (leaves H (present F.chunks))) F.id F.size)
tree_reply H most F _ = Done

-- the same under a hasher's setting and its limit, where there is one
abbrev pub TreeDecides : (List ℕ → Hashing) → Option (List ℕ) → Option ℕ → File → Command → Reply → Type 0
TreeDecides E (Some setting) (Some most) F c reply = reply ≡ tree_reply (E setting) most F c
TreeDecides E _ _ F c reply = ⊥

-- after the last sync came no write and no truncation
abbrev pub settles : Bool → Command → Bool
settles settled command.Sync = true
settles settled (command.Write offset bytes) = false
settles settled (command.Truncate size) = false
settles settled _ = settled

abbrev pub settled_after : Bool → List Command → Bool
settled_after settled [] = settled
settled_after settled (c ∷ commands) = settled_after (settles settled c) commands

-- what is durable, where it is told, is what the storage holds, where it tells
abbrev pub IsDurable : Outside → Type 0
IsDurable o = (b d : List ℕ) → o.bytes ≡ Some b → o.durable ≡ Some d → d ≡ b

-- what a session stands on: the algorithm, the hasher's answers and its setting, the limit and the key
pub record Ground : Type 0 where
  pub cipher : Cipher
  pub answers : List ℕ → Hashing
  pub setting : Option (List ℕ)
  pub limit : Option ℕ
  pub key : List ℕ

module _ (G : Ground) where
  -- each reply is the one that is due
  abbrev pub AllAnswer : File → List Command → List Reply → Type 0
  AllAnswer F [] [] = ⊤
  AllAnswer F [] (r ∷ replies) = ⊥
  AllAnswer F (c ∷ commands) [] = ⊥
  AllAnswer F (c ∷ commands) (r ∷ replies) = Answers (TreeDecides G.answers G.setting G.limit F c) (apply G.limit F c).0 r
      × AllAnswer (apply G.limit F c).1 commands replies

  -- each byte that is read is authentic, in the storage as its command began
  abbrev pub AllAuthentic : File → List Command → List ℕ → List ℕ → Type 0
  AllAuthentic F [] nonces b = ⊤
  AllAuthentic F (c ∷ commands) nonces b =
      Authentic G.cipher G.key b F c (apply G.limit F c).0
      × AllAuthentic (apply G.limit F c).1 commands (drop (asked_by G.limit F c) nonces)
      (bytes_after G.limit G.cipher G.key F c (take (asked_by G.limit F c) nonces) b)

  -- commands and their replies without a fault: the replies are those that are due; the storage is the trace's under the nonces that were
  -- taken, and opens to play's file; and what was read is authentic
  pub record Course (F : File) (b : List ℕ) (commands : List Command) (replies : List Reply) (nonces : List ℕ) : Type 0 where
    pub played : AllAnswer F commands replies
    pub drawn : length nonces ≡ asked_in G.limit F commands
    pub opens : Opens G.cipher G.key (traced G.limit G.cipher G.key F commands nonces b) (file_after G.limit F commands)
    pub authentic : AllAuthentic F commands nonces b

  -- no fault: there is a reply to each command, and the storage opens to the file in the end
  pub record Whole (F : File) (b : List ℕ) (commands : List Command) (before after : Outside) (replies : List Reply) : Type 0 where
    pub nonces : List ℕ
    pub course : Course F b commands replies nonces
    pub bytes : after.bytes ≡ Some (traced G.limit G.cipher G.key F commands nonces b)
    pub left : Takes before.left nonces after.left
    pub quiet : Quiet before after
    pub settled : settled_after false commands ≡ true → IsDurable after

  -- the first fault is the last reply: it came at this command, after replies that were due
  pub record Faulted (F : File) (b : List ℕ) (commands : List Command) (before after : Outside) (replies : List Reply) : Type 0 where
    pub done : List Command
    pub command : Command
    pub rest : List Command
    pub split : commands ≡ done ++ command ∷ rest
    pub answered : List Reply
    pub kind : ErrorKind
    pub last : replies ≡ answered ++ Refused kind ∷ []
    pub nonces : List ℕ
    pub course : Course F b done answered nonces
    pub cause : Caused kind before after
    pub due : Faultable G.limit kind (file_after G.limit F done) command
    pub middle : Option (List ℕ)
    pub short : kind ≡ Rng → before.exact ≡ true → IsShort middle (asked_by G.limit (file_after G.limit F done) command)
    pub taken : Takes before.left nonces middle
    pub left : TakesAtMost middle (asked_by G.limit (file_after G.limit F done) command) after.left
    pub bytes : List ℕ
    pub tells : after.bytes ≡ Some bytes
    pub starved : kind ≡ Rng → Starved G.cipher G.key (file_after G.limit F done) command
        (traced G.limit G.cipher G.key F done nonces b) before.exact middle after.bytes
    pub settled : settled_after false done ≡ true → may_settle command ≡ false → IsDurable after
    pub spares : Spares (file_after G.limit F done) command (traced G.limit G.cipher G.key F done nonces b) bytes

  -- the commands that were answered
  abbrev pub begun : List Command → List Reply → List Command
  begun commands replies = take (length replies) commands

  -- a session over a storage that tells its bytes: the file that they open to, whose chunks have room in the tree, where there is a hasher,
  -- and are all there; and the run; and the most that was asked, the opening included
  pub record Answered (b : List ℕ) (commands : List Command) (before after : Outside) (replies : List Reply) : Type 0 where
    pub file : File
    pub opens : Opens G.cipher G.key b file
    pub room : Room G.answers G.setting G.limit (length file.chunks)
    pub present : (x : List ℕ) (n : ℕ) → G.setting ≡ Some x → G.limit ≡ Some n → none_missing (λ _. true) 0 file.chunks ≡ true
    pub run : Whole file b commands before after replies ⊎ Faulted file b commands before after replies
    pub reach : after.reach ≤ max before.reach (longest G.limit file (begun commands replies))
    pub traffic : after.traffic ≤ before.traffic + opening_traffic G.limit (length b) + traffic_in G.limit file (begun commands replies)
    pub asked : after.asked ≤ before.asked + asked_in G.limit file (begun commands replies)
    pub changes : after.changes ≤ before.changes + changes_in G.limit file (begun commands replies)
    pub calls : after.calls ≤ before.calls + opening_calls G.limit (length file.chunks) + calls_in G.limit file (begun commands replies)
    pub strays : after.strays ≡ before.strays

-- a session that was refused: its first row is the sum of the rooms of the replies, and nothing was asked then; else it is an opening that
-- was refused
abbrev pub Refusal : Cipher → (List ℕ → Hashing) → List ℕ → Settings → List Command → Outside → Outside → ErrorKind → Type 0
Refusal C E key s commands before after kind =
    ((2 ^ 64 ≤ room_total (hash_len_of E s.outside.setting) commands) × (kind ≡ Overflow) × (after ≡ before))
    ⊎ ((room_total (hash_len_of E s.outside.setting) commands < 2 ^ 64) × NotOpened C E key s.most before after kind)

-- a session of a key and commands, by a builder's settings, from one state of storage, random source and hasher to another
pub record Meets (C : Cipher) (E : List ℕ → Hashing) (key : List ℕ) (s : Settings) (commands : List Command) (before after : Outside)
    (outcome : Result (List Reply) Error) : Type 0 where
  pub refused : IfErr outcome (λ e. Refusal C E key s commands before after (kind_of e))
  pub fits : IfOk outcome (λ _. room_total (hash_len_of E s.outside.setting) commands < 2 ^ 64)
  pub answered : (b : List ℕ) → before.bytes ≡ Some b
      → IfOk outcome (λ replies. Answered (record { cipher = C; answers = E; setting = s.outside.setting; limit = s.most; key = key }) b
      commands before after replies)
  pub numbers : IfOk outcome (λ replies. ByNumbers C s.most (λ N. opening_traffic s.most (file_layout N)) commands before after replies)
  pub setting : after.setting ≡ before.setting
