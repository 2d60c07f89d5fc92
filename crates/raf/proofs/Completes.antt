-- Valid input and bad fault: a valid command is answered, and a file is opened or made, but for want of memory.
use Rattle.std.proofs.Common.{◌≡◌, inl, inr, Bool, true, false, cond, ℕ, ◌^◌, ◌<◌, List, [], ◌∷◌, Option, Some, None, refl, sym, ◌∙◌, ap, subst, arith}
use Rattle.std.specs.Prelude.{◌⊎◌, Result, Ok, Err, IfOk, IfErr, is_some}
use Rattle.std.proofs.lemmas.Bool.{false≢true}
use Rattle.raf_tree.specs.Hashing.{Hashing}
use Rattle.raf_tree.specs.Kept.{Kept as Tree}
use Rattle.raf_tree.specs.Made.{CanBeMade}
use Rattle.raf_format.specs.Cipher.{Cipher}
use Rattle.raf_format.specs.Header.{Says}
use Rattle.raf_format.specs.Laws.{AreLawful}
use Rattle.raf_format.specs.File.{File, Opens, chunk_count, file_of, layout_len, shape_of}
use Rattle.raf_format.specs.declared.header.Header.{Header}
use Rattle.raf.specs.Concern.{valid, none_missing}
use Rattle.raf.specs.Due.{Due, Answers, is_fault}
use Rattle.raf.specs.Due.Due.{Exactly}
use Rattle.raf.specs.Apply.{apply, answer, changed, cause_of}
use Rattle.raf.specs.Outside.{Outside}
use Rattle.raf.specs.Handle.{Handle, Holds, OfTree, KeptAnswer, limit_of, hash_len_of}
use Rattle.raf.specs.Stepped.{Stepped, Went, Failed, refuses}
use Rattle.raf.specs.Opening.{Settings, Room, CanMake, IsFree, NotOpened, NotMade, WhyNoTree, WhyNotOpened, WhyNotRead, WhyNotMade, WhyNotLaidOut, RefusalFault}
use Rattle.raf.specs.Session.{Ground, AllAnswer, Meets, Answered, Whole, Faulted, TreeDecides, tree_reply, Refusal, room_total}
use Rattle.raf.specs.Complete.{NoneFailed, AllServed, CanOpen, Complete}
use Rattle.raf_io.specs.Kinds.{kind_of}
use Rattle.raf.specs.declared.command.Command.{Command}
use Rattle.raf.specs.declared.command.Command.TheVariants as command
use Rattle.raf.specs.declared.command.Reply.{Reply}
use Rattle.raf.specs.declared.command.Reply.TheVariants.{Done, Refused}
use Rattle.raf_io.specs.declared.errors.Error.{Error}
use Rattle.raf_io.specs.declared.errors.ErrorKind.{ErrorKind}
use Rattle.raf_io.specs.declared.errors.ErrorKind.TheVariants.{Io, InvalidArgument, AuthenticationFailed, AlreadyExists, NotFound, Overflow, MerkleNotEnabled, CorruptedChunk, Rng, Hash, Broken, OutOfMemory}
use Rattle.raf_io.specs.declared.errors.Reason.TheVariants as reason

-- a reply that is due to a valid command is no refusal, where the tree's isn't
answered_is : (P : Reply → Type 0) (F : File) (c : Command) (r : Reply) → ((r : Reply) → P r → refuses r ≡ false) → Answers P (answer F c) r → refuses r ≡ false
answered_is P F (command.Read offset len) r tree is = ap refuses is
answered_is P F (command.Write offset bytes) r tree is = ap refuses is
answered_is P F (command.Truncate size) r tree is = ap refuses is
answered_is P F command.Size r tree is = ap refuses is
answered_is P F command.Sync r tree is = ap refuses is
answered_is P F command.Rebuild r tree is = tree r is
answered_is P F command.Verify r tree is = tree r is
answered_is P F command.Commitment r tree is = tree r is

valid_is : (limit : Option ℕ) (F : File) (c : Command) → valid limit F c ≡ true → (apply limit F c).0 ≡ answer F c
valid_is limit F c v = ap (λ (t : Bool). (cond {A = Due × File} t (answer F c, changed F c) (Exactly (Refused (cause_of limit F c)), F)).0) v

-- the kept tree refuses nothing but to be made anew where a chunk is missing
kept_calm : (F : File) (c : Command) (H : Hashing) (t : Tree) (r : Reply) → (c ≡ command.Rebuild → none_missing (λ _. true) 0 F.chunks ≡ true)
    → KeptAnswer F c r H t → refuses r ≡ false
kept_calm F command.Rebuild H t r all is = ap refuses is ∙ ap (λ (t : Bool). refuses (cond t Done (Refused AuthenticationFailed))) (all refl)
kept_calm F command.Verify H t r all (found, is, bad) = ap refuses is
kept_calm F command.Commitment H t r all is = ap refuses is
kept_calm F (command.Read offset len) H t r all is = absurd is
kept_calm F (command.Write offset bytes) H t r all is = absurd is
kept_calm F (command.Truncate size) H t r all is = absurd is
kept_calm F command.Size H t r all is = absurd is
kept_calm F command.Sync H t r all is = absurd is

call_is : (C : Cipher) (E : List ℕ → Hashing) (old new : Handle) (F : File) (c : Command) (reply : Reply) → Stepped C E old new c reply → old.broken ≡ false → Holds C old F
    → (c ≡ command.Rebuild → none_missing (λ _. true) 0 F.chunks ≡ true) → valid (limit_of old) F c ≡ true → NoneFailed old.outside new.outside → refuses reply ≡ false
call_is C E old new F c reply stepped unmarked held whole v none = go (is_fault reply) refl
  where
    went : Went C E old new c reply
    went = stepped.went unmarked

    tree : (r : Reply) → OfTree E old (KeptAnswer F c r) → refuses r ≡ false
    tree r (s, t, set, kept, is) = kept_calm F c (E s) t r whole is

    go : (f : Bool) → is_fault reply ≡ f → refuses reply ≡ false
    go true fault = let failed : Failed C old new c reply = went.failed fault in absurd (none failed.kind failed.cause)
    go false calm =
        answered_is (λ r. OfTree E old (KeptAnswer F c r)) F c reply tree
        (subst (λ (d : Due). Answers (λ r. OfTree E old (KeptAnswer F c r)) d reply) (valid_is (limit_of old) F c v) (went.answered F held calm).due)

-- a tree that can be made, with room, is refused for want of memory alone
no_tree : (E : List ℕ → Hashing) (setting : Option (List ℕ)) (most : Option ℕ) (count : ℕ) (kind : ErrorKind) → Room E setting most count → WhyNoTree E setting most count kind → kind ≡ OutOfMemory
no_tree E setting most count Io room why = absurd why
no_tree E setting most count (InvalidArgument reason.Header) room why = absurd why
no_tree E setting most count (InvalidArgument reason.UnknownAlgorithm) room why = absurd why
no_tree E setting most count (InvalidArgument reason.AlgorithmMismatch) room why = absurd why
no_tree E setting most count (InvalidArgument reason.Layout) room why = absurd why
no_tree E setting most count (InvalidArgument reason.ChunkSize) room why = absurd why
no_tree E setting most count (InvalidArgument reason.HashLen) room (x, n, set, limit, bad) = absurd (bad (room x n set limit).0.len)
no_tree E setting most count (InvalidArgument reason.MaxChunks) room (x, n, set, limit, bad) = absurd (omega (arith, bad.1, (room x n set limit).0.some))
no_tree E setting most count (InvalidArgument reason.KeyLength) room why = absurd why
no_tree E setting most count (InvalidArgument reason.ContextTooLong) room why = absurd why
no_tree E setting most count (InvalidArgument reason.CommitmentBuffer) room why = absurd why
no_tree E setting most count (InvalidArgument reason.SeekOverflow) room why = absurd why
no_tree E setting most count AuthenticationFailed room why = absurd why
no_tree E setting most count AlreadyExists room why = absurd why
no_tree E setting most count NotFound room why = absurd why
no_tree E setting most count Overflow room (x, n, set, limit, inl bad) = let c : CanBeMade (E x).len n = (room x n set limit).0 in absurd (omega (arith, bad.2, c.bytes))
no_tree E setting most count Overflow room (x, n, set, limit, inr bad) = absurd (omega (arith, bad.1, (room x n set limit).1))
no_tree E setting most count MerkleNotEnabled room why = absurd why
no_tree E setting most count (CorruptedChunk i) room why = absurd why
no_tree E setting most count Rng room why = absurd why
no_tree E setting most count Hash room why = absurd why
no_tree E setting most count Broken room why = absurd why
no_tree E setting most count OutOfMemory room why = refl

module _ (C : Cipher) (lawful : AreLawful C) (E : List ℕ → Hashing) (key b : List ℕ) (F : File) (setting : Option (List ℕ)) (most : Option ℕ) (can : CanOpen C E key setting most b F)
    (old new : Outside) (none : NoneFailed old new) where
  opens : Opens C key b F
  opens = can.opens

  same : (h : Header) → Says b h → h ≡ opens.header
  same h says = lawful.one_header b h opens.header says opens.is_file.says

  -- the bytes are laid out
  not_laid : (kind : ErrorKind) → WhyNotLaidOut C b kind → RefusalFault kind old new → kind ≡ OutOfMemory
  not_laid Io why fault = absurd (none Io fault)
  not_laid (InvalidArgument reason.Header) why fault = absurd (why opens.header opens.is_file.says)
  not_laid (InvalidArgument reason.UnknownAlgorithm) why fault = absurd why
  not_laid (InvalidArgument reason.AlgorithmMismatch) (h, says, bad) fault = absurd (bad (ap (λ (h : Header). h.algorithm) (same h says) ∙ opens.is_file.algorithm))
  not_laid (InvalidArgument reason.Layout) (h, says, is, bad) fault = absurd (bad (opens.is_file.length_fits ∙ ap (λ (h : Header). layout_len (shape_of C h) h.file_size) (sym (same h says))))
  not_laid (InvalidArgument reason.ChunkSize) why fault = absurd why
  not_laid (InvalidArgument reason.HashLen) why fault = absurd why
  not_laid (InvalidArgument reason.MaxChunks) why fault = absurd why
  not_laid (InvalidArgument reason.KeyLength) why fault = absurd why
  not_laid (InvalidArgument reason.ContextTooLong) why fault = absurd why
  not_laid (InvalidArgument reason.CommitmentBuffer) why fault = absurd why
  not_laid (InvalidArgument reason.SeekOverflow) why fault = absurd why
  not_laid AuthenticationFailed why fault = absurd why
  not_laid AlreadyExists why fault = absurd why
  not_laid NotFound why fault = absurd why
  not_laid Overflow why fault = absurd why
  not_laid MerkleNotEnabled why fault = absurd why
  not_laid (CorruptedChunk i) why fault = absurd why
  not_laid Rng why fault = absurd why
  not_laid Hash why fault = absurd why
  not_laid Broken why fault = absurd why
  not_laid OutOfMemory why fault = absurd why

  room : (h : Header) → Says b h → Room E setting most (chunk_count h.chunk_size h.file_size)
  room h says = subst (Room E setting most) (opens.count ∙ ap (λ (h : Header). chunk_count h.chunk_size h.file_size) (sym (same h says))) can.room

  all : (h : Header) → Says b h → is_some setting ≡ true → none_missing (λ _. true) 0 (file_of C key h b).chunks ≡ true
  all h says some =
      ap (λ (h : Header). none_missing (λ _. true) 0 (file_of C key h b).chunks) (same h says)
      ∙ ap (λ (G : File). none_missing (λ _. true) 0 G.chunks) (sym (lawful.one_file key b F (file_of C key opens.header b) opens (lawful.opens key b opens.header opens.is_file)))
      ∙ can.whole some

  -- they are opened
  not_read : (h : Header) → Says b h → (kind : ErrorKind) → WhyNotRead C E key setting most b h kind → RefusalFault kind old new → kind ≡ OutOfMemory
  not_read h says Io why fault = no_tree E setting most (chunk_count h.chunk_size h.file_size) Io (room h says) why
  not_read h says (InvalidArgument reason.Header) why fault = no_tree E setting most (chunk_count h.chunk_size h.file_size) (InvalidArgument reason.Header) (room h says) why
  not_read h says (InvalidArgument reason.UnknownAlgorithm) why fault = no_tree E setting most (chunk_count h.chunk_size h.file_size) (InvalidArgument reason.UnknownAlgorithm) (room h says) why
  not_read h says (InvalidArgument reason.AlgorithmMismatch) why fault = no_tree E setting most (chunk_count h.chunk_size h.file_size) (InvalidArgument reason.AlgorithmMismatch) (room h says) why
  not_read h says (InvalidArgument reason.Layout) why fault = no_tree E setting most (chunk_count h.chunk_size h.file_size) (InvalidArgument reason.Layout) (room h says) why
  not_read h says (InvalidArgument reason.ChunkSize) why fault = no_tree E setting most (chunk_count h.chunk_size h.file_size) (InvalidArgument reason.ChunkSize) (room h says) why
  not_read h says (InvalidArgument reason.HashLen) why fault = no_tree E setting most (chunk_count h.chunk_size h.file_size) (InvalidArgument reason.HashLen) (room h says) why
  not_read h says (InvalidArgument reason.MaxChunks) why fault = no_tree E setting most (chunk_count h.chunk_size h.file_size) (InvalidArgument reason.MaxChunks) (room h says) why
  not_read h says (InvalidArgument reason.KeyLength) why fault = no_tree E setting most (chunk_count h.chunk_size h.file_size) (InvalidArgument reason.KeyLength) (room h says) why
  not_read h says (InvalidArgument reason.ContextTooLong) why fault = no_tree E setting most (chunk_count h.chunk_size h.file_size) (InvalidArgument reason.ContextTooLong) (room h says) why
  not_read h says (InvalidArgument reason.CommitmentBuffer) why fault = no_tree E setting most (chunk_count h.chunk_size h.file_size) (InvalidArgument reason.CommitmentBuffer) (room h says) why
  not_read h says (InvalidArgument reason.SeekOverflow) why fault = no_tree E setting most (chunk_count h.chunk_size h.file_size) (InvalidArgument reason.SeekOverflow) (room h says) why
  not_read h says AuthenticationFailed (fits, inl bad) fault = absurd (bad opens.is_file.tagged)
  not_read h says AuthenticationFailed (fits, inr bad) fault = absurd (false≢true (sym bad.2 ∙ all h says bad.1))
  not_read h says AlreadyExists why fault = no_tree E setting most (chunk_count h.chunk_size h.file_size) AlreadyExists (room h says) why
  not_read h says NotFound why fault = no_tree E setting most (chunk_count h.chunk_size h.file_size) NotFound (room h says) why
  not_read h says Overflow why fault = no_tree E setting most (chunk_count h.chunk_size h.file_size) Overflow (room h says) why
  not_read h says MerkleNotEnabled why fault = no_tree E setting most (chunk_count h.chunk_size h.file_size) MerkleNotEnabled (room h says) why
  not_read h says (CorruptedChunk i) why fault = no_tree E setting most (chunk_count h.chunk_size h.file_size) (CorruptedChunk i) (room h says) why
  not_read h says Rng why fault = no_tree E setting most (chunk_count h.chunk_size h.file_size) Rng (room h says) why
  not_read h says Hash why fault = absurd (none Hash fault)
  not_read h says Broken why fault = no_tree E setting most (chunk_count h.chunk_size h.file_size) Broken (room h says) why
  not_read h says OutOfMemory why fault = no_tree E setting most (chunk_count h.chunk_size h.file_size) OutOfMemory (room h says) why

  not_opened : (kind : ErrorKind) → WhyNotOpened C E key setting most b kind → RefusalFault kind old new → kind ≡ OutOfMemory
  not_opened kind (inl why) fault = not_laid kind why fault
  not_opened kind (inr (h, laid, why)) fault = not_read h laid.says kind why fault

open_is : (C : Cipher) (lawful : AreLawful C) (E : List ℕ → Hashing) (key b : List ℕ) (F : File) (most : Option ℕ) (old new : Outside) (kind : ErrorKind) → NotOpened C E key most old new kind
    → old.bytes ≡ Some b → CanOpen C E key old.setting most b F → NoneFailed old new → kind ≡ OutOfMemory
open_is C lawful E key b F most old new kind bad tells can none = not_opened C lawful E key b F old.setting most can old new none kind (bad.why b tells) bad.fault

create_is : (E : List ℕ → Hashing) (b : List ℕ) (s : Settings) (old new : Outside) (kind : ErrorKind) → NotMade E s old new kind
    → old.bytes ≡ Some b → CanMake E s → IsFree s old → NoneFailed old new → kind ≡ OutOfMemory
create_is E b s old new kind bad tells can free none = go kind bad.why bad.fault
  where
    go : (kind : ErrorKind) → WhyNotMade E s old kind → RefusalFault kind old new → kind ≡ OutOfMemory
    go Io why fault = absurd (none Io fault)
    go (InvalidArgument reason.Header) why fault = no_tree E s.outside.setting s.most 0 (InvalidArgument reason.Header) can.room why.1
    go (InvalidArgument reason.UnknownAlgorithm) why fault = no_tree E s.outside.setting s.most 0 (InvalidArgument reason.UnknownAlgorithm) can.room why.1
    go (InvalidArgument reason.AlgorithmMismatch) why fault = no_tree E s.outside.setting s.most 0 (InvalidArgument reason.AlgorithmMismatch) can.room why.1
    go (InvalidArgument reason.Layout) why fault = no_tree E s.outside.setting s.most 0 (InvalidArgument reason.Layout) can.room why.1
    go (InvalidArgument reason.ChunkSize) why fault = absurd (why can.chunk_size)
    go (InvalidArgument reason.HashLen) why fault = no_tree E s.outside.setting s.most 0 (InvalidArgument reason.HashLen) can.room why.1
    go (InvalidArgument reason.MaxChunks) why fault = no_tree E s.outside.setting s.most 0 (InvalidArgument reason.MaxChunks) can.room why.1
    go (InvalidArgument reason.KeyLength) why fault = no_tree E s.outside.setting s.most 0 (InvalidArgument reason.KeyLength) can.room why.1
    go (InvalidArgument reason.ContextTooLong) why fault = no_tree E s.outside.setting s.most 0 (InvalidArgument reason.ContextTooLong) can.room why.1
    go (InvalidArgument reason.CommitmentBuffer) why fault = no_tree E s.outside.setting s.most 0 (InvalidArgument reason.CommitmentBuffer) can.room why.1
    go (InvalidArgument reason.SeekOverflow) why fault = no_tree E s.outside.setting s.most 0 (InvalidArgument reason.SeekOverflow) can.room why.1
    go AuthenticationFailed why fault = no_tree E s.outside.setting s.most 0 AuthenticationFailed can.room why.1
    go AlreadyExists why fault = absurd (why.2 b tells (free why.1 b tells))
    go NotFound why fault = no_tree E s.outside.setting s.most 0 NotFound can.room why.1
    go Overflow why fault = no_tree E s.outside.setting s.most 0 Overflow can.room why.1
    go MerkleNotEnabled why fault = no_tree E s.outside.setting s.most 0 MerkleNotEnabled can.room why.1
    go (CorruptedChunk i) why fault = no_tree E s.outside.setting s.most 0 (CorruptedChunk i) can.room why.1
    go Rng why fault = absurd (none Rng fault)
    go Hash why fault = absurd (none Hash fault)
    go Broken why fault = no_tree E s.outside.setting s.most 0 Broken can.room why.1
    go OutOfMemory why fault = no_tree E s.outside.setting s.most 0 OutOfMemory can.room why.1

tree_calm : (H : Hashing) (most : ℕ) (F : File) (c : Command) → refuses (tree_reply H most F c) ≡ false
tree_calm H most F (command.Read offset len) = refl
tree_calm H most F (command.Write offset bytes) = refl
tree_calm H most F (command.Truncate size) = refl
tree_calm H most F command.Size = refl
tree_calm H most F command.Sync = refl
tree_calm H most F command.Rebuild = refl
tree_calm H most F command.Verify = refl
tree_calm H most F command.Commitment = refl

decides_calm : (E : List ℕ → Hashing) (setting : Option (List ℕ)) (limit : Option ℕ) (F : File) (c : Command) (r : Reply) → TreeDecides E setting limit F c r → refuses r ≡ false
decides_calm E None limit F c r is = absurd is
decides_calm E (Some s) None F c r is = absurd is
decides_calm E (Some s) (Some most) F c r is = ap refuses is ∙ tree_calm (E s) most F c

all_served : (G : Ground) (F : File) (commands : List Command) (replies : List Reply) → AllAnswer G F commands replies → AllServed G.limit F commands replies
all_served G F [] [] all = tt
all_served G F [] (r ∷ replies) all = tt
all_served G F (c ∷ commands) [] all = tt
all_served G F (c ∷ commands) (r ∷ replies) (is, all) = (
  λ v. answered_is (TreeDecides G.answers G.setting G.limit F c) F c r (decides_calm G.answers G.setting G.limit F c)
      (subst (λ (d : Due). Answers (TreeDecides G.answers G.setting G.limit F c) d r) (valid_is G.limit F c v) is),
  all_served G (apply G.limit F c).1 commands replies all,
)

session_is : (C : Cipher) (lawful : AreLawful C) (E : List ℕ → Hashing) (key b : List ℕ) (F : File) (s : Settings) (commands : List Command) (before after : Outside)
    (outcome : Result (List Reply) Error) → Meets C E key s commands before after outcome → before.setting ≡ s.outside.setting → before.bytes ≡ Some b
    → CanOpen C E key before.setting s.most b F → room_total (hash_len_of E s.outside.setting) commands < 2 ^ 64 → NoneFailed before after
    → IfErr outcome (λ e. kind_of e ≡ OutOfMemory)
    × IfOk outcome (λ replies. AllAnswer (record { cipher = C; answers = E; setting = s.outside.setting; limit = s.most; key = key }) F commands replies
    × AllServed s.most F commands replies)
session_is C lawful E key b F s commands before after (Err e) meets set tells can fits none = (go meets.refused, tt)
  where
    go : Refusal C E key s commands before after (kind_of e) → kind_of e ≡ OutOfMemory
    go (inl bad) = absurd (omega (arith, bad.0, fits))
    go (inr bad) = open_is C lawful E key b F s.most before after (kind_of e) bad.1 tells can none
session_is C lawful E key b F s commands before after (Ok replies) meets set tells can fits none = (tt, (all, all_served G F commands replies all))
  where
    G : Ground
    G = record { cipher = C; answers = E; setting = s.outside.setting; limit = s.most; key = key }

    done : Answered G b commands before after replies
    done = meets.answered b tells

    go : (H : File) → H ≡ F → Whole G H b commands before after replies ⊎ Faulted G H b commands before after replies → AllAnswer G F commands replies
    go H is (inl whole) = subst (λ (H : File). AllAnswer G H commands replies) is whole.course.played
    go H is (inr cut) = absurd (none cut.kind cut.cause)

    all : AllAnswer G F commands replies
    all = go done.file (lawful.one_file key b done.file F done.opens can.opens) done.run

pub complete : (C : Cipher) (E : List ℕ → Hashing) → AreLawful C → Complete C E
complete C E lawful = record { calls = call_is C E; opening = open_is C lawful E; making = create_is E; sessions = session_is C lawful E }
