-- A script whose content is valid has status 0, unless memory ran out or the storage failed.
use Rattle.std.proofs.Common.{◌≡◌, ℕ, zero, suc, ◌+◌, ◌-◌, ◌^◌, ◌<◌, ◌≤◌, Bool, true, false, List, [], ◌∷◌, ◌++◌, length, drop, Option, Some, None, Result, Ok, Err, refl, sym, ap, ◌∙◌, arith, subst, inl, inr}
use Rattle.std.specs.Prelude.{◌⊎◌, IfOk, IfErr, slice_get, if◌then◌else◌, not, is_some, ⊤}
use Rattle.std.proofs.lemmas.List.{length-drop}
use Rattle.counts.specs.Counts.{Rose}
use Rattle.raf_format.specs.Cipher.{Cipher, IsLawful}
use Rattle.raf_format.specs.Numbers.{variant_of}
use Rattle.raf_format.specs.Header.{Tagged}
use Rattle.raf_format.specs.File.{File, IsFile, file_of, chunk_count, shape_of, layout_len}
use Rattle.raf_format.specs.declared.header.Header.{Header}
use Rattle.raf_format.proofs.Ciphers.{lawful}
use Rattle.raf_format.proofs.Headers.{says_one}
use Rattle.raf_format.proofs.Opened.{opens_one, opens_of}
use Rattle.raf_io.specs.Kinds.{kind_of}
use Rattle.raf_io.specs.Source.{Takes, IsShort}
use Rattle.raf_io.specs.declared.errors.Error.{Error}
use Rattle.raf_io.specs.declared.errors.ErrorKind.{ErrorKind}
use Rattle.raf_io.specs.declared.errors.ErrorKind.TheVariants.{Io, InvalidArgument, AuthenticationFailed, AlreadyExists, NotFound, Overflow, MerkleNotEnabled, CorruptedChunk, Rng, Hash, Broken, OutOfMemory}
use Rattle.raf_io.specs.declared.errors.Reason.TheVariants as reason
use Rattle.raf_tree.specs.Hashing.{Hashing}
use Rattle.raf_tree.specs.Made.{CanBeMade, tree_bytes}
use Rattle.raf.specs.Apply.{apply, answer, changed, cause_of, file_after}
use Rattle.raf.specs.Concern.{valid, fits, needed, none_missing}
use Rattle.raf.specs.Due.{Due, Answers}
use Rattle.raf.specs.Due.Due.{Exactly}
use Rattle.raf.specs.Image.{asked_in, asked_by}
use Rattle.raf.specs.Outside.{Outside, Caused}
use Rattle.raf.specs.Opening.{Settings, Room, WhyNoTree, LaidOut, WhyNotLaidOut, WhyNotRead, WhyNotOpened, NotMade, WhyNotMade, RefusalFault}
use Rattle.raf.specs.Session.{TreeDecides, AllAnswer, Whole, Faulted, Answered, Refusal, room_total}
use Rattle.raf.specs.Session as session
use Rattle.raf.specs.Handle.{hash_len_of}
use Rattle.raf.specs.declared.command.Command.{Command}
use Rattle.raf.specs.declared.command.Command.TheVariants as command
use Rattle.raf.specs.declared.command.Reply.{Reply}
use Rattle.raf.specs.declared.command.Reply.TheVariants.{Refused}
use Rattle.raf_format.specs.Version.{version_number}
use Rattle.raf_script.specs.declared.script.Randomness.{Randomness}
use Rattle.raf_script.specs.declared.script.Randomness.TheVariants.{Random, Seed}
use Rattle.raf_script.specs.declared.script.Start.{Start}
use Rattle.raf_script.specs.declared.script.Start.TheVariants.{Storage, Create}
use Rattle.raf_run.specs.Disk.{Disk, memory_of, over, disk_in}
use Rattle.raf_run.specs.Ends.{Ground, BuilderOf, Served, ServedAnew, RefusedAnew, EndsOn, ground_of, told_by, first_bytes}
use Rattle.raf_run.specs.Answers.{outcome_status, memory_status, tells_io, last_status, refused_status, is_io, is_io_kind}
use Rattle.raf_run.specs.Laws.{IsReadyOn, IsValidOn, IsReadyAnew, IsValidAnew, IsValid, CanCreate, IsExcused, Completes, CompletesInMemory, new_header}
use Rattle.raf_run.proofs.OneText.{taken_so_many, last_of, new_file}

-- ---- no reply that is due is a fault

abbrev pub IsQuiet : Reply → Type 0
IsQuiet r = last_status (Some r) ≡ 0

cause_quiet : (a b : Bool) → IsQuiet (Refused (if not a then Overflow else if not b then AuthenticationFailed else MerkleNotEnabled))
cause_quiet true true = refl
cause_quiet true false = refl
cause_quiet false b = refl

answer_quiet : (G : session.Ground) (F : File) (c : Command) (r : Reply) → Answers (TreeDecides G.answers G.setting G.limit F c) (answer F c) r → IsQuiet r
answer_quiet G F (command.Read offset len) r h = rw h refl
answer_quiet G F (command.Write offset bytes) r h = rw h refl
answer_quiet G F (command.Truncate size) r h = rw h refl
answer_quiet G F command.Size r h = rw h refl
answer_quiet G F command.Sync r h = rw h refl
answer_quiet G F command.Rebuild r h = tree_quiet G.setting G.limit h
  where
    tree_quiet : (setting : Option (List ℕ)) (limit : Option ℕ) → TreeDecides G.answers setting limit F command.Rebuild r → IsQuiet r
    tree_quiet None limit h = absurd h
    tree_quiet (Some x) None h = absurd h
    tree_quiet (Some x) (Some most) h = rw h refl
answer_quiet G F command.Verify r h = tree_quiet G.setting G.limit h
  where
    tree_quiet : (setting : Option (List ℕ)) (limit : Option ℕ) → TreeDecides G.answers setting limit F command.Verify r → IsQuiet r
    tree_quiet None limit h = absurd h
    tree_quiet (Some x) None h = absurd h
    tree_quiet (Some x) (Some most) h = rw h refl
answer_quiet G F command.Commitment r h = tree_quiet G.setting G.limit h
  where
    tree_quiet : (setting : Option (List ℕ)) (limit : Option ℕ) → TreeDecides G.answers setting limit F command.Commitment r → IsQuiet r
    tree_quiet None limit h = absurd h
    tree_quiet (Some x) None h = absurd h
    tree_quiet (Some x) (Some most) h = rw h refl

due_quiet : (G : session.Ground) (F : File) (c : Command) (r : Reply) (t : Bool) (d : Due × File) → d ≡ (if t then (answer F c, changed F c) else (Exactly (Refused (cause_of G.limit F c)), F))
    → Answers (TreeDecides G.answers G.setting G.limit F c) d.0 r → IsQuiet r
due_quiet G F c r true d is h = answer_quiet G F c r (subst (λ (x : Due × File). Answers (TreeDecides G.answers G.setting G.limit F c) x.0 r) is h)
due_quiet G F c r false d is h =
    let refused : r ≡ Refused (cause_of G.limit F c) = subst (λ (x : Due × File). Answers (TreeDecides G.answers G.setting G.limit F c) x.0 r) is h in
    subst IsQuiet (sym refused) (cause_quiet (fits G.limit F c) (none_missing (needed F c) 0 F.chunks))

abbrev pub AreQuiet : List Reply → Type 0
AreQuiet [] = ⊤
AreQuiet (r ∷ rs) = IsQuiet r × AreQuiet rs

pub all_quiet : (G : session.Ground) (F : File) (cs : List Command) (rs : List Reply) → AllAnswer G F cs rs → AreQuiet rs
all_quiet G F [] [] h = tt
all_quiet G F [] (r ∷ rs) h = absurd h
all_quiet G F (c ∷ cs) [] h = absurd h
all_quiet G F (c ∷ cs) (r ∷ rs) h = (due_quiet G F c r (valid G.limit F c) (apply G.limit F c) refl h.0, all_quiet G (apply G.limit F c).1 cs rs h.1)

pub quiet_at : (rs : List Reply) (i : ℕ) → AreQuiet rs → last_status (slice_get rs i) ≡ 0
quiet_at [] zero h = refl
quiet_at [] (suc i) h = refl
quiet_at (r ∷ rs) zero h = h.0
quiet_at (r ∷ rs) (suc i) h = quiet_at rs i h.1

-- ---- what stands against a fault

pub asked_split : (limit : Option ℕ) (F : File) (done rest : List Command) (c : Command) → asked_in limit F done + asked_by limit (file_after limit F done) c ≤ asked_in limit F (done ++ c ∷ rest)
asked_split limit F [] rest c = omega arith
asked_split limit F (d ∷ done) rest c = omega (arith, asked_split limit (apply limit F d).1 done rest c)

is_there : (n k : ℕ) (bytes : List ℕ) (middle : Option (List ℕ)) → middle ≡ Some (drop n bytes) → n + k ≤ length bytes → IsShort middle k → ⊥
is_there n k bytes middle e enough short = let few : length (drop n bytes) < k = rw e at short in omega (arith, length-drop n bytes, few, enough)

pub no_hash : (old new : ℕ) → new ≡ 0 → Rose old new → ⊥
no_hash old new e rose = omega (arith, e, rose)

-- the kinds that memory and the storage may give
abbrev pub is_excuse : ErrorKind → Bool
is_excuse Io = true
is_excuse OutOfMemory = true
is_excuse _ = false

-- memory ran out, or the storage failed
abbrev pub Excused : Outside → Outside → Result (List Reply) Error → Type 0
Excused old new outcome = (outcome_status outcome ≡ 7) ⊎ ((tells_io outcome ≡ true) × Rose old.io_faults new.io_faults)

module _ (G : session.Ground) (F : File) (b : List ℕ) (cs : List Command) (random : List ℕ) (old new : Outside) (rs : List Reply) where
  -- random bytes that are enough don't run out
  enough_there : old.left ≡ Some random → old.exact ≡ true → asked_in G.limit F cs ≤ length random → (f : Faulted G F b cs old new rs) → f.kind ≡ Rng → ⊥
  enough_there left exact enough f is =
      let drawn = taken_so_many (asked_in G.limit F f.done) random f.nonces f.middle f.course.drawn (subst (λ (l : Option (List ℕ)). Takes l f.nonces f.middle) left f.taken) in
      let all : asked_in G.limit F f.done + asked_by G.limit (file_after G.limit F f.done) f.command ≤ length random =
      let split : asked_in G.limit F (f.done ++ f.command ∷ f.rest) ≤ length random = subst (λ (all : List Command). asked_in G.limit F all ≤ length random) f.split enough in
      omega (arith, asked_split G.limit F f.done f.rest f.command, split) in
      is_there (asked_in G.limit F f.done) (asked_by G.limit (file_after G.limit F f.done) f.command) random f.middle drawn.1 all (f.short is exact)

  -- a source that hasn't failed doesn't either
  sure_there : new.rng_faults ≡ 0 → (f : Faulted G F b cs old new rs) → f.kind ≡ Rng → ⊥
  sure_there sure f is = let caused : Caused Rng old new = subst (λ (k : ErrorKind). Caused k old new) is f.cause in no_hash old.rng_faults new.rng_faults sure caused.0

  faulted_good : (f : Faulted G F b cs old new rs) → ((f : Faulted G F b cs old new rs) → f.kind ≡ Rng → ⊥) → new.hash_faults ≡ 0 → (kind : ErrorKind) → f.kind ≡ kind → kind ≡ Io
  faulted_good f there hash Io is = refl
  faulted_good f there hash Rng is = absurd (there f is)
  faulted_good f there hash Hash is = let caused : Caused Hash old new = subst (λ (k : ErrorKind). Caused k old new) is f.cause in absurd (no_hash old.hash_faults new.hash_faults hash caused.0)
  faulted_good f there hash (InvalidArgument why) is = absurd (subst (λ (k : ErrorKind). Caused k old new) is f.cause)
  faulted_good f there hash AuthenticationFailed is = absurd (subst (λ (k : ErrorKind). Caused k old new) is f.cause)
  faulted_good f there hash AlreadyExists is = absurd (subst (λ (k : ErrorKind). Caused k old new) is f.cause)
  faulted_good f there hash NotFound is = absurd (subst (λ (k : ErrorKind). Caused k old new) is f.cause)
  faulted_good f there hash Overflow is = absurd (subst (λ (k : ErrorKind). Caused k old new) is f.cause)
  faulted_good f there hash MerkleNotEnabled is = absurd (subst (λ (k : ErrorKind). Caused k old new) is f.cause)
  faulted_good f there hash (CorruptedChunk index) is = absurd (subst (λ (k : ErrorKind). Caused k old new) is f.cause)
  faulted_good f there hash Broken is = absurd (subst (λ (k : ErrorKind). Caused k old new) is f.cause)
  faulted_good f there hash OutOfMemory is = absurd (subst (λ (k : ErrorKind). Caused k old new) is f.cause)

  run_good : Whole G F b cs old new rs ⊎ Faulted G F b cs old new rs → ((f : Faulted G F b cs old new rs) → f.kind ≡ Rng → ⊥) → new.hash_faults ≡ 0
      → (outcome_status (Ok rs) ≡ 0) ⊎ Excused old new (Ok rs)
  run_good (inl w) there hash = inl (quiet_at rs (length rs - 1) (all_quiet G F cs rs w.course.played))
  run_good (inr f) there hash =
      let is : f.kind ≡ Io = faulted_good f there hash f.kind refl in
      let last : slice_get rs (length rs - 1) ≡ Some (Refused f.kind) = ap (λ (l : List Reply). slice_get l (length l - 1)) f.last ∙ last_of f.answered (Refused f.kind) in
      let caused : Caused Io old new = subst (λ (k : ErrorKind). Caused k old new) is f.cause in
      inr (inr (ap is_io last ∙ ap is_io_kind is, caused.0))

-- ---- what stands against a refusal

no_tree : (E : List ℕ → Hashing) (setting : Option (List ℕ)) (most : Option ℕ) (count : ℕ) (kind : ErrorKind) → Room E setting most count → WhyNoTree E setting most count kind → is_excuse kind ≡ true
no_tree E setting most count OutOfMemory room why = refl
no_tree E setting most count Io room why = refl
no_tree E setting most count (InvalidArgument reason.HashLen) room why = let can = room why.0 why.1 why.2 why.3 in absurd (why.4 can.0.len)
no_tree E setting most count (InvalidArgument reason.MaxChunks) room why = let can = room why.0 why.1 why.2 why.3 in let some : 1 ≤ why.1 = can.0.some in absurd (omega (arith, some, why.4.1))
no_tree E setting most count Overflow room why = let can = room why.0 why.1 why.2 why.3 in passes why.4 can
  where
    passes : {len n : ℕ} → ((((8 ≤ len) × (len ≤ 64)) × (1 ≤ n) × (2 ^ 30 < tree_bytes len n)) ⊎ (CanBeMade len n × (n < count))) → CanBeMade len n × (count ≤ n) → is_excuse Overflow ≡ true
    passes (inl p) can = let few = can.0.bytes in absurd (omega (arith, few, p.2))
    passes (inr p) can = absurd (omega (arith, p.1, can.1))
no_tree E setting most count (InvalidArgument reason.Header) room why = absurd why
no_tree E setting most count (InvalidArgument reason.UnknownAlgorithm) room why = absurd why
no_tree E setting most count (InvalidArgument reason.AlgorithmMismatch) room why = absurd why
no_tree E setting most count (InvalidArgument reason.Layout) room why = absurd why
no_tree E setting most count (InvalidArgument reason.ChunkSize) room why = absurd why
no_tree E setting most count (InvalidArgument reason.KeyLength) room why = absurd why
no_tree E setting most count (InvalidArgument reason.ContextTooLong) room why = absurd why
no_tree E setting most count (InvalidArgument reason.CommitmentBuffer) room why = absurd why
no_tree E setting most count (InvalidArgument reason.SeekOverflow) room why = absurd why
no_tree E setting most count AuthenticationFailed room why = absurd why
no_tree E setting most count AlreadyExists room why = absurd why
no_tree E setting most count NotFound room why = absurd why
no_tree E setting most count MerkleNotEnabled room why = absurd why
no_tree E setting most count (CorruptedChunk index) room why = absurd why
no_tree E setting most count Rng room why = absurd why
no_tree E setting most count Hash room why = absurd why
no_tree E setting most count Broken room why = absurd why

module _ (C : Cipher) (E : List ℕ → Hashing) (key b : List ℕ) (setting : Option (List ℕ)) (most : Option ℕ) (h : Header) (is_file : IsFile C key b h)
    (room : Room E setting most (chunk_count h.chunk_size h.file_size)) (present : is_some setting ≡ true → none_missing (λ _. true) 0 (file_of C key h b).chunks ≡ true) where
  same : (k : Header) → LaidOut C b k → k ≡ h
  same k laid = says_one b k h laid.says is_file.says

  laid_out : (kind : ErrorKind) → WhyNotLaidOut C b kind → is_excuse kind ≡ true
  laid_out Io why = refl
  laid_out (InvalidArgument reason.Header) why = absurd (why h is_file.says)
  laid_out (InvalidArgument reason.AlgorithmMismatch) why = let e = says_one b why.0 h why.1 is_file.says in absurd (why.2 (ap (λ (k : Header). k.algorithm) e ∙ is_file.algorithm))
  laid_out (InvalidArgument reason.Layout) why =
      let e = says_one b why.0 h why.1 is_file.says in
      absurd (why.3 (is_file.length_fits ∙ ap (λ (k : Header). layout_len (shape_of C k) k.file_size) (sym e)))
  laid_out (InvalidArgument reason.UnknownAlgorithm) why = absurd why
  laid_out (InvalidArgument reason.ChunkSize) why = absurd why
  laid_out (InvalidArgument reason.HashLen) why = absurd why
  laid_out (InvalidArgument reason.MaxChunks) why = absurd why
  laid_out (InvalidArgument reason.KeyLength) why = absurd why
  laid_out (InvalidArgument reason.ContextTooLong) why = absurd why
  laid_out (InvalidArgument reason.CommitmentBuffer) why = absurd why
  laid_out (InvalidArgument reason.SeekOverflow) why = absurd why
  laid_out AuthenticationFailed why = absurd why
  laid_out AlreadyExists why = absurd why
  laid_out NotFound why = absurd why
  laid_out Overflow why = absurd why
  laid_out MerkleNotEnabled why = absurd why
  laid_out (CorruptedChunk index) why = absurd why
  laid_out Rng why = absurd why
  laid_out Hash why = absurd why
  laid_out Broken why = absurd why
  laid_out OutOfMemory why = absurd why

  -- what the chunks say
  unread : (((Tagged C key b → ⊥) ⊎ (Tagged C key b × (is_some setting ≡ true) × (none_missing (λ _. true) 0 (file_of C key h b).chunks ≡ false)))) → ⊥
  unread (inl untagged) = untagged is_file.tagged
  unread (inr p) = let odd : true ≡ false = sym (present p.1) ∙ p.2 in (cc)

  -- a kind that is no fault of the hasher
  read : (kind : ErrorKind) → (kind ≡ Hash → ⊥) → WhyNotRead C E key setting most b h kind → is_excuse kind ≡ true
  read AuthenticationFailed hash why = absurd (unread why.1)
  read Hash hash why = absurd (hash refl)
  read Io hash why = no_tree E setting most (chunk_count h.chunk_size h.file_size) Io room why
  read OutOfMemory hash why = refl
  read Overflow hash why = no_tree E setting most (chunk_count h.chunk_size h.file_size) Overflow room why
  read (InvalidArgument r) hash why = no_tree E setting most (chunk_count h.chunk_size h.file_size) (InvalidArgument r) room why
  read AlreadyExists hash why = absurd why
  read NotFound hash why = absurd why
  read MerkleNotEnabled hash why = absurd why
  read (CorruptedChunk index) hash why = absurd why
  read Rng hash why = absurd why
  read Broken hash why = absurd why

  opened : (kind : ErrorKind) → (kind ≡ Hash → ⊥) → WhyNotOpened C E key setting most b kind → is_excuse kind ≡ true
  opened kind hash (inl why) = laid_out kind why
  opened kind hash (inr p) = read kind hash (subst (λ (k : Header). WhyNotRead C E key setting most b k kind) (same p.0 p.1) p.2)

not_hash : (old new : Outside) (kind : ErrorKind) → new.hash_faults ≡ 0 → RefusalFault kind old new → kind ≡ Hash → ⊥
not_hash old new kind none fault is = let caused : Caused Hash old new = subst (λ (k : ErrorKind). RefusalFault k old new) is fault in no_hash old.hash_faults new.hash_faults none caused.0

excused : (kind : ErrorKind) (old new : Outside) → RefusalFault kind old new → is_excuse kind ≡ true → (refused_status kind ≡ 7) ⊎ ((is_io_kind kind ≡ true) × Rose old.io_faults new.io_faults)
excused Io old new fault is = inr (refl, fault.0)
excused OutOfMemory old new fault is = inl refl
excused (InvalidArgument r) old new fault is = (cc)
excused AuthenticationFailed old new fault is = (cc)
excused AlreadyExists old new fault is = (cc)
excused NotFound old new fault is = (cc)
excused Overflow old new fault is = (cc)
excused MerkleNotEnabled old new fault is = (cc)
excused (CorruptedChunk index) old new fault is = (cc)
excused Rng old new fault is = (cc)
excused Hash old new fault is = (cc)
excused Broken old new fault is = (cc)

-- ---- sessions

-- a random source that doesn't fail: it has enough bytes, or it never does
abbrev IsThere : (G : Ground) (b : List ℕ) (cs : List Command) → IsReadyOn G b cs → Outside → Outside → Type 0
IsThere G b cs v old new = (rs : List Reply)
    (f : Faulted (record { cipher = G.cipher; answers = G.answers; setting = G.setting; limit = G.most; key = G.key }) (file_of G.cipher G.key v.header b) b cs old new rs) → f.kind ≡ Rng → ⊥

outcome_good : (G : Ground) → IsLawful G.cipher → (b : List ℕ) (cs : List Command) (s : Settings) (old new : Outside) (outcome : Result (List Reply) Error)
    → (v : IsReadyOn G b cs) → s.most ≡ G.most → s.outside.setting ≡ G.setting → old.setting ≡ G.setting → old.bytes ≡ Some b → IsThere G b cs v old new → new.hash_faults ≡ 0
    → IfErr outcome (λ e. Refusal G.cipher G.answers G.key s cs old new (kind_of e))
    → IfOk outcome (λ replies. Answered (record { cipher = G.cipher; answers = G.answers; setting = s.outside.setting; limit = s.most; key = G.key }) b cs old new replies)
    → (outcome_status outcome ≡ 0) ⊎ Excused old new outcome
outcome_good G law b cs s old new (Ok rs) v most setting own bytes there hash refused answered =
    let K : session.Ground = record { cipher = G.cipher; answers = G.answers; setting = G.setting; limit = G.most; key = G.key } in
    let a : Answered K b cs old new rs = rw (← most, ← setting) answered in
    let F = file_of G.cipher G.key v.header b in
    let is : a.file ≡ F = opens_one G.cipher law G.key b a.file F a.opens (opens_of G.cipher law G.key b v.header v.is_file) in
    let run = subst (λ (f : File). Whole K f b cs old new rs ⊎ Faulted K f b cs old new rs) is a.run in
    run_good K F b cs [] old new rs run (there rs) hash
outcome_good G law b cs s old new (Err e) v most setting own bytes there hash refused answered = refusal_good refused
  where
    refusal_good : Refusal G.cipher G.answers G.key s cs old new (kind_of e) → (refused_status (kind_of e) ≡ 0) ⊎ Excused old new (Err e)
    refusal_good (inl p) = let many : 2 ^ 64 ≤ room_total (hash_len_of G.answers G.setting) cs = rw (← setting) p.0 in absurd (omega (arith, many, v.replies))
    refusal_good (inr p) =
        let why : WhyNotOpened G.cipher G.answers G.key G.setting G.most b (kind_of e) = rw (← most, ← own) (p.1.why b bytes) in
        inr (excused (kind_of e) old new p.1.fault (opened G.cipher G.answers G.key b G.setting G.most v.header v.is_file v.room v.present (kind_of e) (not_hash old new (kind_of e) hash p.1.fault) why))

-- what holds of a disk beside a source and a hasher holds of the disk
pub excused_on : (disk back : Disk) (o new : Outside) (outcome : Result (List Reply) Error) → back ≡ disk_in new → (outcome_status outcome ≡ 0) ⊎ Excused (over disk o) new outcome
    → (outcome_status outcome ≡ 0) ⊎ IsExcused disk outcome back
excused_on disk back o new outcome is (inl good) = inl good
excused_on disk back o new outcome is (inr (inl seven)) = inr (inl seven)
excused_on disk back o new outcome is (inr (inr io)) = inr (inr (io.0, rw (ap (λ (d : Disk). d.faults) is) io.1))

served_good : (G : Ground) → IsLawful G.cipher → (b : List ℕ) (cs : List Command) (s : Settings) (disk : Disk) (outcome : Result (List Reply) Error) (back : Disk)
    → (p : Served G s cs disk outcome back) → (v : IsReadyOn G b cs) → s.most ≡ G.most → s.outside.setting ≡ G.setting → disk.bytes ≡ Some b → IsThere G b cs v (over disk s.outside) p.after
    → (outcome_status outcome ≡ 0) ⊎ IsExcused disk outcome back
served_good G law b cs s disk outcome back p v most setting bytes there =
    excused_on disk back s.outside p.after outcome p.handed
    (outcome_good G law b cs s (over disk s.outside) p.after outcome v most setting setting bytes there p.sure.hash p.meets.refused (p.meets.answered b bytes))

-- enough random bytes are there
told_there : (G : Ground) (b : List ℕ) (cs : List Command) (random : List ℕ) (v : IsValidOn G b cs random) (old new : Outside) → old.left ≡ Some random → old.exact ≡ true → IsThere G b cs v.ready old new
told_there G b cs random v old new left exact rs =
    enough_there (record { cipher = G.cipher; answers = G.answers; setting = G.setting; limit = G.most; key = G.key }) (file_of G.cipher G.key v.ready.header b) b cs random old new rs left exact v.enough

-- and a generator always has some
sure_of : (G : Ground) (b : List ℕ) (cs : List Command) (v : IsReadyOn G b cs) (old new : Outside) → new.rng_faults ≡ 0 → IsThere G b cs v old new
sure_of G b cs v old new sure rs = sure_there (record { cipher = G.cipher; answers = G.answers; setting = G.setting; limit = G.most; key = G.key }) (file_of G.cipher G.key v.header b) b cs [] old new rs sure

-- ---- new files

unless_rng : (G : Ground) (size : ℕ) (s : Settings) (disk : Disk) (new : Outside) (kind : ErrorKind) → CanCreate G size → BuilderOf G s → s.chunk_size ≡ size
    → new.hash_faults ≡ 0 → NotMade G.answers s (over disk s.outside) new kind → (kind ≡ Rng) ⊎ (is_excuse kind ≡ true)
unless_rng G size s disk new kind can builder is hash refused = go kind refused.why (not_hash (over disk s.outside) new kind hash refused.fault)
  where
    tree : (k : ErrorKind) → WhyNoTree G.answers s.outside.setting s.most 0 k → (k ≡ Rng) ⊎ (is_excuse k ≡ true)
    tree k why = inr (no_tree G.answers s.outside.setting s.most 0 k (rw (builder.setting, builder.most) can.room) why)

    go : (k : ErrorKind) → WhyNotMade G.answers s (over disk s.outside) k → (k ≡ Hash → ⊥) → (k ≡ Rng) ⊎ (is_excuse k ≡ true)
    go (InvalidArgument reason.ChunkSize) why other = absurd (why (rw is can.chunk_size))
    go Io why other = inr refl
    go AlreadyExists why other = let odd : true ≡ false = sym builder.truncate ∙ why.1 in (cc)
    go Rng why other = inl refl
    go Hash why other = absurd (other refl)
    go (InvalidArgument reason.Header) why other = tree (InvalidArgument reason.Header) why.1
    go (InvalidArgument reason.UnknownAlgorithm) why other = tree (InvalidArgument reason.UnknownAlgorithm) why.1
    go (InvalidArgument reason.AlgorithmMismatch) why other = tree (InvalidArgument reason.AlgorithmMismatch) why.1
    go (InvalidArgument reason.Layout) why other = tree (InvalidArgument reason.Layout) why.1
    go (InvalidArgument reason.HashLen) why other = tree (InvalidArgument reason.HashLen) why.1
    go (InvalidArgument reason.MaxChunks) why other = tree (InvalidArgument reason.MaxChunks) why.1
    go (InvalidArgument reason.KeyLength) why other = tree (InvalidArgument reason.KeyLength) why.1
    go (InvalidArgument reason.ContextTooLong) why other = tree (InvalidArgument reason.ContextTooLong) why.1
    go (InvalidArgument reason.CommitmentBuffer) why other = tree (InvalidArgument reason.CommitmentBuffer) why.1
    go (InvalidArgument reason.SeekOverflow) why other = tree (InvalidArgument reason.SeekOverflow) why.1
    go AuthenticationFailed why other = tree AuthenticationFailed why.1
    go NotFound why other = tree NotFound why.1
    go Overflow why other = tree Overflow why.1
    go MerkleNotEnabled why other = tree MerkleNotEnabled why.1
    go (CorruptedChunk index) why other = tree (CorruptedChunk index) why.1
    go Broken why other = tree Broken why.1
    go OutOfMemory why other = inr refl

pub not_made : (G : Ground) (size : ℕ) (random : List ℕ) (s : Settings) (disk : Disk) (new : Outside) (kind : ErrorKind) → CanCreate G size → BuilderOf G s → s.chunk_size ≡ size
    → s.outside.left ≡ Some random → new.hash_faults ≡ 0 → NotMade G.answers s (over disk s.outside) new kind → ((kind ≡ Rng) × (length random < 32)) ⊎ (is_excuse kind ≡ true)
not_made G size random s disk new kind can builder is left hash refused = elim (unless_rng G size s disk new kind can builder is hash refused) [
  | inl rng ↦
      let why : WhyNotMade G.answers s (over disk s.outside) Rng = subst (λ (k : ErrorKind). WhyNotMade G.answers s (over disk s.outside) k) rng refused.why in
      inl (rng, subst (λ (l : Option (List ℕ)). IsShort l 32) left (why.2 builder.exact))
  | inr may ↦ inr may
]

-- a fault after the file was made is one after the run began
pub since : (disk : Disk) (file : Outside) (outcome : Result (List Reply) Error) (back : Disk) → file.io_faults ≡ disk.faults → (outcome_status outcome ≡ 0) ⊎ IsExcused (disk_in file) outcome back
    → (outcome_status outcome ≡ 0) ⊎ IsExcused disk outcome back
since disk file outcome back same (inl good) = inl good
since disk file outcome back same (inr (inl seven)) = inr (inl seven)
since disk file outcome back same (inr (inr io)) = inr (inr (io.0, rw (← same) io.1))

pub refused_on : (disk back : Disk) (o new : Outside) (outcome : Result (List Reply) Error) (e : Error) → outcome ≡ Err e → back ≡ disk_in new → RefusalFault (kind_of e) (over disk o) new → is_excuse (kind_of e) ≡ true
    → IsExcused disk outcome back
refused_on disk back o new outcome e is was fault may = go (excused (kind_of e) (over disk o) new fault may)
  where
    go : (refused_status (kind_of e) ≡ 7) ⊎ ((is_io_kind (kind_of e) ≡ true) × Rose disk.faults new.io_faults) → IsExcused disk outcome back
    go (inl seven) = inl (ap outcome_status is ∙ seven)
    go (inr io) = inr (ap tells_io is ∙ io.0, rw (ap (λ (d : Disk). d.faults) was) io.1)

anew_good : (G : Ground) → IsLawful G.cipher → (size version : ℕ) (cs : List Command) (random b : List ℕ) (s : Settings) (disk : Disk) (outcome : Result (List Reply) Error) (back : Disk) → G.random ≡ Some random
    → disk.bytes ≡ Some b → BuilderOf G s → s.chunk_size ≡ size → s.version ≡ version → IsValidAnew G size version cs random → ServedAnew G s cs disk outcome back ⊎ RefusedAnew G s disk outcome back
    → (outcome_status outcome ≡ 0) ⊎ IsExcused disk outcome back
anew_good G law size version cs random b s disk outcome back told bytes builder is_size is_version v (inl p) =
    let file = new_file G size version random b s disk p.file is_size is_version (builder.left ∙ told) bytes p.made in
    let exact : p.opener.outside.exact ≡ true = p.exact ∙ p.made.moved.exact ∙ builder.exact in
    since disk p.file.outside outcome back p.made.quiet.io
    (served_good G law (new_header G size version random) cs p.opener (disk_in p.file.outside) outcome back p.served v.valid.ready p.hasher.most p.hasher.setting file.bytes
    (told_there G (new_header G size version random) cs (drop 32 random) v.valid (over (disk_in p.file.outside) p.opener.outside) p.served.after (p.left ∙ file.left) exact))
anew_good G law size version cs random b s disk outcome back told bytes builder is_size is_version v (inr p) =
    inr (refused_on disk back s.outside p.after outcome p.error p.refusal p.handed p.refused.fault
    (may (not_made G size random s disk p.after (kind_of p.error) v.can builder is_size (builder.left ∙ told) p.sure.hash p.refused)))
  where
    may : ((kind_of p.error ≡ Rng) × (length random < 32)) ⊎ (is_excuse (kind_of p.error) ≡ true) → is_excuse (kind_of p.error) ≡ true
    may (inl short) = absurd (omega (arith, short.1, v.id))
    may (inr is) = is

-- the same by a generator. A file that was made is ready
seeded_good : (G : Ground) → IsLawful G.cipher → (size version : ℕ) (cs : List Command) (b : List ℕ) (s : Settings) (disk : Disk) (outcome : Result (List Reply) Error) (back : Disk) → G.random ≡ None
    → disk.bytes ≡ Some b → BuilderOf G s → s.chunk_size ≡ size → IsReadyAnew G size cs → ServedAnew G s cs disk outcome back ⊎ RefusedAnew G s disk outcome back
    → (outcome_status outcome ≡ 0) ⊎ IsExcused disk outcome back
seeded_good G law size version cs b s disk outcome back none bytes builder is_size v (inl p) =
    let held = (p.made.holds b bytes).1 in
    let stored : p.file.outside.bytes ≡ Some held.bytes = held.tells in
    let is_file : IsFile G.cipher G.key held.bytes p.file.header = subst (λ (k : List ℕ). IsFile G.cipher k held.bytes p.file.header) p.made.key_is held.is_file in
    let none_there : (file_of G.cipher G.key p.file.header held.bytes).chunks ≡ [] =
    subst (λ (k : List ℕ). (file_of G.cipher k p.file.header held.bytes).chunks ≡ []) p.made.key_is (ap (λ (f : File). f.chunks) (sym held.file) ∙ (p.made.holds b bytes).2) in
    let o = opens_of G.cipher law G.key held.bytes p.file.header is_file in
    let same : o.header ≡ p.file.header = says_one held.bytes o.header p.file.header o.is_file.says is_file.says in
    let count : chunk_count p.file.header.chunk_size p.file.header.file_size ≡ 0 =
    ap (λ (h : Header). chunk_count h.chunk_size h.file_size) (sym same) ∙ sym o.count ∙ ap (λ (l : List (Option (List ℕ))). length l) none_there in
    let ready : IsReadyOn G held.bytes cs = record {
      header = p.file.header;
      is_file = is_file;
      room = subst (λ (n : ℕ). Room G.answers G.setting G.most n) (sym count) v.can.room;
      present = λ _. ap (λ (l : List (Option (List ℕ))). none_missing (λ _. true) 0 l) none_there;
      replies = v.replies;
    } in
    since disk p.file.outside outcome back p.made.quiet.io
    (served_good G law held.bytes cs p.opener (disk_in p.file.outside) outcome back p.served ready p.hasher.most p.hasher.setting stored
    (sure_of G held.bytes cs ready (over (disk_in p.file.outside) p.opener.outside) p.served.after (p.served.sure.rng none)))
seeded_good G law size version cs b s disk outcome back none bytes builder is_size v (inr p) =
    inr (refused_on disk back s.outside p.after outcome p.error p.refusal p.handed p.refused.fault
    (may (unless_rng G size s disk p.after (kind_of p.error) v.can builder is_size p.sure.hash p.refused)))
  where
    may : (kind_of p.error ≡ Rng) ⊎ (is_excuse (kind_of p.error) ≡ true) → is_excuse (kind_of p.error) ≡ true
    may (inl rng) =
        let caused : Caused Rng (over disk s.outside) p.after = subst (λ (k : ErrorKind). RefusalFault k (over disk s.outside) p.after) rng p.refused.fault in
        absurd (no_hash s.outside.rng_faults p.after.rng_faults (p.sure.rng none) caused.0)
    may (inr is) = is

ends_good : (G : Ground) → IsLawful G.cipher → (start : Start) (cs : List Command) (random b : List ℕ) (disk : Disk) (outcome : Result (List Reply) Error) (back : Disk) → G.random ≡ Some random → disk.bytes ≡ Some b
    → IsValid G start cs b (Random random) → EndsOn G start cs disk outcome back → (outcome_status outcome ≡ 0) ⊎ IsExcused disk outcome back
ends_good G law (Storage x) cs random b disk outcome back told bytes v p =
    served_good G law b cs p.0 disk outcome back p.2 v.ready p.1.most p.1.setting bytes
    (told_there G b cs random v (over disk p.0.outside) p.2.after (p.1.left ∙ told) p.1.exact)
ends_good G law (Create size version) cs random b disk outcome back told bytes v p =
    anew_good G law size _ cs random b p.0 disk outcome back told bytes p.1 p.2 p.3 v p.4

ends_seeded : (G : Ground) → IsLawful G.cipher → (start : Start) (cs : List Command) (seed b : List ℕ) (disk : Disk) (outcome : Result (List Reply) Error) (back : Disk) → G.random ≡ None → disk.bytes ≡ Some b
    → IsValid G start cs b (Seed seed) → EndsOn G start cs disk outcome back → (outcome_status outcome ≡ 0) ⊎ IsExcused disk outcome back
ends_seeded G law (Storage x) cs seed b disk outcome back none bytes v p =
    served_good G law b cs p.0 disk outcome back p.2 v p.1.most p.1.setting bytes (sure_of G b cs v (over disk p.0.outside) p.2.after (p.2.sure.rng none))
ends_seeded G law (Create size version) cs seed b disk outcome back none bytes v p = seeded_good G law size (version_number version) cs b p.0 disk outcome back none bytes p.1 p.2 v p.4

pub completes : Completes
completes s b disk back outcome bytes v p = go s.randomness refl v
  where
    go : (r : Randomness) → s.randomness ≡ r → IsValid (ground_of s) s.start s.commands b r → (outcome_status outcome ≡ 0) ⊎ IsExcused disk outcome back
    go (Random random) is v = ends_good (ground_of s) (lawful (variant_of s.algorithm)) s.start s.commands random b disk outcome back (ap told_by is) bytes v p
    go (Seed seed) is v = ends_seeded (ground_of s) (lawful (variant_of s.algorithm)) s.start s.commands seed b disk outcome back (ap told_by is) bytes v p

-- ---- in memory

memory_ends : (o : Result (List Reply) Error) (disk back : Disk) → (outcome_status o ≡ 0) ⊎ IsExcused disk o back → (memory_status o ≡ 0) ⊎ (memory_status o ≡ 7)
memory_ends o disk back h = go (tells_io o) h
  where
    go : (t : Bool) → (outcome_status o ≡ 0) ⊎ ((outcome_status o ≡ 7) ⊎ ((t ≡ true) × Rose disk.faults back.faults)) → ((if t then 7 else outcome_status o) ≡ 0) ⊎ ((if t then 7 else outcome_status o) ≡ 7)
    go true h = inr refl
    go false (inl good) = inl good
    go false (inr (inl seven)) = inr seven
    go false (inr (inr io)) = let odd : false ≡ true = io.0 in (cc)

pub completes_in_memory : CompletesInMemory
completes_in_memory s e v p =
    memory_ends e.outcome (memory_of (first_bytes s.start)) p.0 (completes s (first_bytes s.start) (memory_of (first_bytes s.start)) p.0 e.outcome refl v p.1)
