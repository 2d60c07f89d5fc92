-- Two runs of one script that end with status 0 have the same replies and leave the same bytes, where the random bytes are told.
use Rattle.std.proofs.Common.{◌≡◌, ℕ, ◌-◌, List, [], ◌∷◌, ◌++◌, length, take, drop, Option, Some, None, Result, Ok, Err, Bool, true, false, ◌≤◌, refl, sym, ap, ◌∙◌, arith, subst, inl, inr}
use Rattle.std.specs.Prelude.{◌⊎◌, IfOk, if◌then◌else◌, slice_get}
use Rattle.std.proofs.Math.Seq.{take-append_seam}
use Rattle.std.proofs.lemmas.List.{drop_at, length-append}
use Rattle.raf_format.specs.Cipher.{IsLawful}
use Rattle.raf_format.specs.Numbers.{variant_of}
use Rattle.raf_format.specs.Header.{sealed_header}
use Rattle.raf_format.specs.File.{File}
use Rattle.raf_format.specs.declared.header.Header.{Header}
use Rattle.raf_format.proofs.Ciphers.{lawful}
use Rattle.raf_format.proofs.Opened.{opens_one}
use Rattle.raf_io.specs.Kinds.{kind_of}
use Rattle.raf_io.specs.Source.{Takes}
use Rattle.raf_io.specs.declared.errors.Error.{Error}
use Rattle.raf_io.specs.declared.errors.ErrorKind.{ErrorKind}
use Rattle.raf_io.specs.declared.errors.ErrorKind.TheVariants.{Io, InvalidArgument, AuthenticationFailed, AlreadyExists, NotFound, Overflow, MerkleNotEnabled, CorruptedChunk, Rng, Hash, Broken, OutOfMemory}
use Rattle.raf_tree.specs.Hashing.{Hashing}
use Rattle.raf.specs.Apply.{apply}
use Rattle.raf.specs.Due.{Due, Answers}
use Rattle.raf.specs.Due.Due.{Exactly, Merkle}
use Rattle.raf.specs.Image.{traced, asked_in}
use Rattle.raf.specs.Outside.{Outside, Caused}
use Rattle.raf.specs.Opening.{Settings, Made}
use Rattle.raf.specs.Handle.{Handle}
use Rattle.raf.specs.Session.{TreeDecides, AllAnswer, Whole, Faulted, Answered}
use Rattle.raf.specs.Session as session
use Rattle.raf.specs.declared.command.Command.{Command}
use Rattle.raf.specs.declared.command.Reply.{Reply}
use Rattle.raf.specs.declared.command.Reply.TheVariants.{Refused}
use Rattle.raf_script.specs.declared.script.Start.{Start}
use Rattle.raf_script.specs.declared.script.Start.TheVariants.{Storage, Create}
use Rattle.raf_run.specs.Disk.{Disk, memory_of, over, disk_in}
use Rattle.raf_run.specs.Ends.{Ground, BuilderOf, Served, ServedAnew, RefusedAnew, EndsOn, ground_of, told_by, first_bytes}
use Rattle.raf_run.specs.Text.{end_text}
use Rattle.raf_run.specs.Answers.{outcome_status, memory_status, tells_io, last_status, refused_status}
use Rattle.raf_run.specs.Laws.{OneEnd, OneText, new_header}

-- ---- the replies that are due are those of one list

answer_one : (D : Reply → Type 0) → ((r s : Reply) → D r → D s → r ≡ s) → (due : Due) (r s : Reply) → Answers D due r → Answers D due s → r ≡ s
answer_one D one (Exactly this) r s p q = p ∙ sym q
answer_one D one Merkle r s p q = one r s p q

tree_one : (E : List ℕ → Hashing) (setting : Option (List ℕ)) (most : Option ℕ) (F : File) (c : Command) (r s : Reply) → TreeDecides E setting most F c r → TreeDecides E setting most F c s → r ≡ s
tree_one E None most F c r s p q = absurd p
tree_one E (Some x) None F c r s p q = absurd p
tree_one E (Some x) (Some most) F c r s p q = p ∙ sym q

replies_one : (G : session.Ground) (F : File) (cs : List Command) (rs ss : List Reply) → AllAnswer G F cs rs → AllAnswer G F cs ss → rs ≡ ss
replies_one G F [] [] [] p q = refl
replies_one G F [] [] (s ∷ ss) p q = absurd q
replies_one G F [] (r ∷ rs) ss p q = absurd p
replies_one G F (c ∷ cs) [] ss p q = absurd p
replies_one G F (c ∷ cs) (r ∷ rs) [] p q = absurd q
replies_one G F (c ∷ cs) (r ∷ rs) (s ∷ ss) p q =
    let one : r ≡ s = answer_one (TreeDecides G.answers G.setting G.limit F c) (tree_one G.answers G.setting G.limit F c) (apply G.limit F c).0 r s p.0 q.0 in
    let more : rs ≡ ss = replies_one G (apply G.limit F c).1 cs rs ss p.1 q.1 in
    λ i. one i ∷ more i

-- ---- the random bytes that were taken stood in front

taken : (bytes got : List ℕ) (left : Option (List ℕ)) → Takes (Some bytes) got left → (got ≡ take (length got) bytes) × (left ≡ Some (drop (length got) bytes))
taken bytes got None t = absurd t
taken bytes got (Some rest) t = (
  sym (ap (take (length got)) t ∙ take-append_seam got rest),
  ap (λ (l : List ℕ). Some l) (sym (ap (drop (length got)) t ∙ drop_at got rest (length got) refl)),
)

pub taken_so_many : (n : ℕ) (bytes got : List ℕ) (left : Option (List ℕ)) → length got ≡ n → Takes (Some bytes) got left → (got ≡ take n bytes) × (left ≡ Some (drop n bytes))
taken_so_many n bytes got left long t = subst (λ (m : ℕ). (got ≡ take m bytes) × (left ≡ Some (drop m bytes))) long (taken bytes got left t)

-- ---- no reply is a fault

behind : {X : Type 0} (xs : List X) (x : X) → slice_get (xs ++ x ∷ []) (length xs) ≡ Some x
behind [] x = refl
behind (y ∷ xs) x = behind xs x

pub last_of : {X : Type 0} (xs : List X) (x : X) → slice_get (xs ++ x ∷ []) (length (xs ++ x ∷ []) - 1) ≡ Some x
last_of xs x = let place : length (xs ++ x ∷ []) - 1 ≡ length xs = omega (arith, length-append xs (x ∷ [])) in rw place (behind xs x)

fault_told : (kind : ErrorKind) (old new : Outside) → Caused kind old new → last_status (Some (Refused kind)) ≡ 0 → ⊥
fault_told Io old new caused h = omega (arith, h)
fault_told Rng old new caused h = omega (arith, h)
fault_told Hash old new caused h = omega (arith, h)
fault_told (InvalidArgument reason) old new caused h = caused
fault_told AuthenticationFailed old new caused h = caused
fault_told AlreadyExists old new caused h = caused
fault_told NotFound old new caused h = caused
fault_told Overflow old new caused h = caused
fault_told MerkleNotEnabled old new caused h = caused
fault_told (CorruptedChunk index) old new caused h = caused
fault_told Broken old new caused h = caused
fault_told OutOfMemory old new caused h = caused

not_faulted : (G : session.Ground) (F : File) (b : List ℕ) (cs : List Command) (old new : Outside) (rs : List Reply) → Faulted G F b cs old new rs → last_status (slice_get rs (length rs - 1)) ≡ 0 → ⊥
not_faulted G F b cs old new rs f h =
    let last : slice_get rs (length rs - 1) ≡ Some (Refused f.kind) = ap (λ (l : List Reply). slice_get l (length l - 1)) f.last ∙ last_of f.answered (Refused f.kind) in
    fault_told f.kind old new f.cause (ap last_status (sym last) ∙ h)

refusal_told : (kind : ErrorKind) → refused_status kind ≡ 0 → ⊥
refusal_told Io h = omega (arith, h)
refusal_told OutOfMemory h = omega (arith, h)
refusal_told (InvalidArgument reason) h = omega (arith, h)
refusal_told AuthenticationFailed h = omega (arith, h)
refusal_told AlreadyExists h = omega (arith, h)
refusal_told NotFound h = omega (arith, h)
refusal_told Overflow h = omega (arith, h)
refusal_told MerkleNotEnabled h = omega (arith, h)
refusal_told (CorruptedChunk index) h = omega (arith, h)
refusal_told Rng h = omega (arith, h)
refusal_told Hash h = omega (arith, h)
refusal_told Broken h = omega (arith, h)

-- ---- sessions

whole_of : (G : session.Ground) (F : File) (b : List ℕ) (cs : List Command) (old new : Outside) (rs : List Reply) → last_status (slice_get rs (length rs - 1)) ≡ 0
    → Whole G F b cs old new rs ⊎ Faulted G F b cs old new rs → Whole G F b cs old new rs
whole_of G F b cs old new rs h (inl w) = w
whole_of G F b cs old new rs h (inr f) = absurd (not_faulted G F b cs old new rs f h)

whole_one : (G : session.Ground) (F : File) (b : List ℕ) (cs : List Command) (random : List ℕ) (old new old' new' : Outside) (rs ss : List Reply) → old.left ≡ Some random → old'.left ≡ Some random
    → Whole G F b cs old new rs → Whole G F b cs old' new' ss → (rs ≡ ss) × (new.bytes ≡ new'.bytes)
whole_one G F b cs random old new old' new' rs ss left left' w v =
    let n = asked_in G.limit F cs in
    let first = taken_so_many n random w.nonces new.left w.course.drawn (subst (λ (l : Option (List ℕ)). Takes l w.nonces new.left) left w.left) in
    let second = taken_so_many n random v.nonces new'.left v.course.drawn (subst (λ (l : Option (List ℕ)). Takes l v.nonces new'.left) left' v.left) in
    let same : w.nonces ≡ v.nonces = first.0 ∙ sym second.0 in (
      replies_one G F cs rs ss w.course.played v.course.played,
      w.bytes ∙ ap (λ (nonces : List ℕ). Some (traced G.limit G.cipher G.key F cs nonces b)) same ∙ sym v.bytes,
    )

answered_one : (G : session.Ground) → IsLawful G.cipher → (b : List ℕ) (cs : List Command) (random : List ℕ) (old new old' new' : Outside) (rs ss : List Reply) → old.left ≡ Some random → old'.left ≡ Some random
    → last_status (slice_get rs (length rs - 1)) ≡ 0 → last_status (slice_get ss (length ss - 1)) ≡ 0
    → Answered G b cs old new rs → Answered G b cs old' new' ss → (rs ≡ ss) × (new.bytes ≡ new'.bytes)
answered_one G law b cs random old new old' new' rs ss left left' h h' p q =
    let same : q.file ≡ p.file = opens_one G.cipher law G.key b q.file p.file q.opens p.opens in
    let run = subst (λ (F : File). Whole G F b cs old' new' ss ⊎ Faulted G F b cs old' new' ss) same q.run in
    whole_one G p.file b cs random old new old' new' rs ss left left' (whole_of G p.file b cs old new rs h p.run) (whole_of G p.file b cs old' new' ss h' run)

-- a run with replies
record Replied (G : Ground) (b : List ℕ) (cs : List Command) (random : List ℕ) (outcome : Result (List Reply) Error) (back : Disk) : Type 0 where
  replies : List Reply
  is : outcome ≡ Ok replies
  old : Outside
  new : Outside
  left : old.left ≡ Some random
  quiet : last_status (slice_get replies (length replies - 1)) ≡ 0
  answered : Answered (record { cipher = G.cipher; answers = G.answers; setting = G.setting; limit = G.most; key = G.key }) b cs old new replies
  bytes : back.bytes ≡ new.bytes

replied_one : (G : Ground) → IsLawful G.cipher → (b : List ℕ) (cs : List Command) (random : List ℕ) (o o' : Result (List Reply) Error) (back back' : Disk)
    → Replied G b cs random o back → Replied G b cs random o' back' → (o ≡ o') × (back.bytes ≡ back'.bytes)
replied_one G law b cs random o o' back back' p q =
    let one = answered_one (record { cipher = G.cipher; answers = G.answers; setting = G.setting; limit = G.most; key = G.key }) law b cs random p.old p.new q.old q.new p.replies q.replies p.left q.left p.quiet q.quiet p.answered q.answered in
    (p.is ∙ ap (λ (rs : List Reply). Ok rs) one.0 ∙ sym q.is, p.bytes ∙ one.1 ∙ sym q.bytes)

-- ---- runs

replied_by : (G : Ground) (b : List ℕ) (cs : List Command) (random : List ℕ) (s : Settings) (old new : Outside) (outcome : Result (List Reply) Error) (back : Disk)
    → s.most ≡ G.most → s.outside.setting ≡ G.setting → old.left ≡ Some random → outcome_status outcome ≡ 0
    → IfOk outcome (λ replies. Answered (record { cipher = G.cipher; answers = G.answers; setting = s.outside.setting; limit = s.most; key = G.key }) b cs old new replies)
    → back ≡ disk_in new → Replied G b cs random outcome back
replied_by G b cs random s old new (Ok rs) back most setting left h answered disk = record {
  replies = rs;
  is = refl;
  old = old;
  new = new;
  left = left;
  quiet = h;
  answered = rw (← most, ← setting) answered;
  bytes = ap (λ (d : Disk). d.bytes) disk;
}
replied_by G b cs random s old new (Err e) back most setting left h answered disk = absurd (refusal_told (kind_of e) h)

served_replied : (G : Ground) (b : List ℕ) (cs : List Command) (random : List ℕ) (s : Settings) (disk : Disk) (outcome : Result (List Reply) Error) (back : Disk) → Served G s cs disk outcome back
    → s.most ≡ G.most → s.outside.setting ≡ G.setting → disk.bytes ≡ Some b → s.outside.left ≡ Some random → outcome_status outcome ≡ 0 → Replied G b cs random outcome back
served_replied G b cs random s disk outcome back p most setting bytes left h =
    replied_by G b cs random s (over disk s.outside) p.after outcome back most setting left h (p.meets.answered b bytes) p.handed

-- a new file, from the random bytes
pub record NewFile (G : Ground) (size version : ℕ) (random : List ℕ) (file : Handle) : Type 0 where
  pub id : 32 ≤ length random
  pub header : file.header ≡ record { version = version; algorithm = G.cipher.id; chunk_size = size; file_size = 0; id = take 32 random }
  pub bytes : file.outside.bytes ≡ Some (new_header G size version random)
  pub left : file.outside.left ≡ Some (drop 32 random)

pub new_file : (G : Ground) (size version : ℕ) (random b : List ℕ) (s : Settings) (disk : Disk) (file : Handle) → s.chunk_size ≡ size → s.version ≡ version → s.outside.left ≡ Some random → disk.bytes ≡ Some b
    → Made G.cipher G.answers G.key s (over disk s.outside) file → NewFile G size version random file
new_file G size version random b s disk file is_size is_version left bytes made =
    let held = (made.holds b bytes).1 in
    let taken = subst (λ (l : Option (List ℕ)). Takes l file.header.id file.outside.left) left made.taken in
    let drawn = taken_so_many 32 random file.header.id file.outside.left held.is_file.says.fields.id taken in
    let header : file.header ≡ record { version = version; algorithm = G.cipher.id; chunk_size = size; file_size = 0; id = take 32 random } =
    made.header ∙ (λ i. record { version = is_version i; algorithm = G.cipher.id; chunk_size = is_size i; file_size = 0; id = drawn.0 i }) in
    record {
      id = enough random file.header.id file.outside.left held.is_file.says.fields.id taken;
      header = header;
      bytes = made.bytes b bytes ∙ ap (λ (h : Header). Some (sealed_header G.cipher G.key h)) header;
      left = drawn.1;
    }
  where
    enough : (random got : List ℕ) (left : Option (List ℕ)) → length got ≡ 32 → Takes (Some random) got left → 32 ≤ length random
    enough random got None long t = absurd t
    enough random got (Some rest) long t = omega (arith, ap length t, length-append got rest, long)

anew_replied : (G : Ground) (size version : ℕ) (cs : List Command) (random b : List ℕ) (s : Settings) (disk : Disk) (outcome : Result (List Reply) Error) (back : Disk) → G.random ≡ Some random → disk.bytes ≡ Some b
    → BuilderOf G s → s.chunk_size ≡ size → s.version ≡ version → outcome_status outcome ≡ 0 → ServedAnew G s cs disk outcome back ⊎ RefusedAnew G s disk outcome back
    → Replied G (new_header G size version random) cs (drop 32 random) outcome back
anew_replied G size version cs random b s disk outcome back told bytes builder is_size is_version h (inl p) =
    let file = new_file G size version random b s disk p.file is_size is_version (builder.left ∙ told) bytes p.made in
    served_replied G (new_header G size version random) cs (drop 32 random) p.opener (disk_in p.file.outside) outcome back p.served p.hasher.most p.hasher.setting file.bytes (p.left ∙ file.left) h
anew_replied G size version cs random b s disk outcome back told bytes builder is_size is_version h (inr p) = absurd (refusal_told (kind_of p.error) (ap outcome_status (sym p.refusal) ∙ h))

ends_one : (G : Ground) → IsLawful G.cipher → (start : Start) (cs : List Command) (random b : List ℕ) (disk disk' back back' : Disk) (o o' : Result (List Reply) Error) → G.random ≡ Some random
    → disk.bytes ≡ Some b → disk'.bytes ≡ Some b → EndsOn G start cs disk o back → EndsOn G start cs disk' o' back' → outcome_status o ≡ 0 → outcome_status o' ≡ 0 → (o ≡ o') × (back.bytes ≡ back'.bytes)
ends_one G law (Storage x) cs random b disk disk' back back' o o' told is is' p q h k =
    replied_one G law b cs random o o' back back'
    (served_replied G b cs random p.0 disk o back p.2 p.1.most p.1.setting is (p.1.left ∙ told) h)
    (served_replied G b cs random q.0 disk' o' back' q.2 q.1.most q.1.setting is' (q.1.left ∙ told) k)
ends_one G law (Create size v) cs random b disk disk' back back' o o' told is is' p q h k =
    replied_one G law _ cs (drop 32 random) o o' back back'
    (anew_replied G size _ cs random b p.0 disk o back told is p.1 p.2 p.3 h p.4)
    (anew_replied G size _ cs random b q.0 disk' o' back' told is' q.1 q.2 q.3 k q.4)

pub one_end : OneEnd
one_end s random b disk disk' back back' o o' told is is' p q h k =
    ends_one (ground_of s) (lawful (variant_of s.algorithm)) s.start s.commands random b disk disk' back back' o o' (ap told_by told) is is' p q h k

-- ---- in memory

pub memory_good : (o : Result (List Reply) Error) → memory_status o ≡ 0 → outcome_status o ≡ 0
memory_good o h = go (tells_io o) h
  where
    go : (t : Bool) → (if t then 7 else outcome_status o) ≡ 0 → outcome_status o ≡ 0
    go true h = absurd (omega (arith, h))
    go false h = h

pub some_same : {X : Type 0} {x y : X} → ◌≡◌ {A = Option X} (Some x) (Some y) → x ≡ y
some_same h = (cc)

pub one_text : OneText
one_text s random e f told p q h k =
    let one = one_end s random (first_bytes s.start) (memory_of (first_bytes s.start)) (memory_of (first_bytes s.start)) p.0 q.0 e.outcome f.outcome told refl refl p.1 q.1
    (memory_good e.outcome h) (memory_good f.outcome k) in
    let storage : e.storage ≡ f.storage = some_same (sym p.2 ∙ one.1 ∙ q.2) in
    λ i. end_text (record { outcome = one.0 i; storage = storage i })
