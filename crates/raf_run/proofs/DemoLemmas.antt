-- What the demo's replies tell is what its number stands for.
use Rattle.std.proofs.Common.{◌≡◌, ℕ, zero, suc, ◌+◌, ◌-◌, ◌*◌, ◌%◌, ◌^◌, ◌<◌, ◌≤◌, min, max, Bool, true, false, cond, ◌&&◌, List, [], ◌∷◌, ◌++◌, length, drop, get_or, replicate, Option, Some, None, Result, Ok, Err, refl, sym, ap, ◌∙◌, arith, subst, inl, inr}
use Rattle.std.specs.Prelude.{◌⊎◌, IfOk, IfSome, if◌then◌else◌, nat_lt, nat_le, slice_get}
use Rattle.std.specs.List.{sum}
use Rattle.std.proofs.Math.Nat.{mod-lt}
use Rattle.std.proofs.lemmas.List.Sums.{sum_by_from}
use Rattle.std.proofs.lemmas.List.{length-append, length-replicate, drop_more}
use Rattle.raf_io.specs.Storage.{spliced}
use Rattle.raf_io.specs.declared.errors.Error.{Error}
use Rattle.raf_io.specs.declared.errors.ErrorKind.{ErrorKind}
use Rattle.aegis_core.specs.declared.variant.Variant.{Variant}
use Rattle.aegis_core.specs.declared.variant.Variant.TheVariants.{Aegis128L}
use Rattle.raf_format.specs.Cipher.{Cipher, IsLawful, cipher_of}
use Rattle.raf_format.specs.declared.version.Version.TheVariants.{V1}
use Rattle.raf_format.specs.Version.{tag_len_of}
use Rattle.raf_format.specs.File.{File, Shape, IsFile, Opens, chunk_count, layout_len, layout_by, shape_of, file_of}
use Rattle.raf_format.specs.declared.header.Header.{Header}
use Rattle.raf_format.proofs.Ciphers.{lawful}
use Rattle.raf_format.proofs.Opened.{opens_one, opens_of}
use Rattle.raf.specs.Change.{write_change, truncate_change}
use Rattle.raf.specs.Concern.{valid, none_missing, needed}
use Rattle.raf.specs.Due.{Due, Answers}
use Rattle.raf.specs.Due.Due.{Exactly}
use Rattle.raf.specs.Apply.{apply, answer, changed, cause_of, after, file_after, bytes_between}
use Rattle.raf.specs.Image.{traced}
use Rattle.raf.specs.Outside.{Outside}
use Rattle.raf.specs.Handle.{Handle, Holds}
use Rattle.raf.specs.Opening.{Settings, Made}
use Rattle.raf.specs.Session.{TreeDecides, AllAnswer, Whole, Faulted, Answered}
use Rattle.raf.specs.Session as session
use Rattle.raf.specs.declared.command.Command.{Command}
use Rattle.raf.specs.declared.command.Command.TheVariants as command
use Rattle.raf.specs.declared.command.Reply.{Reply}
use Rattle.raf.specs.declared.command.Reply.TheVariants.{Bytes, Size, Refused}
use Rattle.raf_script.specs.declared.script.Start.TheVariants.{Create}
use Rattle.raf_run.specs.Disk.{Disk, over, disk_in}
use Rattle.raf_run.specs.Demo.{write_offset, write_bytes, demo_write, demo_writes, demo_commands, demo_bytes, demo_report, Tells}
use Rattle.raf_run.specs.Ends.{Ground, ServedAnew, RefusedAnew, EndsOn, answers_of, setting_of}
use Rattle.raf_run.specs.declared.answer.Report.{Report}
use Rattle.raf_run.proofs.OneText.{last_of}
use Rattle.raf_run.proofs.PlainFiles.{IsPlain, read_plain, none_missing_cut, write_plain, grow_plain}

-- ---- lists of commands

-- a command that changes nothing leaves the file
stays : (t : Bool) (d e : Due) (X F : File) → X ≡ F → (cond {A = Due × File} t (d, X) (e, F)).1 ≡ F
stays true d e X F h = h
stays false d e X F h = refl

after_append : (limit : Option ℕ) (F : File) (cs : List Command) (c : Command) → file_after limit F (cs ++ c ∷ []) ≡ (apply limit (file_after limit F cs) c).1
after_append limit F [] c = refl
after_append limit F (d ∷ cs) c = after_append limit (apply limit F d).1 cs c

-- commands that change nothing, after others
after_all : (limit : Option ℕ) (F : File) (cs : List Command) → file_after limit F (cs ++ command.Sync ∷ command.Verify ∷ command.Size ∷ command.Read 0 200000 ∷ []) ≡ file_after limit F cs
after_all limit F [] =
    let still : (c : Command) → changed F c ≡ F → (apply limit F c).1 ≡ F = λ c same. stays (valid limit F c) (answer F c) (Exactly (Refused (cause_of limit F c))) (changed F c) F same in
    ap (λ (G : File). file_after limit G (command.Verify ∷ command.Size ∷ command.Read 0 200000 ∷ [])) (still command.Sync refl)
    ∙ ap (λ (G : File). file_after limit G (command.Size ∷ command.Read 0 200000 ∷ [])) (still command.Verify refl)
    ∙ ap (λ (G : File). file_after limit G (command.Read 0 200000 ∷ [])) (still command.Size refl)
    ∙ still (command.Read 0 200000) refl
after_all limit F (c ∷ cs) = after_all limit (apply limit F c).1 cs

-- the replies to the commands before others, and those to the others
pub record Parted (G : session.Ground) (F : File) (cs ds : List Command) (rs : List Reply) : Type 0 where
  pub front : List Reply
  pub rest : List Reply
  pub split : rs ≡ front ++ rest
  pub played : AllAnswer G (file_after G.limit F cs) ds rest

parted : (G : session.Ground) (F : File) (cs ds : List Command) (rs : List Reply) → AllAnswer G F (cs ++ ds) rs → Parted G F cs ds rs
parted G F [] ds rs h = record { front = []; rest = rs; split = refl; played = h }
parted G F (c ∷ cs) ds [] h = absurd h
parted G F (c ∷ cs) ds (r ∷ rs) h =
    let p = parted G (apply G.limit F c).1 cs ds rs h.1 in
    record { front = r ∷ p.front; rest = p.rest; split = ap (λ (l : List Reply). r ∷ l) p.split; played = p.played }

-- ---- the demo's file

abbrev pub demo_shape : Shape
demo_shape = record { version = 1; nonce_len = 16; chunk_size = 65536 }

pub record IsDemoFile (F : File) (x : List ℕ) : Type 0 where
  pub shape : F.shape ≡ demo_shape
  pub long : length x ≡ 200000
  pub plain : IsPlain F x

size_is : (F : File) (x : List ℕ) → IsDemoFile F x → F.size ≡ 200000
size_is F x h = h.plain.size ∙ h.long

fits_at : (s : Shape) (size : ℕ) → s ≡ demo_shape → size ≡ 200000 → nat_lt (layout_len s size) (2 ^ 64) && nat_le (chunk_count s.chunk_size size) 4 ≡ true
unfolding tag_len_of
fits_at s size e f = rw (e, f) refl

present : (F : File) (x : List ℕ) (test : ℕ → Bool) → IsDemoFile F x → none_missing test 0 F.chunks ≡ true
present F x test h = none_missing_cut F.shape.chunk_size test 0 F.chunks x h.plain.cut

when : {X : Type 0} (t : Bool) (x y : X) → t ≡ true → (if t then x else y) ≡ x
when true x y h = refl
when false x y h = (cc)

all_true : (a b c : Bool) → a ≡ true → b ≡ true → c ≡ true → a && b && c ≡ true
all_true true true true h k l = refl
all_true true true false h k l = l
all_true true false c h k l = k
all_true false b c h k l = h

module _ (F : File) (x : List ℕ) (h : IsDemoFile F x) (offset b : ℕ) (bytes : List ℕ) (fits : offset + length (b ∷ bytes) ≤ length x) where
  write_valid : valid (Some 4) F (command.Write offset (b ∷ bytes)) ≡ true
  write_valid =
      let size : max F.size (offset + length (b ∷ bytes)) ≡ 200000 = omega (arith, size_is F x h, fits, h.long) in
      all_true _ _ _ (fits_at F.shape (max F.size (offset + length (b ∷ bytes))) h.shape size) (present F x (needed F (command.Write offset (b ∷ bytes))) h) refl

  write_demo : IsDemoFile (apply (Some 4) F (command.Write offset (b ∷ bytes))).1 (spliced offset (b ∷ bytes) x)
  write_demo =
      let plain = write_plain F x offset b bytes fits h.plain in
      let same : max F.size (offset + length (b ∷ bytes)) ≡ F.size = omega (arith, h.plain.size, fits) in
      let long : length (spliced offset (b ∷ bytes) x) ≡ 200000 = sym plain.size ∙ same ∙ size_is F x h in
      let is : (apply (Some 4) F (command.Write offset (b ∷ bytes))).1 ≡ after F (write_change F.size offset (b ∷ bytes)) =
      ap (λ (p : Due × File). p.1) (when (valid (Some 4) F (command.Write offset (b ∷ bytes))) (answer F (command.Write offset (b ∷ bytes)), changed F (command.Write offset (b ∷ bytes)))
      (Exactly (Refused (cause_of (Some 4) F (command.Write offset (b ∷ bytes)))), F) write_valid) in
      subst (λ (X : File). IsDemoFile X (spliced offset (b ∷ bytes) x)) (sym is) (record { shape = h.shape; long = long; plain = plain })

-- the new file, after it was made so long
pub record IsEmptyFile (F : File) : Type 0 where
  pub shape : F.shape ≡ demo_shape
  pub size : F.size ≡ 0
  pub chunks : F.chunks ≡ []

module _ (F : File) (h : IsEmptyFile F) where
  grow_changed : changed F (command.Truncate 200000) ≡ after F (truncate_change F.shape.chunk_size F.size 200000)
  grow_changed = rw h.size refl

  grow_valid : valid (Some 4) F (command.Truncate 200000) ≡ true
  unfolding tag_len_of
  grow_valid = rw (h.shape, h.size, h.chunks) refl

  grow_demo : IsDemoFile (apply (Some 4) F (command.Truncate 200000)).1 (replicate 200000 0)
  grow_demo =
      let is : (apply (Some 4) F (command.Truncate 200000)).1 ≡ after F (truncate_change F.shape.chunk_size F.size 200000) =
      ap (λ (p : Due × File). p.1) (when (valid (Some 4) F (command.Truncate 200000)) (answer F (command.Truncate 200000), changed F (command.Truncate 200000))
      (Exactly (Refused (cause_of (Some 4) F (command.Truncate 200000))), F) grow_valid) ∙ grow_changed in
      let chunk : F.shape.chunk_size ≡ 65536 = ap (λ (s : Shape). s.chunk_size) h.shape in
      subst (λ (X : File). IsDemoFile X (replicate 200000 0)) (sym is) (record {
        shape = h.shape;
        long = length-replicate {A = ℕ} 200000 0;
        plain = grow_plain F 200000 4 h.size h.chunks (omega (arith, chunk)) (rw chunk refl) (omega (arith, chunk)) (λ i lt. rw chunk (omega (arith, lt)));
      })

  -- after the writes
  writes_demo : (n : ℕ) → IsDemoFile (file_after (Some 4) F (command.Truncate 200000 ∷ demo_writes n)) (demo_bytes n)
  writes_demo zero = grow_demo
  writes_demo (suc i) =
      let before = writes_demo i in
      let least : write_offset i < 199901 = mod-lt (7919 * i) (omega arith) in
      let fits : write_offset i + length (write_bytes i) ≤ length (demo_bytes i) = omega (arith, least, before.long, length-replicate {A = ℕ} 100 (i % 251 + 1)) in
      subst (λ (X : File). IsDemoFile X (demo_bytes (suc i))) (sym (after_append (Some 4) (apply (Some 4) F (command.Truncate 200000)).1 (demo_writes i) (demo_write i)))
      (write_demo (file_after (Some 4) F (command.Truncate 200000 ∷ demo_writes i)) (demo_bytes i) before (write_offset i) (i % 251 + 1) (replicate 99 (i % 251 + 1)) fits)

-- ---- the last replies

-- what is due to a command that is valid
due_of : (P : Reply → Type 0) (t : Bool) (a r : Reply) (e : Due) (X F : File) → t ≡ true → Answers P (cond {A = Due × File} t (Exactly a, X) (e, F)).0 r → r ≡ a
due_of P true a r e X F h due = due
due_of P false a r e X F h due = (cc)

-- the last four replies
pub record Last (x : List ℕ) (rs : List Reply) : Type 0 where
  pub done : Reply
  pub verified : Reply
  pub is : rs ≡ done ∷ verified ∷ Size 200000 ∷ Bytes x ∷ []

-- a command that changes nothing, among others
still : (G : session.Ground) (Z : File) (c : Command) (cs : List Command) (r : Reply) (rs : List Reply) → changed Z c ≡ Z → AllAnswer G Z (c ∷ cs) (r ∷ rs)
    → Answers (TreeDecides G.answers G.setting G.limit Z c) (apply G.limit Z c).0 r × AllAnswer G Z cs rs
still G Z c cs r rs same h =
    (h.0, subst (λ (F : File). AllAnswer G F cs rs) (stays (valid G.limit Z c) (answer Z c) (Exactly (Refused (cause_of G.limit Z c))) (changed Z c) Z same) h.1)

module _ (G : session.Ground) (limit : G.limit ≡ Some 4) (Z : File) (x : List ℕ) (file : IsDemoFile Z x) where
  size_valid : valid G.limit Z command.Size ≡ true
  size_valid = subst (λ (l : Option ℕ). valid l Z command.Size ≡ true) (sym limit) (all_true true (none_missing (needed Z command.Size) 0 Z.chunks) true refl (present Z x (needed Z command.Size) file) refl)

  read_valid : valid G.limit Z (command.Read 0 200000) ≡ true
  read_valid = subst (λ (l : Option ℕ). valid l Z (command.Read 0 200000) ≡ true) (sym limit) (all_true true (none_missing (needed Z (command.Read 0 200000)) 0 Z.chunks) true refl (present Z x (needed Z (command.Read 0 200000)) file) refl)

  size_reply : (r : Reply) → Answers (TreeDecides G.answers G.setting G.limit Z command.Size) (apply G.limit Z command.Size).0 r → r ≡ Size Z.size
  size_reply r due = due_of (TreeDecides G.answers G.setting G.limit Z command.Size) (valid G.limit Z command.Size) (Size Z.size) r (Exactly (Refused (cause_of G.limit Z command.Size))) Z Z size_valid due

  read_reply : (r : Reply) → Answers (TreeDecides G.answers G.setting G.limit Z (command.Read 0 200000)) (apply G.limit Z (command.Read 0 200000)).0 r → r ≡ Bytes x
  read_reply r due =
      let end : min (0 + 200000) Z.size ≡ Z.size = omega (arith, size_is Z x file) in
      due_of (TreeDecides G.answers G.setting G.limit Z (command.Read 0 200000)) (valid G.limit Z (command.Read 0 200000))
      (Bytes (bytes_between Z.shape.chunk_size 0 (min (0 + 200000) Z.size) 0 Z.chunks)) r (Exactly (Refused (cause_of G.limit Z (command.Read 0 200000)))) Z Z read_valid due
      ∙ ap (λ (n : ℕ). Bytes (bytes_between Z.shape.chunk_size 0 n 0 Z.chunks)) end
      ∙ ap (λ (l : List ℕ). Bytes l) (read_plain Z x file.plain)

  last_replies : (rs : List Reply) → AllAnswer G Z (command.Sync ∷ command.Verify ∷ command.Size ∷ command.Read 0 200000 ∷ []) rs → Last x rs
  last_replies [] h = absurd h
  last_replies (a ∷ rs) h = after_sync rs (still G Z command.Sync (command.Verify ∷ command.Size ∷ command.Read 0 200000 ∷ []) a rs refl h).1
    where
      after_size : (b c : Reply) (rs : List Reply) → c ≡ Size Z.size → AllAnswer G Z (command.Read 0 200000 ∷ []) rs → Last x (a ∷ b ∷ c ∷ rs)
      after_size b c [] size h = absurd h
      after_size b c (d ∷ []) size h = let read = (still G Z (command.Read 0 200000) [] d [] refl h).0 in
          record { done = a; verified = b; is = λ i. a ∷ b ∷ (size ∙ ap Size (size_is Z x file)) i ∷ read_reply d read i ∷ [] }
      after_size b c (d ∷ e ∷ rs) size h = absurd (still G Z (command.Read 0 200000) [] d (e ∷ rs) refl h).1

      after_verify : (b : Reply) (rs : List Reply) → AllAnswer G Z (command.Size ∷ command.Read 0 200000 ∷ []) rs → Last x (a ∷ b ∷ rs)
      after_verify b [] h = absurd h
      after_verify b (c ∷ rs) h = let p = still G Z command.Size (command.Read 0 200000 ∷ []) c rs refl h in after_size b c rs (size_reply c p.0) p.1

      after_sync : (rs : List Reply) → AllAnswer G Z (command.Verify ∷ command.Size ∷ command.Read 0 200000 ∷ []) rs → Last x (a ∷ rs)
      after_sync [] h = absurd h
      after_sync (b ∷ rs) h = after_verify b rs (still G Z command.Verify (command.Size ∷ command.Read 0 200000 ∷ []) b rs refl h).1

-- ---- what the report tells

behind : {X : Type 0} (xs ys : List X) (k : ℕ) → slice_get (xs ++ ys) (length xs + k) ≡ slice_get ys k
behind [] ys k = let e : 0 + k ≡ k = omega arith in ap (slice_get ys) e
behind (x ∷ xs) ys k = let e : length (x ∷ xs) + k ≡ suc (length xs + k) = omega arith in ap (slice_get (x ∷ xs ++ ys)) e ∙ behind xs ys k

bytes_one : (a b : List ℕ) → ◌≡◌ {A = Option Reply} (Some (Bytes a)) (Some (Bytes b)) → a ≡ b
bytes_one a b h = (cc)

size_one : (a b : ℕ) → ◌≡◌ {A = Option Reply} (Some (Size a)) (Some (Size b)) → a ≡ b
size_one a b h = (cc)

told : (x : List ℕ) (rs front rest : List Reply) (storage : ℕ) (report : Report) → rs ≡ front ++ rest → Last x rest → Tells rs storage report → storage ≡ layout_by 16 16 65536 200000
    → report ≡ record { size = 200000; sum = sum x; storage = layout_by 16 16 65536 200000 }
told x rs front rest storage report split last tells is =
    let four : List Reply = last.done ∷ last.verified ∷ Size 200000 ∷ Bytes x ∷ [] in
    let all : rs ≡ front ++ (last.done ∷ last.verified ∷ Size 200000 ∷ Bytes x ∷ []) = split ∙ ap (λ (l : List Reply). front ++ l) last.is in
    let long : length rs ≡ length front + 4 = omega (arith, ap length all, length-append front (last.done ∷ last.verified ∷ Size 200000 ∷ Bytes x ∷ [])) in
    let at_read : length rs - 1 ≡ length front + 3 = omega (arith, long) in
    let at_size : length rs - 2 ≡ length front + 2 = omega (arith, long) in
    let read : slice_get rs (length rs - 1) ≡ Some (Bytes x) = ap (slice_get rs) at_read ∙ ap (λ (l : List Reply). slice_get l (length front + 3)) all ∙ behind front (last.done ∷ last.verified ∷ Size 200000 ∷ Bytes x ∷ []) 3 in
    let size : slice_get rs (length rs - 2) ≡ Some (Size 200000) = ap (slice_get rs) at_size ∙ ap (λ (l : List Reply). slice_get l (length front + 2)) all ∙ behind front (last.done ∷ last.verified ∷ Size 200000 ∷ Bytes x ∷ []) 2 in
    let bytes : tells.bytes ≡ x = bytes_one tells.bytes x (sym tells.read ∙ read) in
    let len : report.size ≡ 200000 = size_one report.size 200000 (sym tells.size ∙ size) in
    λ i. record { size = len i; sum = (tells.sum ∙ ap sum bytes) i; storage = (tells.stored ∙ is) i }

-- ---- the session

pub nonce_is : (cipher_of Aegis128L).nonce_len ≡ 16
unfolding cipher_of
nonce_is = refl

no_bytes : (kind : ErrorKind) (bytes : List ℕ) (x : Option Reply) → x ≡ Some (Bytes bytes) → x ≡ Some (Refused kind) → ⊥
no_bytes kind bytes x p q = let same : ◌≡◌ {A = Option Reply} (Some (Bytes bytes)) (Some (Refused kind)) = sym p ∙ q in (cc)

-- the storage of a file of this shape and size
length_of : (C : Cipher) (key b : List ℕ) (F : File) → Opens C key b F → F.shape ≡ demo_shape → F.size ≡ 200000 → length b ≡ layout_by 16 16 65536 200000
unfolding tag_len_of
length_of C key b F opens shape size =
    opens.is_file.length_fits ∙ ap (layout_len (shape_of C opens.header)) (sym opens.size) ∙ ap (λ (s : Shape). layout_len s F.size) (sym opens.shape)
    ∙ ap (λ (s : Shape). layout_len s F.size) shape ∙ ap (layout_len demo_shape) size

module _ (n : ℕ) (G : Ground) (law : IsLawful G.cipher) (nonce : G.cipher.nonce_len ≡ 16) (most : G.most ≡ Some 4) where
  -- a new file of the demo is empty
  empty : (s : Settings) (disk : Disk) (b : List ℕ) (file : Handle) → disk.bytes ≡ Some b → s.chunk_size ≡ 65536 → s.version ≡ 1 → Made G.cipher G.answers G.key s (over disk s.outside) file
      → (bytes : List ℕ) × (file.outside.bytes ≡ Some bytes) × ((F : File) → Opens G.cipher G.key bytes F → IsEmptyFile F)
  empty s disk b file bytes chunk version made = (held.1.bytes, held.1.tells, is)
    where
      held : (E : File) × Holds G.cipher file E × (E.chunks ≡ [])
      held = made.holds b bytes

      is : (F : File) → Opens G.cipher G.key held.1.bytes F → IsEmptyFile F
      is F opens =
          let own : IsFile G.cipher G.key held.1.bytes file.header = subst (λ (k : List ℕ). IsFile G.cipher k held.1.bytes file.header) made.key_is held.1.is_file in
          let same : F ≡ file_of G.cipher G.key file.header held.1.bytes = opens_one G.cipher law G.key held.1.bytes F (file_of G.cipher G.key file.header held.1.bytes) opens (opens_of G.cipher law G.key held.1.bytes file.header own) in
          let that : held.0 ≡ file_of G.cipher G.key file.header held.1.bytes = held.1.file ∙ ap (λ (k : List ℕ). file_of G.cipher k file.header held.1.bytes) made.key_is in
          record {
            shape = ap (λ (F : File). F.shape) same ∙ ap (shape_of G.cipher) made.header ∙ (λ i. record { version = version i; nonce_len = nonce i; chunk_size = chunk i });
            size = ap (λ (F : File). F.size) same ∙ ap (λ (h : Header). h.file_size) made.header;
            chunks = ap (λ (F : File). F.chunks) (same ∙ sym that) ∙ held.2;
          }

  answered_told : (s : Settings) (old new : Outside) (back : Disk) (bytes b : List ℕ) (rs : List Reply) (report : Report) → s.most ≡ G.most → old.bytes ≡ Some b
      → ((F : File) → Opens G.cipher G.key b F → IsEmptyFile F)
      → Answered (record { cipher = G.cipher; answers = G.answers; setting = s.outside.setting; limit = s.most; key = G.key }) b (demo_commands n) old new rs
      → back ≡ disk_in new → back.bytes ≡ Some bytes → Tells rs (length bytes) report → report ≡ demo_report n
  answered_told s old new back bytes b rs report own tells is_empty a disk holds report_told = by_run a.run
    where
      K : session.Ground
      K = record { cipher = G.cipher; answers = G.answers; setting = s.outside.setting; limit = s.most; key = G.key }

      limit : s.most ≡ Some 4
      limit = own ∙ most

      writes : List Command
      writes = command.Truncate 200000 ∷ demo_writes n

      ends : List Command
      ends = command.Sync ∷ command.Verify ∷ command.Size ∷ command.Read 0 200000 ∷ []

      Z : File
      Z = file_after s.most a.file writes

      grown : IsDemoFile Z (demo_bytes n)
      grown = subst (λ (l : Option ℕ). IsDemoFile (file_after l a.file writes) (demo_bytes n)) (sym limit) (writes_demo a.file (is_empty a.file a.opens) n)

      by_run : Whole K a.file b (demo_commands n) old new rs ⊎ Faulted K a.file b (demo_commands n) old new rs → report ≡ demo_report n
      by_run (inl w) =
          let p = parted K a.file writes ends rs w.course.played in
          let last = last_replies K limit Z (demo_bytes n) grown p.rest p.played in
          let same : bytes ≡ traced_bytes w = some_one bytes (traced_bytes w) (sym holds ∙ ap (λ (d : Disk). d.bytes) disk ∙ w.bytes) in
          told (demo_bytes n) rs p.front p.rest (length bytes) report p.split last report_told (ap length same ∙ stored w)
        where
          traced_bytes : Whole K a.file b (demo_commands n) old new rs → List ℕ
          traced_bytes w = traced s.most G.cipher G.key a.file (demo_commands n) w.nonces b

          some_one : (x y : List ℕ) → ◌≡◌ {A = Option (List ℕ)} (Some x) (Some y) → x ≡ y
          some_one x y h = (cc)

          stored : (w : Whole K a.file b (demo_commands n) old new rs) → length (traced_bytes w) ≡ layout_by 16 16 65536 200000
          stored w =
              let end : file_after s.most a.file (demo_commands n) ≡ Z = after_all s.most a.file writes in
              length_of G.cipher G.key (traced_bytes w) Z (subst (Opens G.cipher G.key (traced_bytes w)) end w.course.opens) grown.shape (size_is Z (demo_bytes n) grown)
      by_run (inr f) = absurd (no_bytes f.kind report_told.bytes (slice_get rs (length rs - 1)) report_told.read
          (ap (λ (l : List Reply). slice_get l (length l - 1)) f.last ∙ last_of f.answered (Refused f.kind)))

  pub demo_told : (disk : Disk) (b : List ℕ) (outcome : Result (List Reply) Error) (back : Disk) (bytes : List ℕ) (rs : List Reply) (report : Report) → disk.bytes ≡ Some b
      → EndsOn G (Create 65536 V1) (demo_commands n) disk outcome back → outcome ≡ Ok rs → back.bytes ≡ Some bytes → Tells rs (length bytes) report → report ≡ demo_report n
  demo_told disk b outcome back bytes rs report tells h is holds report_told = go h.4
    where
      go : ServedAnew G h.0 (demo_commands n) disk outcome back ⊎ RefusedAnew G h.0 disk outcome back → report ≡ demo_report n
      go (inl p) =
          let new = empty h.0 disk b p.file tells h.2 h.3 p.made in
          let answered = subst (λ (o : Result (List Reply) Error). IfOk o (λ rs. Answered (record { cipher = G.cipher; answers = G.answers; setting = p.opener.outside.setting; limit = p.opener.most; key = G.key })
          new.0 (demo_commands n) (over (disk_in p.file.outside) p.opener.outside) p.served.after rs)) is (p.served.meets.answered new.0 new.1) in
          answered_told p.opener (over (disk_in p.file.outside) p.opener.outside) p.served.after back bytes new.0 rs report p.hasher.most new.1 new.2 answered p.served.handed holds report_told
      go (inr p) = let odd : ◌≡◌ {A = Result (List Reply) Error} (Ok rs) (Err p.error) = sym is ∙ p.refusal in (cc)

-- the same for all that the code may report
pub demo_shown : (n : ℕ) (v : Variant) (key : List ℕ) (commands : List Command) (disk : Disk) (b : List ℕ) (outcome : Result (List Reply) Error) (back : Disk) (bytes : List ℕ) (rs : List Reply) (report : Option Report)
    → v ≡ Aegis128L → commands ≡ demo_commands n → disk.bytes ≡ Some b
    → EndsOn (record { cipher = cipher_of v; key = key; answers = answers_of (Some 4); most = Some 4; setting = setting_of (Some 4); random = None }) (Create 65536 V1) commands disk outcome back
    → outcome ≡ Ok rs → back.bytes ≡ Some bytes → IfSome report (Tells rs (length bytes)) → IfSome report (λ r. r ≡ demo_report n)
demo_shown n v key commands disk b outcome back bytes rs None is own tells ends ok holds h = tt
demo_shown n v key commands disk b outcome back bytes rs (Some r) is own tells ends ok holds h =
    let G : Ground = record { cipher = cipher_of v; key = key; answers = answers_of (Some 4); most = Some 4; setting = setting_of (Some 4); random = None } in
    demo_told n G (lawful v) (ap (λ (w : Variant). (cipher_of w).nonce_len) is ∙ nonce_is) refl disk b outcome back bytes rs r tells
    (subst (λ (cs : List Command). EndsOn G (Create 65536 V1) cs disk outcome back) own ends) ok holds h

-- ---- the code's sum

pub sum_next : (bytes : List ℕ) (i : ℕ) → i < length bytes → sum (drop i bytes) ≡ get_or bytes i 0 + sum (drop (i + 1) bytes)
sum_next bytes i lt =
    let first : sum (get_or bytes i 0 ∷ drop (i + 1) bytes) ≡ 0 + get_or bytes i 0 + sum (drop (i + 1) bytes) = sum_by_from (λ (x : ℕ). x) (0 + get_or bytes i 0) (drop (i + 1) bytes) in
    let zero_is : 0 + get_or bytes i 0 + sum (drop (i + 1) bytes) ≡ get_or bytes i 0 + sum (drop (i + 1) bytes) = omega arith in
    ap sum (drop_more bytes i 0 lt) ∙ first ∙ zero_is
