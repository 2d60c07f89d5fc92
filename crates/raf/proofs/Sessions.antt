-- A session, from an opening and the run of its commands.
use Rattle.std.proofs.Common.{◌≡◌, inl, inr, Bool, true, ℕ, ◌+◌, ◌≤◌, ◌<◌, ◌^◌, List, [], ◌∷◌, length, Option, Some, None, Result, Ok, Err, refl, sym, ◌∙◌, ap, subst, arith}
use Rattle.std.specs.Prelude.{◌⊎◌}
use Rattle.raf_io.specs.Source.{Takes}
use Rattle.raf_io.specs.declared.errors.Error.{Error}
use Rattle.raf_io.specs.declared.errors.ErrorKind.{ErrorKind}
use Rattle.raf_io.specs.declared.errors.ErrorKind.TheVariants.{OutOfMemory}
use Rattle.std.specs.Option.{option_map}
use Rattle.raf_tree.specs.Hashing.{Hashing}
use Rattle.raf_tree.specs.Kept.{Kept}
use Rattle.raf_format.specs.Cipher.{Cipher}
use Rattle.raf_format.specs.File.{File, Shape, Opens, file_layout, layout_len, chunk_count, shape_of}
use Rattle.raf.specs.Apply.{file_after, longest}
use Rattle.raf.specs.Concern.{none_missing}
use Rattle.raf.specs.Image.{traced}
use Rattle.raf.specs.Meaning.{Starved}
use Rattle.raf.specs.Outside.{Outside, Quiet}
use Rattle.raf.specs.Handle.{Handle, Holds, WithTree, Grown, limit_of, hash_len_of, outline}
use Rattle.raf.specs.Opening.{Settings, Room, NotOpened, Opened, opening_traffic, opening_calls}
use Rattle.raf.specs.Session.{Ground, Whole, Faulted, Answered, Meets, begun, room_total}
use Rattle.raf.specs.Unseen.{AllShaped, BoundedAlong, ByNumbers, CutShort}
use Rattle.raf.specs.Unseen.Mark.{Clear}
use Rattle.raf.specs.Ran.{Ended, Ran, Serves, ground}
use Rattle.raf.specs.declared.command.Command.{Command}
use Rattle.raf.specs.declared.command.Reply.{Reply}
use Rattle.raf.proofs.Decided.{all_present}
use Rattle.raf.proofs.Moves.{moved_then, moved_less, quiet_then, caused_later}

longest_first : (limit : Option ℕ) (F : File) (commands : List Command) → file_layout F ≤ longest limit F commands
longest_first limit F [] = omega arith
longest_first limit F (c ∷ commands) = omega arith

same_told : (told : Option (List ℕ)) (x y : List ℕ) → told ≡ Some x → told ≡ Some y → x ≡ y
same_told told x y a b = inner (sym a ∙ b)
  where
    inner : Some x ≡ Some y → x ≡ y
    inner same = cc

module _ (C : Cipher) (E : List ℕ → Hashing) (key : List ℕ) (s : Settings) (commands : List Command) (before : Outside) (h : Handle)
    (opened : Opened C E key s.most before h) (setting : before.setting ≡ s.outside.setting) where
  abbrev G : Ground
  G = record { cipher = C; answers = E; setting = s.outside.setting; limit = s.most; key = key }

  ground_is : ground C E h ≡ G
  ground_is = λ i. record { cipher = C; answers = E; setting = (opened.looked.later.setting ∙ setting) i; limit = opened.limit i; key = opened.key_is i }

  -- the run, as it is seen from before the opening
  run_from : (F : File) (b : List ℕ) (after : Outside) (replies : List Reply) → Whole G F b commands h.outside after replies ⊎ Faulted G F b commands h.outside after replies
      → Whole G F b commands before after replies ⊎ Faulted G F b commands before after replies
  run_from F b after replies (inl w) = inl (record {
    nonces = w.nonces;
    course = w.course;
    bytes = w.bytes;
    left = subst (λ (o : Option (List ℕ)). Takes o w.nonces after.left) opened.looked.kept.left w.left;
    quiet = quiet_then before h.outside after opened.quiet w.quiet;
    settled = w.settled;
  })
  run_from F b after replies (inr f) = inr (record {
    done = f.done;
    command = f.command;
    rest = f.rest;
    split = f.split;
    answered = f.answered;
    kind = f.kind;
    last = f.last;
    nonces = f.nonces;
    course = f.course;
    cause = caused_later f.kind before h.outside after opened.quiet f.cause;
    due = f.due;
    middle = f.middle;
    short = λ is exact. f.short is (opened.looked.later.exact ∙ exact);
    taken = subst (λ (o : Option (List ℕ)). Takes o f.nonces f.middle) opened.looked.kept.left f.taken;
    left = f.left;
    starved = λ is. subst (λ (x : Bool). Starved C key (file_after s.most F f.done) f.command (traced s.most C key F f.done f.nonces b) x f.middle after.bytes) opened.looked.later.exact (f.starved is);
    bytes = f.bytes;
    tells = f.tells;
    settled = f.settled;
    spares = f.spares;
  })

  answered_from : (now : Handle) (replies : List Reply) → Ended C E h now commands replies → (b : List ℕ) → before.bytes ≡ Some b → Answered G b commands before now.outside replies
  answered_from now replies ended b tells =
      let held = opened.holds b tells in
      let F = held.0 in
      let opens = held.1 in
      let same : held.2.bytes ≡ b = same_told h.outside.bytes held.2.bytes b held.2.tells (opened.looked.kept.bytes ∙ tells) in
      let ran = ended.told F held.2 held.3 opened.unmarked in
      let all : Ran G F b commands h.outside now.outside replies =
      subst (λ (l : List ℕ). Ran G F l commands h.outside now.outside replies) same (subst (λ (g : Ground). Ran g F held.2.bytes commands h.outside now.outside replies) ground_is ran) in
      let looked = opened.looked in
      let look = looked.moved b tells in
      let moved = all.moved in
      let size : length b ≡ file_layout F =
      opens.is_file.length_fits ∙ ap (λ (n : ℕ). layout_len (shape_of C opens.header) n) (sym opens.size) ∙ ap (λ (x : Rattle.raf_format.specs.File.Shape). layout_len x F.size) (sym opens.shape) in
      record {
        file = F;
        opens = opens;
        room = room_is F held.2 b opens;
        present = present_is F held.3;
        run = run_from F b now.outside replies all.run;
        reach = omega (arith, moved.reach_most, look.reach_most, size, longest_first s.most F (begun G commands replies));
        traffic = omega (arith, moved.traffic_most, look.traffic_most);
        asked = omega (arith, moved.asked_most, looked.later.asked_most);
        changes = omega (arith, moved.changes_most, looked.later.changes_most);
        calls = omega (arith, moved.calls_most, calls_of b tells F opens);
        strays = all.strays ∙ looked.strays b tells;
      }
    where
      room_is : (F : File) → Holds C h F → (b : List ℕ) → Opens C key b F → Room E s.outside.setting s.most (length F.chunks)
      room_is F held b o =
          let cs : o.header.chunk_size ≡ h.header.chunk_size = ap (λ (x : Shape). x.chunk_size) (sym o.shape ∙ ap (λ (f : File). f.shape) held.file) in
          let size : o.header.file_size ≡ h.header.file_size = sym o.size ∙ ap (λ (f : File). f.size) held.file in
          let count : length F.chunks ≡ chunk_count h.header.chunk_size h.header.file_size =
          o.count ∙ ap (λ (n : ℕ). chunk_count n o.header.file_size) cs ∙ ap (λ (n : ℕ). chunk_count h.header.chunk_size n) size in
          subst (λ (x : Option (List ℕ)). Room E x s.most (length F.chunks)) setting (subst (λ (n : ℕ). Room E before.setting s.most n) (sym count) opened.room)

      present_is : (F : File) → WithTree E h (Grown F) → (x : List ℕ) (n : ℕ) → s.outside.setting ≡ Some x → s.most ≡ Some n → none_missing (λ _. true) 0 F.chunks ≡ true
      present_is F grown x n is limit = go h.tree refl
        where
          go : (t : Option Kept) → h.tree ≡ t → none_missing (λ _. true) 0 F.chunks ≡ true
          go None none = let odd : ◌≡◌ {A = Option ℕ} None (Some n) = sym (ap (option_map (λ (t : Kept). t.max_chunks)) none) ∙ opened.limit ∙ limit in (cc)
          go (Some t) tree =
              let g : Grown F (E x) t = grown x t (opened.looked.later.setting ∙ setting ∙ is) tree in
              ap (none_missing (λ _. true) 0) g.present ∙ all_present 0 g.chunks

      calls_of : (b : List ℕ) → before.bytes ≡ Some b → (F : File) (o : Opens C key b F) → h.outside.calls ≤ before.calls + opening_calls s.most (length F.chunks)
      calls_of b tells F o =
          subst (λ (n : ℕ). h.outside.calls ≤ before.calls + opening_calls s.most n) (sym o.count) (opened.looked.calls b o.header tells o.is_file.says)

  numbers_from : (now : Handle) (replies : List Reply) → Ended C E h now commands replies
      → ByNumbers C s.most (λ N. opening_traffic s.most (file_layout N)) commands before now.outside replies
  numbers_from now replies ended =
      let n = ended.numbers opened.unmarked in
      let N : File = outline C h.header in
      let m = subst (λ (l : Option ℕ). BoundedAlong l N commands replies h.outside now.outside) opened.limit n.moved in
      record {
        header = h.header;
        sound = opened.sound;
        run = run n.run;
        moved = moved_less before now.outside _ _ _ _ _ _ _ _ _ _ (moved_then before h.outside now.outside _ _ _ _ _ _ _ _ _ _ opened.moved m)
            (omega arith) (omega arith) (omega arith) (omega arith) (omega arith);
      }
    where
      run : (AllShaped (limit_of h) Clear (outline C h.header) commands replies × Quiet h.outside now.outside) ⊎ CutShort (limit_of h) (outline C h.header) commands h.outside now.outside replies
          → (AllShaped s.most Clear (outline C h.header) commands replies × Quiet before now.outside) ⊎ CutShort s.most (outline C h.header) commands before now.outside replies
      run (inl whole) = inl (subst (λ (l : Option ℕ). AllShaped l Clear (outline C h.header) commands replies) opened.limit whole.0, quiet_then before h.outside now.outside opened.quiet whole.1)
      run (inr cut) = inr (at_limit (record {
        done = cut.done;
        command = cut.command;
        rest = cut.rest;
        split = cut.split;
        answered = cut.answered;
        kind = cut.kind;
        last = cut.last;
        shaped = cut.shaped;
        cause = caused_later cut.kind before h.outside now.outside opened.quiet cut.cause;
        may = cut.may;
      }))
        where
          at_limit : CutShort (limit_of h) (outline C h.header) commands before now.outside replies → CutShort s.most (outline C h.header) commands before now.outside replies
          at_limit c = subst (λ (l : Option ℕ). CutShort l (outline C h.header) commands before now.outside replies) opened.limit c

  -- no memory was found for the replies
  refused_room : NotOpened C E key s.most before h.outside OutOfMemory
  refused_room = record {
    why = λ b tells.
        let o = (opened.holds b tells).1 in
        inr (o.header, record { says = o.is_file.says; algorithm = o.is_file.algorithm; length_fits = o.is_file.length_fits }, tt);
    numbers = (0, tt);
    fault = opened.quiet;
    looked = opened.looked;
  }

  pub meets : (after : Outside) (outcome : Result (List Reply) Error) → room_total (hash_len_of E s.outside.setting) commands < 2 ^ 64 → Serves C E h commands after outcome
      → Meets C E key s commands before after outcome
  meets after (Ok replies) fits serves =
      let now = serves.answered.0 in
      subst (λ (o : Outside). Meets C E key s commands before o (Ok replies)) (sym serves.answered.2) (record {
        refused = tt;
        fits = fits;
        answered = answered_from now replies serves.answered.1;
        numbers = numbers_from now replies serves.answered.1;
        setting = (moved_then before h.outside now.outside _ _ _ _ _ _ _ _ _ _ opened.looked.later (serves.answered.1.numbers opened.unmarked).moved).setting;
      })
  meets after (Err e) fits serves =
      subst (λ (o : Outside). Meets C E key s commands before o (Err e)) (sym serves.none.1) (record {
        refused = inr (fits, subst (λ (k : ErrorKind). NotOpened C E key s.most before h.outside k) (sym serves.none.0) refused_room);
        fits = tt;
        answered = λ b tells. tt;
        numbers = tt;
        setting = opened.looked.later.setting;
      })
