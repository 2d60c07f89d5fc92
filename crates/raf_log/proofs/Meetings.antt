-- A log's session, from an opening and the run of its commands.
use Rattle.std.proofs.Common.{◌≡◌, inl, inr, Bool, false, ℕ, ◌+◌, ◌<◌, ◌≤◌, ◌^◌, List, [], ◌∷◌, length, take, Option, Some, None, Result, Ok, Err, refl, sym, ◌∙◌, ap, subst, arith}
use Rattle.std.specs.Prelude.{◌⊎◌, unwrap_or}
use Rattle.std.specs.Option.{option_map}
use Rattle.std.proofs.lemmas.Bool.{false≢true}
use Rattle.std.proofs.lemmas.List.{take_all}
use Rattle.raf_io.specs.Source.{Takes}
use Rattle.raf_tree.specs.Hashing.{Hashing}
use Rattle.raf_tree.specs.Kept.{Kept as Tree}
use Rattle.raf_format.specs.Cipher.{Cipher}
use Rattle.raf_format.specs.File.{File, Shape, chunk_count, file_layout, layout_len, shape_of}
use Rattle.raf_format.specs.declared.header.Header.{Header}
use Rattle.raf_io.specs.Kinds.{kind_of}
use Rattle.raf_io.specs.declared.errors.Error.{Error}
use Rattle.raf_io.specs.declared.errors.Error.TheVariants as error
use Rattle.raf_io.specs.declared.errors.ErrorKind.TheVariants.{Io, InvalidArgument, AuthenticationFailed, AlreadyExists, NotFound, Overflow, MerkleNotEnabled, CorruptedChunk, Rng, Hash, Broken, OutOfMemory}
use Rattle.raf.specs.Apply.{file_after, longest}
use Rattle.raf.specs.Meaning.{Starved}
use Rattle.raf.specs.Image.{traced, asked_in, changes_in, traffic_in, calls_in}
use Rattle.raf.specs.Outside.{Outside, Kept, Quiet, Moved}
use Rattle.raf.specs.Handle.{Handle, Holds, WithTree, Grown, limit_of, hash_len_of, outline}
use Rattle.raf.specs.Opening.{Settings, NotOpened, Opened, Room, opening_traffic, opening_calls}
use Rattle.raf.specs.Loaded.{Sound}
use Rattle.raf.specs.Session.{Ground, Whole, Faulted, begun}
use Rattle.raf.specs.Unseen.{AllShaped, BoundedAlong, CutShort}
use Rattle.raf.specs.Unseen.Mark.{Clear}
use Rattle.raf.specs.Ran.{ground, Ended, Ran}
use Rattle.raf.specs.declared.command.Command.{Command}
use Rattle.raf.specs.declared.command.Reply.{Reply}
use Rattle.raf_log.specs.Kinds.{log_kind, opening_refusal, opening_kind}
use Rattle.raf_log.specs.Log.{LogHandle, LogFile, KeepsLog, Extent, extent_of, extent_in}
use Rattle.raf_log.specs.Opening.{Looked, LogOpened, LogNotOpened, WhyNoLog, IsNoLog, pieces_traffic}
use Rattle.raf_log.specs.Parts.{Parts}
use Rattle.raf_log.specs.Session.{log_rooms, LogWhole, LogFaulted, LogFileRan, LogRan, LogByNumbers, NoLog, LogMeets}
use Rattle.raf_log.specs.Ran.{LogEnded, LogServes, ServesFile}
use Rattle.raf_log.specs.declared.command.LogCommand.{LogCommand}
use Rattle.raf_log.specs.declared.command.LogReply.{LogReply}
use Rattle.raf_log.specs.declared.error.LogError.{LogError}
use Rattle.raf_log.specs.declared.error.LogErrorKind.{LogErrorKind}
use Rattle.raf_log.specs.declared.error.LogErrorKind.TheVariants as log
use Rattle.raf.proofs.Moves.{moved_then, moved_less, quiet_then, caused_later}
use Rattle.raf_log.proofs.Asked.{parts_even}
use Rattle.raf_log.proofs.Sweeps.{fault_after}

-- an opening's refusal has the kind of its own
kinds_agree : (e : Error) → log_kind (opening_refusal e) ≡ opening_kind (kind_of e)
kinds_agree (error.Io f) = refl
kinds_agree (error.InvalidArgument r) = refl
kinds_agree error.AuthenticationFailed = refl
kinds_agree error.AlreadyExists = refl
kinds_agree error.NotFound = refl
kinds_agree error.Overflow = refl
kinds_agree error.MerkleNotEnabled = refl
kinds_agree (error.CorruptedChunk i) = refl
kinds_agree error.Rng = refl
kinds_agree error.Hash = refl
kinds_agree error.Broken = refl
kinds_agree error.OutOfMemory = refl

longest_first : (limit : Option ℕ) (F : File) (asks : List Command) → file_layout F ≤ longest limit F asks
longest_first limit F [] = omega arith
longest_first limit F (c ∷ asks) = omega arith

same_told : (told : Option (List ℕ)) (x y : List ℕ) → told ≡ Some x → told ≡ Some y → x ≡ y
same_told told x y a b = inner (sym a ∙ b)
  where
    inner : Some x ≡ Some y → x ≡ y
    inner same = cc

module _ (C : Cipher) (E : List ℕ → Hashing) (key : List ℕ) (s : Settings) (commands : List LogCommand) (before : Outside) where
  -- an opening that was refused
  pub not_opened : (after : Outside) (e : Error) → log_rooms (hash_len_of E s.outside.setting) commands < 2 ^ 64 → NotOpened C E key s.most before after (kind_of e)
      → LogMeets C E key s commands before after (Err (opening_refusal e))
  not_opened after e fits n = record {
    refused = inr (fits, inl (kind_of e, kinds_agree e, n));
    fits = tt;
    answered = λ b tells. tt;
    numbers = tt;
    setting = n.looked.later.setting;
  }

  module _ (h : Handle) (opened : Opened C E key s.most before h) (setting : before.setting ≡ s.outside.setting) where
    abbrev G : Ground
    G = record { cipher = C; answers = E; setting = s.outside.setting; limit = s.most; key = key }

    -- what reads leave is what was there before the opening
    kept : (new : Handle) → Looked C h new → (b : List ℕ) → before.bytes ≡ Some b → Kept before new.outside
    kept new l b tells =
        let o = opened.holds b tells in
        record {
          bytes = l.bytes ∙ opened.looked.kept.bytes;
          durable = l.durable ∙ opened.looked.kept.durable;
          left = l.left o.0 o.2 ∙ opened.looked.kept.left;
        }

    room : (b : List ℕ) (tells : before.bytes ≡ Some b) → Room E before.setting s.most (length (opened.holds b tells).0.chunks)
    room b tells =
        let o = opened.holds b tells in
        let count : length o.0.chunks ≡ chunk_count h.header.chunk_size h.header.file_size =
        o.1.count
        ∙ ap (λ (x : Shape). chunk_count x.chunk_size o.1.header.file_size) (sym o.1.shape)
        ∙ ap (λ (k : ℕ). chunk_count o.0.shape.chunk_size k) (sym o.1.size)
        ∙ ap (λ (f : File). chunk_count f.shape.chunk_size f.size) o.2.file in
        subst (Room E before.setting s.most) (sym count) opened.room

    -- ---- a file that is no log

    no_log : (new : Handle) (kind : LogErrorKind) → LogNotOpened C h new kind → NoLog C E key s before new.outside kind
    no_log new kind n = record {
      why = λ b tells. let o = opened.holds b tells in (o.0, o.1, room b tells, why o.0 o.2 kind n.why);
      fault = fault_after kind before h.outside new.outside opened.quiet n.fault;
      kept = λ b tells. kept new n.looked b tells;
    }
      where
        why : (F : File) → Holds C h F → (kind : LogErrorKind) → WhyNoLog C h kind → IsNoLog F kind
        why F held (log.Raf Broken) set = absurd (false≢true (sym opened.unmarked ∙ set))
        why F held (log.Raf Io) w = tt
        why F held (log.Raf AuthenticationFailed) w = w.1 F held
        why F held (log.Raf (InvalidArgument r)) w = absurd w
        why F held (log.Raf AlreadyExists) w = absurd w
        why F held (log.Raf NotFound) w = absurd w
        why F held (log.Raf Overflow) w = absurd w
        why F held (log.Raf MerkleNotEnabled) w = absurd w
        why F held (log.Raf (CorruptedChunk i)) w = absurd w
        why F held (log.Raf Rng) w = absurd w
        why F held (log.Raf Hash) w = absurd w
        why F held (log.Raf OutOfMemory) w = absurd w
        why F held log.Format w = w.1 F held
        why F held log.TooLong w = absurd w
        why F held log.OutOfMemory w = tt
        why F held log.Overflow w = absurd w

    -- ---- commands on a log

    module _ (l : LogHandle) (lo : LogOpened C h l) where
      ground_is : ground C E l.file ≡ G
      ground_is = λ i. record {
        cipher = C;
        answers = E;
        setting = (lo.looked.setting ∙ opened.looked.later.setting ∙ setting) i;
        limit = (ap (option_map (λ (t : Tree). t.max_chunks)) lo.looked.tree ∙ opened.limit) i;
        key = (lo.looked.key ∙ opened.key_is) i;
      }

      quiet : Quiet before l.file.outside
      quiet = quiet_then before h.outside l.file.outside opened.quiet lo.quiet

      unmarked : l.file.broken ≡ false
      unmarked = lo.looked.broken ∙ opened.unmarked

      limit : limit_of l.file ≡ s.most
      limit = ap (option_map (λ (t : Tree). t.max_chunks)) lo.looked.tree ∙ opened.limit

      grown_on : (F : File) → WithTree E h (Grown F) → WithTree E l.file (Grown F)
      grown_on F grown x t set tree = grown x t (sym lo.looked.setting ∙ set) (sym lo.looked.tree ∙ tree)

      run_from : (L : LogFile) (after : Outside) (replies : List LogReply) → LogWhole G L commands l.file.outside after replies ⊎ LogFaulted G L commands l.file.outside after replies
          → LogWhole G L commands before after replies ⊎ LogFaulted G L commands before after replies
      run_from L after replies (inl w) = inl (record { played = w.played; ends = w.ends; quiet = quiet_then before l.file.outside after quiet w.quiet })
      run_from L after replies (inr f) = inr (record {
        done = f.done;
        command = f.command;
        rest = f.rest;
        split = f.split;
        answered = f.answered;
        kind = f.kind;
        last = f.last;
        played = f.played;
        cause = caused_later f.kind before l.file.outside after quiet f.cause;
      })

      module _ (b : List ℕ) (tells : before.bytes ≡ Some b) where
        abbrev F : File
        F = (opened.holds b tells).0

        held : Holds C h (opened.holds b tells).0
        held = (opened.holds b tells).2

        keeps : KeepsLog C l (record { file = (opened.holds b tells).0; entries = (lo.log (opened.holds b tells).0 (opened.holds b tells).2).0 })
        keeps = (lo.log (opened.holds b tells).0 (opened.holds b tells).2).1

        left : l.file.outside.left ≡ before.left
        left = lo.looked.left F held ∙ opened.looked.kept.left

        exact : l.file.outside.exact ≡ before.exact
        exact = (lo.asked F (inl held)).exact ∙ opened.looked.later.exact

        -- the file's run, as it is seen from before both openings
        file_from : (asks : List Command) (answers : List Reply) (after : Outside)
            → Whole G (opened.holds b tells).0 b asks l.file.outside after answers ⊎ Faulted G (opened.holds b tells).0 b asks l.file.outside after answers
            → Whole G (opened.holds b tells).0 b asks before after answers ⊎ Faulted G (opened.holds b tells).0 b asks before after answers
        file_from asks answers after (inl w) = inl (record {
          nonces = w.nonces;
          course = w.course;
          bytes = w.bytes;
          left = subst (λ (o : Option (List ℕ)). Takes o w.nonces after.left) left w.left;
          quiet = quiet_then before l.file.outside after quiet w.quiet;
          settled = w.settled;
        })
        file_from asks answers after (inr f) = inr (record {
          done = f.done;
          command = f.command;
          rest = f.rest;
          split = f.split;
          answered = f.answered;
          kind = f.kind;
          last = f.last;
          nonces = f.nonces;
          course = f.course;
          cause = caused_later f.kind before l.file.outside after quiet f.cause;
          due = f.due;
          middle = f.middle;
          short = λ is ex. f.short is (exact ∙ ex);
          taken = subst (λ (o : Option (List ℕ)). Takes o f.nonces f.middle) left f.taken;
          left = f.left;
          starved = λ is.
              subst (λ (x : Bool). Starved G.cipher G.key (file_after G.limit (opened.holds b tells).0 f.done) f.command (traced G.limit G.cipher G.key (opened.holds b tells).0 f.done f.nonces b) x f.middle after.bytes)
              exact (f.starved is);
          bytes = f.bytes;
          tells = f.tells;
          settled = f.settled;
          spares = f.spares;
        })

        file_ran : (asks : List Command) (answers : List Reply) (now : Handle) → length asks ≡ length answers → Ended C E l.file now asks answers
            → LogFileRan G (opened.holds b tells).0 b asks before now.outside answers
        file_ran asks answers now even ended =
            let o = opened.holds b tells in
            let same : keeps.holds.bytes ≡ b = same_told l.file.outside.bytes keeps.holds.bytes b keeps.holds.tells (lo.looked.bytes ∙ opened.looked.kept.bytes ∙ tells) in
            let ran : Ran (ground C E l.file) (opened.holds b tells).0 keeps.holds.bytes asks l.file.outside now.outside answers = ended.told F keeps.holds (grown_on F o.3) unmarked in
            let all : Ran G (opened.holds b tells).0 b asks l.file.outside now.outside answers =
            subst (λ (x : List ℕ). Ran G (opened.holds b tells).0 x asks l.file.outside now.outside answers) same
            (subst (λ (g : Ground). Ran g (opened.holds b tells).0 keeps.holds.bytes asks l.file.outside now.outside answers) ground_is ran) in
            let every : begun G asks answers ≡ asks = take_all (length answers) asks (omega (arith, even)) in
            let moved : Moved l.file.outside now.outside (longest s.most F asks) (traffic_in s.most F asks) (asked_in s.most F asks) (changes_in s.most F asks) (calls_in s.most F asks) =
            subst (λ (x : List Command). Moved l.file.outside now.outside (longest s.most F x) (traffic_in s.most F x) (asked_in s.most F x) (changes_in s.most F x) (calls_in s.most F x)) every all.moved in
            let swept : Moved h.outside l.file.outside (file_layout F) (pieces_traffic s.most F) 0 0 0 =
            subst (λ (m : Option ℕ). Moved h.outside l.file.outside (file_layout F) (pieces_traffic m F) 0 0 0) opened.limit (lo.asked F (inl held)) in
            let looked = opened.looked in
            let look = opened.looked.moved b tells in
            let size : length b ≡ file_layout F =
            o.1.is_file.length_fits ∙ ap (λ (n : ℕ). layout_len (shape_of C o.1.header) n) (sym o.1.size) ∙ ap (λ (x : Shape). layout_len x F.size) (sym o.1.shape) in
            record {
              run = file_from asks answers now.outside all.run;
              reach = omega (arith, moved.reach_most, swept.reach_most, look.reach_most, size, longest_first s.most F asks);
              traffic = omega (arith, moved.traffic_most, swept.traffic_most, traffic_whole s.most (length b) look.traffic_most);
              asked = omega (arith, moved.asked_most, swept.asked_most, looked.later.asked_most);
              changes = omega (arith, moved.changes_most, swept.changes_most, looked.later.changes_most);
              calls = omega (arith, moved.calls_most, swept.calls_most, calls_of);
              strays = all.strays ∙ lo.looked.strays F held ∙ looked.strays b tells;
            }
          where
            traffic_whole : (most : Option ℕ) (len : ℕ) → h.outside.traffic ≤ before.traffic + opening_traffic most len → h.outside.traffic ≤ before.traffic + len
            traffic_whole None len le = omega (arith, le)
            traffic_whole (Some n) len le = le

            calls_of : h.outside.calls ≤ before.calls + opening_calls s.most (length F.chunks)
            calls_of =
                let o = (opened.holds b tells).1 in
                subst (λ (n : ℕ). h.outside.calls ≤ before.calls + opening_calls s.most n) (sym o.count) (opened.looked.calls b o.header tells o.is_file.says)

        ran : (now : LogHandle) (replies : List LogReply) → LogEnded C E l now commands replies → LogRan G b commands before now.file.outside replies
        ran now replies ended =
            let o = opened.holds b tells in
            let L : LogFile = record { file = (opened.holds b tells).0; entries = (lo.log (opened.holds b tells).0 (opened.holds b tells).2).0 } in
            let all = ended.told L keeps (grown_on F o.3) unmarked in
            let extent : extent_of l ≡ extent_in L = λ i. record { starts = keeps.starts i; size = sym (ap (λ (f : File). f.size) keeps.holds.file) i } in
            record {
              log = L;
              opens = o.1;
              room = subst (λ (x : Option (List ℕ)). Room E x s.most (length F.chunks)) setting (room b tells);
              is_log = keeps.is_log;
              run = run_from L now.file.outside replies
                  (subst (λ (g : Ground). LogWhole g L commands l.file.outside now.file.outside replies ⊎ LogFaulted g L commands l.file.outside now.file.outside replies) ground_is all);
              asks = ended.asks;
              answers = ended.answers;
              parts = subst (λ (e : Extent). Parts e (take (length replies) commands) replies ended.asks ended.answers) extent ended.parts;
              file = file_ran ended.asks ended.answers now.file (parts_even (extent_of l) (take (length replies) commands) replies ended.asks ended.answers ended.parts) ended.ended;
            }

      -- over any storage
      numbers : (now : LogHandle) (replies : List LogReply) → LogEnded C E l now commands replies → LogByNumbers C s.most commands before now.file.outside replies
      numbers now replies ended =
          let n = ended.ended.numbers unmarked in
          let N : File = outline C l.file.header in
          let same = sym lo.looked.header in
          let opening : Moved before h.outside (file_layout N) (opening_traffic s.most (file_layout N)) 0 0 (opening_calls s.most (chunk_count l.file.header.chunk_size l.file.header.file_size)) =
          subst (λ (x : Header). Moved before h.outside (layout_len (shape_of C x) x.file_size) (opening_traffic s.most (layout_len (shape_of C x) x.file_size)) 0 0
          (opening_calls s.most (chunk_count x.chunk_size x.file_size))) same opened.moved in
          let swept : Moved h.outside l.file.outside (file_layout N) (pieces_traffic s.most N) 0 0 0 =
          subst (λ (x : Header). Moved h.outside l.file.outside (file_layout (outline C x)) (pieces_traffic s.most (outline C x)) 0 0 0) same
          (subst (λ (m : Option ℕ). Moved h.outside l.file.outside (file_layout (outline C h.header)) (pieces_traffic m (outline C h.header)) 0 0 0) opened.limit (lo.asked (outline C h.header) (inr refl))) in
          let ran = subst (λ (m : Option ℕ). BoundedAlong m N ended.asks ended.answers l.file.outside now.file.outside) limit n.moved in
          record {
            extent = extent_of l;
            spaced = lo.spaced;
            asks = ended.asks;
            answers = ended.answers;
            parts = ended.parts;
            file = record {
              header = l.file.header;
              sound = subst (Sound C) same opened.sound;
              run = run ended.asks ended.answers n.run;
              moved = moved_less before now.file.outside _ _ _ _ _ _ _ _ _ _
                  (moved_then before l.file.outside now.file.outside _ _ _ _ _ _ _ _ _ _ (moved_then before h.outside l.file.outside _ _ _ _ _ _ _ _ _ _ opening swept) ran)
                  (omega arith) (omega arith) (omega arith) (omega arith) (omega arith);
            };
            size = refl;
          }
        where
          run : (asks : List Command) (answers : List Reply)
              → (AllShaped (limit_of l.file) Clear (outline C l.file.header) asks answers × Quiet l.file.outside now.file.outside) ⊎ CutShort (limit_of l.file) (outline C l.file.header) asks l.file.outside now.file.outside answers
              → (AllShaped s.most Clear (outline C l.file.header) asks answers × Quiet before now.file.outside) ⊎ CutShort s.most (outline C l.file.header) asks before now.file.outside answers
          run asks answers (inl whole) = inl (
            subst (λ (m : Option ℕ). AllShaped m Clear (outline C l.file.header) asks answers) limit whole.0,
            quiet_then before l.file.outside now.file.outside quiet whole.1,
          )
          run asks answers (inr cut) = inr (subst (λ (m : Option ℕ). CutShort m (outline C l.file.header) asks before now.file.outside answers) limit (record {
            done = cut.done;
            command = cut.command;
            rest = cut.rest;
            split = cut.split;
            answered = cut.answered;
            kind = cut.kind;
            last = cut.last;
            shaped = cut.shaped;
            cause = caused_later cut.kind before l.file.outside now.file.outside quiet cut.cause;
            may = cut.may;
          }))

      served : (after : Outside) (outcome : Result (List LogReply) LogError) → log_rooms (hash_len_of E s.outside.setting) commands < 2 ^ 64 → LogServes C E l commands after outcome
          → LogMeets C E key s commands before after outcome
      served after (Ok replies) fits serves =
          let now = serves.answered.0 in
          let by = numbers now replies serves.answered.1 in
          subst (λ (o : Outside). LogMeets C E key s commands before o (Ok replies)) (sym serves.answered.2) (record {
            refused = tt;
            fits = fits;
            answered = λ b tells. ran b tells now replies serves.answered.1;
            numbers = by;
            setting = by.file.moved.setting;
          })
      served after (Err e) fits serves =
          subst (λ (o : Outside). LogMeets C E key s commands before o (Err e)) (sym serves.none.1) (record {
            refused = inr (
              fits,
              inr (subst (λ (k : LogErrorKind). NoLog C E key s before l.file.outside k) (sym serves.none.0) (record {
                why = λ b tells. let o = opened.holds b tells in (o.0, o.1, room b tells, tt);
                fault = quiet;
                kept = λ b tells. kept l.file lo.looked b tells;
              })),
            );
            fits = tt;
            answered = λ b tells. tt;
            numbers = tt;
            setting = lo.looked.setting ∙ opened.looked.later.setting;
          })

    pub meets : (after : Outside) (outcome : Result (List LogReply) LogError) → log_rooms (hash_len_of E s.outside.setting) commands < 2 ^ 64 → ServesFile C E h commands after outcome
        → LogMeets C E key s commands before after outcome
    meets after outcome fits (inl (l, lo, serves)) = served l lo after outcome fits serves
    meets after (Ok replies) fits (inr (new, is, none, refused)) = absurd none
    meets after (Err e) fits (inr (new, is, _, refused)) =
        subst (λ (o : Outside). LogMeets C E key s commands before o (Err e)) (sym is) (record {
          refused = inr (fits, inr (no_log new (log_kind e) refused));
          fits = tt;
          answered = λ b tells. tt;
          numbers = tt;
          setting = refused.looked.setting ∙ opened.looked.later.setting;
        })

-- how long a hash is, and 0 without a hasher
pub len_of : (E : List ℕ → Hashing) (setting : Option (List ℕ)) → unwrap_or (option_map (λ s. (E s).len) setting) 0 ≡ hash_len_of E setting
len_of E None = refl
len_of E (Some s) = refl
