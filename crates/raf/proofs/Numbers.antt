-- A run by numbers goes on by a command, over any storage.
use Rattle.std.proofs.Common.{◌≡◌, inl, inr, Bool, true, false, cond, not, ℕ, ◌+◌, max, List, [], ◌∷◌, ◌++◌, Option, refl, sym, ◌∙◌, ap, subst, arith}
use Rattle.std.specs.Prelude.{◌⊎◌}
use Rattle.std.proofs.lemmas.Bool.{false≢true}
use Rattle.raf_tree.specs.Hashing.{Hashing}
use Rattle.raf_format.specs.Cipher.{Cipher}
use Rattle.raf_format.specs.File.{File}
use Rattle.raf_format.specs.declared.header.Header.{Header}
use Rattle.raf.specs.Due.{Due, Answers, is_fault, is_refused}
use Rattle.raf.specs.Due.Due.{Exactly}
use Rattle.raf.specs.Apply.{apply, answer, changed, cause_of}
use Rattle.raf.specs.Concern.{size_after, valid, fits, needed, none_missing}
use Rattle.raf.specs.Image.{asked_by, changes_by, traffic_by, calls_by}
use Rattle.raf.specs.Meaning.{Faultable}
use Rattle.raf.specs.Outside.{Quiet}
use Rattle.raf.specs.Handle.{Handle, limit_of, outline}
use Rattle.raf.specs.Stepped.{Stepped, Went, Shaped, HasForm, Needs, Bounded, refuses, with_size, broken_reply, broken_at}
use Rattle.raf.specs.Unseen.{Mark, is_size, says_broken, stops, mark_after, sum_along, ShapedBy, AllShaped, numbers_after, numbers_in, longest_by, longest_along, BoundedAlong}
use Rattle.raf.specs.Unseen.Mark.{Clear, Unknown, Set}
use Rattle.raf.specs.Ran.{NumbersSoFar, EndedByNumbers, Knows, mark_in}
use Rattle.raf.specs.declared.command.Command.{Command}
use Rattle.raf.specs.declared.command.Command.TheVariants as command
use Rattle.raf.specs.declared.command.Reply.{Reply}
use Rattle.raf.specs.declared.command.Reply.TheVariants as reply_as
use Rattle.raf_io.specs.declared.errors.ErrorKind.{ErrorKind}
use Rattle.raf_io.specs.declared.errors.ErrorKind.TheVariants.{Io, InvalidArgument, AuthenticationFailed, AlreadyExists, NotFound, Overflow, MerkleNotEnabled, CorruptedChunk, Rng, Hash, Broken, OutOfMemory}
use Rattle.raf.proofs.Moves.{moved_then, moved_less, moved_same, moved_any, caused_later}

-- what is put behind commands and their replies
sum-push : (by : File → Command → ℕ) (limit : Option ℕ) (F : File) (m : Mark) (cs : List Command) (rs : List Reply) (c : Command) (r : Reply) → AllShaped limit m F cs rs
    → sum_along by F (cs ++ c ∷ []) (rs ++ r ∷ []) ≡ sum_along by F cs rs + by (numbers_in limit F cs rs) c
sum-push by limit F m [] [] c r all = omega arith
sum-push by limit F m [] (q ∷ rs) c r all = absurd all
sum-push by limit F m (d ∷ cs) [] c r all = absurd all
sum-push by limit F m (d ∷ cs) (q ∷ rs) c r all = omega (arith, sum-push by limit (numbers_after F d q) (mark_after m d q) cs rs c r all.1)

-- commands behind those that were answered change nothing
sum-cut : (by : File → Command → ℕ) (limit : Option ℕ) (F : File) (m : Mark) (cs : List Command) (rs : List Reply) (c : Command) (r : Reply) (rest : List Command) → AllShaped limit m F cs rs
    → sum_along by F (cs ++ c ∷ rest) (rs ++ r ∷ []) ≡ sum_along by F (cs ++ c ∷ []) (rs ++ r ∷ [])
sum-cut by limit F m [] [] c r [] all = refl
sum-cut by limit F m [] [] c r (x ∷ rest) all = refl
sum-cut by limit F m [] (q ∷ rs) c r rest all = absurd all
sum-cut by limit F m (d ∷ cs) [] c r rest all = absurd all
sum-cut by limit F m (d ∷ cs) (q ∷ rs) c r rest all = ap (λ (n : ℕ). by F d + n) (sum-cut by limit (numbers_after F d q) (mark_after m d q) cs rs c r rest all.1)

not_cause : (fit there : Bool) → Broken ≡ cond (not fit) Overflow (cond (not there) AuthenticationFailed MerkleNotEnabled) → ⊥
not_cause true true is = cc
not_cause true false is = cc
not_cause false there is = cc

not_answer : (F : File) (c : Command) → Answers (HasForm c) (answer F c) (reply_as.Refused Broken) → ⊥
not_answer F (command.Read offset len) is = cc
not_answer F (command.Write offset bytes) is = cc
not_answer F (command.Truncate size) is = cc
not_answer F command.Size is = cc
not_answer F command.Sync is = cc
not_answer F command.Rebuild is = is
not_answer F command.Verify is = cc is.1
not_answer F command.Commitment is = cc is.1

broken_is : (r : Reply) → says_broken r ≡ true → r ≡ reply_as.Refused Broken
broken_is (reply_as.Bytes bytes) is = absurd (false≢true is)
broken_is (reply_as.Wrote n) is = absurd (false≢true is)
broken_is reply_as.Done is = absurd (false≢true is)
broken_is (reply_as.Size n) is = absurd (false≢true is)
broken_is (reply_as.Verified found) is = absurd (false≢true is)
broken_is (reply_as.Commitment bytes) is = absurd (false≢true is)
broken_is (reply_as.Refused Io) is = absurd (false≢true is)
broken_is (reply_as.Refused (InvalidArgument reason)) is = absurd (false≢true is)
broken_is (reply_as.Refused AuthenticationFailed) is = absurd (false≢true is)
broken_is (reply_as.Refused AlreadyExists) is = absurd (false≢true is)
broken_is (reply_as.Refused NotFound) is = absurd (false≢true is)
broken_is (reply_as.Refused Overflow) is = absurd (false≢true is)
broken_is (reply_as.Refused MerkleNotEnabled) is = absurd (false≢true is)
broken_is (reply_as.Refused (CorruptedChunk index)) is = absurd (false≢true is)
broken_is (reply_as.Refused Rng) is = absurd (false≢true is)
broken_is (reply_as.Refused Hash) is = absurd (false≢true is)
broken_is (reply_as.Refused Broken) is = refl
broken_is (reply_as.Refused OutOfMemory) is = absurd (false≢true is)

-- what is known of a mark after a reply, by its three tests
known_after : (m : Mark) (c : Command) (r : Reply) (broken : Bool) → (is_size c ≡ true → Knows m broken) → (is_size c ≡ false → says_broken r ≡ true → broken ≡ true)
    → (is_size c ≡ false → says_broken r ≡ false → stops c r ≡ false → broken ≡ false) → Knows (mark_after m c r) broken
known_after m c r broken size set clear = go (is_size c) (says_broken r) (stops c r) size set clear
  where
    go : (a b s : Bool) → (a ≡ true → Knows m broken) → (a ≡ false → b ≡ true → broken ≡ true) → (a ≡ false → b ≡ false → s ≡ false → broken ≡ false)
        → Knows (cond a m (cond b Set (cond s Unknown Clear))) broken
    go true b s size set clear = size refl
    go false true s size set clear = set refl refl
    go false false true size set clear = tt
    go false false false size set clear = clear refl refl refl

module _ (limit : Option ℕ) where
  shaped-push : (F : File) (m : Mark) (cs : List Command) (rs : List Reply) (c : Command) (r : Reply) → AllShaped limit m F cs rs
      → ShapedBy limit (mark_in m cs rs) (numbers_in limit F cs rs) c r → AllShaped limit m F (cs ++ c ∷ []) (rs ++ r ∷ [])
  shaped-push F m [] [] c r all this = (this, tt)
  shaped-push F m [] (q ∷ rs) c r all this = absurd all
  shaped-push F m (d ∷ cs) [] c r all this = absurd all
  shaped-push F m (d ∷ cs) (q ∷ rs) c r all this = (all.0, shaped-push (numbers_after F d q) (mark_after m d q) cs rs c r all.1 this)

  numbers-push : (F : File) (m : Mark) (cs : List Command) (rs : List Reply) (c : Command) (r : Reply) → AllShaped limit m F cs rs
      → numbers_in limit F (cs ++ c ∷ []) (rs ++ r ∷ []) ≡ numbers_after (numbers_in limit F cs rs) c r
  numbers-push F m [] [] c r all = refl
  numbers-push F m [] (q ∷ rs) c r all = absurd all
  numbers-push F m (d ∷ cs) [] c r all = absurd all
  numbers-push F m (d ∷ cs) (q ∷ rs) c r all = numbers-push (numbers_after F d q) (mark_after m d q) cs rs c r all.1

  mark-push : (F : File) (m : Mark) (cs : List Command) (rs : List Reply) (c : Command) (r : Reply) → AllShaped limit m F cs rs
      → mark_in m (cs ++ c ∷ []) (rs ++ r ∷ []) ≡ mark_after (mark_in m cs rs) c r
  mark-push F m [] [] c r all = refl
  mark-push F m [] (q ∷ rs) c r all = absurd all
  mark-push F m (d ∷ cs) [] c r all = absurd all
  mark-push F m (d ∷ cs) (q ∷ rs) c r all = mark-push (numbers_after F d q) (mark_after m d q) cs rs c r all.1

  longest-push : (F : File) (m : Mark) (cs : List Command) (rs : List Reply) (c : Command) (r : Reply) → AllShaped limit m F cs rs
      → longest_along limit F (cs ++ c ∷ []) (rs ++ r ∷ []) ≡ max (longest_along limit F cs rs) (longest_by limit (numbers_in limit F cs rs) c)
  longest-push F m [] [] c r all = omega arith
  longest-push F m [] (q ∷ rs) c r all = absurd all
  longest-push F m (d ∷ cs) [] c r all = absurd all
  longest-push F m (d ∷ cs) (q ∷ rs) c r all = omega (arith, longest-push (numbers_after F d q) (mark_after m d q) cs rs c r all.1)

  longest-cut : (F : File) (m : Mark) (cs : List Command) (rs : List Reply) (c : Command) (r : Reply) (rest : List Command) → AllShaped limit m F cs rs
      → longest_along limit F (cs ++ c ∷ rest) (rs ++ r ∷ []) ≡ longest_along limit F (cs ++ c ∷ []) (rs ++ r ∷ [])
  longest-cut F m [] [] c r [] all = refl
  longest-cut F m [] [] c r (x ∷ rest) all = refl
  longest-cut F m [] (q ∷ rs) c r rest all = absurd all
  longest-cut F m (d ∷ cs) [] c r rest all = absurd all
  longest-cut F m (d ∷ cs) (q ∷ rs) c r rest all = ap (λ (n : ℕ). max (longest_by limit F d) n) (longest-cut (numbers_after F d q) (mark_after m d q) cs rs c r rest all.1)

  other : (F : File) (c : Command) → Answers (HasForm c) (apply limit F c).0 (reply_as.Refused Broken) → ⊥
  other F c due = go (valid limit F c) due
    where
      go : (v : Bool) → Answers (HasForm c) (cond {A = Due × File} v (answer F c, changed F c) (Exactly (reply_as.Refused (cause_of limit F c)), F)).0 (reply_as.Refused Broken) → ⊥
      go true due = not_answer F c due
      go false due = not_cause (fits limit F c) (none_missing (needed F c) 0 F.chunks) (inner due)
        where
          inner : {k : ErrorKind} → reply_as.Refused Broken ≡ reply_as.Refused k → Broken ≡ k
          inner is = cc

  by_size : (F : File) (c : Command) → ((reply_as.Refused Broken ≡ reply_as.Refused AuthenticationFailed) × (fits limit F c ≡ true) × Needs F c) ⊎ Answers (HasForm c) (apply limit F c).0 (reply_as.Refused Broken) → ⊥
  by_size F c (inl three) = cc three.0
  by_size F c (inr due) = other F c due

  -- no reply that is due by numbers is `Broken`
  unbroken : (F : File) (c : Command) → Shaped limit F c (reply_as.Refused Broken) → ⊥
  unbroken F (command.Read offset len) (inl both) = cc both.0
  unbroken F (command.Read offset len) (inr (got, is, long)) = cc is
  unbroken F (command.Write offset bytes) shaped = by_size F (command.Write offset bytes) shaped
  unbroken F (command.Truncate size) shaped = by_size F (command.Truncate size) shaped
  unbroken F command.Size shaped = by_size F command.Size shaped
  unbroken F command.Sync shaped = by_size F command.Sync shaped
  unbroken F command.Rebuild shaped = go (is_refused (apply limit F command.Rebuild).0) refl
    where
      go : (t : Bool) → is_refused (apply limit F command.Rebuild).0 ≡ t → ⊥
      go true is = cc (shaped.0 is)
      go false is = elim (shaped.1 is) [ inl finished ↦ cc finished | inr both ↦ cc both.0 ]
  unbroken F command.Verify shaped = by_size F command.Verify shaped
  unbroken F command.Commitment shaped = by_size F command.Commitment shaped

pub numbers_none : (C : Cipher) (old : Handle) → old.broken ≡ false → NumbersSoFar C old old [] []
numbers_none C old unmarked = record {
  shaped = tt;
  outline_is = refl;
  marked = unmarked;
  moved = moved_same old.outside old.outside refl;
}

module _ (C : Cipher) (E : List ℕ → Hashing) (old mid new : Handle) (done : List Command) (c : Command) (reply : Reply) (replies : List Reply)
    (so_far : NumbersSoFar C old mid done replies) (limit : limit_of mid ≡ limit_of old) (stepped : Stepped C E mid new c reply) where
  abbrev F : File
  F = outline C old.header

  abbrev L : Option ℕ
  L = limit_of old

  -- the numbers that the command finds, and what is known of the mark
  abbrev N : File
  N = numbers_in L F done replies

  abbrev M : Mark
  M = mark_in Clear done replies

  -- what was asked, the mark set or not
  moved_now : (marked : Bool) → mid.broken ≡ marked → Bounded L mid.outside new.outside N c
  moved_now true set =
      moved_any mid.outside new.outside _ _ _ _ _ (moved_same mid.outside new.outside (ap (λ (h : Handle). h.outside) (stepped.barred set).1))
  moved_now false unset =
      subst (λ (f : File). Bounded L mid.outside new.outside f c) so_far.outline_is
      (subst (λ (l : Option ℕ). Bounded l mid.outside new.outside (outline C mid.header) c) limit ((stepped.went unset).bounded (outline C mid.header) (inr refl)))

  moved_more : BoundedAlong L F (done ++ c ∷ []) (replies ++ reply ∷ []) old.outside new.outside
  moved_more = moved_less old.outside new.outside _ _ _ _ _ _ _ _ _ _
      (moved_then old.outside mid.outside new.outside _ _ _ _ _ _ _ _ _ _ so_far.moved (moved_now mid.broken refl))
      (omega (arith, longest-push L F Clear done replies c reply so_far.shaped))
      (omega (arith, sum-push (traffic_by L) L F Clear done replies c reply so_far.shaped))
      (omega (arith, sum-push (asked_by L) L F Clear done replies c reply so_far.shaped))
      (omega (arith, sum-push (changes_by L) L F Clear done replies c reply so_far.shaped))
      (omega (arith, sum-push (calls_by L) L F Clear done replies c reply so_far.shaped))

  -- where the mark is set, the reply is the size or `Broken`, and the mark stays
  barred_shape : (m : Mark) → Knows m mid.broken → mid.broken ≡ true → ShapedBy L m N c reply
  barred_shape Clear known set = absurd (false≢true (sym known ∙ set))
  barred_shape Unknown known set = inr (barred_is set)
    where
      barred_is : mid.broken ≡ true → reply ≡ broken_at N.size c
      barred_is set = (stepped.barred set).0 ∙ ap (λ (f : File). broken_at f.size c) so_far.outline_is
  barred_shape Set known set = (stepped.barred set).0 ∙ ap (λ (f : File). broken_at f.size c) so_far.outline_is

  barred_mark : (m : Mark) → Knows m mid.broken → mid.broken ≡ true → Knows (mark_after m c reply) new.broken
  barred_mark m known set = known_after m c reply new.broken (λ _. subst (Knows m) (sym same) known) (λ _ _. same ∙ set) (λ small other _. absurd (false≢true (sym other ∙ told c (stepped.barred set).0 small)))
    where
      same : new.broken ≡ mid.broken
      same = ap (λ (h : Handle). h.broken) (stepped.barred set).1

      told : (d : Command) → reply ≡ broken_reply mid d → is_size d ≡ false → says_broken reply ≡ true
      told command.Size is small = absurd (false≢true (sym small))
      told (command.Read offset len) is small = ap says_broken is
      told (command.Write offset bytes) is small = ap says_broken is
      told (command.Truncate size) is small = ap says_broken is
      told command.Sync is small = ap says_broken is
      told command.Rebuild is small = ap says_broken is
      told command.Verify is small = ap says_broken is
      told command.Commitment is small = ap says_broken is

  pub numbers_more : is_fault reply ≡ false → NumbersSoFar C old new (done ++ c ∷ []) (replies ++ reply ∷ [])
  numbers_more calm = record {
    shaped = shaped-push L F Clear done replies c reply so_far.shaped (shaped mid.broken refl);
    outline_is = outlined mid.broken refl ∙ sym (numbers-push L F Clear done replies c reply so_far.shaped);
    marked = subst (λ (m : Mark). Knows m new.broken) (sym (mark-push L F Clear done replies c reply so_far.shaped)) (marked mid.broken refl);
    moved = moved_more;
  }
    where
      -- where the mark isn't set, the reply is one by numbers, and a rebuild that a missing chunk stopped alone may set it
      went_shaped : mid.broken ≡ false → Shaped L N c reply
      went_shaped unset =
          subst (λ (f : File). Shaped L f c reply) so_far.outline_is
          (subst (λ (l : Option ℕ). Shaped l (outline C mid.header) c reply) limit ((stepped.went unset).shaped calm))

      shape : (m : Mark) → Knows m mid.broken → mid.broken ≡ false → ShapedBy L m N c reply
      shape Clear known unset = went_shaped unset
      shape Unknown known unset = inl (went_shaped unset)
      shape Set known unset = absurd (false≢true (sym unset ∙ known))

      shaped : (marked : Bool) → mid.broken ≡ marked → ShapedBy L M N c reply
      shaped true set = barred_shape M so_far.marked set
      shaped false unset = shape M so_far.marked unset

      clear : mid.broken ≡ false → (c ≡ command.Rebuild → reply ≡ reply_as.Refused AuthenticationFailed → ⊥) → new.broken ≡ false
      clear unset other = go new.broken refl
        where
          go : (b : Bool) → new.broken ≡ b → new.broken ≡ false
          go true set = let why = (stepped.went unset).marked.calmly set calm in absurd (other why.0 why.1)
          go false is = is

      marked : (marked : Bool) → mid.broken ≡ marked → Knows (mark_after M c reply) new.broken
      marked true set = barred_mark M so_far.marked set
      marked false unset =
          known_after M c reply new.broken
          (λ size. subst (Knows M) (unset ∙ sym (clear unset (λ is _. false≢true (sym (ap is_size is) ∙ size)))) so_far.marked)
          (λ _ set. absurd (unbroken L N c (subst (λ (r : Reply). Shaped L N c r) (broken_is reply set) (went_shaped unset))))
          (λ _ _ calmly. clear unset (λ is why. false≢true (sym calmly ∙ ap (λ (d : Command). stops d reply) is ∙ ap (λ (r : Reply). stops command.Rebuild r) why)))

      after_is : (t : Bool) → refuses reply ≡ t → new.header ≡ cond {A = Header} t mid.header (with_size mid.header (size_after (outline C mid.header) c)) → outline C new.header ≡ numbers_after (outline C mid.header) c reply
      after_is true is header = ap (λ (h : Header). outline C h) header ∙ ap (λ (t : Bool). cond {A = File} t (outline C mid.header)
          (record { shape = (outline C mid.header).shape; id = mid.header.id; size = size_after (outline C mid.header) c; chunks = [] })) (sym is)
      after_is false is header = ap (λ (h : Header). outline C h) header ∙ ap (λ (t : Bool). cond {A = File} t (outline C mid.header)
          (record { shape = (outline C mid.header).shape; id = mid.header.id; size = size_after (outline C mid.header) c; chunks = [] })) (sym is)

      outlined : (marked : Bool) → mid.broken ≡ marked → outline C new.header ≡ numbers_after (numbers_in L F done replies) c reply
      outlined false unset =
          after_is (refuses reply) refl (stepped.went unset).stays.header ∙ ap (λ (f : File). numbers_after f c reply) so_far.outline_is
      outlined true set =
          ap (λ (h : Handle). outline C h.header) (stepped.barred set).1 ∙ so_far.outline_is ∙ sym (stays c (stepped.barred set).0)
        where
          refused : (d : Command) → reply ≡ reply_as.Refused Broken → numbers_after (numbers_in L F done replies) d reply ≡ numbers_in L F done replies
          refused d is = ap (λ (r : Reply). numbers_after (numbers_in L F done replies) d r) is

          stays : (d : Command) → reply ≡ broken_reply mid d → numbers_after (numbers_in L F done replies) d reply ≡ numbers_in L F done replies
          stays command.Size is = unsized (numbers_in L F done replies)
            where
              unsized : (f : File) → numbers_after f command.Size reply ≡ f
              unsized f = go (refuses reply)
                where
                  go : (t : Bool) → cond {A = File} t f (record { shape = f.shape; id = f.id; size = f.size; chunks = f.chunks }) ≡ f
                  go true = refl
                  go false = refl
          stays (command.Read offset len) is = refused (command.Read offset len) is
          stays (command.Write offset bytes) is = refused (command.Write offset bytes) is
          stays (command.Truncate size) is = refused (command.Truncate size) is
          stays command.Sync is = refused command.Sync is
          stays command.Rebuild is = refused command.Rebuild is
          stays command.Verify is = refused command.Verify is
          stays command.Commitment is = refused command.Commitment is

  pub numbers_cut : (commands rest : List Command) → commands ≡ done ++ c ∷ rest → is_fault reply ≡ true → Quiet old.outside mid.outside → EndedByNumbers C old new commands (replies ++ reply ∷ [])
  numbers_cut commands rest split fault quiet = record {
    run = inr (record {
      done = done;
      command = c;
      rest = rest;
      split = split;
      answered = replies;
      kind = failed.kind;
      last = ap (λ (r : Reply). replies ++ r ∷ []) failed.is;
      shaped = so_far.shaped;
      cause = caused_later failed.kind old.outside mid.outside new.outside quiet failed.cause;
      may = subst (λ (f : File). Faultable L failed.kind f c) so_far.outline_is (subst (λ (l : Option ℕ). Faultable l failed.kind (outline C mid.header) c) limit (failed.may (outline C mid.header) (inr refl)));
    });
    moved = subst (λ (l : List Command). BoundedAlong L F l (replies ++ reply ∷ []) old.outside new.outside) (sym split)
        (moved_less old.outside new.outside _ _ _ _ _ _ _ _ _ _ moved_more
        (omega (arith, longest-cut L F Clear done replies c reply rest so_far.shaped))
        (omega (arith, sum-cut (traffic_by L) L F Clear done replies c reply rest so_far.shaped))
        (omega (arith, sum-cut (asked_by L) L F Clear done replies c reply rest so_far.shaped))
        (omega (arith, sum-cut (changes_by L) L F Clear done replies c reply rest so_far.shaped))
        (omega (arith, sum-cut (calls_by L) L F Clear done replies c reply rest so_far.shaped)));
  }
    where
      unset : (marked : Bool) → mid.broken ≡ marked → mid.broken ≡ false
      unset false is = is
      unset true set = absurd (false≢true (sym (calm_reply c (stepped.barred set).0) ∙ fault))
        where
          calm_reply : (d : Command) → reply ≡ broken_reply mid d → is_fault reply ≡ false
          calm_reply command.Size is = ap is_fault is
          calm_reply (command.Read offset len) is = ap is_fault is
          calm_reply (command.Write offset bytes) is = ap is_fault is
          calm_reply (command.Truncate size) is = ap is_fault is
          calm_reply command.Sync is = ap is_fault is
          calm_reply command.Rebuild is = ap is_fault is
          calm_reply command.Verify is = ap is_fault is
          calm_reply command.Commitment is = ap is_fault is

      failed : Rattle.raf.specs.Stepped.Failed C mid new c reply
      failed = (stepped.went (unset mid.broken refl)).failed fault

pub numbers_whole : (C : Cipher) (old now : Handle) (commands : List Command) (replies : List Reply) → NumbersSoFar C old now commands replies → Quiet old.outside now.outside
    → EndedByNumbers C old now commands replies
numbers_whole C old now commands replies so_far quiet = record { run = inl (so_far.shaped, quiet); moved = so_far.moved }
