-- A change that was not carried out, as its command's step.
use Rattle.std.proofs.Common.{◌≡◌, inl, inr, ℕ, ◌+◌, ◌-◌, ◌*◌, ◌<◌, ◌≤◌, min, Bool, true, false, cond, ◌&&◌, List, [], length, Option, Some, Err, refl, sym, ◌∙◌, ap, subst, arith}
use Rattle.std.specs.Prelude.{◌⊎◌, is_some, nat_lt, nat_le}
use Rattle.std.proofs.lemmas.Bool.{cases_lt, cases_Bool, false≢true, lt-ltb}
use Rattle.std.proofs.lemmas.Bool.Decides.{nat_tests}
use Rattle.std.proofs.lemmas.Nat.{mul-le}
use Rattle.raf_io.specs.Source.{Takes, TakesAtMost, IsShort}
use Rattle.raf_io.specs.Kinds.{kind_of}
use Rattle.raf_tree.specs.Hashing.{Hashing}
use Rattle.raf_tree.specs.Tree.{height}
use Rattle.raf_format.specs.Cipher.{Cipher, IsLawful}
use Rattle.raf_format.specs.File.{File, Shape, IsFile, shape_of, tag_len, sealed, chunk_count, chunks_from, file_of}
use Rattle.raf.specs.Due.{Due, Answers, is_fault, is_refused, is_barred}
use Rattle.raf.specs.Due.Due.{Exactly}
use Rattle.raf.specs.Concern.{is_touched, is_needed, touched, none_missing, sum_where}
use Rattle.raf.specs.Apply.{apply}
use Rattle.raf.specs.Change.{Change, change_of}
use Rattle.raf.specs.Image.{image, bytes_after, asked_by, calls_by}
use Rattle.raf.specs.Meaning.{Faultable, Spares, Starved}
use Rattle.raf.specs.Outside.{Outside, Caused}
use Rattle.raf.specs.Handle.{Handle, Holds, Measures, WithTree, OfTree, Grown, KeptAnswer, limit_of, outline}
use Rattle.raf.specs.Plan.{plan_of}
use Rattle.raf.specs.Put.{stride, placed, nonce_at, record_for, Changing, Dried, Misses, Unready}
use Rattle.raf.specs.Stepped.{Answered, Cut, Bounded, Needs, Went, refuses}
use Rattle.raf.specs.declared.planning.Plan.{Plan}
use Rattle.raf.specs.declared.command.Command.{Command}
use Rattle.raf.specs.declared.command.Reply.{Reply}
use Rattle.raf.specs.declared.command.Reply.TheVariants as reply
use Rattle.raf_io.specs.declared.errors.Error.{Error}
use Rattle.raf_io.specs.declared.errors.ErrorKind.{ErrorKind}
use Rattle.raf_io.specs.declared.errors.ErrorKind.TheVariants.{Io, InvalidArgument, AuthenticationFailed, AlreadyExists, NotFound, Overflow, MerkleNotEnabled, CorruptedChunk, Rng, Hash, Broken, OutOfMemory}
use Rattle.raf_format.specs.declared.header.Header.{Header}
use Rattle.raf.proofs.StillSteps.{may_change, change_uncommitted}
use Rattle.raf.proofs.Moves.{takes_none}
use Rattle.raf.proofs.Needed.{sum_within}
use Rattle.raf.proofs.Arms.{with_chunks, fits_is, needed_is, arm_done, arm_missing, misses_one, one_misses}
use Rattle.raf.proofs.Amounts.{asked_is, asked_none, calls_is, touched_is, size_is, concerned}
use Rattle.raf.proofs.ChangeBounds.{limit_by, accepted, refused, bounded_done, bounded_early}
use Rattle.raf.proofs.Fills.{kept_short}
use Rattle.raf.proofs.Pictures.{made, all_made}
use Rattle.raf.proofs.Placed.{placed_same}
use Rattle.raf.proofs.Plans.{some_moved}
use Rattle.raf.proofs.Ranges.{touched_ranged, needed_kept}
use Rattle.raf.proofs.Spans.{count_above}
use Rattle.raf.proofs.ReadyChanges.{Ready, marks, settles, authentic_by, shaped_by}
use Rattle.raf.proofs.ChangesDone.{tree_was}

-- why a change was not carried out
pub whys : (kind : ErrorKind) (old new : Outside) → Unready kind old new → (kind ≡ Io) ⊎ (kind ≡ Rng) ⊎ (kind ≡ Hash) ⊎ (kind ≡ AuthenticationFailed)
whys Io old new why = inl refl
whys Rng old new why = inr (inl refl)
whys Hash old new why = inr (inr (inl refl))
whys AuthenticationFailed old new why = inr (inr (inr refl))
whys (InvalidArgument r) old new why = absurd why
whys AlreadyExists old new why = absurd why
whys NotFound old new why = absurd why
whys Overflow old new why = absurd why
whys MerkleNotEnabled old new why = absurd why
whys (CorruptedChunk i) old new why = absurd why
whys Broken old new why = absurd why
whys OutOfMemory old new why = absurd why

pub only_missing : (kind : ErrorKind) (old new : Outside) → Unready kind old new → is_fault (reply.Refused kind) ≡ false → kind ≡ AuthenticationFailed
only_missing Io old new why calm = absurd (false≢true (sym calm))
only_missing Rng old new why calm = absurd (false≢true (sym calm))
only_missing Hash old new why calm = absurd (false≢true (sym calm))
only_missing AuthenticationFailed old new why calm = refl
only_missing (InvalidArgument r) old new why calm = absurd why
only_missing AlreadyExists old new why calm = absurd why
only_missing NotFound old new why calm = absurd why
only_missing Overflow old new why calm = absurd why
only_missing MerkleNotEnabled old new why calm = absurd why
only_missing (CorruptedChunk i) old new why calm = absurd why
only_missing Broken old new why calm = absurd why
only_missing OutOfMemory old new why calm = absurd why

pub caused_by : (kind : ErrorKind) (old new : Outside) → Unready kind old new → is_fault (reply.Refused kind) ≡ true → Caused kind old new
caused_by Io old new why fault = why
caused_by Rng old new why fault = why
caused_by Hash old new why fault = why
caused_by AuthenticationFailed old new why fault = absurd (false≢true fault)
caused_by (InvalidArgument r) old new why fault = absurd why
caused_by AlreadyExists old new why fault = absurd why
caused_by NotFound old new why fault = absurd why
caused_by Overflow old new why fault = absurd why
caused_by MerkleNotEnabled old new why fault = absurd why
caused_by (CorruptedChunk i) old new why fault = absurd why
caused_by Broken old new why fault = absurd why
caused_by OutOfMemory old new why fault = absurd why

kind_is : (kind : ErrorKind) → reply.Refused kind ≡ reply.Refused Rng → kind ≡ Rng
kind_is kind same = cc

-- what isn't a refusal isn't barred
pub unbarred : (r : Reply) → refuses r ≡ false → is_barred (Exactly r) ≡ false
unbarred (reply.Bytes got) plain = refl
unbarred (reply.Wrote n) plain = refl
unbarred reply.Done plain = refl
unbarred (reply.Size n) plain = refl
unbarred (reply.Verified found) plain = refl
unbarred (reply.Commitment out) plain = refl
unbarred (reply.Refused kind) plain = absurd (false≢true (sym plain))

module _ (C : Cipher) (lawful : IsLawful C) (E : List ℕ → Hashing) (old new : Handle) (c : Command) (K : Change) (done : Reply) (ready : Ready C old c K done) (e : Error)
    (changing : Changing C E (C.chunk_key old.key old.header.id) (plan_of (shape_of C old.header) old.header.file_size K) K.bytes old new (Err e)) where
  abbrev h : Header
  h = old.header

  abbrev s : Shape
  s = shape_of C old.header

  abbrev p : Plan
  p = plan_of (shape_of C old.header) old.header.file_size K

  abbrev kind : ErrorKind
  kind = kind_of e

  abbrev file_with : List (Option (List ℕ)) → File
  file_with chunks = with_chunks C old.header chunks

  abbrev IsThere : List (Option (List ℕ)) → Type 0
  IsThere chunks = none_missing (is_needed (with_chunks C old.header chunks) K) 0 chunks ≡ true

  abbrev opened : List ℕ → List (Option (List ℕ))
  opened b = chunks_from C (C.chunk_key old.key old.header.id) old.header b 0 (chunk_count old.header.chunk_size old.header.file_size)

  unmoved : new.broken ≡ false → (new.outside.changes ≡ old.outside.changes) × (new.outside.calls ≡ old.outside.calls) × (new.outside.bytes ≡ old.outside.bytes) × (new.tree ≡ old.tree)
  unmoved unmarked = elim changing.stopped [
    | inl began ↦ absurd (false≢true (sym unmarked ∙ began.0))
    | inr not ↦ (not.1, not.2, not.3, not.5)
  ]

  undurable : new.broken ≡ false → new.outside.durable ≡ old.outside.durable
  undurable unmarked = elim changing.stopped [
    | inl began ↦ absurd (false≢true (sym unmarked ∙ began.0))
    | inr not ↦ not.4
  ]

  -- where a chunk that is needed is missing, nothing was begun
  early_by : (b : List ℕ) → old.outside.bytes ≡ Some b → Misses C (C.chunk_key old.key old.header.id) old.header p (length K.bytes) b → (kind ≡ AuthenticationFailed) ⊎ ((kind ≡ Io) × (new.broken ≡ false))
  early_by b tells misses = elim (whys kind old.outside new.outside changing.failed) [
    | inl io ↦ elim (cases_Bool new.broken) [
      | inl marked ↦ absurd (changing.there b tells (inr (inr marked)) misses)
      | inr unmarked ↦ inr (io, unmarked)
    ]
    | inr other ↦ elim other [
      | inl rng ↦ absurd (changing.there b tells (inl rng) misses)
      | inr last ↦ elim last [
        | inl hash ↦ absurd (changing.there b tells (inr (inl hash)) misses)
        | inr missing ↦ inl missing
      ]
    ]
  ]

  -- over what is measured
  any_measured : (P : File → Type 0) → ((chunks : List (Option (List ℕ))) → P (file_with chunks)) → (F : File) → Measures C old F → P F
  any_measured P each F measures = elim measures [
    | inl held ↦ subst P (sym held.file) (each (opened held.bytes))
    | inr is ↦ subst P (sym is) (each [])
  ]

  there_measured : (kind ≡ Rng) ⊎ (kind ≡ Hash) → (P : File → Type 0) → ((chunks : List (Option (List ℕ))) → IsThere chunks → P (file_with chunks)) → (F : File) → Measures C old F → P F
  there_measured why P each F measures = elim measures [
    | inl held ↦ subst P (sym held.file) (each (opened held.bytes) (elim (cases_Bool (none_missing (is_needed (file_with (opened held.bytes)) K) 0 (opened held.bytes))) [
      | inl there ↦ there
      | inr missing ↦ absurd (changing.there held.bytes held.tells (elim why [ inl rng ↦ inl rng | inr hash ↦ inr (inl hash) ]) (one_misses C old.key held.bytes h K held.is_file ready.ranged missing))
    ]))
    | inr is ↦ subst P (sym is) (each [] refl)
  ]

  module _ (b : List ℕ) (tells : old.outside.bytes ≡ Some b) (is_file : IsFile C old.key b old.header) where
    abbrev F : File
    F = file_of C old.key old.header b

    -- a chunk that is needed is missing
    answered : kind ≡ AuthenticationFailed → Answered C E old new F b c (reply.Refused kind)
    answered is = record {
      due = subst (λ (d : Due × File). Answers (λ r. OfTree E old (KeptAnswer F c r)) d.0 (reply.Refused kind)) (sym due) (ap (λ (k : ErrorKind). reply.Refused k) is);
      nonces = [];
      drawn = sym (asked_none C h c K done ready.alters ready.least ready.ranged (limit_of old) (opened b) was_refused);
      taken = subst (λ (o : Option (List ℕ)). Takes old.outside.left [] o) (sym (changing.early (inl is)).0) (takes_none old.outside.left);
      tells = still.2 ∙ tells ∙ ap (λ (l : List ℕ). Some l) (sym bytes_are);
      holds = subst (λ (d : Due × File). Holds C new d.1) (sym due) (record {
        bytes = b;
        tells = still.2 ∙ tells;
        is_file = subst (λ (k : List ℕ). IsFile C k b new.header) (sym changing.key) (subst (λ (x : Header). IsFile C old.key b x) (sym changing.header) is_file);
        file = ap (λ (x : Header). file_of C old.key x b) (sym changing.header) ∙ ap (λ (k : List ℕ). file_of C k new.header b) (sym changing.key);
      });
      authentic = authentic_by C old.key b F (apply (limit_of old) F c).0 c ready.alters.kind;
      grown = λ was. subst (λ (d : Due × File). WithTree E new (Grown d.1)) (sym due) (elim was [
        | inl grown ↦ λ setting t set kept. grown setting t (sym changing.moved.setting ∙ set) (sym still.3 ∙ kept)
        | inr rebuilt ↦ absurd (false≢true (sym (ap may_change rebuilt.0) ∙ ready.alters.kind))
      ]);
      unmarked = changing.unbegun is;
      still = λ _. (still.0, still.1);
    }
      where
        missing : none_missing (is_needed F K) 0 (opened b) ≡ false
        missing = misses_one C old.key b h K is_file ready.ranged (changing.missing b tells is)

        due : apply (limit_of old) F c ≡ (Exactly (reply.Refused AuthenticationFailed), F)
        due = arm_missing C h c K done ready.alters (limit_of old) (opened b) ready.fits missing

        was_refused : is_refused (apply (limit_of old) F c).0 ≡ true
        was_refused = ap (λ (d : Due × File). is_refused d.0) due

        still : (new.outside.changes ≡ old.outside.changes) × (new.outside.calls ≡ old.outside.calls) × (new.outside.bytes ≡ old.outside.bytes) × (new.tree ≡ old.tree)
        still = unmoved (changing.unbegun is)

        bytes_are : bytes_after (limit_of old) C old.key F c [] b ≡ b
        bytes_are = ap (λ (t : Bool). cond {A = List ℕ} t b (cond {A = List ℕ} (is_some (change_of F c)) (image C old.key b (apply (limit_of old) F c).1 (touched F c) []) b)) was_refused

    left : TakesAtMost old.outside.left (asked_by (limit_of old) F c) new.outside.left
    left = elim (cases_Bool (none_missing (is_needed F K) 0 (opened b))) [
      | inl there ↦
          let n = asked_is C h c K done ready.alters ready.least ready.ranged (limit_of old) (opened b) (accepted C h c K done ready.alters ready.calm ready.least ready.ranged old.tree (opened b) ready.fits there) in
          subst (λ (k : ℕ). TakesAtMost old.outside.left k new.outside.left) (sym n) changing.left
      | inr missing ↦
          let early = changing.early (early_by b tells (one_misses C old.key b h K is_file ready.ranged missing)) in
          ([], omega arith, subst (λ (o : Option (List ℕ)). Takes old.outside.left [] o) (sym early.0) (takes_none old.outside.left))
    ]

    spares : (now : List ℕ) × (new.outside.bytes ≡ Some now) × Spares F c b now
    spares =
        let sp = changing.spared b tells is_file.length_fits in (
          sp.0,
          sp.1,
          record {
            untouched = λ none. absurd (false≢true (sym none ∙ ap is_some (ready.alters.change (opened b))));
            header = λ same. sp.2 (sym (size_is C h c K done ready.alters ready.least ready.ranged (limit_of old) (opened b)) ∙ same);
            records = λ index had has off. sp.3 index had (omega (arith, has, ap (chunk_count h.chunk_size) (size_is C h c K done ready.alters ready.least ready.ranged (limit_of old) (opened b)))) (beside index off);
          },
        )
      where
        beside : (index : ℕ) → touched F c index ≡ false → (index < p.first) ⊎ (p.end ≤ index)
        beside index off =
            let t : nat_le p.first index && nat_lt index p.end ≡ false =
            sym (ap (λ (test : ℕ → Bool). test index) (touched_is C h c K done ready.alters ready.least ready.ranged (limit_of old) (opened b)) ∙ touched_ranged s ready.least h.file_size K ready.ranged F refl index) ∙ off in
            elim (cases_lt index p.first) [
              | inl low ↦ inl low
              | inr up ↦ elim (cases_lt index p.end) [
                | inl inside ↦ let u : nat_le p.first index && nat_lt index p.end ≡ true = grind (arith, nat_tests) in absurd (false≢true (sym t ∙ u))
                | inr high ↦ inr high
              ]
            ]

    bounded_held : Bounded (limit_of old) old.outside new.outside F c
    bounded_held = elim (cases_Bool (none_missing (is_needed F K) 0 (opened b))) [
      | inl there ↦ bounded_done C h c K done ready.alters ready.calm ready.least ready.ranged old.tree (opened b) ready.fits old.outside new.outside there changing.moved changing.hashed
      | inr missing ↦ bounded_early C h c K done ready.alters ready.calm ready.least ready.ranged old.tree (opened b) ready.fits old.outside new.outside
          (changing.early (early_by b tells (one_misses C old.key b h K is_file ready.ranged missing))).1
    ]

  -- where a fault may come
  unbarred_by : (chunks : List (Option (List ℕ))) → is_barred (apply (limit_of old) (file_with chunks) c).0 ≡ false
  unbarred_by chunks = elim (cases_Bool (none_missing (is_needed (file_with chunks) K) 0 chunks)) [
    | inl there ↦ ap (λ (d : Due × File). is_barred d.0) (arm_done C h c K done ready.alters (limit_of old) chunks ready.fits there) ∙ unbarred done ready.answered
    | inr missing ↦ ap (λ (d : Due × File). is_barred d.0) (arm_missing C h c K done ready.alters (limit_of old) chunks ready.fits missing)
  ]

  asks_some : kind ≡ Rng → (chunks : List (Option (List ℕ))) → IsThere chunks → (is_refused (apply (limit_of old) (file_with chunks) c).0 ≡ false) × (1 ≤ asked_by (limit_of old) (file_with chunks) c)
  asks_some is chunks there =
      let calm = accepted C h c K done ready.alters ready.calm ready.least ready.ranged old.tree chunks ready.fits there in
      let some = changing.asks is in
      (calm, omega (arith, asked_is C h c K done ready.alters ready.least ready.ranged (limit_of old) chunks calm, mul-le 1 1 (p.end - p.first) C.nonce_len (omega (arith, some)) lawful.nonce_least))

  hashes_some : kind ≡ Hash → (chunks : List (Option (List ℕ))) → IsThere chunks → (is_refused (apply (limit_of old) (file_with chunks) c).0 ≡ false) × (1 ≤ calls_by (limit_of old) (file_with chunks) c)
  hashes_some is chunks there =
      let calm = accepted C h c K done ready.alters ready.calm ready.least ready.ranged old.tree chunks ready.fits there in
      let tree = changing.hashes is in
      let found = tree_was old.tree new.tree tree.0 changing.limit tree.1 in
      let limit_is : limit_of old ≡ Some found.0.max_chunks = ap limit_by found.1 in
      let still : is_refused (apply (Some found.0.max_chunks) (file_with chunks) c).0 ≡ false = subst (λ (l : Option ℕ). is_refused (apply l (file_with chunks) c).0 ≡ false) limit_is calm in
      let n = ap (λ (l : Option ℕ). calls_by l (file_with chunks) c) limit_is ∙ calls_is C h c K done ready.alters ready.least ready.ranged found.0.max_chunks chunks still in
      (calm, at_least (calls_by (limit_of old) (file_with chunks) c) (p.until - p.first) (height found.0.max_chunks) n (omega (arith, some_moved s ready.least h.file_size K ready.ranged)))
    where
      at_least : (x n high : ℕ) → x ≡ min (n * (2 * high + 1)) (2 * n + 3 * high) → 1 ≤ n → 1 ≤ x
      at_least x n high is some = omega (arith, is, some, mul-le 1 1 n (2 * high + 1) some (omega arith))

  may : is_fault (reply.Refused kind) ≡ true → (F : File) → Measures C old F → Faultable (limit_of old) kind F c
  may fault F measures = elim (whys kind old.outside new.outside changing.failed) [
    | inl io ↦ subst (λ (k : ErrorKind). Faultable (limit_of old) k F c) (sym io)
        (any_measured (λ (G : File). Faultable (limit_of old) Io G c) (λ chunks. (unbarred_by chunks, concerned C h c K done ready.alters ready.least ready.ranged (limit_of old) chunks)) F measures)
    | inr other ↦ elim other [
      | inl rng ↦ subst (λ (k : ErrorKind). Faultable (limit_of old) k F c) (sym rng) (there_measured (inl rng) (λ (G : File). Faultable (limit_of old) Rng G c) (asks_some rng) F measures)
      | inr last ↦ elim last [
        | inl hash ↦ subst (λ (k : ErrorKind). Faultable (limit_of old) k F c) (sym hash) (there_measured (inr hash) (λ (G : File). Faultable (limit_of old) Hash G c) (hashes_some hash) F measures)
        | inr missing ↦ absurd (false≢true (sym (ap (λ (k : ErrorKind). is_fault (reply.Refused k)) missing) ∙ fault))
      ]
    ]
  ]

  short : (F : File) → Measures C old F → kind ≡ Rng → old.outside.exact ≡ true → IsShort old.outside.left (asked_by (limit_of old) F c)
  short F measures is exact =
      there_measured (inl is) (λ (G : File). IsShort old.outside.left (asked_by (limit_of old) G c))
      (λ chunks there. subst (λ (n : ℕ). IsShort old.outside.left n)
      (sym (asked_is C h c K done ready.alters ready.least ready.ranged (limit_of old) chunks (accepted C h c K done ready.alters ready.calm ready.least ready.ranged old.tree chunks ready.fits there)))
      (changing.short is exact)) F measures

  -- where the random source failed, the records before stand
  starved : (b : List ℕ) → old.outside.bytes ≡ Some b → (is_file : IsFile C old.key b old.header) → kind ≡ Rng
      → Starved C old.key (file_of C old.key old.header b) c b old.outside.exact old.outside.left new.outside.bytes
  starved b tells is_file rng = record {
    change = K;
    changes = ready.alters.change (opened b);
    count = dry.count;
    nonces = dry.nonces;
    drawn = dry.drawn;
    rest = dry.rest;
    taken = dry.taken;
    short = dry.short;
    tells = dry.bytes_are b tells ∙ ap (λ (l : List ℕ). Some l) (elim (dry.right b tells) [
      | inl none ↦ ap (λ (n : ℕ). placed (stride s) by_plan p.first n b) none ∙ sym (ap (λ (n : ℕ). placed (stride s) anew p.first n b) none)
      | inr right ↦ placed_same (stride s) by_plan anew p.first dry.count b
          (λ i le lt. ap (λ (m : List ℕ). sealed C (tag_len s) (C.chunk_key old.key h.id) h.id i (nonce_at C.nonce_len p.first dry.nonces i) m)
          (all_made C lawful old.key b h K is_file ready.ranged dry.kept right i le (omega (arith, lt, dry.below))))
    ]);
  }
    where
      dry : Dried C (C.chunk_key old.key old.header.id) p K.bytes old new
      dry = changing.dried rng

      by_plan : ℕ → List ℕ
      by_plan i = record_for C (C.chunk_key old.key old.header.id) old.header p K.bytes i (nonce_at C.nonce_len p.first dry.nonces i) (dry.kept i)

      anew : ℕ → List ℕ
      anew i = sealed C (tag_len s) (C.chunk_key old.key h.id) h.id i (nonce_at C.nonce_len p.first dry.nonces i) (made C lawful old.key b h K is_file ready.ranged i)

  needs : kind ≡ AuthenticationFailed → Needs (outline C old.header) c
  needs is =
      let r = changing.reads is in
      let i = r.0 in
      let G : File = with_chunks C old.header [] in
      let inside : nat_le p.first r.0 && nat_lt r.0 p.end ≡ true = both r.0 r.1 r.2 in
      let touched : is_touched G K r.0 ≡ true = touched_ranged s ready.least h.file_size K ready.ranged G refl r.0 ∙ inside in
      let on : is_needed G K r.0 ≡ true = needed_kept s ready.least h.file_size K ready.ranged G refl refl r.0 touched ∙ lt-ltb 0 _ r.3 in
      let had : r.0 < chunk_count h.chunk_size h.file_size = count_above h.chunk_size h.file_size ready.least r.0 (omega (arith, r.3, kept_short h.chunk_size p K.bytes r.0)) in
      let n = sum_within (is_needed G K) (λ _. 1) 0 (chunk_count h.chunk_size h.file_size) r.0 1 (omega arith) (omega (arith, had)) (λ j least most. let e : r.0 ≡ j = omega (arith, least, most) in subst (λ (j : ℕ). is_needed G K j ≡ true) e on) in
      omega (arith, n, ap (λ (test : ℕ → Bool). sum_where test (λ _. 1) 0 (chunk_count h.chunk_size h.file_size)) (needed_is C h c K done ready.alters (limit_of old) []))
    where
      both : (i : ℕ) → p.first ≤ i → i < p.end → nat_le p.first i && nat_lt i p.end ≡ true
      both i le lt = grind (arith, nat_tests)

  pub went_stopped : Went C E old new c (reply.Refused kind)
  went_stopped = record {
    answered = λ F held calm. subst (λ (G : File). Answered C E old new G held.bytes c (reply.Refused kind)) (sym held.file)
        (answered held.bytes held.tells held.is_file (only_missing kind old.outside new.outside changing.failed calm));
    cut = λ F held fault. subst (λ (G : File). Cut old new G held.bytes c) (sym held.file)
        (let sp = spares held.bytes held.tells held.is_file in record { left = left held.bytes held.tells held.is_file; bytes = sp.0; tells = sp.1; spares = sp.2 });
    starved = λ F held is. subst (λ (G : File). Starved C old.key G c held.bytes old.outside.exact old.outside.left new.outside.bytes) (sym held.file)
        (starved held.bytes held.tells held.is_file (kind_is kind is));
    failed = λ fault. record { kind = kind; is = refl; cause = caused_by kind old.outside new.outside changing.failed fault; may = may fault; short = short };
    quiet = λ calm. subst (λ (k : ErrorKind). Unready k old.outside new.outside) (only_missing kind old.outside new.outside changing.failed calm) changing.failed;
    shaped = λ calm.
        let is = only_missing kind old.outside new.outside changing.failed calm in
        shaped_by (limit_of old) (outline C old.header) (reply.Refused kind) c ready.alters.kind
        (inl (ap (λ (k : ErrorKind). reply.Refused k) is, fits_is C h c K done ready.alters (limit_of old) [] ∙ ready.fits, needs is));
    bounded = λ F measures. elim measures [
      | inl held ↦ subst (λ (G : File). Bounded (limit_of old) old.outside new.outside G c) (sym held.file) (bounded_held held.bytes held.tells held.is_file)
      | inr is ↦ subst (λ (G : File). Bounded (limit_of old) old.outside new.outside G c) (sym is)
          (bounded_done C h c K done ready.alters ready.calm ready.least ready.ranged old.tree [] ready.fits old.outside new.outside refl changing.moved changing.hashed)
    ];
    strays = λ F held. changing.strays held.bytes held.tells (omega (arith, held.is_file.length_fits));
    committed = change_uncommitted E old c (reply.Refused kind) ready.alters.kind;
    marked = record {
      sets = λ may refused began. elim changing.stopped [
        | inl stopped ↦ stopped.0
        | inr not ↦ absurd (elim began [ inl more ↦ omega (arith, more, not.1) | inr more ↦ omega (arith, more, not.2) ])
      ];
      cause = λ set. (
        marks c ready.alters.kind,
        refl,
        elim changing.stopped [
          | inl stopped ↦ stopped.1
          | inr not ↦ absurd (false≢true (sym not.0 ∙ set))
        ],
      );
      calmly = λ set calm. absurd (false≢true (sym (changing.unbegun (only_missing kind old.outside new.outside changing.failed calm)) ∙ set));
    };
    stays = record {
      key = changing.key;
      limit = changing.limit;
      header = changing.header;
      bytes = λ off. elim off [
        | inl still ↦ absurd (false≢true (sym still ∙ marks c ready.alters.kind))
        | inr refused ↦ let u = unmoved refused.1 in (u.2, u.3)
      ];
      durable = λ calm. elim calm [
        | inl still ↦ absurd (false≢true (sym still ∙ settles c ready.alters.kind))
        | inr refused ↦ undurable refused.2
      ];
      synced = λ is. absurd (false≢true (sym (ap may_change is) ∙ ready.alters.kind));
    };
  }
