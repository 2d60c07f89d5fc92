-- A change that is made ready: what is kept of its old chunks stands in the buffers.
use Rattle.std.proofs.Common.{◌≡◌, inl, inr, ℕ, ◌+◌, ◌-◌, ◌*◌, ◌<◌, ◌≤◌, min, Bool, true, false, cond, List, length, take, drop, Option, Some, None, Result, Ok, Err, refl, sym, ◌∙◌, ap, subst, arith}
use Rattle.std.specs.Prelude.{if◌then◌else◌, nat_lt, nat_le, ◌&&◌, not}
use Rattle.std.specs.Result.{OnOk, OnErr, IfErr}
use Rattle.std.proofs.lemmas.List.{take-take}
use Rattle.std.proofs.lemmas.Bool.{cases_lt}
use Rattle.std.proofs.lemmas.Bool.Decides.{nat_tests}
use Rattle.raf_io.specs.Source.{Takes, TakesAtMost, IsShort}
use Rattle.raf_io.specs.Kinds.{kind_of}
use Rattle.raf_format.specs.Cipher.{Cipher}
use Rattle.raf_format.specs.File.{Shape, shape_of, tag_len, chunk_at, chunk_len, chunk_count, layout_len, record_len}
use Rattle.raf_format.proofs.Versions.{is_tag_len, tag_least}
use Rattle.raf.specs.Loaded.{Loads, Unopened}
use Rattle.raf.specs.Outside.{Outside, Quiet, Caused}
use Rattle.raf.specs.Plan.{Planned, kept_len}
use Rattle.raf.specs.Put.{KeptOf, Misses, needed_record, needed_records}
use Rattle.raf.specs.Carry.{Readies, Draws, Prepares, Unprepared, buffer_of, kept_in}
use Rattle.raf.specs.declared.planning.Plan.{Plan}
use Rattle.raf_format.specs.declared.header.Header.{Header}
use Rattle.raf_io.specs.declared.errors.Error.{Error}
use Rattle.raf_io.specs.declared.errors.ErrorKind.{ErrorKind}
use Rattle.raf_io.specs.declared.errors.ErrorKind.TheVariants.{Io, InvalidArgument, AuthenticationFailed, AlreadyExists, NotFound, Overflow, MerkleNotEnabled, CorruptedChunk, Rng, Hash, Broken, OutOfMemory}
use Rattle.raf.proofs.Moves.{moved_then, moved_less, moved_any, moved_same, quiet_then, kept_then, caused_later, unopened_later}
use Rattle.raf.proofs.Spans.{record_inside, count_above}
use Rattle.raf.proofs.Tears.{takes_nothing}
use Rattle.raf.proofs.PutRecords.{on_ok, on_ok_any, if_err, buffer_front, buffer_back}

pub on_err : {T E : Type 0} (r : Result T E) (P Q : Type 0) → (P → Q) → OnErr r P → OnErr r Q
on_err (Ok x) P Q f h = tt
on_err (Err e) P Q f h = f h

pub on_err_any : {T E : Type 0} (r : Result T E) (P : Type 0) → P → OnErr r P
on_err_any (Ok x) P h = tt
on_err_any (Err e) P h = h

pub if_err_and : {T E : Type 0} (r : Result T E) (P : E → Type 0) (Q : Type 0) (R : E → Type 0) → ((e : E) → P e → Q → R e) → IfErr r P → OnErr r Q → IfErr r R
if_err_and (Ok x) P Q R f h k = tt
if_err_and (Err e) P Q R f h k = f e h k

-- what is kept is a part of the old chunk
pub kept_fits_old : (chunk_size : ℕ) (p : Plan) (len index : ℕ) → kept_len chunk_size p len index ≤ chunk_len chunk_size p.before index
kept_fits_old chunk_size p len index =
    let start = index * chunk_size in
    let stop = min (start + chunk_size) (min p.before p.size) in
    go (nat_lt start stop && not (nat_le p.offset start && nat_le stop (p.offset + len)))
  where
    go : (t : Bool) → cond {A = ℕ} t (min (index * chunk_size + chunk_size) (min p.before p.size) - index * chunk_size) 0 ≤ chunk_len chunk_size p.before index
    go true = omega arith
    go false = omega arith

pub kept_begins : (chunk_size : ℕ) (p : Plan) (len index : ℕ) → 0 < kept_len chunk_size p len index → index * chunk_size < p.before
kept_begins chunk_size p len index some =
    let fits = kept_fits_old chunk_size p len index in
    omega (arith, some, fits)

module _ (s : Shape) (p : Plan) (len : ℕ) where
  pub needed_is : (index : ℕ) → 0 < kept_len s.chunk_size p len index → needed_record s p len index ≡ record_len s p.before index
  needed_is index some =
      let t : nat_lt 0 (kept_len s.chunk_size p len index) ≡ true = grind (arith, nat_tests) in
      ap (λ (t : Bool). cond {A = ℕ} t (record_len s p.before index) 0) t

  abbrev pub first_needed : ℕ
  first_needed = if nat_lt (p.first + 1) p.end then needed_record s p len p.first else 0

  -- where bytes of a record are asked something of its chunk is kept
  pub kept_by : (index : ℕ) → 1 ≤ needed_record s p len index → 0 < kept_len s.chunk_size p len index
  kept_by index some = elim (cases_lt 0 (kept_len s.chunk_size p len index)) [
    | inl kept ↦ kept
    | inr none ↦
        let t : nat_lt 0 (kept_len s.chunk_size p len index) ≡ false = grind (arith, nat_tests) in
        absurd (omega (arith, some, ap (λ (t : Bool). cond {A = ℕ} t (record_len s p.before index) 0) t))
  ]

  pub kept_first : 1 ≤ first_needed → 0 < kept_len s.chunk_size p len p.first
  kept_first some = kept_by p.first (go (nat_lt (p.first + 1) p.end) some)
    where
      go : (t : Bool) → 1 ≤ cond {A = ℕ} t (needed_record s p len p.first) 0 → 1 ≤ needed_record s p len p.first
      go true some = some
      go false some = absurd (omega (arith, some))

  pub needed_all : p.first < p.end → needed_records s p len ≡ first_needed + needed_record s p len (p.end - 1)
  needed_all some =
      let t : nat_lt p.first p.end ≡ true = grind (arith, nat_tests) in
      ap (λ (t : Bool). cond {A = ℕ} t (first_needed + needed_record s p len (p.end - 1)) 0) t

module _ (C : Cipher) (K : List ℕ) (h : Header) (p : Plan) (len : ℕ) (planned : Planned (shape_of C h) p len) (size : p.before ≡ h.file_size) where
  abbrev s : Shape
  s = shape_of C h

  -- a chunk of which bytes are kept was opened, or not
  pub readies_loaded : (r : Result (Unit {0}) Error) (index : ℕ) (old new : Outside) (after : List ℕ) → 0 < kept_len h.chunk_size p len index → Loads C K h index old new (take (chunk_len h.chunk_size h.file_size index) (drop C.nonce_len after)) r
      → Readies C K h p index (kept_len h.chunk_size p len index) (needed_record s p len index) old new after r
  readies_loaded r index old new after some l =
      let asked = needed_is s p len index some in
      let there : index < chunk_count h.chunk_size p.before = count_above h.chunk_size p.before planned.least index (kept_begins h.chunk_size p len index some) in
      let inside = record_inside s p.before planned.least index there in
      let tag = tag_least (tag_len s) (is_tag_len h.version) in
      record {
        stands = λ b told. on_ok r _ _ (λ (is : chunk_at C K h b index ≡ Some (take (chunk_len h.chunk_size h.file_size index) (drop C.nonce_len after))) some.
            is ∙ ap (λ (n : ℕ). Some (take (chunk_len h.chunk_size n index) (drop C.nonce_len after))) (sym size)) (l.loaded b told);
        missing = λ b told. if_err r _ _ (λ e none auth. (some, none auth)) (l.missing b told);
        kinds = l.kinds;
        needed = on_err_any r _ (omega (arith, asked, tag));
        quiet = l.quiet;
        kept = l.kept;
        moved =
            let n : record_len s h.file_size index ≡ record_len s p.before index = ap (λ (n : ℕ). record_len s n index) (sym size) in
            moved_less old new _ _ _ _ _ (layout_len s p.before) (needed_record s p len index) 0 0 0 l.moved (omega (arith, inside, n)) (omega (arith, asked, n)) (omega arith) (omega arith) (omega arith);
        strays = λ b told long. l.strays b told (subst (λ (n : ℕ). layout_len s n ≤ length b) size long);
      }

  -- the first touched chunk is the last one: nothing is opened
  pub readies_none : (old : Outside) (buf : List ℕ) (x : Unit {0}) → p.first + 1 ≡ p.end
      → Readies C K h p p.first (if nat_lt (p.first + 1) p.end then kept_len h.chunk_size p len p.first else 0) (first_needed s p len) old old buf (Ok x)
  readies_none old buf x one = record {
    stands = λ b told some. absurd (omega (arith, some, none));
    missing = λ b told. tt;
    kinds = tt;
    needed = tt;
    quiet = record { io = refl; rng = refl; hash = refl };
    kept = record { bytes = refl; durable = refl; left = refl };
    moved = moved_any old old _ _ _ _ _ (moved_same old old refl);
    strays = λ b told long. refl;
  }
    where
      none : (if nat_lt (p.first + 1) p.end then kept_len h.chunk_size p len p.first else 0) ≡ 0
      none =
          let t : nat_lt (p.first + 1) p.end ≡ false = grind (arith, nat_tests) in
          ap (λ (t : Bool). cond {A = ℕ} t (kept_len h.chunk_size p len p.first) 0) t

  -- it isn't the last one
  pub readies_first : (r : Result (Unit {0}) Error) (old new : Outside) (buf : List ℕ) → p.first + 1 < p.end
      → Readies C K h p p.first (kept_len h.chunk_size p len p.first) (needed_record s p len p.first) old new buf r
      → Readies C K h p p.first (if nat_lt (p.first + 1) p.end then kept_len h.chunk_size p len p.first else 0) (first_needed s p len) old new buf r
  readies_first r old new buf more l =
      let t : nat_lt (p.first + 1) p.end ≡ true = grind (arith, nat_tests) in
      subst (λ (t : Bool). Readies C K h p p.first (cond {A = ℕ} t (kept_len h.chunk_size p len p.first) 0) (cond {A = ℕ} t (needed_record s p len p.first) 0) old new buf r) (sym t) l

  -- what is kept stands in the buffers
  pub kept_right : (b front back front' back' : List ℕ) → p.first < p.end → drop C.nonce_len front' ≡ drop C.nonce_len front → drop C.nonce_len back' ≡ drop C.nonce_len back
      → (0 < (if nat_lt (p.first + 1) p.end then kept_len h.chunk_size p len p.first else 0) → chunk_at C K h b p.first ≡ Some (take (chunk_len h.chunk_size p.before p.first) (drop C.nonce_len front)))
      → (0 < kept_len h.chunk_size p len (p.end - 1) → chunk_at C K h b (p.end - 1) ≡ Some (take (chunk_len h.chunk_size p.before (p.end - 1)) (drop C.nonce_len back)))
      → KeptOf C K h p len b (kept_in C h p len front' back')
  kept_right b front back front' back' some same_front same_back f g i le lt = (
    λ zero. ap (λ (k : ℕ). take k (drop C.nonce_len (buffer_of p i front' back'))) zero,
    found,
  )
    where
      held : (buf : List ℕ) → drop C.nonce_len (buffer_of p i front' back') ≡ drop C.nonce_len buf → chunk_at C K h b i ≡ Some (take (chunk_len h.chunk_size p.before i) (drop C.nonce_len buf))
          → (m : List ℕ) × (chunk_at C K h b i ≡ Some m) × (kept_in C h p len front' back' i ≡ take (kept_len h.chunk_size p len i) m)
      held buf same is = (
        take (chunk_len h.chunk_size p.before i) (drop C.nonce_len buf),
        is,
        ap (λ (l : List ℕ). take (kept_len h.chunk_size p len i) l) same
            ∙ sym (take-take (kept_len h.chunk_size p len i) (chunk_len h.chunk_size p.before i) (drop C.nonce_len buf) (kept_fits_old h.chunk_size p len i)),
      )

      found : 0 < kept_len h.chunk_size p len i → (m : List ℕ) × (chunk_at C K h b i ≡ Some m) × (kept_in C h p len front' back' i ≡ take (kept_len h.chunk_size p len i) m)
      found had = elim (cases_lt (i + 1) p.end) [
        | inl more ↦ elim (cases_lt p.first i) [
          | inl above ↦ absurd (omega (arith, had, planned.covered i above more))
          | inr here ↦
              let is : i ≡ p.first = omega (arith, here, le) in
              let t : nat_lt (p.first + 1) p.end ≡ true = grind (arith, nat_tests, is) in
              let wanted : (if nat_lt (p.first + 1) p.end then kept_len h.chunk_size p len p.first else 0) ≡ kept_len h.chunk_size p len i =
              ap (λ (t : Bool). cond {A = ℕ} t (kept_len h.chunk_size p len p.first) 0) t ∙ ap (λ (j : ℕ). kept_len h.chunk_size p len j) (sym is) in
              held front (ap (λ (l : List ℕ). drop C.nonce_len l) (buffer_front p i front' back' more) ∙ same_front)
              (subst (λ (j : ℕ). chunk_at C K h b j ≡ Some (take (chunk_len h.chunk_size p.before j) (drop C.nonce_len front))) (sym is) (f (omega (arith, had, wanted))))
        ]
        | inr last ↦
            let is : i ≡ p.end - 1 = omega (arith, last, lt) in
            held back (ap (λ (l : List ℕ). drop C.nonce_len l) (buffer_back p i front' back' last) ∙ same_back)
            (subst (λ (j : ℕ). chunk_at C K h b j ≡ Some (take (chunk_len h.chunk_size p.before j) (drop C.nonce_len back))) (sym is) (g (omega (arith, had, ap (λ (j : ℕ). kept_len h.chunk_size p len j) is))))
      ]

  -- where what is kept is right none is missing
  pub none_misses : (b : List ℕ) (kept : ℕ → List ℕ) → KeptOf C K h p len b kept → Misses C K h p len b → ⊥
  none_misses b kept right (i, le, lt, some, none) =
      let m = (right i le lt).1 some in
      differ (chunk_at C K h b i) m.0 m.1 none
    where
      differ : (o : Option (List ℕ)) (m : List ℕ) → o ≡ Some m → o ≡ None → ⊥
      differ o m is none = cc

  unprepared : (kind : ErrorKind) (old new : Outside) → Unopened kind old new → 1 ≤ needed_records s p len → new.left ≡ old.left
      → (kind ≡ AuthenticationFailed → (b : List ℕ) → old.bytes ≡ Some b → Misses C K h p len b) → Unprepared C K h p len kind old new
  unprepared Io old new why some left misses = (why, some)
  unprepared AuthenticationFailed old new why some left misses = (why, left, misses refl)
  unprepared Rng old new why some left misses = absurd why
  unprepared Hash old new why some left misses = absurd why
  unprepared (InvalidArgument r) old new why some left misses = absurd why
  unprepared AlreadyExists old new why some left misses = absurd why
  unprepared NotFound old new why some left misses = absurd why
  unprepared Overflow old new why some left misses = absurd why
  unprepared MerkleNotEnabled old new why some left misses = absurd why
  unprepared (CorruptedChunk i) old new why some left misses = absurd why
  unprepared Broken old new why some left misses = absurd why
  unprepared OutOfMemory old new why some left misses = absurd why

  abbrev first_wanted : ℕ
  first_wanted = if nat_lt (p.first + 1) p.end then kept_len h.chunk_size p len p.first else 0

  first_wanted_is : 0 < first_wanted → 0 < kept_len h.chunk_size p len p.first
  first_wanted_is some = go (nat_lt (p.first + 1) p.end) some
    where
      go : (t : Bool) → 0 < cond {A = ℕ} t (kept_len h.chunk_size p len p.first) 0 → 0 < kept_len h.chunk_size p len p.first
      go true some = some
      go false some = absurd (omega (arith, some))

  pub nonce_asked : p.first < p.end → (if nat_lt p.first p.end then C.nonce_len else 0) ≡ C.nonce_len
  nonce_asked some =
      let t : nat_lt p.first p.end ≡ true = grind (arith, nat_tests) in
      ap (λ (t : Bool). cond {A = ℕ} t C.nonce_len 0) t

  module _ (some : p.first < p.end) (old mid : Outside) (front : List ℕ) where
    -- the first chunk wasn't opened
    pub prepares_unopened : (back : List ℕ) (e : Error) → Readies C K h p p.first first_wanted (first_needed s p len) old mid front (Err e) → Prepares C K h p len old mid front back (Err e)
    prepares_unopened back e l =
        let asked = needed_all s p len some in
        record {
          right = λ b told. tt;
          taken = λ lt. tt;
          untaken = λ none. l.kept.left;
          failed = unprepared (kind_of e) old mid l.kinds (omega (arith, asked, l.needed)) l.kept.left
              (λ auth b told. let m = l.missing b told auth in (p.first, omega arith, some, first_wanted_is m.0, m.1));
          some = some;
          reads = λ auth. (p.first, omega arith, some, kept_first s p len l.needed);
          early = λ which. (
            l.kept.left,
            moved_less old mid _ _ _ _ _ (layout_len s p.before) (needed_records s p len) 0 0 0 l.moved
                (omega arith) (omega (arith, asked)) (omega arith) (omega arith) (omega arith),
          );
          left = takes_nothing old.left mid.left C.nonce_len l.kept.left;
          bytes = l.kept.bytes;
          durable = l.kept.durable;
          quiet = tt;
          moved = moved_less old mid _ _ _ _ _ (layout_len s p.before) (needed_records s p len) (if nat_lt p.first p.end then C.nonce_len else 0) 0 0 l.moved
              (omega arith) (omega (arith, asked)) (omega arith) (omega arith) (omega arith);
          strays = l.strays;
        }

    module _ (x : Unit {0}) (l : Readies C K h p p.first first_wanted (first_needed s p len) old mid front (Ok x)) (new : Outside) (back : List ℕ) where
      -- the last one wasn't
      pub prepares_unopened_last : (e : Error) → Readies C K h p (p.end - 1) (kept_len h.chunk_size p len (p.end - 1)) (needed_record s p len (p.end - 1)) mid new back (Err e)
          → Prepares C K h p len old new front back (Err e)
      prepares_unopened_last e m =
          let asked = needed_all s p len some in
          let k = kept_then old mid new l.kept m.kept in
          record {
            right = λ b told. tt;
            taken = λ lt. tt;
            untaken = λ none. k.left;
            failed = unprepared (kind_of e) old new (unopened_later (kind_of e) old mid new l.quiet m.kinds) (omega (arith, asked, m.needed)) k.left
                (λ auth b told. let n = m.missing b (l.kept.bytes ∙ told) auth in (p.end - 1, omega (arith, some), omega (arith, some), n.0, n.1));
            some = some;
            reads = λ auth. (p.end - 1, omega (arith, some), omega (arith, some), kept_by s p len (p.end - 1) m.needed);
            early = λ which. (
              k.left,
              moved_less old new _ _ _ _ _ (layout_len s p.before) (needed_records s p len) 0 0 0
                  (moved_then old mid new _ _ _ _ _ _ _ _ _ _ l.moved m.moved)
                  (omega arith) (omega (arith, asked)) (omega arith) (omega arith) (omega arith),
            );
            left = takes_nothing old.left new.left C.nonce_len k.left;
            bytes = k.bytes;
            durable = k.durable;
            quiet = tt;
            moved = moved_less old new _ _ _ _ _ (layout_len s p.before) (needed_records s p len) (if nat_lt p.first p.end then C.nonce_len else 0) 0 0
                (moved_then old mid new _ _ _ _ _ _ _ _ _ _ l.moved m.moved)
                (omega arith) (omega (arith, asked)) (omega arith) (omega arith) (omega arith);
            strays = λ b told long. m.strays b (l.kept.bytes ∙ told) long ∙ l.strays b told long;
          }

      -- and then the first nonce is drawn, or not
      pub prepares_drawn : (y : Unit {0}) (r : Result (Unit {0}) Error) (drawn : Outside) (front' back' : List ℕ)
          → Readies C K h p (p.end - 1) (kept_len h.chunk_size p len (p.end - 1)) (needed_record s p len (p.end - 1)) mid new back (Ok y)
          → Draws C.nonce_len p p.first front back new drawn front' back' r → Prepares C K h p len old drawn front' back' r
      prepares_drawn y r drawn front' back' m d =
          let asked = needed_all s p len some in
          let k = kept_then old mid new l.kept m.kept in
          let q = quiet_then old mid new l.quiet m.quiet in
          record {
            right = λ b told. on_ok_any r _ (right b told);
            taken = λ lt. subst (λ (o : Option (List ℕ)). OnOk r (Takes o (take C.nonce_len (buffer_of p p.first front' back')) drawn.left)) k.left d.taken;
            untaken = λ none. absurd (omega (arith, some, none));
            failed = if_err_and r _ _ _ (λ e (why : (kind_of e ≡ Rng) × Caused Rng new drawn) (short : new.exact ≡ true → IsShort new.left C.nonce_len).
                subst (λ (k : ErrorKind). Unprepared C K h p len k old drawn) (sym why.0) (
                  caused_later Rng old new drawn q why.1,
                  some,
                  (λ exact. subst (λ (o : Option (List ℕ)). IsShort o C.nonce_len) k.left (short (m.moved.exact ∙ l.moved.exact ∙ exact))),
                  (λ b told. none_misses b (kept_in C h p len front' back') (right b told)),
                )) d.failed d.short;
            some = on_err_any r _ some;
            reads = if_err r _ _ (λ e (why : (kind_of e ≡ Rng) × Caused Rng new drawn) auth. absurd (not_missing (kind_of e) why.0 auth)) d.failed;
            early = if_err r _ _ (λ e (why : (kind_of e ≡ Rng) × Caused Rng new drawn) which. absurd (elim which [ inl auth ↦ not_missing (kind_of e) why.0 auth | inr io ↦ not_io (kind_of e) why.0 io ])) d.failed;
            left = subst (λ (o : Option (List ℕ)). OnErr r (TakesAtMost o C.nonce_len drawn.left)) k.left d.left;
            bytes = d.bytes ∙ k.bytes;
            durable = d.durable ∙ k.durable;
            quiet = on_ok r _ _ (λ (last : Quiet new drawn). quiet_then old new drawn q last) d.quiet;
            moved = moved_less old drawn _ _ _ _ _ (layout_len s p.before) (needed_records s p len) (if nat_lt p.first p.end then C.nonce_len else 0) 0 0
                (moved_then old new drawn _ _ _ _ _ _ _ _ _ _ (moved_then old mid new _ _ _ _ _ _ _ _ _ _ l.moved m.moved) d.moved)
                (omega arith) (omega (arith, asked)) (omega (arith, nonce_asked some)) (omega arith) (omega arith);
            strays = λ b told long. d.strays ∙ m.strays b (l.kept.bytes ∙ told) long ∙ l.strays b told long;
          }
        where
          not_missing : (kind : ErrorKind) → kind ≡ Rng → kind ≡ AuthenticationFailed → ⊥
          not_missing kind rng auth = cc

          not_io : (kind : ErrorKind) → kind ≡ Rng → kind ≡ Io → ⊥
          not_io kind rng io = cc

          right : (b : List ℕ) → old.bytes ≡ Some b → KeptOf C K h p len b (kept_in C h p len front' back')
          right b told = kept_right b front back front' back' some d.front_rest d.back_rest (l.stands b told) (m.stands b (l.kept.bytes ∙ told))
