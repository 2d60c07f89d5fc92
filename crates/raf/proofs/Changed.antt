-- A change as a whole: refused before it was begun, carried out, or cut short.
use Rattle.std.proofs.Common.{◌≡◌, inl, inr, ℕ, ◌+◌, ◌-◌, ◌*◌, ◌<◌, ◌≤◌, max, Bool, true, false, cond, List, [], ◌∷◌, ◌++◌, length, take, drop, Option, Some, None, Result, Ok, Err, refl, sym, ◌∙◌, ap, subst, arith, length-append, length-take, take-append-drop}
use Rattle.std.specs.Prelude.{if◌then◌else◌, nat_lt, nat_eq}
use Rattle.std.proofs.lemmas.List.{drop_all}
use Rattle.std.proofs.lemmas.Nat.{mul-le}
use Rattle.std.proofs.lemmas.Bool.{cases_lt, false≢true}
use Rattle.std.proofs.lemmas.Bool.Decides.{nat_tests}
use Rattle.raf_io.specs.Source.{Takes, TakesAtMost}
use Rattle.raf_io.specs.Kinds.{kind_of}
use Rattle.raf_tree.specs.Hashing.{Hashing}
use Rattle.raf_tree.specs.Kept.{Kept}
use Rattle.raf_tree.specs.Steps.{Updated}
use Rattle.raf_format.specs.Cipher.{Cipher}
use Rattle.raf_format.specs.File.{Shape, shape_of, layout_len}
use Rattle.raf_format.specs.Header.{sealed_header}
use Rattle.raf.specs.Handle.{handle_of}
use Rattle.raf.specs.Outside.{Outside, Quiet, Moved, MayHaveBegun}
use Rattle.raf.specs.Plan.{Planned}
use Rattle.raf.specs.Put.{stride, placed, nonce_at, finished, put_chunk, record_for, Unready, Changing, LeavesUpTo, TreeCarried, Hashed, needed_records, new_records, changes_of}
use Rattle.raf.specs.Stepped.{with_size}
use Rattle.raf.specs.Carry.{SameTree, OfTrees, Hindered, Unprepared, Prepares, Commits, buffer_of, kept_in}
use Rattle.raf.specs.declared.planning.Plan.{Plan}
use Rattle.raf_format.specs.declared.header.Header.{Header}
use Rattle.raf_io.specs.declared.errors.Error.{Error}
use Rattle.raf_io.specs.declared.errors.ErrorKind.{ErrorKind}
use Rattle.raf_io.specs.declared.errors.ErrorKind.TheVariants.{Io, InvalidArgument, AuthenticationFailed, AlreadyExists, NotFound, Overflow, MerkleNotEnabled, CorruptedChunk, Rng, Hash, Broken, OutOfMemory}
use Rattle.raf.proofs.Moves.{moved_then, moved_less, quiet_then, caused_later, takes_none, takes_then}
use Rattle.raf.proofs.SameTrees.{same_limit}
use Rattle.raf.proofs.Spared.{spared_same}
use Rattle.raf.proofs.Tears.{takes_most, short_then}
use Rattle.raf.proofs.Prepared.{none_misses, nonce_asked}
use Rattle.raf.proofs.Committed.{moved_calls, hashed_leaves}

empty_drop : (n : ℕ) (xs : List ℕ) → length xs ≡ 0 → drop n xs ≡ xs
empty_drop n [] none = drop_all {X = ℕ} n [] (omega arith)
empty_drop n (x ∷ xs) none = absurd (omega (arith, none))

module _ (C : Cipher) (E : List ℕ → Hashing) (K : List ℕ) (h : Header) (p : Plan) (bytes : List ℕ) (planned : Planned (shape_of C h) p (length bytes)) (size : p.before ≡ h.file_size) (key : List ℕ) where
  abbrev s : Shape
  s = shape_of C h

  unready_first : (kind : ErrorKind) (old new : Outside) → Unprepared C K h p (length bytes) kind old new → Unready kind old new
  unready_first Io old new why = why.0
  unready_first Rng old new why = why.0
  unready_first AuthenticationFailed old new why = why.0
  unready_first Hash old new why = absurd why
  unready_first (InvalidArgument r) old new why = absurd why
  unready_first AlreadyExists old new why = absurd why
  unready_first NotFound old new why = absurd why
  unready_first Overflow old new why = absurd why
  unready_first MerkleNotEnabled old new why = absurd why
  unready_first (CorruptedChunk i) old new why = absurd why
  unready_first Broken old new why = absurd why
  unready_first OutOfMemory old new why = absurd why

  unready_later : (n : ℕ) (kind : ErrorKind) (old mid new : Outside) (tree : Option Kept) → Quiet old mid → Hindered n kind mid new tree → Unready kind old new
  unready_later n Io old mid new tree q why = caused_later Io old mid new q why
  unready_later n Rng old mid new tree q why = caused_later Rng old mid new q why.0
  unready_later n Hash old mid new tree q why = caused_later Hash old mid new q why.0
  unready_later n AuthenticationFailed old mid new tree q why = absurd why
  unready_later n (InvalidArgument r) old mid new tree q why = absurd why
  unready_later n AlreadyExists old mid new tree q why = absurd why
  unready_later n NotFound old mid new tree q why = absurd why
  unready_later n Overflow old mid new tree q why = absurd why
  unready_later n MerkleNotEnabled old mid new tree q why = absurd why
  unready_later n (CorruptedChunk i) old mid new tree q why = absurd why
  unready_later n Broken old mid new tree q why = absurd why
  unready_later n OutOfMemory old mid new tree q why = absurd why

  nonces_one : p.first < p.end → C.nonce_len + (p.end - 1 - p.first) * C.nonce_len ≡ (p.end - p.first) * C.nonce_len
  nonces_one some =
      let e : p.end - p.first ≡ (p.end - 1 - p.first) + 1 = omega (arith, some) in
      omega (arith, ap (λ (k : ℕ). k * C.nonce_len) e)

  first_fits : (if nat_lt p.first p.end then C.nonce_len else 0) + (p.end - 1 - p.first) * C.nonce_len ≤ (p.end - p.first) * C.nonce_len
  first_fits = elim (cases_lt p.first p.end) [
    | inl some ↦ let a = nonce_asked C K h p (length bytes) planned size some in omega (arith, a, nonces_one some)
    | inr none ↦
        let t : nat_lt p.first p.end ≡ false = grind (arith, nat_tests) in
        let a : ◌≡◌ {A = ℕ} (if nat_lt p.first p.end then C.nonce_len else 0) 0 = ap (λ (t : Bool). cond {A = ℕ} t C.nonce_len 0) t in
        let m = mul-le (p.end - 1 - p.first) C.nonce_len (p.end - p.first) C.nonce_len (omega arith) (omega arith) in
        omega (arith, a, m)
  ]

  -- it was refused before it was begun
  pub changing_unprepared : (old new : Outside) (tree : Option Kept) (was : Bool) (front back : List ℕ) (e : Error) → was ≡ false → Prepares C K h p (length bytes) old new front back (Err e)
      → Changing C E K p bytes (handle_of old key h tree was) (handle_of new key h tree was) (Err e)
  changing_unprepared old new tree was front back e unmarked pr =
      let one = nonces_one pr.some in
      let calls : new.calls ≡ old.calls = omega (arith, pr.moved.calls_later, pr.moved.calls_most) in
      record {
        carried = tt;
        missing = λ b told auth. (cause AuthenticationFailed auth).2 b told;
        failed = unready_first (kind_of e) old new pr.failed;
        reads = pr.reads;
        asks = λ rng. pr.some;
        short = λ rng exact. short_then old.left old.left [] C.nonce_len ((p.end - p.first) * C.nonce_len) (takes_none old.left) (omega (arith, one)) ((cause Rng rng).2 exact);
        dried = λ rng. record {
          count = 0;
          below = omega (arith, pr.some);
          kept = λ _. [];
          right = λ b told. inl refl;
          nonces = [];
          drawn = omega arith;
          rest = old.left;
          taken = takes_none old.left;
          short = (cause Rng rng).2;
          bytes_are = λ b told. pr.bytes ∙ told;
        };
        hashes = λ hash. absurd (cause Hash hash);
        there = λ b told which misses. elim which [
          | inl rng ↦ (cause Rng rng).3 b told misses
          | inr other ↦ elim other [ inl hash ↦ absurd (cause Hash hash) | inr marked ↦ absurd (false≢true (sym unmarked ∙ marked)) ]
        ];
        unbegun = λ auth. unmarked;
        early = λ which. pr.early (elim which [ inl auth ↦ inl auth | inr io ↦ inr io.0 ]);
        quiet = tt;
        left = takes_most old.left new.left C.nonce_len ((p.end - p.first) * C.nonce_len) (omega (arith, one)) pr.left;
        spared = λ b told l. spared_same s p (length bytes) planned b new.bytes (pr.bytes ∙ told);
        moved = moved_calls old new _ _ _ _ 0 (moved_less old new _ _ _ _ _ (max (layout_len s p.before) (layout_len s p.size))
            (needed_records s p (length bytes) + (new_records s p + (if nat_eq p.size p.before then 0 else 96))) ((p.end - p.first) * C.nonce_len) (changes_of p) 0 pr.moved
            (omega arith) (omega arith) (omega (arith, first_fits)) (omega arith) (omega arith));
        hashed = hashed_leaves p tree old.calls new.calls (λ is. calls) (omega (arith, calls));
        strays = pr.strays;
        stopped = inr (unmarked, omega (arith, pr.moved.changes_later, pr.moved.changes_most), calls, pr.bytes, pr.durable, refl);
        unmarked = tt;
        key = refl;
        header = refl;
        limit = refl;
      }
    where
      cause : (kind : ErrorKind) → kind_of e ≡ kind → Unprepared C K h p (length bytes) kind old new
      cause kind is = subst (λ (k : ErrorKind). Unprepared C K h p (length bytes) k old new) is pr.failed

  module _ (old mid new : Outside) (tree tree' : Option Kept) (was : Bool) (unmarked : was ≡ false) (front back : List ℕ) (x : Unit {0}) (pr : Prepares C K h p (length bytes) old mid front back (Ok x)) where
    abbrev kept : ℕ → List ℕ
    kept = kept_in C h p (length bytes) front back

    abbrev nonce : List ℕ
    nonce = take C.nonce_len (buffer_of p p.first front back)

    nonce_most : length nonce ≤ C.nonce_len
    nonce_most = omega (arith, length-take C.nonce_len (buffer_of p p.first front back))

    carried_tree : (E' : List ℕ → Hashing) (a b c : Option Kept) (o o' : Option (List ℕ)) → o' ≡ o → SameTree a b → OfTrees E' o' a b (λ H. LeavesUpTo H (λ i. put_chunk s p bytes i (kept i)) p.first (p.end - p.first))
        → OfTrees E' o' b c (λ H. Updated H p.count p.first p.until) → (setting : List ℕ) (t u : Kept) → o ≡ Some setting → a ≡ Some t → c ≡ Some u
        → TreeCarried (E' setting) (λ i. put_chunk s p bytes i (kept i)) p t u
    carried_tree E' a None c o o' is same leaves nodes setting t u is_s is_t is_u = absurd (gone a same is_t)
      where
        gone : (a : Option Kept) → SameTree a None → a ≡ Some t → ⊥
        gone None same is = cc
        gone (Some y) same is = absurd same
    carried_tree E' a (Some m) c o o' is same leaves nodes setting t u is_s is_t is_u = (
      m,
      leaves setting t m (is ∙ is_s) is_t refl,
      nodes setting m u (is ∙ is_s) refl is_u,
    )

    taken_all : (nonces : List ℕ) (fin : Option (List ℕ)) → length nonces ≡ (p.end - p.first) * C.nonce_len → (1 ≤ p.end - p.first → take C.nonce_len nonces ≡ nonce) → Takes mid.left (drop C.nonce_len nonces) fin
        → Takes old.left nonces fin
    taken_all nonces fin drawn begins rest = elim (cases_lt p.first p.end) [
      | inl some ↦
          subst (λ (l : List ℕ). Takes old.left l fin) (ap (λ (l : List ℕ). l ++ drop C.nonce_len nonces) (sym (begins (omega (arith, some)))) ∙ take-append-drop C.nonce_len nonces)
          (takes_then old.left mid.left fin nonce (drop C.nonce_len nonces) (pr.taken some) rest)
      | inr none ↦
          let z : p.end - p.first ≡ 0 = omega (arith, none) in
          let e : length nonces ≡ 0 = omega (arith, drawn, ap (λ (k : ℕ). k * C.nonce_len) z) in
          subst (λ (l : List ℕ). Takes old.left l fin) (empty_drop C.nonce_len nonces e) (subst (λ (o : Option (List ℕ)). Takes o (drop C.nonce_len nonces) fin) (pr.untaken none) rest)
    ]

    module _ (r : Result (Unit {0}) Error) (cm : Commits C E key K h p bytes kept nonce mid new tree tree' r) where
      moved_all : Moved old new (max (layout_len s p.before) (layout_len s p.size)) (needed_records s p (length bytes) + (new_records s p + (if nat_eq p.size p.before then 0 else 96)))
          ((p.end - p.first) * C.nonce_len) (changes_of p) (new.calls - old.calls)
      moved_all = moved_calls old new _ _ _ _ (0 + (new.calls - mid.calls)) (moved_less old new _ _ _ _ _ (max (layout_len s p.before) (layout_len s p.size))
          (needed_records s p (length bytes) + (new_records s p + (if nat_eq p.size p.before then 0 else 96))) ((p.end - p.first) * C.nonce_len) (changes_of p) (0 + (new.calls - mid.calls))
          (moved_then old mid new _ _ _ _ _ _ _ _ _ _ pr.moved cm.moved)
          (omega arith) (omega arith) (omega (arith, first_fits)) (omega arith) (omega arith))

      calls_mid : mid.calls ≡ old.calls
      calls_mid = omega (arith, pr.moved.calls_later, pr.moved.calls_most)

      hashed_all : Hashed p tree old.calls new.calls
      hashed_all = subst (λ (n : ℕ). Hashed p tree n new.calls) calls_mid cm.hashed

    -- it was carried out
    pub changing_carried : (y : Unit {0}) → Commits C E key K h p bytes kept nonce mid new tree tree' (Ok y)
        → Changing C E K p bytes (handle_of old key h tree was) (handle_of new key (with_size h p.size) tree' was) (Ok y)
    changing_carried y cm =
        let st = cm.stored.2 in
        record {
          carried = record {
            kept = kept;
            right = λ b told. pr.right b told;
            nonces = st.nonces;
            drawn = st.drawn;
            taken = subst (λ (o : Option (List ℕ)). Takes old.left st.nonces o) (sym cm.stored.3) (taken_all st.nonces cm.stored.0.left st.drawn st.begins st.taken);
            bytes_are = λ b told.
                cm.stored.6 (placed (stride s) (λ i. record_for C K h p bytes i (nonce_at C.nonce_len p.first st.nonces i) (kept i)) p.first (p.end - p.first) b) (st.bytes_are b (pr.bytes ∙ told))
                ∙ ap (λ (k : ℕ). Some (finished (sealed_header C key (with_size h p.size)) p.before p.size k
                (placed (stride s) (λ i. record_for C K h p bytes i (nonce_at C.nonce_len p.first st.nonces i) (kept i)) p.first (p.end - p.first) b))) planned.layout;
            tree = λ t u is_t is_u setting t' is_s is_t'.
                carried_tree E tree cm.stored.1 tree' old.setting mid.setting pr.moved.setting cm.stored.4 st.leaves cm.stored.5 setting t u is_s is_t is_u;
          };
          missing = λ b told. tt;
          failed = tt;
          reads = tt;
          asks = tt;
          short = tt;
          dried = tt;
          hashes = tt;
          there = λ b told. tt;
          unbegun = tt;
          early = tt;
          quiet = quiet_then old mid new pr.quiet cm.quiet;
          left = tt;
          spared = λ b told l. cm.spared b (pr.bytes ∙ told) l;
          moved = moved_all (Ok y) cm;
          hashed = hashed_all (Ok y) cm;
          strays = λ b told long. cm.strays ∙ pr.strays b told long;
          stopped = tt;
          unmarked = unmarked;
          key = refl;
          header = refl;
          limit = same_limit tree tree' cm.same;
        }

    -- it was cut short, and the mark set
    pub changing_cut : (e : Error) → Commits C E key K h p bytes kept nonce mid new tree tree' (Err e)
        → Changing C E K p bytes (handle_of old key h tree was) (handle_of new key h tree' true) (Err e)
    changing_cut e cm = record {
      carried = tt;
      missing = λ b told auth. absurd (cause AuthenticationFailed auth);
      failed = unready_later ((p.end - 1 - p.first) * C.nonce_len) (kind_of e) old mid new tree' pr.quiet cm.failed;
      reads = λ auth. absurd (cause AuthenticationFailed auth);
      asks = cm.asks;
      short = λ rng exact.
          short_then old.left mid.left nonce ((p.end - 1 - p.first) * C.nonce_len) ((p.end - p.first) * C.nonce_len) (pr.taken (cm.asks rng)) (omega (arith, nonce_most, nonces_one (cm.asks rng)))
          ((cause Rng rng).1 (pr.moved.exact ∙ exact));
      dried = λ rng.
          let dry = cm.drained rng in
          record {
            count = dry.count;
            below = dry.below;
            kept = kept;
            right = λ b told. inr (pr.right b told);
            nonces = dry.stored.nonces;
            drawn = dry.stored.drawn;
            rest = dry.mid.left;
            taken = subst (λ (l : List ℕ). Takes old.left l dry.mid.left)
                (ap (λ (l : List ℕ). l ++ drop C.nonce_len dry.stored.nonces) (sym (dry.stored.begins dry.some)) ∙ take-append-drop C.nonce_len dry.stored.nonces)
                (takes_then old.left mid.left dry.mid.left nonce (drop C.nonce_len dry.stored.nonces) (pr.taken (cm.asks rng)) dry.stored.taken);
            short = λ exact. dry.short (pr.moved.exact ∙ exact);
            bytes_are = λ b told. dry.bytes_stay ∙ dry.stored.bytes_are b (pr.bytes ∙ told);
          };
      hashes = λ hash. (cause Hash hash).1;
      there = λ b told which. none_misses C K h p (length bytes) planned size b kept (pr.right b told);
      unbegun = λ auth. absurd (cause AuthenticationFailed auth);
      early = λ which. elim which [ inl auth ↦ absurd (cause AuthenticationFailed auth) | inr io ↦ absurd (false≢true (sym io.1)) ];
      quiet = tt;
      left = taken_some;
      spared = λ b told l. cm.spared b (pr.bytes ∙ told) l;
      moved = moved_all (Err e) cm;
      hashed = hashed_all (Err e) cm;
      strays = λ b told long. cm.strays ∙ pr.strays b told long;
      stopped = inl (refl, begun cm.began);
      unmarked = tt;
      key = refl;
      header = refl;
      limit = same_limit tree tree' cm.same;
    }
      where
        cause : (kind : ErrorKind) → kind_of e ≡ kind → Hindered ((p.end - 1 - p.first) * C.nonce_len) kind mid new tree'
        cause kind is = subst (λ (k : ErrorKind). Hindered ((p.end - 1 - p.first) * C.nonce_len) k mid new tree') is cm.failed

        begun : MayHaveBegun mid new → MayHaveBegun old new
        begun began = elim began [
          | inl rose ↦ inl (omega (arith, rose, pr.moved.changes_later))
          | inr rose ↦ inr (omega (arith, rose, pr.moved.calls_later))
        ]

        taken_some : TakesAtMost old.left ((p.end - p.first) * C.nonce_len) new.left
        taken_some = elim (cases_lt p.first p.end) [
          | inl some ↦ (
            nonce ++ cm.left.0,
            omega (arith, length-append nonce cm.left.0, nonce_most, cm.left.1, nonces_one some),
            takes_then old.left mid.left new.left nonce cm.left.0 (pr.taken some) cm.left.2,
          )
          | inr none ↦ (
            cm.left.0,
            omega (arith, cm.left.1, mul-le (p.end - 1 - p.first) C.nonce_len (p.end - p.first) C.nonce_len (omega arith) (omega arith)),
            subst (λ (o : Option (List ℕ)). Takes o cm.left.0 new.left) (pr.untaken none) cm.left.2,
          )
        ]
