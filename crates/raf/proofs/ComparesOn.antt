-- Two files with equal commitments are compared further: the verdict, or why there is none.
use Rattle.std.proofs.Common.{◌≡◌, ◌⊎◌, inl, inr, ℕ, ◌+◌, ◌-◌, ◌≤◌, Bool, true, false, List, length, Some, Result, Ok, Err, refl, sym, ◌∙◌, ap, subst, arith}
use Rattle.std.specs.Result.{IfOk, IsErrAnd}
use Rattle.std.specs.Bool.{Decides}
use Rattle.std.specs.Prelude.{nat_eq, not}
use Rattle.std.specs.Cmp.Lexicographic.{bytes_decides}
use lib.Pointwise.{pointwise}
use Rattle.raf_io.specs.Kinds.{kind_of}
use Rattle.raf_io.specs.declared.errors.Error.{Error}
use Rattle.raf_io.specs.declared.errors.ErrorKind.{ErrorKind}
use Rattle.raf_io.specs.declared.errors.ErrorKind.TheVariants.{Io, InvalidArgument, AuthenticationFailed, AlreadyExists, NotFound, Overflow, MerkleNotEnabled, CorruptedChunk, Rng, Hash, Broken, OutOfMemory}
use Rattle.raf_tree.specs.Hashing.{Hashing}
use Rattle.raf_tree.specs.Kept.{Kept as Tree, kept, tree_height}
use Rattle.raf_tree.specs.Tree.{leaves, root}
use Rattle.raf_tree.specs.Calls.{Content, answer, commitment_call, content_height}
use Rattle.raf_tree.specs.Clash.{Fits}
use Rattle.raf_tree.specs.Walk.{SameNode, BindingLaws}
use Rattle.raf_tree.specs.declared.place.Place.TheVariants as place
use Rattle.raf_format.specs.Cipher.{Cipher}
use Rattle.raf_format.specs.File.{File}
use Rattle.raf.specs.Concern.{none_missing}
use Rattle.raf.specs.Outside.{Outside}
use Rattle.raf_format.specs.File.{chunk_count}
use Rattle.raf.specs.Handle.{Handle, HasRoom}
use Rattle.raf.specs.Clash.{HasContent, Judges, Compared, Comparable, Lacks, WhyNotCompared, committed, long, height_in}
use Rattle.raf.specs.Clashing.{AsksBoth, FoundBelow, Halts, OfContents, Steps, Unreadable}
use Rattle.raf.specs.declared.clashing.Verdict.{Verdict}
use Rattle.raf.specs.declared.clashing.Verdict.TheVariants.{Same, Clash}
use Rattle.std.proofs.lemmas.Bool.{true≢false}
use Rattle.raf.proofs.TreeRebuilds.{some_missing}
use Rattle.raf.proofs.Clashes.{looked_less, steps_later, content_stays}
use Rattle.raf.proofs.ChunkLooks.{with_outside, content_count}
use Rattle.raf.proofs.Judged.{asked_one, calls_are, commitment_is, compared_equal, context_is, height_is, judged_below, judged_context, judged_heights, judged_root, judged_same, judged_size, root_is, same_roots, size_is}

-- two ids were compared
pub ids_same : (x y : List ℕ) (other : Bool) → other ≡ not (pointwise nat_eq x y) → other ≡ false → x ≡ y
ids_same x y other is off = (bytes_decides x y).0 (by (pointwise nat_eq x y) (sym is ∙ off))
  where
    by : (b : Bool) → not b ≡ false → b ≡ true
    by true e = refl
    by false e = cc

pub ids_differ : (x y : List ℕ) (other : Bool) → other ≡ not (pointwise nat_eq x y) → other ≡ true → x ≡ y → ⊥
ids_differ x y other is on same = by (pointwise nat_eq x y) ((bytes_decides x y).1 same) (sym is ∙ on)
  where
    by : (b : Bool) → b ≡ true → not b ≡ true → ⊥
    by true e f = cc
    by false e f = cc

-- a chunk that doesn't open is missing in the file
lacks_of : (C : Cipher) (h : Handle) → Unreadable C h → Lacks C h
lacks_of C h is F holds =
    let found = is holds.bytes holds.tells in
    ap (λ (f : File). none_missing (λ _. true) 0 f.chunks) holds.file
    ∙ some_missing C (C.chunk_key h.key h.header.id) h.header holds.bytes found.0 found.1 found.2

why_not : (C D : Cipher) (a b c d : Handle) → Comparable a b → (kind : ErrorKind) → Halts C D a b c d kind → WhyNotCompared C D a b c d kind
why_not C D a b c d both Io f = (both, f)
why_not C D a b c d both AuthenticationFailed f =
    (both, elim f.0 [ inl u ↦ inl (lacks_of C a u) | inr u ↦ inr (lacks_of D b u) ], f.1, f.2)
why_not C D a b c d both Hash f = (both, f)
why_not C D a b c d both Rng f = absurd f
why_not C D a b c d both (InvalidArgument r) f = absurd f
why_not C D a b c d both AlreadyExists f = absurd f
why_not C D a b c d both NotFound f = absurd f
why_not C D a b c d both Overflow f = absurd f
why_not C D a b c d both MerkleNotEnabled f = absurd f
why_not C D a b c d both (CorruptedChunk i) f = absurd f
why_not C D a b c d both Broken f = absurd f
why_not C D a b c d both OutOfMemory f = absurd f

module _ (C D : Cipher) (E : List ℕ → Hashing) (a b : Handle) (p q : Outside) (r : Bool) (unmarked : (a.broken ≡ false) × (b.broken ≡ false)) (equal : r ≡ true)
    (asks : let was : Result Bool Error = Ok r in AsksBoth a.tree b.tree a.outside b.outside p q was)
    (same : (t u : Tree) → a.tree ≡ Some t → b.tree ≡ Some u → (s : List ℕ) → a.outside.setting ≡ Some s → b.outside.setting ≡ Some s
    → Decides r ((E s).commitment (kept t (tree_height t) 0) a.header.id a.header.file_size ≡ (E s).commitment (kept u (tree_height u) 0) b.header.id b.header.file_size)) where
  both_there : (k : Tree) × (m : Tree) × (a.tree ≡ Some k) × (b.tree ≡ Some m)
  both_there = elim asks [ inl both ↦ both.0 | inr missing ↦ absurd missing.3 ]

  -- the steps from the beginning: one hash of each for the commitment, and then these
  from_start : {T : Type 0} (t c t' c' : ℕ) (x y : Handle) (found : Result T Error) → Steps C D t c t' c' (with_outside a p) (with_outside b q) x y found
      → Steps C D (0 + t) (1 + c) (0 + t') (1 + c') a b x y found
  from_start {T = S} t c t' c' x y found steps = elim asks [
    | inl both ↦ steps_later C D 0 1 0 1 a b (with_outside a p) (with_outside b q)
        (asked_one C a p both.1.kept.0 both.1.first both.1.strays.0) (asked_one D b q both.1.kept.1 both.1.second both.1.strays.1) both.1.quiet
        {T = S} t c t' c' x y found steps
    | inr missing ↦ absurd missing.3
  ]

  pub compared_on : {T : Type 0} (t c t' c' : ℕ) (x y : Handle) (found : T) (v : Verdict)
      → t ≤ long C a - 96 → c ≤ height_in a.tree → t' ≤ long D b - 96 → c' ≤ height_in b.tree
      → (let was : Result T Error = Ok found in Steps C D t c t' c' (with_outside a p) (with_outside b q) x y was)
      → ((s : List ℕ) (m n : Content) → HasContent C E s a m → HasContent D E s b n → committed (E s) m ≡ committed (E s) n → Judges (E s) m n v)
      → Compared C D E a b x y (Ok v)
  compared_on {T = S} t c t' c' x y found v few_t few_c few_t' few_c' steps judge =
      let was : Result S Error = Ok found in
      let all = from_start {T = S} t c t' c' x y was steps in
      record {
        judged = λ s m n has_m has_n. judge s m n has_m has_n
            (commitment_is C E s a m has_m ∙ (same has_m.tree has_n.tree has_m.kept has_n.kept s has_m.hashed has_n.hashed).0 equal ∙ sym (commitment_is D E s b n has_n));
        comparable = record { unmarked = unmarked; hashed = both_there };
        quiet = all.quiet;
        refused = tt;
        first = looked_less C (0 + t) (1 + c) (long C a - 96) (height_in a.tree + 1) a x (omega (arith, few_t)) (omega (arith, few_c)) all.first;
        second = looked_less D (0 + t') (1 + c') (long D b - 96) (height_in b.tree + 1) b y (omega (arith, few_t')) (omega (arith, few_c')) all.second;
      }

  pub stopped_on : {T : Type 0} (t c t' c' : ℕ) (x y : Handle) (e : Error) (v : Result Verdict Error) → IsErrAnd v (λ z. z ≡ e)
      → t ≤ long C a - 96 → c ≤ height_in a.tree → t' ≤ long D b - 96 → c' ≤ height_in b.tree
      → (let was : Result T Error = Err e in Steps C D t c t' c' (with_outside a p) (with_outside b q) x y was)
      → Compared C D E a b x y v
  stopped_on t c t' c' x y e (Ok v) is few_t few_c few_t' few_c' steps = absurd is
  stopped_on {T = S} t c t' c' x y e (Err z) is few_t few_c few_t' few_c' steps =
      let was : Result S Error = Err e in
      let all = from_start {T = S} t c t' c' x y was steps in
      record {
        judged = λ s m n has_m has_n. tt;
        comparable = tt;
        quiet = tt;
        refused = subst (λ (k : ErrorKind). WhyNotCompared C D a b x y k) (sym (ap kind_of is))
            (why_not C D a b x y (record { unmarked = unmarked; hashed = both_there }) (kind_of e) all.halted);
        first = looked_less C (0 + t) (1 + c) (long C a - 96) (height_in a.tree + 1) a x (omega (arith, few_t)) (omega (arith, few_c)) all.first;
        second = looked_less D (0 + t') (1 + c') (long D b - 96) (height_in b.tree + 1) b y (omega (arith, few_t')) (omega (arith, few_c')) all.second;
      }

  -- where it is handed on
  pub handed_on : (t c t' c' : ℕ) (x y : Handle) (v : Result Verdict Error)
      → t ≤ long C a - 96 → c ≤ height_in a.tree → t' ≤ long D b - 96 → c' ≤ height_in b.tree
      → Steps C D t c t' c' (with_outside a p) (with_outside b q) x y v
      → ((s : List ℕ) (m n : Content) → HasContent C E s a m → HasContent D E s b n → committed (E s) m ≡ committed (E s) n → IfOk v (Judges (E s) m n))
      → Compared C D E a b x y v
  handed_on t c t' c' x y (Ok v) few_t few_c few_t' few_c' steps judge = compared_on {T = Verdict} t c t' c' x y v v few_t few_c few_t' few_c' steps judge
  handed_on t c t' c' x y (Err e) few_t few_c few_t' few_c' steps judge = stopped_on {T = Verdict} t c t' c' x y e (Err e) refl few_t few_c few_t' few_c' steps

  -- what the files have they have behind that hash
  still_first : (s : List ℕ) (m : Content) → HasContent C E s a m → HasContent C E s (with_outside a p) m
  still_first s m has = elim asks [
    | inl both ↦ content_stays C E s 0 1 a (with_outside a p) m (asked_one C a p both.1.kept.0 both.1.first both.1.strays.0) has
    | inr missing ↦ absurd missing.3
  ]

  still_second : (s : List ℕ) (n : Content) → HasContent D E s b n → HasContent D E s (with_outside b q) n
  still_second s n has = elim asks [
    | inl both ↦ content_stays D E s 0 1 b (with_outside b q) n (asked_one D b q both.1.kept.1 both.1.second both.1.strays.1) has
    | inr missing ↦ absurd missing.3
  ]

  heights_are : (s : List ℕ) (m n : Content) → HasContent C E s a m → HasContent D E s b n → height_in a.tree ≡ height_in b.tree → content_height m ≡ content_height n
  heights_are s m n has_m has_n heights =
      height_is C E s a m has_m ∙ sym (ap height_in has_m.kept) ∙ heights ∙ ap height_in has_n.kept ∙ sym (height_is D E s b n has_n)

  heights_were : (s : List ℕ) (m n : Content) → HasContent C E s a m → HasContent D E s b n → content_height m ≡ content_height n → height_in a.tree ≡ height_in b.tree
  heights_were s m n has_m has_n heights =
      ap height_in has_m.kept ∙ sym (height_is C E s a m has_m) ∙ heights ∙ height_is D E s b n has_n ∙ sym (ap height_in has_n.kept)

  module _ (laws : (H : Hashing) (m n : Content) (one : answer H (commitment_call H m) ≡ answer H (commitment_call H n)) → BindingLaws H m n one) where
    -- the ids or the sizes differ
    pub other_headers : (a.header.id ≡ b.header.id → ⊥) ⊎ (a.header.file_size ≡ b.header.file_size → ⊥)
        → Compared C D E a b (with_outside a p) (with_outside b q) (Ok (Clash place.Commitment place.Commitment))
    other_headers other = compared_equal C D E a b p q r (Clash place.Commitment place.Commitment) unmarked equal asks same
        (λ s m n has_m has_n one. elim other [
          | inl ids ↦ judged_context (E s) m n one (laws (E s) m n one) (λ e. ids (sym (context_is C E s a m has_m) ∙ e ∙ context_is D E s b n has_n))
          | inr sizes ↦ judged_size (E s) m n one (laws (E s) m n one) (λ e. sizes (sym (size_is C E s a m has_m) ∙ e ∙ size_is D E s b n has_n))
        ])

    -- the roots do
    roots_differ : (s : List ℕ) (m n : Content) → HasContent C E s a m → HasContent D E s b n
        → ((t u : Tree) → a.tree ≡ Some t → b.tree ≡ Some u → kept t (tree_height t) 0 ≡ kept u (tree_height u) 0 → ⊥)
        → root (E s) (content_height m) (leaves (E s) m.chunks) ≡ root (E s) (content_height n) (leaves (E s) n.chunks) → ⊥
    roots_differ s m n has_m has_n differ e =
        differ has_m.tree has_n.tree has_m.kept has_n.kept (sym (root_is C E s a m has_m) ∙ e ∙ root_is D E s b n has_n)

    pub other_roots : ((t u : Tree) → a.tree ≡ Some t → b.tree ≡ Some u → kept t (tree_height t) 0 ≡ kept u (tree_height u) 0 → ⊥)
        → height_in a.tree ≡ height_in b.tree → Compared C D E a b (with_outside a p) (with_outside b q) (Ok (Clash place.Commitment place.Commitment))
    other_roots differ heights = compared_equal C D E a b p q r (Clash place.Commitment place.Commitment) unmarked equal asks same
        (λ s m n has_m has_n one. judged_root (E s) m n one (laws (E s) m n one) (roots_differ s m n has_m has_n differ)
        (λ chunks. heights_are s m n has_m has_n heights))

    -- the heights differ, and the chunks were compared
    module _ (x y : Handle) (alike : Bool)
        (steps : let was : Result Bool Error = Ok alike in Steps C D (long C a - 96) 0 (long D b - 96) 0 (with_outside a p) (with_outside b q) x y was)
        (found : let was : Result Bool Error = Ok alike in OfContents C D E (with_outside a p) (with_outside b q) was (λ M m n is. Decides is (m.chunks ≡ n.chunks))) where
      chunks_differ : alike ≡ false → (s : List ℕ) (m n : Content) → HasContent C E s a m → HasContent D E s b n → m.chunks ≡ n.chunks → ⊥
      chunks_differ off s m n has_m has_n chunks =
          true≢false (sym ((found s m n (still_first s m has_m) (still_second s n has_n)).1 chunks) ∙ off)

      pub same_files : alike ≡ true → a.header.id ≡ b.header.id → a.header.file_size ≡ b.header.file_size → Compared C D E a b x y (Ok Same)
      same_files on ids sizes = compared_on {T = Bool} (long C a - 96) 0 (long D b - 96) 0 x y alike Same (omega arith) (omega arith) (omega arith) (omega arith) steps
          (λ s m n has_m has_n one. judged_same (E s) m n one (laws (E s) m n one)
          (context_is C E s a m has_m ∙ ids ∙ sym (context_is D E s b n has_n)) (size_is C E s a m has_m ∙ sizes ∙ sym (size_is D E s b n has_n))
          ((found s m n (still_first s m has_m) (still_second s n has_n)).0 on))

      pub other_roots_then : alike ≡ false → ((t u : Tree) → a.tree ≡ Some t → b.tree ≡ Some u → kept t (tree_height t) 0 ≡ kept u (tree_height u) 0 → ⊥)
          → Compared C D E a b x y (Ok (Clash place.Commitment place.Commitment))
      other_roots_then off differ = compared_on {T = Bool} (long C a - 96) 0 (long D b - 96) 0 x y alike (Clash place.Commitment place.Commitment) (omega arith) (omega arith) (omega arith) (omega arith) steps
          (λ s m n has_m has_n one. judged_root (E s) m n one (laws (E s) m n one) (roots_differ s m n has_m has_n differ)
          (λ chunks. absurd (chunks_differ off s m n has_m has_n chunks)))

      pub other_heights : alike ≡ false → a.header.id ≡ b.header.id → a.header.file_size ≡ b.header.file_size → (height_in a.tree ≡ height_in b.tree → ⊥)
          → ((t u : Tree) → a.tree ≡ Some t → b.tree ≡ Some u → kept t (tree_height t) 0 ≡ kept u (tree_height u) 0)
          → (high low : ℕ) → high ≡ height_in a.tree → low ≡ height_in b.tree → Compared C D E a b x y (Ok (Clash (place.Node high 0) (place.Node low 0)))
      other_heights off ids sizes heights roots high low is_high is_low =
          compared_on {T = Bool} (long C a - 96) 0 (long D b - 96) 0 x y alike (Clash (place.Node high 0) (place.Node low 0)) (omega arith) (omega arith) (omega arith) (omega arith) steps
          (λ s m n has_m has_n one.
          let H = E s in
          let tops : root H (content_height m) (leaves H m.chunks) ≡ root H (content_height n) (leaves H n.chunks) =
          root_is C E s a m has_m ∙ roots has_m.tree has_n.tree has_m.kept has_n.kept ∙ sym (root_is D E s b n has_n) in
          let calls = calls_are H m n one (laws H m n one) tops (context_is C E s a m has_m ∙ ids ∙ sym (context_is D E s b n has_n)) (size_is C E s a m has_m ∙ sizes ∙ sym (size_is D E s b n has_n)) in
          let first : content_height m ≡ high = height_is C E s a m has_m ∙ sym (ap height_in has_m.kept) ∙ sym is_high in
          let second : content_height n ≡ low = height_is D E s b n has_n ∙ sym (ap height_in has_n.kept) ∙ sym is_low in
          let P : ℕ → ℕ → Type 0 = λ i j. Judges H m n (Clash (place.Node i 0) (place.Node j 0)) in
          subst (λ (i : ℕ). P i low) first (subst (λ (j : ℕ). P (content_height m) j) second
          (judged_heights H m n one (laws H m n one) calls (λ e. heights (heights_were s m n has_m has_n e)) (chunks_differ off s m n has_m has_n))))

    -- the heights are the same, and so are the roots: what a walk found below them
    fits_first : (s : List ℕ) (m : Content) → HasContent C E s a m → HasRoom (chunk_count a.header.chunk_size a.header.file_size) a.tree → Fits m
    fits_first s m has room =
        let P : Content → Type 0 = λ c. length m.chunks ≤ c.max_chunks in
        subst P (sym has.is) (subst (λ (k : ℕ). k ≤ has.tree.max_chunks) (sym (content_count C E s a m has)) (room has.tree has.kept))

    fits_second : (s : List ℕ) (n : Content) → HasContent D E s b n → HasRoom (chunk_count b.header.chunk_size b.header.file_size) b.tree → Fits n
    fits_second s n has room =
        let P : Content → Type 0 = λ c. length n.chunks ≤ c.max_chunks in
        subst P (sym has.is) (subst (λ (k : ℕ). k ≤ has.tree.max_chunks) (sym (content_count D E s b n has)) (room has.tree has.kept))

    pub below_roots : (x y : Handle) (high : ℕ) (v : Result Verdict Error) → high ≡ height_in a.tree → high ≡ height_in b.tree
        → HasRoom (chunk_count a.header.chunk_size a.header.file_size) a.tree → HasRoom (chunk_count b.header.chunk_size b.header.file_size) b.tree
        → a.header.id ≡ b.header.id → a.header.file_size ≡ b.header.file_size
        → ((t u : Tree) → a.tree ≡ Some t → b.tree ≡ Some u → kept t (tree_height t) 0 ≡ kept u (tree_height u) 0)
        → Steps C D (long C a - 96) high (long D b - 96) high (with_outside a p) (with_outside b q) x y v
        → OfContents C D E (with_outside a p) (with_outside b q) v (λ M m n verdict. SameNode M m n high 0 → FoundBelow M m n high verdict)
        → Compared C D E a b x y v
    below_roots x y high v is_first is_second room_first room_second ids sizes roots steps found =
        handed_on (long C a - 96) high (long D b - 96) high x y v (omega arith) (omega (arith, is_first)) (omega arith) (omega (arith, is_second)) steps
        (λ s m n has_m has_n one. judged v s m n has_m has_n one (found s m n (still_first s m has_m) (still_second s n has_n)))
      where
        judged : (v : Result Verdict Error) (s : List ℕ) (m n : Content) → HasContent C E s a m → HasContent D E s b n → committed (E s) m ≡ committed (E s) n
            → IfOk v (λ verdict. SameNode (E s) m n high 0 → FoundBelow (E s) m n high verdict) → IfOk v (Judges (E s) m n)
        judged (Err e) s m n has_m has_n one below = tt
        judged (Ok verdict) s m n has_m has_n one below =
            let H = E s in
            let tops : root H (content_height m) (leaves H m.chunks) ≡ root H (content_height n) (leaves H n.chunks) =
            root_is C E s a m has_m ∙ roots has_m.tree has_n.tree has_m.kept has_n.kept ∙ sym (root_is D E s b n has_n) in
            let heights : content_height m ≡ content_height n = heights_are s m n has_m has_n (sym is_first ∙ is_second) in
            let first : content_height m ≡ high = height_is C E s a m has_m ∙ sym (ap height_in has_m.kept) ∙ sym is_first in
            let at_top : SameNode H m n high 0 = subst (λ (h : ℕ). SameNode H m n h 0) first (same_roots H m n one (laws H m n one) heights tops) in
            let calls = calls_are H m n one (laws H m n one) tops (context_is C E s a m has_m ∙ ids ∙ sym (context_is D E s b n has_n)) (size_is C E s a m has_m ∙ sizes ∙ sym (size_is D E s b n has_n)) in
            judged_below H m n one (laws H m n one) verdict (fits_first s m has_m room_first) (fits_second s n has_n room_second) heights calls
            (subst (λ (h : ℕ). FoundBelow H m n h verdict) (sym first) (below at_top))
