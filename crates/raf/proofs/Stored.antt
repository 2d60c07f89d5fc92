-- Touched chunks that are put one after the other.
use Rattle.std.proofs.Common.{◌≡◌, inl, inr, ℕ, suc, ◌+◌, ◌-◌, ◌*◌, ◌<◌, ◌≤◌, max, Bool, true, cond, List, [], ◌++◌, length, take, drop, Option, Some, None, Ok, Err, refl, sym, ◌∙◌, ap, subst, arith, length-append, length-drop}
use Rattle.std.specs.Prelude.{nat_lt}
use Rattle.std.proofs.lemmas.List.{take_all, drop_at, drop_all, take-append-le, drop-append-le}
use Rattle.std.proofs.lemmas.Nat.{mul-le}
use Rattle.std.proofs.lemmas.Bool.{cases_lt}
use Rattle.std.proofs.lemmas.Bool.Decides.{nat_tests}
use Rattle.raf_io.specs.Storage.{spliced}
use Rattle.raf_io.specs.Source.{Takes}
use Rattle.raf_io.specs.Kinds.{kind_of}
use Rattle.raf_tree.specs.Hashing.{Hashing}
use Rattle.raf_tree.specs.Kept.{Kept}
use Rattle.raf_format.specs.Cipher.{Cipher}
use Rattle.raf_format.specs.File.{Shape, shape_of, chunk_len, layout_len, record_start, record_len}
use Rattle.raf.specs.Outside.{Outside, Moved, MayHaveBegun}
use Rattle.raf.specs.Plan.{Planned}
use Rattle.raf.specs.Put.{stride, placed, nonce_at, put_chunk, record_for, new_records}
use Rattle.raf.specs.Carry.{Hindered, Draws, Puts, StoredUpTo, Going, Stores, TornTo, buffer_of}
use Rattle.raf.specs.declared.planning.Plan.{Plan}
use Rattle.raf_format.specs.declared.header.Header.{Header}
use Rattle.raf_io.specs.declared.errors.Error.{Error}
use Rattle.raf_io.specs.declared.errors.ErrorKind.{ErrorKind}
use Rattle.raf_io.specs.declared.errors.ErrorKind.TheVariants.{Rng}
use Rattle.raf.proofs.Moves.{moved_then, moved_less, quiet_then, takes_none, takes_then}
use Rattle.raf.proofs.Placed.{placed_same}
use Rattle.raf.proofs.Spans.{chunk_full}
use Rattle.raf.proofs.Tears.{torn_more, torn_wide, takes_nothing, hindered_later}
use Rattle.raf.proofs.SameTrees.{same_tree_then, same_none, leaves_first, leaves_more}

-- what was begun stays begun
pub began_later : (a b c : Outside) → MayHaveBegun a b → b.changes ≤ c.changes → b.calls ≤ c.calls → MayHaveBegun a c
began_later a b c began changes calls = elim began [
  | inl rose ↦ inl (omega (arith, rose, changes))
  | inr rose ↦ inr (omega (arith, rose, calls))
]

-- the records of a plan are no longer than the whole of them
module _ (s : Shape) (p : Plan) where
  pub record_most : (index : ℕ) → record_len s p.size index ≤ stride s
  record_most index = let short : chunk_len s.chunk_size p.size index ≤ s.chunk_size = omega arith in omega (arith, short)

  new_records_is : p.first < p.end → new_records s p ≡ (p.end - 1 - p.first) * stride s + record_len s p.size (p.end - 1)
  new_records_is some =
      let t : nat_lt p.first p.end ≡ true = grind (arith, nat_tests) in
      ap (λ (t : Bool). cond {A = ℕ} t ((p.end - 1 - p.first) * stride s + record_len s p.size (p.end - 1)) 0) t

  pub traffic_most : (n index : ℕ) → index ≡ p.first + n → index < p.end → n * stride s + record_len s p.size index ≤ new_records s p
  traffic_most n index at lt = elim (cases_lt (index + 1) p.end) [
    | inl more ↦
        let m : (n + 1) * stride s ≤ (p.end - 1 - p.first) * stride s = mul-le (n + 1) (stride s) (p.end - 1 - p.first) (stride s) (omega (arith, at, more)) (omega arith) in
        let one : (n + 1) * stride s ≡ n * stride s + stride s = omega arith in
        omega (arith, m, one, record_most index, new_records_is (omega (arith, at, lt)))
    | inr last ↦
        let i : index ≡ p.end - 1 = omega (arith, last, lt) in
        let k : n ≡ p.end - 1 - p.first = omega (arith, at, last, lt) in
        omega (arith, ap (λ (j : ℕ). record_len s p.size j) i, ap (λ (j : ℕ). j * stride s) k, new_records_is (omega (arith, at, lt)))
  ]

module _ (C : Cipher) (E : List ℕ → Hashing) (K : List ℕ) (h : Header) (p : Plan) (bytes : List ℕ) (kept : ℕ → List ℕ) (nonce : List ℕ) (planned : Planned (shape_of C h) p (length bytes)) where
  abbrev s : Shape
  s = shape_of C h

  abbrev record_by : List ℕ → ℕ → List ℕ
  record_by nonces i = record_for C K h p bytes i (nonce_at C.nonce_len p.first nonces i) (kept i)

  -- the first one
  stored_first : (old new : Outside) (tree tree' : Option Kept) (x : Unit {0}) → length nonce ≡ C.nonce_len → Puts C E K h p bytes p.first nonce (kept p.first) old new tree tree' (Ok x)
      → StoredUpTo C E K h p bytes kept nonce 1 old new tree tree'
  stored_first old new tree tree' x len put = record {
    nonces = nonce;
    drawn = omega (arith, len);
    begins = λ _. take_all C.nonce_len nonce (omega (arith, len));
    taken = subst (λ (l : List ℕ). Takes old.left l new.left) (sym (drop_all C.nonce_len nonce (omega (arith, len)))) (subst (λ (o : Option (List ℕ)). Takes old.left [] o) (sym put.left) (takes_none old.left));
    bytes_are = λ b told.
        let e : p.first + 0 ≡ p.first = omega arith in
        let z : (p.first - p.first) * C.nonce_len ≡ 0 = none (p.first - p.first) (omega arith) in
        put.put b told
        ∙ sym (ap (λ (k : ℕ). Some (spliced (96 + k * stride s) (record_by nonce k) b)) e
        ∙ ap (λ (k : ℕ). Some (spliced (96 + p.first * stride s) (record_for C K h p bytes p.first (take C.nonce_len (drop k nonce)) (kept p.first)) b)) z
        ∙ ap (λ (l : List ℕ). Some (spliced (96 + p.first * stride s) (record_for C K h p bytes p.first l (kept p.first)) b)) (take_all C.nonce_len nonce (omega (arith, len))));
    leaves = leaves_first E old.setting (λ i. put_chunk s p bytes i (kept i)) p.first tree tree' put.leaf;
  }
    where
      none : (k : ℕ) → k ≡ 0 → k * C.nonce_len ≡ 0
      none k is = omega (arith, ap (λ (j : ℕ). j * C.nonce_len) is)

  pub going_first : (old new : Outside) (tree tree' : Option Kept) (x : Unit {0}) → length nonce ≡ C.nonce_len → Puts C E K h p bytes p.first nonce (kept p.first) old new tree tree' (Ok x)
      → Going C E K h p bytes kept nonce 1 old new tree tree'
  going_first old new tree tree' x len put = record {
    some = omega arith;
    stored = stored_first old new tree tree' x len put;
    torn = λ b is. torn_wide (record_start s p.first) (record_len s p.size p.first) (record_start s p.first) (1 * stride s) b new.bytes (put.torn b is) (omega arith) (omega (arith, record_most s p p.first));
    same = put.same;
    began = put.began;
    quiet = put.quiet;
    moved =
        let e : p.first ≡ p.first + 1 - 1 = omega arith in
        moved_less old new _ _ _ _ _ (layout_len s p.size) ((1 - 1) * stride s + record_len s p.size (p.first + 1 - 1)) ((1 - 1) * C.nonce_len) 1 1 put.moved
        (omega arith) (omega (arith, ap (λ (i : ℕ). record_len s p.size i) e)) (omega arith) (omega arith) (omega arith);
    none = put.none;
    strays = put.strays;
  }

  -- one more, at an index
  module _ (n index : ℕ) (old mid : Outside) (tree tree₁ : Option Kept) (front back front' back' : List ℕ) (at : index ≡ p.first + n) (lt : index < p.end) (g : Going C E K h p bytes kept nonce n old mid tree tree₁) where
    abbrev next : List ℕ
    next = take C.nonce_len (buffer_of p index front' back')

    before_full : record_len s p.size (p.first + n - 1) ≡ stride s
    before_full =
        let full = chunk_full s.chunk_size p.size planned.least (p.first + n - 1) (omega (arith, g.some, at, lt, planned.spans.below)) in
        omega (arith, full)

    so_far : (n - 1) * stride s + record_len s p.size (p.first + n - 1) ≡ n * stride s
    so_far =
        let e : n ≡ (n - 1) + 1 = omega (arith, g.some) in
        omega (arith, before_full, ap (λ (k : ℕ). k * stride s) e)

    nonces_far : (n - 1) * C.nonce_len + C.nonce_len ≡ n * C.nonce_len
    nonces_far =
        let e : n ≡ (n - 1) + 1 = omega (arith, g.some) in
        omega (arith, ap (λ (k : ℕ). k * C.nonce_len) e)

    taken_len : length (drop C.nonce_len g.stored.nonces) ≡ (n - 1) * C.nonce_len
    taken_len = omega (arith, length-drop C.nonce_len g.stored.nonces, g.stored.drawn, nonces_far)

    nonces_fit : n * C.nonce_len ≤ (p.end - 1 - p.first) * C.nonce_len
    nonces_fit = mul-le n C.nonce_len (p.end - 1 - p.first) C.nonce_len (omega (arith, at, lt)) (omega arith)

    strides_fit : n * stride s + stride s ≤ (p.end - p.first) * stride s
    strides_fit =
        let m = mul-le (n + 1) (stride s) (p.end - p.first) (stride s) (omega (arith, at, lt)) (omega arith) in
        omega (arith, m)

    here : record_start s index ≡ record_start s p.first + n * stride s
    here = omega (arith, ap (λ (k : ℕ). k * stride s) at)

    -- the nonce failed
    pub stores_undrawn : (new : Outside) (e : Error) → Draws C.nonce_len p index front back mid new front' back' (Err e)
        → Stores C E K h p bytes kept nonce old new tree tree₁ (Err e)
    stores_undrawn new e d = record {
      stored = tt;
      torn = λ b told.
          subst (λ (o : Option (List ℕ)). TornTo (record_start s p.first) ((p.end - p.first) * stride s) b o) (sym d.bytes)
          (torn_wide (record_start s p.first) (n * stride s) (record_start s p.first) ((p.end - p.first) * stride s) b mid.bytes (g.torn b told) (omega arith) (omega (arith, strides_fit)));
      same = g.same;
      left = (
        drop C.nonce_len g.stored.nonces ++ d.left.0,
        omega (arith, length-append (drop C.nonce_len g.stored.nonces) d.left.0, taken_len, d.left.1, nonces_far, nonces_fit),
        takes_then old.left mid.left new.left (drop C.nonce_len g.stored.nonces) d.left.0 g.stored.taken d.left.2,
      );
      failed = subst (λ (k : ErrorKind). Hindered ((p.end - 1 - p.first) * C.nonce_len) k old new tree₁) (sym d.failed.0)
          (hindered_later C.nonce_len ((p.end - 1 - p.first) * C.nonce_len) Rng old mid new tree₁ (drop C.nonce_len g.stored.nonces) g.quiet g.moved.exact g.stored.taken
          (omega (arith, taken_len, nonces_far, nonces_fit)) (d.failed.1, d.short));
      drained = λ _. record {
        count = n;
        some = g.some;
        below = omega (arith, at, lt);
        mid = mid;
        tree_then = tree₁;
        stored = g.stored;
        bytes_stay = d.bytes;
        short = λ exact. d.short (g.moved.exact ∙ exact);
      };
      some = omega (arith, at, lt);
      began = began_later old mid new g.began d.moved.changes_later d.moved.calls_later;
      quiet = tt;
      moved = moved_less old new _ _ _ _ _ (layout_len s p.size) (new_records s p) ((p.end - 1 - p.first) * C.nonce_len) (p.end - p.first) (p.end - p.first)
          (moved_then old mid new _ _ _ _ _ _ _ _ _ _ g.moved d.moved)
          (omega arith) (omega (arith, traffic_most s p n index at lt, so_far)) (omega (arith, nonces_far, nonces_fit)) (omega (arith, at, lt)) (omega (arith, at, lt));
      none = λ is. let z : new.calls ≡ mid.calls = omega (arith, d.moved.calls_later, d.moved.calls_most) in z ∙ g.none is;
      strays = d.strays ∙ g.strays;
    }

    -- it was drawn
    module _ (drawn : Outside) (y : Unit {0}) (d : Draws C.nonce_len p index front back mid drawn front' back' (Ok y)) (len : length next ≡ C.nonce_len) where
      moved_drawn : Moved old drawn (max (layout_len s p.size) 0) ((n - 1) * stride s + record_len s p.size (p.first + n - 1) + 0) ((n - 1) * C.nonce_len + C.nonce_len) (n + 0) (n + 0)
      moved_drawn = moved_then old mid drawn _ _ _ _ _ _ _ _ _ _ g.moved d.moved

      taken_drawn : Takes old.left (drop C.nonce_len g.stored.nonces ++ next) drawn.left
      taken_drawn = takes_then old.left mid.left drawn.left (drop C.nonce_len g.stored.nonces) next g.stored.taken d.taken

      calls_drawn : tree ≡ None → drawn.calls ≡ old.calls
      calls_drawn is = let z : drawn.calls ≡ mid.calls = omega (arith, d.moved.calls_later, d.moved.calls_most) in z ∙ g.none is

      torn_to_end : (m : ℕ) (new : Outside) → n + 1 ≤ m → ((b : List ℕ) → drawn.bytes ≡ Some b → TornTo (record_start s index) (record_len s p.size index) b new.bytes)
          → (b : List ℕ) → old.bytes ≡ Some b → TornTo (record_start s p.first) (m * stride s) b new.bytes
      torn_to_end m new le torn b told =
          let fits : n * stride s + stride s ≤ m * stride s = omega (arith, mul-le (n + 1) (stride s) m (stride s) le (omega arith)) in
          torn_more (record_start s index) (record_len s p.size index) (record_start s p.first) (m * stride s) b old.bytes drawn.bytes new.bytes told
          (λ b told. subst (λ (o : Option (List ℕ)). TornTo (record_start s p.first) (m * stride s) b o) (sym d.bytes)
          (torn_wide (record_start s p.first) (n * stride s) (record_start s p.first) (m * stride s) b mid.bytes (g.torn b told) (omega arith) (omega (arith, fits))))
          torn (omega (arith, here)) (omega (arith, here, fits, record_most s p index))

      -- the leaf or the write failed
      pub stores_unput : (new : Outside) (tree' : Option Kept) (e : Error) (kept_now : List ℕ) → Puts C E K h p bytes index next kept_now drawn new tree₁ tree' (Err e)
          → Stores C E K h p bytes kept nonce old new tree tree' (Err e)
      stores_unput new tree' e kept_now put = record {
        stored = tt;
        torn = torn_to_end (p.end - p.first) new (omega (arith, at, lt)) put.torn;
        same = same_tree_then tree tree₁ tree' g.same put.same;
        left = (
          drop C.nonce_len g.stored.nonces ++ next,
          omega (arith, length-append (drop C.nonce_len g.stored.nonces) next, taken_len, len, nonces_far, nonces_fit),
          subst (λ (o : Option (List ℕ)). Takes old.left (drop C.nonce_len g.stored.nonces ++ next) o) (sym put.left) taken_drawn,
        );
        failed = hindered_later 0 ((p.end - 1 - p.first) * C.nonce_len) (kind_of e) old drawn new tree' (drop C.nonce_len g.stored.nonces ++ next) (quiet_then old mid drawn g.quiet d.quiet)
            (d.moved.exact ∙ g.moved.exact) taken_drawn (omega (arith, length-append (drop C.nonce_len g.stored.nonces) next, taken_len, len, nonces_far, nonces_fit)) put.failed;
        drained = λ is. absurd (put.drawn is);
        some = omega (arith, at, lt);
        began = began_later old mid new g.began (omega (arith, d.moved.changes_later, put.moved.changes_later)) (omega (arith, d.moved.calls_later, put.moved.calls_later));
        quiet = tt;
        moved = moved_less old new _ _ _ _ _ (layout_len s p.size) (new_records s p) ((p.end - 1 - p.first) * C.nonce_len) (p.end - p.first) (p.end - p.first)
            (moved_then old drawn new _ _ _ _ _ _ _ _ _ _ moved_drawn put.moved)
            (omega arith) (omega (arith, traffic_most s p n index at lt, so_far)) (omega (arith, nonces_far, nonces_fit)) (omega (arith, at, lt)) (omega (arith, at, lt));
        none = λ is. put.none (same_none tree tree₁ g.same is) ∙ calls_drawn is;
        strays = put.strays ∙ d.strays ∙ g.strays;
      }

      -- the record was put
      pub stored_more : (new : Outside) (tree' : Option Kept) (x : Unit {0}) → Puts C E K h p bytes index next (kept index) drawn new tree₁ tree' (Ok x)
          → StoredUpTo C E K h p bytes kept nonce (suc n) old new tree tree'
      stored_more new tree' x put = record {
        nonces = g.stored.nonces ++ next;
        drawn = omega (arith, length-append g.stored.nonces next, g.stored.drawn, len);
        begins = λ _. take-append-le C.nonce_len g.stored.nonces next long ∙ g.stored.begins g.some;
        taken = subst (λ (l : List ℕ). Takes old.left l new.left) (sym (drop-append-le C.nonce_len g.stored.nonces next long))
            (subst (λ (o : Option (List ℕ)). Takes old.left (drop C.nonce_len g.stored.nonces ++ next) o) (sym put.left) taken_drawn);
        bytes_are = λ b told.
            put.put (placed (stride s) (record_by g.stored.nonces) p.first n b) (d.bytes ∙ g.stored.bytes_are b told)
            ∙ ap (λ (l : List ℕ). Some (spliced (record_start s index) (record_for C K h p bytes index next (kept index)) l)) (placed_same (stride s) (record_by g.stored.nonces) (record_by (g.stored.nonces ++ next)) p.first n b same)
            ∙ ap (λ (l : List ℕ). Some (spliced (record_start s index) (record_for C K h p bytes index l (kept index)) (placed (stride s) (record_by (g.stored.nonces ++ next)) p.first n b))) (sym last)
            ∙ ap (λ (k : ℕ). Some (spliced (96 + k * stride s) (record_by (g.stored.nonces ++ next) k) (placed (stride s) (record_by (g.stored.nonces ++ next)) p.first n b))) at;
        leaves = leaves_more E old.setting drawn.setting (λ i. put_chunk s p bytes i (kept i)) p.first n index tree tree₁ tree' (d.moved.setting ∙ g.moved.setting) at g.same g.stored.leaves put.leaf;
      }
        where
          long : C.nonce_len ≤ length g.stored.nonces
          long = omega (arith, g.stored.drawn, mul-le 1 C.nonce_len n C.nonce_len g.some (omega arith))

          same : (i : ℕ) → p.first ≤ i → i < p.first + n → record_by g.stored.nonces i ≡ record_by (g.stored.nonces ++ next) i
          same i le lt =
              let inside : (i - p.first) * C.nonce_len + C.nonce_len ≤ length g.stored.nonces = omega (arith, g.stored.drawn, mul-le (i - p.first + 1) C.nonce_len n C.nonce_len (omega (arith, le, lt)) (omega arith)) in
              ap (λ (l : List ℕ). record_for C K h p bytes i l (kept i))
              (sym (ap (λ (l : List ℕ). take C.nonce_len l) (drop-append-le ((i - p.first) * C.nonce_len) g.stored.nonces next (omega (arith, inside)))
              ∙ take-append-le C.nonce_len (drop ((i - p.first) * C.nonce_len) g.stored.nonces) next (omega (arith, inside, length-drop ((i - p.first) * C.nonce_len) g.stored.nonces))))

          last : nonce_at C.nonce_len p.first (g.stored.nonces ++ next) index ≡ next
          last =
              let e : index - p.first ≡ n = omega (arith, at) in
              ap (λ (k : ℕ). take C.nonce_len (drop (k * C.nonce_len) (g.stored.nonces ++ next))) e
              ∙ ap (λ (l : List ℕ). take C.nonce_len l) (drop_at g.stored.nonces next (n * C.nonce_len) g.stored.drawn)
              ∙ take_all C.nonce_len next (omega (arith, len))

      pub going_more : (new : Outside) (tree' : Option Kept) (x : Unit {0}) → Puts C E K h p bytes index next (kept index) drawn new tree₁ tree' (Ok x)
          → Going C E K h p bytes kept nonce (suc n) old new tree tree'
      going_more new tree' x put = record {
        some = omega arith;
        stored = stored_more new tree' x put;
        torn = torn_to_end (suc n) new (omega arith) put.torn;
        same = same_tree_then tree tree₁ tree' g.same put.same;
        began = began_later old mid new g.began (omega (arith, d.moved.changes_later, put.moved.changes_later)) (omega (arith, d.moved.calls_later, put.moved.calls_later));
        quiet = quiet_then old drawn new (quiet_then old mid drawn g.quiet d.quiet) put.quiet;
        moved =
            let e : suc n - 1 ≡ n = omega arith in
            let i : p.first + suc n - 1 ≡ index = omega (arith, at) in
            moved_less old new _ _ _ _ _ (layout_len s p.size) ((suc n - 1) * stride s + record_len s p.size (p.first + suc n - 1)) ((suc n - 1) * C.nonce_len) (suc n) (suc n)
            (moved_then old drawn new _ _ _ _ _ _ _ _ _ _ moved_drawn put.moved)
            (omega arith) (omega (arith, so_far, ap (λ (k : ℕ). k * stride s) e, ap (λ (k : ℕ). record_len s p.size k) i)) (omega (arith, nonces_far, ap (λ (k : ℕ). k * C.nonce_len) e)) (omega arith) (omega arith);
        none = λ is. put.none (same_none tree tree₁ g.same is) ∙ calls_drawn is;
        strays = put.strays ∙ d.strays ∙ g.strays;
      }

  -- the leaf or the write of the first one failed
  pub stores_unbegun : (old new : Outside) (tree tree' : Option Kept) (e : Error) (kept_now : List ℕ) → p.first < p.end → Puts C E K h p bytes p.first nonce kept_now old new tree tree' (Err e)
      → Stores C E K h p bytes kept nonce old new tree tree' (Err e)
  stores_unbegun old new tree tree' e kept_now lt put =
      let at : p.first ≡ p.first + 0 = omega arith in
      let fits : stride s ≤ (p.end - p.first) * stride s = omega (arith, mul-le 1 (stride s) (p.end - p.first) (stride s) (omega (arith, lt)) (omega arith)) in
      record {
        stored = tt;
        torn = λ b told. torn_wide (record_start s p.first) (record_len s p.size p.first) (record_start s p.first) ((p.end - p.first) * stride s) b new.bytes (put.torn b told) (omega arith) (omega (arith, fits, record_most s p p.first));
        same = put.same;
        left = takes_nothing old.left new.left ((p.end - 1 - p.first) * C.nonce_len) put.left;
        failed = hindered_later 0 ((p.end - 1 - p.first) * C.nonce_len) (kind_of e) old old new tree' [] (record { io = refl; rng = refl; hash = refl }) refl (takes_none old.left) (omega arith) put.failed;
        drained = λ is. absurd (put.drawn is);
        some = lt;
        began = put.began;
        quiet = tt;
        moved = moved_less old new _ _ _ _ _ (layout_len s p.size) (new_records s p) ((p.end - 1 - p.first) * C.nonce_len) (p.end - p.first) (p.end - p.first) put.moved
            (omega arith) (omega (arith, traffic_most s p 0 p.first at lt)) (omega arith) (omega (arith, lt)) (omega (arith, lt));
        none = put.none;
        strays = put.strays;
      }

  -- all of them were put
  pub stores_done : (n : ℕ) (old new : Outside) (tree tree' : Option Kept) (x : Unit {0}) → n ≡ p.end - p.first → Going C E K h p bytes kept nonce n old new tree tree'
      → Stores C E K h p bytes kept nonce old new tree tree' (Ok x)
  stores_done n old new tree tree' x is g =
      let at : p.first + n - 1 ≡ p.first + (n - 1) = omega (arith, g.some) in
      let lt : p.first + n - 1 < p.end = omega (arith, g.some, is) in
      record {
        stored = subst (λ (k : ℕ). StoredUpTo C E K h p bytes kept nonce k old new tree tree') is g.stored;
        torn = subst (λ (k : ℕ). (b : List ℕ) → old.bytes ≡ Some b → TornTo (record_start s p.first) (k * stride s) b new.bytes) is g.torn;
        same = g.same;
        left = tt;
        failed = tt;
        drained = tt;
        some = tt;
        began = tt;
        quiet = g.quiet;
        moved =
            let k : n - 1 ≡ p.end - 1 - p.first = omega (arith, is) in
            moved_less old new _ _ _ _ _ (layout_len s p.size) (new_records s p) ((p.end - 1 - p.first) * C.nonce_len) (p.end - p.first) (p.end - p.first) g.moved
            (omega arith) (omega (arith, traffic_most s p (n - 1) (p.first + n - 1) at lt)) (omega (arith, ap (λ (j : ℕ). j * C.nonce_len) k)) (omega (arith, is)) (omega (arith, is));
        none = g.none;
        strays = g.strays;
      }
