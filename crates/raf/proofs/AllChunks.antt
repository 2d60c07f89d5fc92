-- All chunks of two files, one after the other.
use Rattle.std.proofs.Common.{◌≡◌, inl, inr, ℕ, ◌+◌, ◌-◌, ◌*◌, ◌<◌, ◌≤◌, max, min, Bool, true, false, List, [], length, Result, Ok, refl, sym, ◌∙◌, ap, subst, arith}
use Rattle.std.specs.Prelude.{get_or}
use Rattle.std.specs.Bool.{Decides}
use Rattle.std.proofs.lemmas.Bool.{cases_lt, true≢false}
use Rattle.std.proofs.lemmas.List.{ext_get_or}
use Rattle.std.proofs.lemmas.Nat.{mul-le}
use Rattle.raf_io.specs.declared.errors.Error.{Error}
use Rattle.raf_tree.specs.Hashing.{Hashing}
use Rattle.raf_tree.specs.Calls.{Content}
use Rattle.raf_format.specs.Cipher.{Cipher}
use Rattle.raf_format.specs.File.{shape_of, tag_len}
use Rattle.raf.specs.Handle.{Handle}
use Rattle.raf.specs.Clash.{HasContent, long}
use Rattle.raf.specs.Clashing.{Steps, SameChunk, SameSoFar, records_before, records_between}
use Rattle.raf.proofs.Moves.{quiet_same, quiet_then}
use Rattle.raf.proofs.Clashes.{looked_less, looked_same, looked_then, content_stays, steps_less}
use Rattle.raf.proofs.Asked.{asked_whole}
use Rattle.raf.proofs.Descents.{same_records, steps_then, Below}

grows : (k L i : ℕ) → min (96 + i * k) L - 96 ≤ min (96 + (i + 1) * k) L - 96
grows k L i = omega (arith, mul-le i k (i + 1) k (omega arith) (omega arith))

one_more : (t u u' w : ℕ) → u ≡ u' → t ≤ w → u' ≡ w - t → t + u ≤ w
one_more t u u' w same le is = omega (arith, same, le, is)

most : (m L : ℕ) → min m L - 96 ≤ L - 96
most m L = omega arith

module _ (C : Cipher) (a p : Handle) (index : ℕ) (same : p.header ≡ a.header) where
  record_more : records_before C a index + records_between C p index (index + 1) ≤ records_before C a (index + 1)
  record_more = one_more (records_before C a index) (records_between C p index (index + 1)) (records_between C a index (index + 1)) (records_before C a (index + 1))
      (same_records C a p index (index + 1) same) (grows (C.nonce_len + a.header.chunk_size + tag_len (shape_of C a.header)) (long C a) index) refl

  all_records : records_before C a index + records_between C p index (index + 1) ≤ long C a - 96
  all_records = omega (arith, record_more, most (96 + (index + 1) * (C.nonce_len + a.header.chunk_size + tag_len (shape_of C a.header))) (long C a))

module _ (C D : Cipher) (E : List ℕ → Hashing) (a b : Handle) where
  pub same_none : SameSoFar C D E 0 a b a b
  same_none = record {
    first = looked_less C 0 0 (records_before C a 0) 0 a a (omega arith) (omega arith) (looked_same C 0 0 a);
    second = looked_less D 0 0 (records_before D b 0) 0 b b (omega arith) (omega arith) (looked_same D 0 0 b);
    quiet = (quiet_same a.outside a.outside refl, quiet_same b.outside b.outside refl);
    same = λ s x y has_x has_y i lt. absurd (omega (arith, lt));
  }

  module _ (index : ℕ) (p q : Handle) (so_far : SameSoFar C D E index a b p q) where
    -- the content is still there
    module _ (s : List ℕ) (x y : Content) (has_x : HasContent C E s a x) (has_y : HasContent D E s b y) where
      pub still : HasContent C E s p x × HasContent D E s q y
      still = (content_stays C E s _ _ a p x so_far.first has_x, content_stays D E s _ _ b q y so_far.second has_y)

    pub steps_so_far : {T : Type 0} (x y : Handle) (r : Result T Error) → Steps C D (records_between C p index (index + 1)) 0 (records_between D q index (index + 1)) 0 p q x y r
        → Steps C D (long C a - 96) 0 (long D b - 96) 0 a b x y r
    steps_so_far {T = S} x y r steps =
        steps_less C D _ _ _ _ _ _ _ _ a b x y r (all_records C a p index so_far.first.header) (omega arith) (all_records D b q index so_far.second.header) (omega arith)
        (steps_then C D (records_before C a index) 0 (records_before D b index) 0 _ _ _ _ a b p q x y tt r was steps)
      where
        was : (let done : Result (Unit {0}) Error = Ok tt in Steps C D (records_before C a index) 0 (records_before D b index) 0 a b p q done)
        was = record { first = so_far.first; second = so_far.second; quiet = so_far.quiet; halted = tt }

    pub all_so_far : Steps C D (long C a - 96) 0 (long D b - 96) 0 a b p q (Ok true)
    all_so_far = record {
      first = looked_less C (records_before C a index) 0 (long C a - 96) 0 a p (most _ (long C a)) (omega arith) so_far.first;
      second = looked_less D (records_before D b index) 0 (long D b - 96) 0 b q (most _ (long D b)) (omega arith) so_far.second;
      quiet = so_far.quiet;
      halted = tt;
    }

    pub same_more : (x y : Handle) (r : Bool) → r ≡ true → (let was : Result Bool Error = Ok r in Steps C D (records_between C p index (index + 1)) 0 (records_between D q index (index + 1)) 0 p q x y was)
        → ((s : List ℕ) (m n : Content) → HasContent C E s p m → HasContent D E s q n → Decides r (SameChunk index m n)) → SameSoFar C D E (index + 1) a b x y
    same_more x y r is_same steps found = record {
      first = looked_less C _ _ (records_before C a (index + 1)) 0 a x (record_more C a p index so_far.first.header) (omega arith) (looked_then C _ _ _ _ a p x so_far.first steps.first);
      second = looked_less D _ _ (records_before D b (index + 1)) 0 b y (record_more D b q index so_far.second.header) (omega arith) (looked_then D _ _ _ _ b q y so_far.second steps.second);
      quiet = (quiet_then a.outside p.outside x.outside so_far.quiet.0 steps.quiet.0, quiet_then b.outside q.outside y.outside so_far.quiet.1 steps.quiet.1);
      same = λ s m n has_m has_n i lt. elim (cases_lt i index) [
        | inl below ↦ so_far.same s m n has_m has_n i below
        | inr above ↦
            let e : index ≡ i = omega (arith, lt, above) in
            let had = still s m n has_m has_n in
            subst (λ (i : ℕ). SameChunk i m n) e ((found s m n had.0 had.1).0 is_same)
      ];
    }

-- what is found of all of them
pub not_same : (x y : Content) (count index : ℕ) (r : Bool) → count ≡ max (length x.chunks) (length y.chunks) → index < count → r ≡ false → Decides r (SameChunk index x y)
    → Decides false (x.chunks ≡ y.chunks)
not_same x y count index r is lt none d = (
  λ e. absurd (true≢false (sym e)),
  λ same.
      let long_same : length x.chunks ≡ length y.chunks = ap (λ (l : List (List ℕ)). length l) same in
      absurd (true≢false (sym (d.1 (omega (arith, is, lt, long_same), omega (arith, is, lt, long_same), ap (λ (l : List (List ℕ)). get_or l index []) same)) ∙ none)),
)

pub all_same : (x y : Content) (count : ℕ) → count ≡ max (length x.chunks) (length y.chunks) → ((i : ℕ) → i < count → SameChunk i x y) → Decides true (x.chunks ≡ y.chunks)
all_same x y count is same = (λ _. ext_get_or [] x.chunks y.chunks equal (λ i lt. (same i (omega (arith, is, lt))).2), λ _. refl)
  where
    equal : length x.chunks ≡ length y.chunks
    equal = elim (cases_lt (length x.chunks) (length y.chunks)) [
      | inl less ↦ absurd (omega (arith, (same (length x.chunks) (omega (arith, is, less))).0))
      | inr more ↦ elim (cases_lt (length y.chunks) (length x.chunks)) [
        | inl less ↦ absurd (omega (arith, (same (length y.chunks) (omega (arith, is, less))).1))
        | inr less ↦ omega (arith, more, less)
      ]
    ]

-- a walk down whole trees
pub whole_walk : {T : Type 0} (C D : Cipher) (h : ℕ) (a b p q : Handle) (r : Result T Error) → Below C D h 0 a b p q r → Steps C D (long C a - 96) h (long D b - 96) h a b p q r
whole_walk C D h a b p q r steps = steps_less C D _ _ _ _ _ _ _ _ a b p q r (no_more _ _ _ (most _ (long C a))) (asked_whole _ h) (no_more _ _ _ (most _ (long D b))) (asked_whole _ h) steps
  where
    no_more : (e s w : ℕ) → e ≤ w → e - s ≤ w
    no_more e s w le = omega (arith, le)
