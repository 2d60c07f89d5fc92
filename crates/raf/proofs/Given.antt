-- A node of an open file's tree is given away.
use Rattle.std.proofs.Common.{◌≡◌, ℕ, ◌<◌, ◌≤◌, false, List, ◌++◌, length, take, drop, Some, Result, Ok, Err, refl, sym, ap, subst, ◌∙◌, arith}
use Rattle.std.specs.Result.{OnOk, IfErr}
use Rattle.std.proofs.lemmas.List.{take_at, drop_at}
use Rattle.counts.specs.Counts.{Rose}
use Rattle.raf_io.specs.Kinds.{kind_of}
use Rattle.raf_tree.specs.Hashing.{Hashing}
use Rattle.raf_tree.specs.Kept.{Kept, IsKept, kept}
use Rattle.raf_tree.specs.Laws.{TreeLaws}
use Rattle.raf.specs.Outside.{Outside}
use Rattle.raf.specs.Handle.{Handle, handle_of, hash_len_of, WithTree}
use Rattle.raf.specs.Given.{IsPlace, Asked, OnlyAsked, WhyNoNode, Given}
use Rattle.raf_format.specs.declared.header.Header.{Header}
use Rattle.raf_io.specs.declared.errors.Error.{Error}
use Rattle.raf_io.specs.declared.errors.ErrorKind.{ErrorKind}
use Rattle.raf_io.specs.declared.errors.ErrorKind.TheVariants.{InvalidArgument, Hash}
use Rattle.raf_io.specs.declared.errors.Reason.TheVariants.{CommitmentBuffer}

-- nothing was asked
pub asked_none : (most : ℕ) (o : Outside) → Asked most o o
asked_none most o = record { same = refl; faults_later = omega arith; calls_later = omega arith; calls_most = omega arith }

pub only_asked_none : (most : ℕ) (h : Handle) → OnlyAsked most h h
only_asked_none most h = record { same = refl; asked = asked_none most h.outside }

-- where a call is refused and does nothing
pub given_refused : (E : List ℕ → Hashing) (level index : ℕ) (h : Handle) (out : List ℕ) (e : Error) → WhyNoNode E (length out) level index h h (kind_of e) → Given E level index h h out out (Err e)
given_refused E level index h out e why = record {
  given = tt;
  refused = why;
  rest = refl;
  asked = only_asked_none 1 h;
  quiet = tt;
  kept = λ setting t set tree is. refl;
}

module _ (E : List ℕ → Hashing) (level index : ℕ) (key : List ℕ) (h : Header) (t : Kept) (a : Outside) (x : List ℕ) (set : a.setting ≡ Some x) (long : (E x).len ≡ t.hash_len) (laws : TreeLaws (E x)) where
  abbrev at : Outside → Handle
  at b = handle_of b key h (Some t) false

  len_is : hash_len_of E a.setting ≡ t.hash_len
  len_is = ap (hash_len_of E) set ∙ long

  pub no_room : (out : List ℕ) (e : Error) → kind_of e ≡ InvalidArgument CommitmentBuffer → length out < t.hash_len → Given E level index (at a) (at a) out out (Err e)
  no_room out e is short = given_refused E level index (at a) out e
      (subst (λ (k : ErrorKind). WhyNoNode E (length out) level index (at a) (at a) k) (sym is) (refl, (x, t, set, refl, omega (arith, long)), refl))

  -- the front and the rest of the buffer
  front_is : (front back : List ℕ) → length front ≡ t.hash_len → take (E x).len (front ++ back) ≡ front
  front_is front back size = take_at front back (E x).len (size ∙ sym long)

  rest_is : (front back out : List ℕ) → length front ≡ t.hash_len → back ≡ drop t.hash_len out → drop (hash_len_of E a.setting) (front ++ back) ≡ drop (hash_len_of E a.setting) out
  rest_is front back out size is = drop_at front back (hash_len_of E a.setting) (size ∙ sym len_is) ∙ is ∙ ap (λ (k : ℕ). drop k out) (sym len_is)

  -- a node that is kept
  pub of_kept : (out front back : List ℕ) → t.hash_len ≤ length out → length front ≡ t.hash_len → back ≡ drop t.hash_len out → IsKept t level index → front ≡ kept t level index
      → Given E level index (at a) (at a) out (front ++ back) (Ok tt)
  of_kept out front back room size is has made = record {
    given = (refl, (x, t, set, refl, (omega (arith, long), λ leaves keeps. front_is front back size ∙ made ∙ laws.kept t leaves level index keeps has)));
    refused = tt;
    rest = rest_is front back out size is;
    asked = only_asked_none 1 (at a);
    quiet = refl;
    kept = λ setting u set' tree has'. refl;
  }

  -- an empty place
  none_kept : (b : Outside) → (IsKept t level index → ⊥) → WithTree E (at a) (λ H u. IsKept u level index → b.calls ≡ a.calls)
  none_kept b none setting u set' tree has =
      let e : t ≡ u = cc in
      absurd (none (subst (λ (T : Kept). IsKept T level index) (sym e) has))

  pub of_empty : (b : Outside) (out front back : List ℕ) (r : Result (Unit {0}) Error) → t.hash_len ≤ length out → length front ≡ t.hash_len → back ≡ drop t.hash_len out → IsPlace t level index → (IsKept t level index → ⊥)
      → OnOk r ((y : List ℕ) → a.setting ≡ Some y → front ≡ (E y).empty level index) → IfErr r (λ e. (kind_of e ≡ Hash) × Rose a.hash_faults b.hash_faults) → OnOk r (b.hash_faults ≡ a.hash_faults) → Asked 1 a b
      → Given E level index (at a) (at b) out (front ++ back) r
  of_empty b out front back (Ok u) room size is place none made failed quiet asked = record {
    given = (refl, (x, t, set, refl, (omega (arith, long), λ leaves keeps. front_is front back size ∙ made x set ∙ sym (laws.empty t leaves level index keeps place.0 none))));
    refused = tt;
    rest = rest_is front back out size is;
    asked = record { same = refl; asked = asked };
    quiet = quiet;
    kept = none_kept b none;
  }
  of_empty b out front back (Err e) room size is place none made failed quiet asked = record {
    given = tt;
    refused = subst (λ (k : ErrorKind). WhyNoNode E (length out) level index (at a) (at b) k) (sym failed.0) (refl, (x, t, set, refl, (omega (arith, long), none, failed.1)));
    rest = rest_is front back out size is;
    asked = record { same = refl; asked = asked };
    quiet = tt;
    kept = none_kept b none;
  }
