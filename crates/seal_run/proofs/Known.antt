-- Texts that are written in parts, to sinks that may tell them.
use Rattle.std.proofs.Common.{◌≡◌, ℕ, ◌+◌, ◌<◌, ◌≤◌, true, false, List, [], ◌++◌, length, take, drop, Option, Some, None, refl, sym, ap, ◌∙◌, subst, arith, append_assoc, append-nil, length-append, length-take, take-append-drop}
use Rattle.std.proofs.lemmas.List.{take_at, length-take-le}
use Rattle.std.proofs.Math.Seq.{take-append-add}
use Rattle.std.specs.Prelude.{IfSome, Result, Ok, Err, OnOk, OnErr, is_err}
use Rattle.std.specs.Io.KnownBytes.{Appends, Consumes, Keeps}
use Rattle.program_io.specs.Streams.{AppendsPrefix, ConsumesAtMost}
use Rattle.program_io.proofs.StreamLemmas.{appends_more, consumes_more}

-- what holds of the bytes that were taken and all that may be left, holds of a source's bytes where it tells them
pub known : (left now : Option (List ℕ)) (bytes : List ℕ) (P : List ℕ → Type 0) → Consumes left now bytes
    → ((rest : List ℕ) → now ≡ Some rest → P (bytes ++ rest)) → IfSome left P
known None now bytes P c f = tt
known (Some b) None bytes P c f = absurd c
known (Some b) (Some rest) bytes P c f = subst P (sym c) (f rest refl)

-- a text begins so
pub record Begins (whole text : List ℕ) : Type 0 where
  pub rest : List ℕ
  pub is : whole ≡ text ++ rest

pub begins_front : (whole text : List ℕ) (n : ℕ) → Begins whole text → Begins whole (take n text)
begins_front whole text n b = record {
  rest = drop n text ++ b.rest;
  is = b.is ∙ ap (λ (l : List ℕ). l ++ b.rest) (sym (take-append-drop n text)) ∙ append_assoc (take n text) (drop n text) b.rest;
}

pub begins_part : (whole text more : List ℕ) → Begins whole (text ++ more) → Begins whole text
begins_part whole text more b = record { rest = more ++ b.rest; is = b.is ∙ append_assoc text more b.rest }

pub begins_all : (text : List ℕ) → Begins text text
begins_all text = record { rest = []; is = sym (append-nil text) }

-- a front of a text was written
pub front_written : (old new : Option (List ℕ)) (whole text : List ℕ) → Begins whole text → Appends old new text → AppendsPrefix old new whole
front_written old new whole text b a =
    let e : take (length text) whole ≡ text = ap (take (length text)) b.is ∙ take_at text b.rest (length text) refl in (
      length text,
      omega (arith, ap length b.is, length-append text b.rest),
      subst (Appends old new) (sym e) a,
    )

-- and then a front of what comes next
pub front_more : (old mid new : Option (List ℕ)) (whole text more : List ℕ) → Begins whole (text ++ more) → Appends old mid text → AppendsPrefix mid new more
    → AppendsPrefix old new whole
front_more old mid new whole text more b a p =
    let n : ℕ = p.0 in
    let e : take (length text + n) (text ++ more) ≡ text ++ take n more = take-append-add text more n in
    let begins : Begins whole (text ++ take n more) = subst (Begins whole) e (begins_front whole (text ++ more) (length text + n) b) in
    front_written old new whole (text ++ take n more) begins (appends_more old mid new text (take n more) a p.2)

-- what was taken, and then some more
pub taken_more : (old mid new : Option (List ℕ)) (bytes : List ℕ) (n most : ℕ) → Consumes old mid bytes → ConsumesAtMost mid new n → length bytes + n ≤ most → ConsumesAtMost old new most
taken_more old mid new bytes n most c more le =
    (bytes ++ more.0, omega (arith, length-append bytes more.0, more.1, le), consumes_more old mid new bytes more.0 c more.2)

-- what a call says of its error, where there is one, and else of its answer
pub of_err : {T E : Type 0} {P : Type 0} (r : Result T E) → true ≡ is_err r → OnErr r P → P
of_err (Ok x) is h = absurd (apart is)
  where
    apart : true ≡ false → ⊥
    apart e = cc
of_err (Err e) is h = h

pub of_ok : {T E : Type 0} {P : Type 0} (r : Result T E) → false ≡ is_err r → OnOk r P → P
of_ok (Ok x) is h = h
of_ok (Err e) is h = absurd (apart is)
  where
    apart : false ≡ true → ⊥
    apart e = cc

-- what was taken, and then these bytes, or none where a call failed
pub taken_bytes : (old mid new : Option (List ℕ)) (bytes p : List ℕ) (most : ℕ) → Consumes old mid bytes → Consumes mid new p → length bytes + length p ≤ most → ConsumesAtMost old new most
taken_bytes old mid new bytes p most c d le = taken_more old mid new bytes (length p) most c (p, omega arith, d) le

pub taken_kept : (old mid new : Option (List ℕ)) (bytes : List ℕ) (most : ℕ) → Consumes old mid bytes → Keeps mid new → length bytes ≤ most → ConsumesAtMost old new most
taken_kept old mid new bytes most c k le = (bytes, le, kept old mid new c k)
  where
    kept : (a b d : Option (List ℕ)) → Consumes a b bytes → Keeps b d → Consumes a d bytes
    kept None b d p q = tt
    kept (Some x) None d p q = absurd p
    kept (Some x) (Some y) None p q = absurd q
    kept (Some x) (Some y) (Some z) p q = p ∙ ap (λ (l : List ℕ). bytes ++ l) (sym q)
