-- One call after another on a source or a sink, and the move of bytes out of a list.
use Rattle.std.proofs.Common.{◌≡◌, ℕ, ◌+◌, ◌-◌, ◌<◌, ◌≤◌, List, [], ◌++◌, length, take, drop, refl, sym, ◌∙◌, ap, append_assoc, min, arith, Option, None, Some, rules, subst}
use Rattle.std.proofs.lemmas.List.{take-append-le, take-append-drop, drop-drop, length-drop, nil_from_length, length-append, append-nil}
use Rattle.std.specs.Prelude.{IfSome}
use Rattle.std.specs.Io.KnownBytes.{Appends, Consumes, IsAtEnd}
use Rattle.std.proofs.Math.Seq.{take-length}

pub appends_none : (o : Option (List ℕ)) → Appends o o []
appends_none None = tt
appends_none (Some xs) = search rules

pub appends_more : (o m n : Option (List ℕ)) (a b : List ℕ) → Appends o m a → Appends m n b → Appends o n (a ++ b)
appends_more None m n a b p q = tt
appends_more (Some xs) None n a b p q = absurd p
appends_more (Some xs) (Some ys) None a b p q = absurd q
appends_more (Some xs) (Some ys) (Some zs) a b p q = q ∙ ap (λ v. v ++ b) p ∙ append_assoc xs a b

pub consumes_more : (o m n : Option (List ℕ)) (a b : List ℕ) → Consumes o m a → Consumes m n b → Consumes o n (a ++ b)
consumes_more None m n a b p q = tt
consumes_more (Some xs) None n a b p q = absurd p
consumes_more (Some xs) (Some ys) None a b p q = absurd q
consumes_more (Some xs) (Some ys) (Some zs) a b p q = p ∙ ap (λ v. a ++ v) q ∙ sym (append_assoc a b zs)

pub consumes_none : (o : Option (List ℕ)) → Consumes o o []
consumes_none None = tt
consumes_none (Some xs) = refl

-- the slice from an index on
pub whole_drop : (at : ℕ) (l : List ℕ) → take (length l - at) (drop at l) ≡ drop at l
whole_drop at l = rw (← length-drop at l) (take-length (drop at l))

-- what was copied is the front of what was left
pub moved : (all copied rest : List ℕ) (at n : ℕ) → copied ≡ take n (drop at all) → length copied ≡ n → drop at all ≡ take n (copied ++ rest) ++ drop (at + n) all
moved all copied rest at n e len =
    let short : n ≤ length copied = omega arith in
    let front : take n (copied ++ rest) ≡ copied = take-append-le n copied rest short ∙ (rw (← len) (take-length copied)) in
    rw (front, e, ← drop-drop n at all) (sym (take-append-drop n (drop at all)))

-- where no byte was moved into room, none is left
pub at_end : (all buf copied : List ℕ) (at n : ℕ) → n ≡ min (length (drop at all)) (length buf) → length copied ≡ n → n ≡ 0 → 0 < length (copied ++ drop n buf) → drop (at + n) all ≡ []
at_end all buf copied at n e len none room = nil_from_length (drop (at + n) all) (omega (arith, length-drop (at + n) all, length-drop at all, length-append copied (drop n buf), length-drop n buf))

-- what was consumed to the end is all that there was
pub all_consumed : (P : List ℕ → Type 0) (old new : Option (List ℕ)) (text : List ℕ) → Consumes old new text → IsAtEnd new → P text → IfSome old P
all_consumed P None new text p end h = tt
all_consumed P (Some xs) None text p end h = absurd p
all_consumed P (Some xs) (Some ys) text p end h =
    let all : xs ≡ text = p ∙ ap (λ rest. text ++ rest) end ∙ append-nil text in
    subst P (sym all) h
