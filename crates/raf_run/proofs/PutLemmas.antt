-- One text after another into a sink.
use Rattle.std.proofs.Common.{◌≡◌, ℕ, ◌+◌, ◌-◌, List, [], ◌∷◌, ◌++◌, length, take, drop, Option, Some, Result, Ok, Err, zero, suc, refl, sym, ap, ◌∙◌, arith}
use Rattle.std.proofs.lemmas.List.{take-append-le, take-append-drop, length-append}
use Rattle.std.proofs.lemmas.Result.{on_ok_weaker}
use Rattle.std.proofs.lemmas.List.{append-nil}
use Rattle.std.proofs.lemmas.List.Concat.{flat_map-append}
use Rattle.std.specs.Prelude.{slice_get}
use Rattle.std.specs.List.{flat_map}
use Rattle.std.proofs.Math.Seq.{take-append-add, take-add}
use Rattle.hex.specs.Hex.{encode_with, encode_lower, lower_digits}
use Rattle.program_io.proofs.StreamLemmas.{appends_more, appends_none}
use Rattle.raf_run.specs.Text.{Puts}

pub puts_none : {E : Type 0} (o : Option (List ℕ)) (x : ℕ) → Puts {E = E} o o x x (Ok tt) []
puts_none o x = record {
  whole = appends_none o;
  front = (0, omega arith, appends_none o);
  tells = refl;
  cause = record { later = omega arith; failed = tt; kept = refl };
}

pub puts_then : {E : Type 0} {old mid new : Option (List ℕ)} {x y z : ℕ} {u : Unit} {s : Result Unit E} {a b : List ℕ} → Puts {E = E} old mid x y (Ok u) a → Puts mid new y z s b → Puts old new x z s (a ++ b)
puts_then {old = old} {mid = mid} {new = new} {s = s} {a = a} {b = b} p q = record {
  whole = on_ok_weaker s (λ done. appends_more old mid new a b p.whole done) q.whole;
  front = (length a + q.front.0, omega (arith, length-append a b, q.front.1), rw (take-append-add a b q.front.0) (appends_more old mid new a (take q.front.0 b) p.whole q.front.2));
  tells = q.tells ∙ p.tells;
  cause = rw (← p.cause.kept) q.cause;
}

pub puts_stop : {E : Type 0} {old new : Option (List ℕ)} {x y : ℕ} {d : E} (e : E) {a : List ℕ} (b : List ℕ) → Puts old new x y (Err d) a → Puts old new x y (Err e) (a ++ b)
puts_stop {old = old} {new = new} e {a = a} b p = record {
  whole = tt;
  front = (p.front.0, omega (arith, length-append a b, p.front.1), rw (take-append-le p.front.0 a b p.front.1) p.front.2);
  tells = p.tells;
  cause = record { later = p.cause.later; failed = p.cause.failed; kept = tt };
}

pub encode-append : (t a b : List ℕ) → encode_with t (a ++ b) ≡ encode_with t a ++ encode_with t b
unfolding encode_with
encode-append t [] b = refl
encode-append t (x ∷ a) b = rw (encode-append t a b) refl

pub encode-none : encode_lower [] ≡ []
unfolding encode_with
encode-none = refl

pub encode_more : (at n : ℕ) (bytes : List ℕ) → encode_lower (take (at + n) bytes) ≡ encode_lower (take at bytes) ++ encode_lower (take n (drop at bytes))
encode_more at n bytes = rw (take-add at n bytes) (encode-append lower_digits (take at bytes) (take n (drop at bytes)))

pub encode_split : (at n : ℕ) (bytes : List ℕ) → (encode_lower (take at bytes) ++ encode_lower (take n (drop at bytes))) ++ encode_lower (drop (at + n) bytes) ≡ encode_lower bytes
encode_split at n bytes =
    ap (λ front. front ++ encode_lower (drop (at + n) bytes)) (sym (encode_more at n bytes))
    ∙ sym (encode-append lower_digits (take (at + n) bytes) (drop (at + n) bytes))
    ∙ ap encode_lower (take-append-drop (at + n) bytes)

pub piece_is : (at n : ℕ) (bytes : List ℕ) → take (at + n - at) (drop at bytes) ≡ take n (drop at bytes)
piece_is at n bytes = let k : at + n - at ≡ n = omega arith in rw k refl

-- the line of one item
pub one_line : {X : Type 0} (f : X → List ℕ) (xs : List X) (i : ℕ) (x : X) → slice_get xs i ≡ Some x → flat_map f (take 1 (drop i xs)) ≡ f x
one_line f [] zero x h = (cc)
one_line f [] (suc i) x h = (cc)
one_line f (y ∷ xs) zero x h = let same : y ≡ x = (cc) in append-nil (f y) ∙ ap f same
one_line f (y ∷ xs) (suc i) x h = one_line f xs i x h

-- the lines of one item more
pub lines_more : {X : Type 0} (f : X → List ℕ) (xs : List X) (i : ℕ) → flat_map f (take (i + 1) xs) ≡ flat_map f (take i xs) ++ flat_map f (take 1 (drop i xs))
lines_more f xs i = ap (flat_map f) (take-add i 1 xs) ∙ flat_map-append f (take i xs) (take 1 (drop i xs))

-- the lines before an item, its own and those after it
pub lines_split : {X : Type 0} (f : X → List ℕ) (xs : List X) (i : ℕ) → (flat_map f (take i xs) ++ flat_map f (take 1 (drop i xs))) ++ flat_map f (drop (i + 1) xs) ≡ flat_map f xs
lines_split f xs i =
    ap (λ front. front ++ flat_map f (drop (i + 1) xs)) (sym (lines_more f xs i))
    ∙ sym (flat_map-append f (take (i + 1) xs) (drop (i + 1) xs))
    ∙ ap (flat_map f) (take-append-drop (i + 1) xs)
