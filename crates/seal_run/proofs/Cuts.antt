-- How bytes are cut into pieces.
use Rattle.std.proofs.Common.{◌≡◌, ℕ, zero, suc, ◌+◌, ◌*◌, ◌/◌, ◌<◌, ◌≤◌, Bool, true, false, List, [], ◌∷◌, ◌++◌, length, take, drop, refl, sym, ap, ◌∙◌, subst, arith, length-append, length-take, length-drop, take-append-drop, append-nil}
use Rattle.std.proofs.lemmas.List.{take_at, drop_at, length-take-le}
use Rattle.std.specs.List.{concat}
use Rattle.std.specs.Prelude.{IsTrue, ◌&&◌, ◌||◌, nat_le, nat_lt}
use Rattle.std.proofs.lemmas.Bool.Decides.{nat_tests}
use Rattle.aegis_stream.specs.Grammar.{is_message_len}
use Rattle.aegis_stream.specs.Spell.{is_last, AreMessages}
use Rattle.seal_run.specs.Pieces.{cut, pieces}

-- few bytes are one piece
pub pieces_few : (b : List ℕ) → length b < 65536 → pieces b ≡ b ∷ []
unfolding pieces
pieces_few b few = let e : length b / 65536 ≡ 0 = omega arith in ap (λ (n : ℕ). cut n b) e

-- a whole piece, and then those of what comes after it
pub pieces_more : (p rest : List ℕ) → length p ≡ 65536 → pieces (p ++ rest) ≡ p ∷ pieces rest
unfolding pieces
pieces_more p rest whole =
    let e : length (p ++ rest) / 65536 ≡ suc (length rest / 65536) = omega (arith, length-append p rest) in
    ap (λ (n : ℕ). cut n (p ++ rest)) e
    ∙ ap (λ (l : List ℕ). l ∷ cut (length rest / 65536) (drop 65536 (p ++ rest))) (take_at p rest 65536 whole)
    ∙ ap (λ (l : List ℕ). p ∷ cut (length rest / 65536) l) (drop_at p rest 65536 whole)

pub cut_some : (n : ℕ) (b : List ℕ) → 0 < length (cut n b)
cut_some zero b = omega arith
cut_some (suc n) b = omega arith

pub pieces_some : (b : List ℕ) → 0 < length (pieces b)
unfolding pieces
pieces_some b = cut_some (length b / 65536) b

-- they are all of it
cut_all : (n : ℕ) (b : List ℕ) → concat (cut n b) ≡ b
cut_all zero b = append-nil b
cut_all (suc n) b = ap (λ (l : List ℕ). take 65536 b ++ l) (cut_all n (drop 65536 b)) ∙ take-append-drop 65536 b

pub pieces_all : (b : List ℕ) → concat (pieces b) ≡ b
unfolding pieces
pieces_all b = cut_all (length b / 65536) b

-- they are messages of a stream
fits_last : (n : ℕ) → n < 65536 → IsTrue (is_message_len true n)
fits_last n few = grind (arith, nat_tests)

are_cut : (n : ℕ) (b : List ℕ) → 65536 * n ≤ length b → length b < 65536 * n + 65536 → AreMessages (cut n b)
are_cut zero b low high = (fits_last (length b) (omega arith), tt)
are_cut (suc n) b low high =
    let len : length (take 65536 b) ≡ 65536 = length-take-le 65536 b (omega arith) in (
      fits (is_last true (cut n (drop 65536 b))) (length (take 65536 b)) (never n (drop 65536 b)) len,
      are_cut n (drop 65536 b) (omega (arith, low, length-drop 65536 b)) (omega (arith, high, low, length-drop 65536 b)),
    )
  where
    never : (n : ℕ) (b : List ℕ) → is_last true (cut n b) ≡ false
    never zero b = refl
    never (suc n) b = refl

    fits : (last : Bool) (n : ℕ) → last ≡ false → n ≡ 65536 → IsTrue (is_message_len last n)
    fits last n e len = subst (λ (k : ℕ). IsTrue (is_message_len last k)) (sym len) (subst (λ (b : Bool). IsTrue (is_message_len b 65536)) (sym e) refl)

pub are_pieces : (b : List ℕ) → AreMessages (pieces b)
unfolding pieces
are_pieces b = are_cut (length b / 65536) b (omega arith) (omega arith)
