-- Unspelling, frame by frame.
use Rattle.std.proofs.Common.{◌≡◌, ℕ, zero, suc, ◌+◌, ◌≤◌, Bool, List, [], ◌∷◌, ◌++◌, length, drop, refl, sym, ap, ◌∙◌, arith, length-drop}
use Rattle.std.proofs.lemmas.List.{drop_at}
use Rattle.aegis_stream.specs.Unspell.{State, Next, is_malformed, is_whole, next, no_more, one_more, follow, unspell_frames, unspell_from}
use Rattle.aegis_stream.specs.Unspell.State.{More}
use Rattle.aegis_stream.specs.Unspell.Next.{Stops, Opens}

pub next-nil : (key prefix : List ℕ) (i : ℕ) → next key prefix i [] ≡ Stops More
unfolding next is_malformed is_whole
next-nil key prefix i = refl

nothing : (k : ℕ) (key prefix : List ℕ) (i : ℕ) → unspell_frames k key prefix i [] ≡ no_more More
unfolding unspell_frames
nothing zero key prefix i = refl
nothing (suc k) key prefix i = ap (follow (unspell_frames k key prefix (suc i)) []) (next-nil key prefix i)

-- as many frames as bytes are enough
pub enough : (n k : ℕ) (key prefix : List ℕ) (i : ℕ) (b : List ℕ) → length b ≤ n → length b ≤ k → unspell_frames n key prefix i b ≡ unspell_frames k key prefix i b
unfolding unspell_frames
enough zero k key prefix i [] p q = sym (nothing k key prefix i)
enough zero k key prefix i (x ∷ b) p q = absurd (omega arith)
enough (suc n) zero key prefix i [] p q = nothing (suc n) key prefix i
enough (suc n) zero key prefix i (x ∷ b) p q = absurd (omega arith)
enough (suc n) (suc k) key prefix i b p q =
    elim (next key prefix i b) as (λ (x : Next). follow (unspell_frames n key prefix (suc i)) b x ≡ follow (unspell_frames k key prefix (suc i)) b x) [
      | Stops s ↦ refl
      | Opens last m ↦
          let left : List ℕ = drop (21 + length m) b in
          ap (one_more last m left) (enough n k key prefix (suc i) left (omega (arith, length-drop (21 + length m) b)) (omega (arith, length-drop (21 + length m) b)))
    ]

one_step : (key prefix : List ℕ) (i : ℕ) (b : List ℕ)
    → unspell_from key prefix i b ≡ follow (unspell_frames (length b) key prefix (suc i)) b (next key prefix i b)
unfolding unspell_frames
one_step key prefix i b = enough (length b) (suc (length b)) key prefix i b (omega arith) (omega arith)

pub from_stops : (key prefix : List ℕ) (i : ℕ) (b : List ℕ) (s : State) → next key prefix i b ≡ Stops s → unspell_from key prefix i b ≡ no_more s
from_stops key prefix i b s h = one_step key prefix i b ∙ ap (follow (unspell_frames (length b) key prefix (suc i)) b) h

pub from_opens : (key prefix : List ℕ) (i : ℕ) (b : List ℕ) (last : Bool) (m : List ℕ) → next key prefix i b ≡ Opens last m
    → unspell_from key prefix i b ≡ one_more last m (drop (21 + length m) b) (unspell_from key prefix (suc i) (drop (21 + length m) b))
from_opens key prefix i b last m h =
    let left : List ℕ = drop (21 + length m) b in
    one_step key prefix i b
    ∙ ap (follow (unspell_frames (length b) key prefix (suc i)) b) h
    ∙ ap (one_more last m left) (enough (length b) (length left) key prefix (suc i) left (omega (arith, length-drop (21 + length m) b)) (omega arith))

-- a frame, and what the bytes after it give
pub from_frame : (key prefix : List ℕ) (i : ℕ) (f x : List ℕ) (last : Bool) (m : List ℕ) → length f ≡ 21 + length m → next key prefix i (f ++ x) ≡ Opens last m
    → unspell_from key prefix i (f ++ x) ≡ one_more last m x (unspell_from key prefix (suc i) x)
from_frame key prefix i f x last m len h =
    from_opens key prefix i (f ++ x) last m h
    ∙ ap (λ (l : List ℕ). one_more last m l (unspell_from key prefix (suc i) l)) (drop_at f x (21 + length m) len)
