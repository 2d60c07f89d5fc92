-- What a call's way through the input does to what further bytes give.
use Rattle.std.proofs.Common.{◌≡◌, ℕ, suc, ◌+◌, Bool, true, false, cond, List, [], ◌∷◌, ◌++◌, length, None, refl, sym, ap, ◌∙◌, arith, inl, inr}
use Rattle.std.proofs.lemmas.List.{append_assoc}
use Rattle.std.proofs.lemmas.Bool.{cond-true, cond-false, cases_Bool}
use Rattle.aegis_stream.specs.Unspell.{State, Unspelled, is_whole, next, no_more, one_more, past_end, unspell_frames, unspell_from}
use Rattle.aegis_stream.specs.Unspell.State.{Ended, Trailing, More}
use Rattle.aegis_stream.specs.Unspell.Next.{Stops, Opens}
use Rattle.aegis_stream.specs.Opening.{is_ended, refusal_of}
use Rattle.aegis_stream.specs.Progress.{Progress, next_in, unspell_in}
use Rattle.aegis_stream.proofs.Fronts.{next-append}
use Rattle.aegis_stream.proofs.Unspelled.{from_stops, from_frame}

-- a message, and then these
abbrev pub push : List ℕ → Unspelled → Unspelled
push m u = record { messages = m ∷ u.messages; state = u.state }

module _ (key prefix : List ℕ) (p : Progress) where
  next_over : (x : List ℕ) → p.ended ≡ true → next_in key prefix p x ≡ Stops (past_end x)
  unfolding next_in
  next_over x h = cond-true p.ended (Stops (past_end x)) (next key prefix p.frames (p.begun ++ x)) h

  next_going : (x : List ℕ) → p.ended ≡ false → next_in key prefix p x ≡ next key prefix p.frames (p.begun ++ x)
  unfolding next_in
  next_going x h = cond-false p.ended (Stops (past_end x)) (next key prefix p.frames (p.begun ++ x)) h

  over : (x : List ℕ) → p.ended ≡ true → unspell_in key prefix p x ≡ no_more (past_end x)
  unfolding unspell_in
  over x h = cond-true p.ended (no_more (past_end x)) (unspell_from key prefix p.frames (p.begun ++ x)) h

  pub going : (x : List ℕ) → p.ended ≡ false → unspell_in key prefix p x ≡ unspell_from key prefix p.frames (p.begun ++ x)
  unfolding unspell_in
  going x h = cond-false p.ended (no_more (past_end x)) (unspell_from key prefix p.frames (p.begun ++ x)) h

  -- input that brings no message gives none
  pub in_stops : (x : List ℕ) (s : State) → next_in key prefix p x ≡ Stops s → unspell_in key prefix p x ≡ no_more s
  in_stops x s h = elim (cases_Bool p.ended) [
    | inl done ↦ over x done ∙ ap no_more (same (past_end x) s (sym (next_over x done) ∙ h))
    | inr goes ↦ going x goes ∙ from_stops key prefix p.frames (p.begun ++ x) s (sym (next_going x goes) ∙ h)
  ]
    where
      same : (a b : State) → Stops a ≡ Stops b → a ≡ b
      same a b e = cc

  -- what is kept of it stands for it
  pub in_kept : (x y : List ℕ) (s : State) → next_in key prefix p x ≡ Stops s → refusal_of s ≡ None
      → unspell_in key prefix p (x ++ y) ≡ unspell_in key prefix (record p { begun = p.begun ++ x }) y
  unfolding unspell_in
  in_kept x y s h due = elim (cases_Bool p.ended) [
    | inl done ↦
        let e : x ≡ [] = empty x (same (past_end x) s (sym (next_over x done) ∙ h)) in
        ap (λ (l : List ℕ). unspell_in key prefix p (l ++ y)) e
        ∙ over y done
        ∙ sym (cond-true p.ended (no_more (past_end y)) (unspell_from key prefix p.frames ((p.begun ++ x) ++ y)) done)
    | inr goes ↦ ap (λ (l : List ℕ). cond p.ended (no_more (past_end (x ++ y))) (unspell_from key prefix p.frames l)) (sym (append_assoc p.begun x y))
        ∙ cond-false p.ended (no_more (past_end (x ++ y))) (unspell_from key prefix p.frames ((p.begun ++ x) ++ y)) goes
        ∙ sym (cond-false p.ended (no_more (past_end y)) (unspell_from key prefix p.frames ((p.begun ++ x) ++ y)) goes)
  ]
    where
      same : (a b : State) → Stops a ≡ Stops b → a ≡ b
      same a b e = cc

      empty : (l : List ℕ) → past_end l ≡ s → l ≡ []
      empty [] e = refl
      empty (z ∷ l) e = absurd (refused (ap refusal_of e ∙ due))
        where
          refused : refusal_of Trailing ≡ None → ⊥
          refused r = cc

  goes_on : (last : Bool) (m y : List ℕ)
      → one_more last m y (unspell_from key prefix (suc p.frames) y) ≡ push m (unspell_in key prefix (record { begun = []; frames = p.frames + 1; ended = last }) y)
  unfolding unspell_in
  goes_on true m y = refl
  goes_on false m y = let e : suc p.frames ≡ p.frames + 1 = omega arith in ap (λ (n : ℕ). push m (unspell_from key prefix n y)) e

  -- a whole frame gives its message, and then what comes after it
  pub in_opened : (f y : List ℕ) (last : Bool) (m : List ℕ) → p.ended ≡ false → is_whole (p.begun ++ f) ≡ true → next key prefix p.frames (p.begun ++ f) ≡ Opens last m
      → length (p.begun ++ f) ≡ 21 + length m
      → unspell_in key prefix p (f ++ y) ≡ push m (unspell_in key prefix (record { begun = []; frames = p.frames + 1; ended = last }) y)
  in_opened f y last m goes whole opens len =
      going (f ++ y) goes
      ∙ ap (unspell_from key prefix p.frames) (sym (append_assoc p.begun f y))
      ∙ from_frame key prefix p.frames (p.begun ++ f) y last m len (next-append key prefix p.frames (p.begun ++ f) y whole ∙ opens)
      ∙ goes_on last m y

-- how a stream stands after a frame, and nothing more
abbrev pub after_frame : Bool → State
after_frame true = Ended
after_frame false = More

pub is_ended-after_frame : (last : Bool) → is_ended (after_frame last) ≡ last
is_ended-after_frame true = refl
is_ended-after_frame false = refl

pub in_nothing : (key prefix : List ℕ) (n : ℕ) (last : Bool) → unspell_in key prefix (record { begun = []; frames = n; ended = last }) [] ≡ no_more (after_frame last)
unfolding unspell_in unspell_frames
in_nothing key prefix n true = refl
in_nothing key prefix n false = refl
