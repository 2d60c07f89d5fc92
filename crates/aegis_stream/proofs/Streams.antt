-- What the front of a stream gives.
use Rattle.std.proofs.Common.{◌≡◌, ◌⊎◌, ℕ, suc, ◌+◌, ◌-◌, ◌<◌, ◌≤◌, Bool, true, false, ltb, List, [], ◌∷◌, ◌++◌, length, take, drop, refl, sym, ap, ◌∙◌, subst, arith, inl, inr, length-append, length-take}
use Rattle.std.proofs.Math.Seq.{take-append-add}
use Rattle.std.proofs.lemmas.List.{take_all, take-append-le, append_assoc, length-take-le, take_at, drop_at}
use Rattle.std.proofs.lemmas.Bool.{cases_lt, cond-true, cond-false, lt-ltb, le-ltb}
use Rattle.aegis_stream.specs.Grammar.{is_message_len, frame}
use Rattle.aegis_stream.specs.Spell.{is_last, frames_from, spell, spelled, AreMessages}
use Rattle.aegis_stream.specs.Unspell.{Unspelled, no_more, one_more, unspell_from, unspell}
use Rattle.aegis_stream.specs.Unspell.State.{Ended, More}
use Rattle.aegis_stream.specs.Laws.{GivesFront}
use Rattle.aegis_stream.proofs.Frames.{length-frame, frame_opens, less_stops}
use Rattle.aegis_stream.proofs.Unspelled.{from_stops, from_frame}

-- b is the whole of a stream, and gives all its messages
record IsAll (ms : List (List ℕ)) (whole b : List ℕ) (u : Unspelled) : Type 0 where
  messages : u.messages ≡ ms
  state : u.state ≡ Ended
  bytes : b ≡ whole

-- b is less than the whole, and gives some of its messages
record IsPart (ms : List (List ℕ)) (whole b : List ℕ) (u : Unspelled) : Type 0 where
  state : u.state ≡ More
  short : length b < length whole
  fewer : length u.messages < length ms
  front : take (length u.messages) ms ≡ u.messages

abbrev Gives : List (List ℕ) → List ℕ → List ℕ → Unspelled → Type 0
Gives ms whole b u = IsAll ms whole b u ⊎ IsPart ms whole b u

take_past : (f x : List ℕ) (n : ℕ) → length f ≤ n → take n (f ++ x) ≡ f ++ take (n - length f) x
take_past f x n le =
    let e : n ≡ length f + (n - length f) = omega arith in
    ap (λ (k : ℕ). take k (f ++ x)) e ∙ take-append-add f x (n - length f)

take-nil : (n : ℕ) → let none : List ℕ = [] in take n none ≡ none
take-nil n = take_all n [] (omega arith)

-- after a frame, what the rest gives
after_last : (f : List ℕ) (m : List ℕ) (k : ℕ) (u : Unspelled) → Gives (m ∷ []) (f ++ []) (f ++ take k []) (one_more true m (take k []) u)
after_last f m k u = subst (λ (x : List ℕ). Gives (m ∷ []) (f ++ []) (f ++ x) (one_more true m x u)) (sym (take-nil k))
    (inl (record { messages = refl; state = refl; bytes = refl }))

after_more : (f x rest : List ℕ) (m : List ℕ) (ms : List (List ℕ)) (u : Unspelled) → Gives ms rest x u → Gives (m ∷ ms) (f ++ rest) (f ++ x) (one_more false m x u)
after_more f x rest m ms u (inl all) = inl (record {
  messages = ap (λ (l : List (List ℕ)). m ∷ l) all.messages;
  state = all.state;
  bytes = ap (λ (l : List ℕ). f ++ l) all.bytes;
})
after_more f x rest m ms u (inr part) = inr (record {
  state = part.state;
  short = omega (arith, length-append f x, length-append f rest, part.short);
  fewer = omega (arith, part.fewer);
  front = ap (λ (l : List (List ℕ)). m ∷ l) part.front;
})

module _ (key prefix : List ℕ) where
  -- the bytes of these messages' frames, and what their first n give
  abbrev Fronts : ℕ → List (List ℕ) → ℕ → Type 0
  Fronts i ms n =
      Gives ms (frames_from key prefix i true ms) (take n (frames_from key prefix i true ms)) (unspell_from key prefix i (take n (frames_from key prefix i true ms)))

  less_front : (i : ℕ) (m : List ℕ) (ms : List (List ℕ)) (n : ℕ) → n < 21 + length m → is_message_len (is_last true ms) (length m) ≡ true → Fronts i (m ∷ ms) n
  unfolding frames_from
  less_front i m ms n less fits =
      let last : Bool = is_last true ms in
      let f : List ℕ = frame key prefix i last m in
      let rest : List ℕ = frames_from key prefix (suc i) true ms in
      let len : length f ≡ 21 + length m = length-frame key prefix i last m in
      let b : take n (f ++ rest) ≡ take n f = take-append-le n f rest (omega arith) in
      let u : unspell_from key prefix i (take n f) ≡ no_more More = from_stops key prefix i (take n f) More (less_stops key prefix i last m n less fits) in
      let part : IsPart (m ∷ ms) (f ++ rest) (take n f) (no_more More) = record {
        state = refl;
        short = omega (arith, length-take n f, length-append f rest);
        fewer = omega arith;
        front = refl;
      } in
      subst (λ (x : List ℕ). Gives (m ∷ ms) (f ++ rest) x (unspell_from key prefix i x)) (sym b)
      (subst (λ (v : Unspelled). Gives (m ∷ ms) (f ++ rest) (take n f) v) (sym u) (inr part))

  more_front : (i : ℕ) (m : List ℕ) (ms : List (List ℕ)) (n : ℕ) → 21 + length m ≤ n → is_message_len (is_last true ms) (length m) ≡ true
      → ((k : ℕ) → Gives (m ∷ ms) (frame key prefix i (is_last true ms) m ++ frames_from key prefix (suc i) true ms)
      (frame key prefix i (is_last true ms) m ++ take k (frames_from key prefix (suc i) true ms))
      (one_more (is_last true ms) m (take k (frames_from key prefix (suc i) true ms)) (unspell_from key prefix (suc i) (take k (frames_from key prefix (suc i) true ms)))))
      → Fronts i (m ∷ ms) n
  unfolding frames_from
  more_front i m ms n more fits given =
      let last : Bool = is_last true ms in
      let f : List ℕ = frame key prefix i last m in
      let rest : List ℕ = frames_from key prefix (suc i) true ms in
      let len : length f ≡ 21 + length m = length-frame key prefix i last m in
      let k : ℕ = n - length f in
      let b : take n (f ++ rest) ≡ f ++ take k rest = take_past f rest n (omega arith) in
      let u = from_frame key prefix i f (take k rest) last m len (frame_opens key prefix i last m (take k rest) fits) in
      subst (λ (x : List ℕ). Gives (m ∷ ms) (f ++ rest) x (unspell_from key prefix i x)) (sym b)
      (subst (λ (v : Unspelled). Gives (m ∷ ms) (f ++ rest) (f ++ take k rest) v) (sym u) (given k))

  front_from : (i : ℕ) (ms : List (List ℕ)) (n : ℕ) → 0 < length ms → AreMessages ms → Fronts i ms n
  unfolding frames_from
  front_from i [] n some are = absurd (omega arith)
  front_from i (m ∷ []) n some are = elim (cases_lt n (21 + length m)) [
    | inl less ↦ less_front i m [] n less are.0
    | inr more ↦ more_front i m [] n more are.0 (λ k. after_last (frame key prefix i true m) m k (unspell_from key prefix (suc i) (take k [])))
  ]
  front_from i (m ∷ q ∷ ms) n some are = elim (cases_lt n (21 + length m)) [
    | inl less ↦ less_front i m (q ∷ ms) n less are.0
    | inr more ↦ more_front i m (q ∷ ms) n more are.0 (λ k.
        let rest : List ℕ = frames_from key prefix (suc i) true (q ∷ ms) in
        after_more (frame key prefix i false m) (take k rest) rest m (q ∷ ms) (unspell_from key prefix (suc i) (take k rest))
        (front_from (suc i) (q ∷ ms) k (omega arith) are.1))
  ]

  -- with the prefix in front
  pub unspell_short : (b : List ℕ) → length b < 8 → unspell key b ≡ no_more More
  unfolding unspell
  unspell_short b short = cond-true (ltb (length b) 8) (no_more More) (unspell_from key (take 8 b) 0 (drop 8 b)) (lt-ltb (length b) 8 short)

  pub unspell_prefix : (x : List ℕ) → length prefix ≡ 8 → unspell key (prefix ++ x) ≡ unspell_from key prefix 0 x
  unfolding unspell
  unspell_prefix x eight =
      let b : List ℕ = prefix ++ x in
      cond-false (ltb (length b) 8) (no_more More) (unspell_from key (take 8 b) 0 (drop 8 b)) (le-ltb (length b) 8 (omega (arith, length-append prefix x)))
      ∙ ap (λ (l : List ℕ). unspell_from key l 0 (drop 8 b)) (take_at prefix x 8 eight)
      ∙ ap (unspell_from key prefix 0) (drop_at prefix x 8 eight)

  gives_spelled : (ms : List (List ℕ)) (n : ℕ) → length prefix ≡ 8 → 0 < length ms → AreMessages ms
      → Gives ms (spell key prefix ms) (take n (spell key prefix ms)) (unspell key (take n (spell key prefix ms)))
  gives_spelled ms n eight some are = elim (cases_lt n 8) [
    | inl less ↦
        let w : List ℕ = frames_from key prefix 0 true ms in
        let len : length (take n (prefix ++ w)) ≡ n = length-take-le n (prefix ++ w) (omega (arith, length-append prefix w)) in
        let part : IsPart ms (prefix ++ w) (take n (prefix ++ w)) (no_more More) = record {
          state = refl;
          short = omega (arith, length-append prefix w);
          fewer = some;
          front = refl;
        } in
        subst (λ (v : Unspelled). Gives ms (prefix ++ w) (take n (prefix ++ w)) v) (sym (unspell_short (take n (prefix ++ w)) (omega arith))) (inr part)
    | inr more ↦
        let w : List ℕ = frames_from key prefix 0 true ms in
        let k : ℕ = n - length prefix in
        let b : take n (prefix ++ w) ≡ prefix ++ take k w = take_past prefix w n (omega arith) in
        let u : unspell key (prefix ++ take k w) ≡ unspell_from key prefix 0 (take k w) = unspell_prefix (take k w) eight in
        subst (λ (x : List ℕ). Gives ms (prefix ++ w) x (unspell key x)) (sym b)
        (subst (λ (v : Unspelled). Gives ms (prefix ++ w) (prefix ++ take k w) v) (sym u) (behind ms w (take k w) (unspell_from key prefix 0 (take k w)) (front_from 0 ms k some are)))
  ]
    where
      behind : (ms : List (List ℕ)) (w x : List ℕ) (u : Unspelled) → Gives ms w x u → Gives ms (prefix ++ w) (prefix ++ x) u
      behind ms w x u (inl all) = inl (record { messages = all.messages; state = all.state; bytes = ap (λ (l : List ℕ). prefix ++ l) all.bytes })
      behind ms w x u (inr part) = inr (record {
        state = part.state;
        short = omega (arith, length-append prefix x, length-append prefix w, part.short);
        fewer = part.fewer;
        front = part.front;
      })

gives_front : (key prefix : List ℕ) (ms : List (List ℕ)) (b : List ℕ) → Gives ms (spell key prefix ms) b (unspell key b) → GivesFront key prefix ms b
gives_front key prefix ms b (inl all) = record {
  front = ap (λ (l : List (List ℕ)). take (length l) ms) all.messages ∙ take_all (length ms) ms (omega arith) ∙ sym all.messages;
  ended = ((λ _. all.bytes), (λ _. all.state));
  all = ((λ _. all.messages), (λ _. all.state));
  state = inl all.state;
}
gives_front key prefix ms b (inr part) = record {
  front = part.front;
  ended = ((λ e. absurd (going e)), (λ e. let l = ap length e in absurd (omega (arith, part.short))));
  all = ((λ e. absurd (going e)), (λ e. let l = ap length e in absurd (omega (arith, part.fewer))));
  state = inr part.state;
}
  where
    going : (unspell key b).state ≡ Ended → ⊥
    going e = apart (sym e ∙ part.state)
      where
        apart : Ended ≡ More → ⊥
        apart h = cc

-- the frames of a stream that goes on are the first ones of what it may become
frames_go_on : (key prefix : List ℕ) (i : ℕ) (ms others : List (List ℕ)) → 0 < length others
    → (rest : List ℕ) × (frames_from key prefix i true (ms ++ others) ≡ frames_from key prefix i false ms ++ rest)
unfolding frames_from
frames_go_on key prefix i [] others some = (frames_from key prefix i true others, refl)
frames_go_on key prefix i (m ∷ ms) others some =
    let on = frames_go_on key prefix (suc i) ms others some in
    let f : List ℕ = frame key prefix i false m in (
      on.0,
      ap (λ (b : Bool). frame key prefix i b m ++ frames_from key prefix (suc i) true (ms ++ others)) (goes ms others some)
          ∙ ap (λ (l : List ℕ). f ++ l) on.1
          ∙ sym (append_assoc f (frames_from key prefix (suc i) false ms) on.0)
          ∙ ap (λ (b : Bool). (frame key prefix i b m ++ frames_from key prefix (suc i) false ms) ++ on.0) (sym (never ms)),
    )
  where
    goes : (xs ys : List (List ℕ)) → 0 < length ys → is_last true (xs ++ ys) ≡ false
    goes [] [] h = absurd (omega arith)
    goes [] (y ∷ ys) h = refl
    goes (x ∷ xs) ys h = refl

    never : (xs : List (List ℕ)) → is_last false xs ≡ false
    never [] = refl
    never (x ∷ xs) = refl

pub goes_on : (key prefix : List ℕ) (ms others : List (List ℕ)) → 0 < length others
    → take (length (spelled key prefix false ms)) (spell key prefix (ms ++ others)) ≡ spelled key prefix false ms
goes_on key prefix ms others some =
    let on = frames_go_on key prefix 0 ms others some in
    let w : List ℕ = spelled key prefix false ms in
    ap (λ (l : List ℕ). take (length w) (prefix ++ l)) on.1
    ∙ ap (take (length w)) (sym (append_assoc prefix (frames_from key prefix 0 false ms) on.0))
    ∙ take_at w on.0 (length w) refl

pub fronts : (key prefix : List ℕ) (ms : List (List ℕ)) (n : ℕ) → length prefix ≡ 8 → 0 < length ms → AreMessages ms → GivesFront key prefix ms (take n (spell key prefix ms))
fronts key prefix ms n eight some are = gives_front key prefix ms (take n (spell key prefix ms)) (gives_spelled key prefix ms n eight some are)
