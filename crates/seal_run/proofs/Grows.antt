-- What further bytes do to what a stream gives: messages stay, and so does a refusal.
use Rattle.std.proofs.Common.{◌≡◌, ◌⊎◌, ℕ, zero, suc, ◌+◌, ◌<◌, ◌≤◌, Bool, true, false, eqb, ltb, List, [], ◌∷◌, ◌++◌, length, take, drop, get_or, Option, Some, None, refl, sym, ap, ◌∙◌, subst, arith, inl, inr, length-append, length-take, length-drop}
use Rattle.std.proofs.lemmas.List.{append-nil, take-append-le, drop-append-le, length-take-le, nil_from_length}
use Rattle.std.proofs.lemmas.Bool.{cond-true, cond-false, cases_Bool, cases_lt, lt-ltb, le-ltb}
use Rattle.aegis_core.specs.Sealing.{seal, unsealed}
use Rattle.aegis_core.specs.declared.variant.Variant.TheVariants.{Aegis128L}
use Rattle.aegis_stream.specs.Grammar.{frame_nonce}
use Rattle.aegis_stream.specs.Unspell.{State, Next, Unspelled, is_malformed, is_whole, length_in, message_in, of_message, next, no_more, one_more, past_end, unspell_from, unspell}
use Rattle.aegis_stream.specs.Unspell.State.{Ended, Trailing, Frame, Tag, More}
use Rattle.aegis_stream.specs.Unspell.Next.{Opens, Stops}
use Rattle.aegis_stream.specs.Opening.{refusal_of}
use Rattle.aegis_stream.specs.declared.error.StreamError.{StreamError}
use Rattle.aegis_stream.proofs.Fronts.{malformed_more, whole_long, next_malformed, next_part, next_whole, next-append}
use Rattle.aegis_stream.proofs.Frames.{laws}
use Rattle.aegis_stream.proofs.Unspelled.{next-nil, from_stops, from_opens}
use Rattle.aegis_stream.proofs.Streams.{unspell_short}

-- what b gives, and what b and further bytes give
pub record Grows (u v : Unspelled) : Type 0 where
  pub front : (rest : List (List ℕ)) × (v.messages ≡ u.messages ++ rest)
  pub refused : (e : StreamError) → refusal_of u.state ≡ Some e → v ≡ u

same_state : (s t : State) → Stops s ≡ Stops t → s ≡ t
same_state s t h = cc

apart : (s : State) (last : Bool) (m : List ℕ) → Stops s ≡ Opens last m → ⊥
apart s last m h = cc

same_message : (a b : Bool) (m n : List ℕ) → Opens a m ≡ Opens b n → m ≡ n
same_message a b m n h = cc

no_refusal : (e : StreamError) → refusal_of More ≡ Some e → ⊥
no_refusal e h = none h
  where
    none : None ≡ Some e → ⊥
    none h = cc

module _ (key prefix : List ℕ) (i : ℕ) (b x : List ℕ) where
  -- where more bytes are not what is due, they change nothing
  stops_more : (s : State) → next key prefix i b ≡ Stops s → (s ≡ More) ⊎ (next key prefix i (b ++ x) ≡ Stops s)
  stops_more s h = elim (cases_Bool (is_malformed b)) [
    | inl bad ↦ inr (next_malformed key prefix i (b ++ x) (malformed_more b x bad) ∙ sym (next_malformed key prefix i b bad) ∙ h)
    | inr good ↦ elim (cases_Bool (is_whole b)) [
      | inl all ↦ inr (next-append key prefix i b x all ∙ h)
      | inr part ↦ inl (same_state s More (sym h ∙ next_part key prefix i b good part))
    ]
  ]

  of_found : (a last : Bool) (o : Option (List ℕ)) (m : List ℕ) → of_message a o ≡ Opens last m → o ≡ Some m
  of_found a last None m h = absurd (apart Tag last m h)
  of_found a last (Some n) m h = ap Some (same_message a last n m h)

  opens_is : (m : List ℕ) → message_in key prefix i b ≡ Some m
      → unsealed Aegis128L 16 key (frame_nonce prefix i) (take 5 b) (take (length_in b) (drop 5 b)) (take 16 (drop (5 + length_in b) b)) ≡ Some m
  unfolding message_in
  opens_is m h = h

  -- a frame that opens is there whole
  opens_whole : (last : Bool) (m : List ℕ) → next key prefix i b ≡ Opens last m → (is_whole b ≡ true) × (21 + length m ≤ length b)
  opens_whole last m h = elim (cases_Bool (is_malformed b)) [
    | inl bad ↦ absurd (apart Frame last m (sym (next_malformed key prefix i b bad) ∙ h))
    | inr good ↦ elim (cases_Bool (is_whole b)) [
      | inl all ↦
          let is : message_in key prefix i b ≡ Some m = of_found (eqb (get_or b 0 0) 1) last (message_in key prefix i b) m (sym (next_whole key prefix i b good all) ∙ h) in
          let n : ℕ = length_in b in
          let long = whole_long b all in
          let text : List ℕ = take n (drop 5 b) in
          let tag : List ℕ = take 16 (drop (5 + n) b) in
          let sealed : seal Aegis128L 16 key (frame_nonce prefix i) (take 5 b) m ≡ (text, tag) = laws.seals key (frame_nonce prefix i) (take 5 b) text tag m (opens_is m is) in
          let len_text : length text ≡ n = length-take-le n (drop 5 b) (omega (arith, long.1, length-drop 5 b)) in
          let len : length m ≡ n =
          sym (laws.text_len key (frame_nonce prefix i) (take 5 b) m) ∙ ap (λ (p : List ℕ × List ℕ). length p.0) sealed ∙ len_text in
          (all, omega (arith, len, long.1))
      | inr part ↦ absurd (apart More last m (sym (next_part key prefix i b good part) ∙ h))
    ]
  ]

-- after the end
end_grows : (m l x : List ℕ) (u v : Unspelled) → Grows (one_more true m l u) (one_more true m (l ++ x) v)
end_grows m l x u v = record {
  front = ([], refl);
  refused = over l;
}
  where
    ended : (e : StreamError) → refusal_of Ended ≡ Some e → ⊥
    ended e h = none h
      where
        none : None ≡ Some e → ⊥
        none h = cc

    over : (k : List ℕ) (e : StreamError) → refusal_of (past_end k) ≡ Some e → one_more true m (k ++ x) v ≡ one_more true m k u
    over [] e h = absurd (ended e h)
    over (z ∷ k) e h = refl

more_grows : (m l k : List ℕ) (u v : Unspelled) → Grows u v → Grows (one_more false m l u) (one_more false m k v)
more_grows m l k u v g = record {
  front = (g.front.0, ap (λ (ms : List (List ℕ)). m ∷ ms) g.front.1);
  refused = λ e h. ap (λ (w : Unspelled). one_more false m k w) (g.refused e h);
}

none_grows : (v : Unspelled) → Grows (no_more More) v
none_grows v = record {
  front = (v.messages, refl);
  refused = λ e h. absurd (no_refusal e h);
}

same_grows : (u v : Unspelled) → v ≡ u → Grows u v
same_grows u v e = record {
  front = ([], ap (λ (w : Unspelled). w.messages) e ∙ sym (append-nil u.messages));
  refused = λ _ _. e;
}

module _ (key prefix : List ℕ) where
  stops_grow : (i : ℕ) (b x : List ℕ) (s : State) → next key prefix i b ≡ Stops s → Grows (unspell_from key prefix i b) (unspell_from key prefix i (b ++ x))
  stops_grow i b x s h = elim (stops_more key prefix i b x s h) [
    | inl more ↦ subst (λ (u : Unspelled). Grows u (unspell_from key prefix i (b ++ x))) (sym (from_stops key prefix i b s h ∙ ap no_more more)) (none_grows (unspell_from key prefix i (b ++ x)))
    | inr still ↦ same_grows (unspell_from key prefix i b) (unspell_from key prefix i (b ++ x)) (from_stops key prefix i (b ++ x) s still ∙ sym (from_stops key prefix i b s h))
  ]

  opens_grow : (i : ℕ) (b x : List ℕ) (last : Bool) (m : List ℕ) → next key prefix i b ≡ Opens last m
      → Grows (one_more last m (drop (21 + length m) b) (unspell_from key prefix (suc i) (drop (21 + length m) b)))
      (one_more last m (drop (21 + length m) b ++ x) (unspell_from key prefix (suc i) (drop (21 + length m) b ++ x)))
      → Grows (unspell_from key prefix i b) (unspell_from key prefix i (b ++ x))
  opens_grow i b x last m h g =
      let whole = opens_whole key prefix i b x last m h in
      let on : next key prefix i (b ++ x) ≡ Opens last m = next-append key prefix i b x whole.0 ∙ h in
      let left : drop (21 + length m) (b ++ x) ≡ drop (21 + length m) b ++ x = drop-append-le (21 + length m) b x whole.1 in
      let after : unspell_from key prefix i (b ++ x) ≡ one_more last m (drop (21 + length m) b ++ x) (unspell_from key prefix (suc i) (drop (21 + length m) b ++ x)) =
      from_opens key prefix i (b ++ x) last m on ∙ ap (λ (l : List ℕ). one_more last m l (unspell_from key prefix (suc i) l)) left in
      subst (λ (u : Unspelled). Grows u (unspell_from key prefix i (b ++ x))) (sym (from_opens key prefix i b last m h))
      (subst (Grows (one_more last m (drop (21 + length m) b) (unspell_from key prefix (suc i) (drop (21 + length m) b)))) (sym after) g)

  by_next : (i : ℕ) (b x : List ℕ) → ((j : ℕ) (l : List ℕ) → length l < length b → Grows (unspell_from key prefix j l) (unspell_from key prefix j (l ++ x)))
      → (y : Next) → next key prefix i b ≡ y → Grows (unspell_from key prefix i b) (unspell_from key prefix i (b ++ x))
  by_next i b x less (Stops s) h = stops_grow i b x s h
  by_next i b x less (Opens true m) h =
      let l : List ℕ = drop (21 + length m) b in
      opens_grow i b x true m h (end_grows m l x (unspell_from key prefix (suc i) l) (unspell_from key prefix (suc i) (l ++ x)))
  by_next i b x less (Opens false m) h =
      let l : List ℕ = drop (21 + length m) b in
      let whole = opens_whole key prefix i b x false m h in
      opens_grow i b x false m h (more_grows m l (l ++ x) (unspell_from key prefix (suc i) l) (unspell_from key prefix (suc i) (l ++ x))
      (less (suc i) l (omega (arith, whole.1, length-drop (21 + length m) b))))

  from_grows : (n i : ℕ) (b x : List ℕ) → length b ≤ n → Grows (unspell_from key prefix i b) (unspell_from key prefix i (b ++ x))
  from_grows zero i b x le =
      let none : b ≡ [] = nil_from_length b (omega arith) in
      stops_grow i b x More (ap (next key prefix i) none ∙ next-nil key prefix i)
  from_grows (suc n) i b x le = by_next i b x (λ j l less. from_grows n j l x (omega (arith, less, le))) (next key prefix i b) refl

unspell_long : (key b : List ℕ) → 8 ≤ length b → unspell key b ≡ unspell_from key (take 8 b) 0 (drop 8 b)
unfolding unspell
unspell_long key b long = cond-false (ltb (length b) 8) (no_more More) (unspell_from key (take 8 b) 0 (drop 8 b)) (le-ltb (length b) 8 long)

-- messages stay where further bytes come, and so does a refusal
pub unspell_grows : (key b x : List ℕ) → Grows (unspell key b) (unspell key (b ++ x))
unspell_grows key b x = elim (cases_lt (length b) 8) [
  | inl short ↦ subst (λ (u : Unspelled). Grows u (unspell key (b ++ x))) (sym (unspell_short key b b short)) (none_grows (unspell key (b ++ x)))
  | inr long ↦
      let e : unspell key (b ++ x) ≡ unspell_from key (take 8 b) 0 (drop 8 b ++ x) =
      unspell_long key (b ++ x) (omega (arith, length-append b x))
      ∙ ap (λ (l : List ℕ). unspell_from key l 0 (drop 8 (b ++ x))) (take-append-le 8 b x long)
      ∙ ap (unspell_from key (take 8 b) 0) (drop-append-le 8 b x long) in
      subst (λ (u : Unspelled). Grows u (unspell key (b ++ x))) (sym (unspell_long key b long))
      (subst (Grows (unspell_from key (take 8 b) 0 (drop 8 b))) (sym e) (from_grows key (take 8 b) (length (drop 8 b)) 0 (drop 8 b) x (omega arith)))
]
