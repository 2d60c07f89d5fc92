-- How far a piece of a stream is opened.
use Rattle.std.proofs.Common.{◌≡◌, ◌⊎◌, ℕ, zero, suc, ◌+◌, ◌-◌, ◌^◌, ◌<◌, ◌≤◌, Bool, true, false, ltb, cond, List, [], ◌∷◌, ◌++◌, length, take, drop, min, Option, Some, None, refl, sym, ap, ◌∙◌, subst, arith, inl, inr, append_assoc, append-nil, length-append, length-take, length-drop, take-append-drop}
use Rattle.std.specs.Prelude.{sum_by, Result, Ok, Err}
use Rattle.std.specs.List.{concat}
use Rattle.std.proofs.lemmas.List.{take_all, nil_from_length}
use Rattle.std.proofs.lemmas.List.Folds.{concat-append}
use Rattle.std.proofs.lemmas.List.Sums.{sum_by-cons}
use Rattle.std.proofs.lemmas.Bool.{cases_Bool, cases_lt, cond-true, cond-false, lt-ltb, le-ltb}
use Rattle.std.specs.Io.KnownBytes.{Appends}
use Rattle.program_io.specs.Streams.{Output, AppendsPrefix}
use Rattle.program_io.proofs.StreamLemmas.{appends_more, appends_none}
use Rattle.aegis_stream.specs.Unspell.{State, Unspelled, unspell, unspell_from, no_more, past_end}
use Rattle.aegis_stream.specs.Unspell.State.{Ended, Trailing, Frame, Tag, More}
use Rattle.aegis_stream.specs.Opening.{Opening, Took, IsFed, IsRefused, after, left_in, is_ended, refusal_of}
use Rattle.aegis_stream.specs.declared.error.StreamError.{StreamError}
use Rattle.aegis_stream.specs.declared.fed.Fed.{Fed}
use Rattle.aegis_stream.proofs.Unspelled.{next-nil, from_stops}
use Rattle.aegis_stream.proofs.Streams.{unspell_short}
use Rattle.seal_run.specs.Steps.{GoesOn, Releases}
use Rattle.seal_run.proofs.Grows.{Grows, unspell_grows}
use Rattle.seal_run.proofs.Known.{Begins, front_more}

-- the frames that were opened are no more than the bytes that were taken
pub frames_most : (o : Opening) (taken : List ℕ) → Took o taken → o.frames ≤ length taken
frames_most o taken t = omega (arith, t.frames, t.count, each (unspell o.key taken).messages)
  where
    each : (ms : List (List ℕ)) → length ms ≤ sum_by (λ (m : List ℕ). 21 + length m) ms
    each [] = omega arith
    each (m ∷ ms) = omega (arith, each ms, sum_by-cons (λ (q : List ℕ). 21 + length q) m ms)

-- the messages of further bytes come after those that were there
pub concat_grows : (key b x : List ℕ) → (more : List ℕ) × (concat (unspell key (b ++ x)).messages ≡ concat (unspell key b).messages ++ more)
concat_grows key b x =
    let g = unspell_grows key b x in
    (concat g.front.0, ap concat g.front.1 ∙ concat-append (unspell key b).messages g.front.0)

-- where no frame is begun, none is refused
settled : (o : Opening) (taken : List ℕ) → Took o taken → o.refused ≡ None → o.begun ≡ [] → refusal_of (unspell o.key taken).state ≡ None
unfolding left_in
settled o taken t going none =
    ap (λ (l : List ℕ). refusal_of (unspell o.key l).state) (sym (append-nil taken))
    ∙ ap (λ (u : Unspelled). refusal_of u.state) (t.further going [])
    ∙ nothing
  where
    nothing : refusal_of (left_in o []).state ≡ None
    nothing = elim (cases_lt (length o.prefix) 8) [
      | inl less ↦
          ap (λ (b : Bool). refusal_of (cond b (unspell o.key (o.prefix ++ [])) (cond o.ended (no_more (past_end [])) (unspell_from o.key o.prefix o.frames (o.begun ++ [])))).state) (lt-ltb (length o.prefix) 8 less)
          ∙ ap (λ (u : Unspelled). refusal_of u.state) (unspell_short o.key (o.prefix ++ []) (o.prefix ++ []) (omega (arith, length-append {A = ℕ} o.prefix [], less)))
      | inr there ↦
          ap (λ (b : Bool). refusal_of (cond b (unspell o.key (o.prefix ++ [])) (cond o.ended (no_more (past_end [])) (unspell_from o.key o.prefix o.frames (o.begun ++ [])))).state) (le-ltb (length o.prefix) 8 there)
          ∙ elim (cases_Bool o.ended) [
            | inl done ↦ ap (λ (b : Bool). refusal_of (cond b (no_more (past_end [])) (unspell_from o.key o.prefix o.frames (o.begun ++ []))).state) done
            | inr goes ↦ ap (λ (b : Bool). refusal_of (cond b (no_more (past_end [])) (unspell_from o.key o.prefix o.frames (o.begun ++ []))).state) goes
                ∙ ap (λ (l : List ℕ). refusal_of (unspell_from o.key o.prefix o.frames (l ++ [])).state) none
                ∙ ap (λ (u : Unspelled). refusal_of u.state) (from_stops o.key o.prefix o.frames [] More (next-nil o.key o.prefix o.frames))
          ]
    ]

-- after a call that was not refused, none is due
pub none_due : (o n : Opening) (t input out out_new : List ℕ) (fed : Fed) → Took o t → IsFed o n t input out out_new fed
    → refusal_of (unspell o.key (t ++ take fed.taken input)).state ≡ None
none_due o n t input out out_new fed took f = elim f.stops [
  | inl stop ↦
      let all : take fed.taken input ≡ input = take_all fed.taken input (omega (arith, stop.0)) in
      let g = unspell_grows o.key t input in
      let count : length (unspell o.key (t ++ input)).messages ≡ length (unspell o.key t).messages =
      ap (λ (l : List ℕ). length (unspell o.key (t ++ l)).messages) (sym all)
      ∙ ap (λ (k : List ℕ). length (unspell k (t ++ take fed.taken input)).messages) (sym f.key)
      ∙ sym f.took.frames
      ∙ stop.1
      ∙ took.frames in
      let empty : g.front.0 ≡ [] = nil_from_length g.front.0 (omega (arith, count, ap length g.front.1, length-append (unspell o.key t).messages g.front.0)) in
      let same : (unspell o.key (t ++ input)).messages ≡ (unspell o.key t).messages = g.front.1 ∙ ap (λ (l : List (List ℕ)). (unspell o.key t).messages ++ l) empty ∙ append-nil (unspell o.key t).messages in
      ap (λ (l : List ℕ). refusal_of (unspell o.key (t ++ l)).state) all ∙ f.due same
  | inr more ↦
      ap (λ (k : List ℕ). refusal_of (unspell k (t ++ take fed.taken input)).state) (sym f.key) ∙ settled n (t ++ take fed.taken input) f.took f.going.1 more.1
]

-- the front of a buffer that may be too short
pub take_min : (n : ℕ) (l : List ℕ) → take (min n (length l)) l ≡ take n l
take_min n l = elim (cases_lt n (length l)) [
  | inl less ↦ let e : min n (length l) ≡ n = omega arith in ap (λ (k : ℕ). take k l) e
  | inr more ↦ let e : min n (length l) ≡ length l = omega arith in ap (λ (k : ℕ). take k l) e ∙ take_all (length l) l (omega arith) ∙ sym (take_all n l more)
]

-- a part of a piece was taken, and what it releases was written
pub record Opened (old o : Opening) (taken part : List ℕ) (written after : Option (List ℕ)) : Type 0 where
  pub key_is : o.key ≡ old.key
  pub took : Took o (taken ++ part)
  pub text : List ℕ
  pub releases : Releases old.key taken part text
  pub appended : Appends written after text

pub opened_none : (o : Opening) (taken part : List ℕ) (written : Option (List ℕ)) → part ≡ [] → Took o taken → Opened o o taken part written written
opened_none o taken part written none t = record {
  key_is = refl;
  took = subst (Took o) (sym same) t;
  text = [];
  releases = ap (λ (l : List ℕ). concat (unspell o.key l).messages) same ∙ sym (append-nil (concat (unspell o.key taken).messages));
  appended = appends_none written;
}
  where
    same : taken ++ part ≡ taken
    same = ap (λ (l : List ℕ). taken ++ l) none ∙ append-nil taken

module _ (old o : Opening) (taken part : List ℕ) (written mid : Option (List ℕ)) (d : Opened old o taken part written mid) where
  -- the part that a call took as well
  module _ (n : Opening) (input out out_new : List ℕ) (fed : Fed) (f : IsFed o n (taken ++ part) input out out_new fed) (whole : List ℕ) (is : whole ≡ part ++ take fed.taken input) where
    abbrev now : List ℕ
    now = (taken ++ part) ++ take fed.taken input

    now_is : now ≡ taken ++ whole
    now_is = append_assoc taken part (take fed.taken input) ∙ ap (λ (l : List ℕ). taken ++ l) (sym is)

    at_key : (b : List ℕ) → unspell old.key b ≡ unspell o.key b
    at_key b = ap (λ (k : List ℕ). unspell k b) (sym d.key_is)

    pub fed_releases : Releases old.key taken whole (d.text ++ take fed.written out_new)
    fed_releases =
        ap (λ (l : List ℕ). concat (unspell old.key l).messages) (sym now_is)
        ∙ ap (λ (u : Unspelled). concat u.messages) (at_key now)
        ∙ f.released
        ∙ ap (λ (u : Unspelled). concat u.messages ++ take fed.written out_new) (sym (at_key (taken ++ part)))
        ∙ ap (λ (l : List ℕ). l ++ take fed.written out_new) d.releases
        ∙ append_assoc (concat (unspell old.key taken).messages) d.text (take fed.written out_new)

    pub opened_more : (after : Option (List ℕ)) → Appends mid after (take fed.written out_new) → Opened old n taken whole written after
    opened_more after a = record {
      key_is = f.key ∙ d.key_is;
      took = subst (Took n) now_is f.took;
      text = d.text ++ take fed.written out_new;
      releases = fed_releases;
      appended = appends_more written mid after d.text (take fed.written out_new) d.appended a;
    }

    -- how the stream stands then
    pub fed_stands : (fed.ended ≡ is_ended (unspell old.key (taken ++ whole)).state) × (refusal_of (unspell old.key (taken ++ whole)).state ≡ None)
    fed_stands =
        let same : unspell o.key now ≡ unspell old.key (taken ++ whole) = sym (at_key now) ∙ ap (unspell old.key) now_is in (
          f.ended ∙ ap (λ (u : Unspelled). is_ended u.state) same,
          ap (λ (u : Unspelled). refusal_of u.state) (sym same) ∙ none_due o n (taken ++ part) input out out_new fed d.took f,
        )

    -- the sink failed at the message
    pub fed_front : (after : Option (List ℕ)) (piece rest : List ℕ) → piece ≡ whole ++ rest → AppendsPrefix mid after (take fed.written out_new)
        → (text : List ℕ) × Releases old.key taken piece text × AppendsPrefix written after text
    fed_front after piece rest e p =
        let g = concat_grows old.key (taken ++ whole) rest in
        let w : List ℕ = d.text ++ take fed.written out_new in
        let begins : Begins (w ++ g.0) w = record { rest = g.0; is = refl } in (
          w ++ g.0,
          ap (λ (l : List ℕ). concat (unspell old.key (taken ++ l)).messages) e
              ∙ ap (λ (l : List ℕ). concat (unspell old.key l).messages) (sym (append_assoc taken whole rest))
              ∙ g.1
              ∙ ap (λ (l : List ℕ). l ++ g.0) fed_releases
              ∙ append_assoc (concat (unspell old.key taken).messages) w g.0,
          front_more written mid after (w ++ g.0) d.text (take fed.written out_new) begins d.appended p,
        )

  -- a call was refused
  pub refused_all : (n : Opening) (input out out_new : List ℕ) (e : StreamError) → IsRefused o n (taken ++ part) input out out_new e → o.refused ≡ None
      → (piece : List ℕ) → piece ≡ part ++ input
      → (refusal_of (unspell old.key (taken ++ piece)).state ≡ Some e) × Releases old.key taken piece d.text
  refused_all n input out out_new e r going piece is =
      let due = r.due going in
      let same : unspell old.key (taken ++ piece) ≡ unspell o.key ((taken ++ part) ++ input) =
      ap (λ (l : List ℕ). unspell old.key (taken ++ l)) is ∙ ap (unspell old.key) (sym (append_assoc taken part input)) ∙ ap (λ (k : List ℕ). unspell k ((taken ++ part) ++ input)) (sym d.key_is) in (
        ap (λ (u : Unspelled). refusal_of u.state) same ∙ due.1,
        ap (λ (u : Unspelled). concat u.messages) same
            ∙ ap concat due.0
            ∙ ap (λ (k : List ℕ). concat (unspell k (taken ++ part)).messages) d.key_is
            ∙ d.releases,
      )
