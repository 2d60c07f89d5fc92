-- How far a source is opened.
use Rattle.std.proofs.Common.{◌≡◌, ℕ, ◌+◌, ◌-◌, ◌^◌, ◌<◌, ◌≤◌, Bool, true, false, cond, List, [], ◌++◌, length, take, drop, Option, Some, None, refl, sym, ap, ◌∙◌, subst, arith, inl, inr, append_assoc, append-nil, length-append, Ok, Err}
use Rattle.std.specs.Prelude.{IfSome, Result}
use Rattle.std.specs.List.{concat}
use Rattle.std.proofs.lemmas.List.{take_at, take_all}
use Rattle.std.proofs.lemmas.Bool.{cases_lt}
use Rattle.std.proofs.Math.Seq.{take-append-add}
use Rattle.std.specs.Io.KnownBytes.{Appends, Consumes, IsAtEnd}
use Rattle.counts.specs.Counts.{Rose}
use Rattle.program_io.specs.Streams.{Intake, Output, AppendsPrefix, ConsumesAtMost, TellsAsBefore}
use Rattle.program_io.proofs.StreamLemmas.{appends_more, appends_none, consumes_more, consumes_none}
use Rattle.aegis_stream.specs.Unspell.{State, Unspelled, unspell}
use Rattle.aegis_stream.specs.Unspell.State.{Ended, Trailing, Frame, Tag, More}
use Rattle.aegis_stream.specs.Opening.{Opening, Took, is_ended, refusal_of}
use Rattle.aegis_stream.specs.declared.error.StreamError.{StreamError}
use Rattle.aegis_stream.proofs.Streams.{unspell_short}
use Rattle.seal_run.specs.Ends.{HasCount, most_bytes, Runs}
use Rattle.seal_run.specs.Unsealing.{Unseals, UnsealsUpTo, UnsealsAll, UnsealsFront, IsNoStream, MayBeStream, released, state_of}
use Rattle.seal_run.specs.Steps.{GoesOn, Opens, Releases}
use Rattle.seal_run.specs.declared.ends.StreamEnd.{StreamEnd}
use Rattle.seal_run.specs.declared.ends.StreamEnd.TheVariants.{Whole, ReadFault, WriteFault, OutOfMemory, NotAStream, TooLong}
use Rattle.seal_run.proofs.Grows.{unspell_grows}
use Rattle.seal_run.proofs.Known.{known, Begins, front_written, front_more}
use Rattle.seal_run.proofs.Opened.{concat_grows}

-- how a stream stands that is refused, and one that is not
refused_none : (s : State) (e : StreamError) → refusal_of s ≡ None → refusal_of s ≡ Some e → ⊥
refused_none s e none some = apart (sym none ∙ some)
  where
    apart : None ≡ Some e → ⊥
    apart h = cc

not_refused : (e : StreamError) → None ≡ Some e → ⊥
not_refused e h = cc

some_none : (e : StreamError) → Some e ≡ None → ⊥
some_none e h = cc

true_false : true ≡ false → ⊥
true_false h = cc

is_no_stream : (s : State) (e : StreamError) (b : List ℕ) → refusal_of s ≡ Some e → IsNoStream s b
is_no_stream Ended e b h = absurd (not_refused e h)
is_no_stream Trailing e b h = tt
is_no_stream Frame e b h = tt
is_no_stream Tag e b h = tt
is_no_stream More e b h = absurd (not_refused e h)

may_be : (s : State) → refusal_of s ≡ None → MayBeStream s
may_be Ended h = tt
may_be Trailing h = absurd (some_none _ h)
may_be Frame h = absurd (some_none _ h)
may_be Tag h = absurd (some_none _ h)
may_be More h = tt

over : (s : State) → true ≡ is_ended s → s ≡ Ended
over Ended h = refl
over Trailing h = absurd (true_false h)
over Frame h = absurd (true_false h)
over Tag h = absurd (true_false h)
over More h = absurd (true_false h)

goes_on : (s : State) → refusal_of s ≡ None → false ≡ is_ended s → s ≡ More
goes_on Ended h e = absurd (true_false (sym e))
goes_on Trailing h e = absurd (some_none _ h)
goes_on Frame h e = absurd (some_none _ h)
goes_on Tag h e = absurd (some_none _ h)
goes_on More h e = refl

-- these bytes were taken, and what they release was written
pub record SoFar (key : List ℕ) (o : Opening) (left now written after : Option (List ℕ)) (taken : ℕ) (answer : Bool) : Type 0 where
  pub key_is : o.key ≡ key
  pub going : o.refused ≡ None
  pub bytes : List ℕ
  pub took : Took o bytes
  pub long : length bytes ≡ taken
  pub consumed : Consumes left now bytes
  pub appended : Appends written after (concat (unspell key bytes).messages)
  pub ended : answer ≡ is_ended (unspell key bytes).state
  pub due : refusal_of (unspell key bytes).state ≡ None

pub so_far_none : (key : List ℕ) (o : Opening) (left written : Option (List ℕ)) → o.key ≡ key → o.refused ≡ None → Took o [] → SoFar key o left left written written 0 false
so_far_none key o left written key_is going t =
    let none = unspell_short key [] [] (omega arith) in
    record {
      key_is = key_is;
      going = going;
      bytes = [];
      took = t;
      long = refl;
      consumed = consumes_none left;
      appended = subst (Appends written written) (ap (λ (u : Unspelled). concat u.messages) (sym none)) (appends_none written);
      ended = ap (λ (u : Unspelled). is_ended u.state) (sym none);
      due = ap (λ (u : Unspelled). refusal_of u.state) none;
    }

-- the first bytes of a source that begins so
first_bytes : (bytes rest : List ℕ) → length bytes ≤ most_bytes → take most_bytes (bytes ++ rest) ≡ bytes ++ take (most_bytes - length bytes) rest
first_bytes bytes rest le =
    let e : most_bytes ≡ length bytes + (most_bytes - length bytes) = omega arith in
    ap (λ (k : ℕ). take k (bytes ++ rest)) e ∙ take-append-add bytes rest (most_bytes - length bytes)

releases_begin : (key bytes rest : List ℕ) → length bytes ≤ most_bytes → Begins (released key (bytes ++ rest)) (concat (unspell key bytes).messages)
releases_begin key bytes rest le =
    let g = concat_grows key bytes (take (most_bytes - length bytes) rest) in
    record { rest = g.0; is = ap (λ (l : List ℕ). concat (unspell key l).messages) (first_bytes bytes rest le) ∙ g.1 }

module _ (key : List ℕ) (o : Opening) (left now written after : Option (List ℕ)) (taken : ℕ) (answer : Bool) (f : SoFar key o left now written after taken answer) where
  -- a front of what the source releases was written
  pub so_far_front : taken ≤ most_bytes → IfSome left (λ b. AppendsPrefix written after (released key b))
  so_far_front le = known left now f.bytes (λ b. AppendsPrefix written after (released key b)) f.consumed
      (λ rest _. front_written written after (released key (f.bytes ++ rest)) (concat (unspell key f.bytes).messages) (releases_begin key f.bytes rest (omega (arith, f.long, le))) f.appended)

-- the first bytes are those that were taken: there are no others, or these are as many as there may be
whole_bytes : (bytes more : List ℕ) → length bytes ≤ most_bytes → (length bytes < most_bytes → more ≡ []) → take most_bytes (bytes ++ more) ≡ bytes
whole_bytes bytes more le none = first_bytes bytes more le ∙ ap (λ (l : List ℕ). bytes ++ l) (elim (cases_lt (length bytes) most_bytes) [
  | inl less ↦ ap (take (most_bytes - length bytes)) (none less) ∙ take_all (most_bytes - length bytes) [] (omega arith)
  | inr full ↦ let e : most_bytes - length bytes ≡ 0 = omega arith in ap (λ (k : ℕ). take k more) e
]) ∙ append-nil bytes

module _ (key : List ℕ) (o : Opening) (source : Intake) (sink : Output) (now : Option (List ℕ)) (taken : ℕ) where
  -- all that these bytes release was written
  written_all : (answer : Bool) (f : SoFar key o source.left now sink.written sink.after taken answer) → (bytes : List ℕ) → Consumes source.left source.after bytes
      → ((rest : List ℕ) → source.after ≡ Some rest → take most_bytes (bytes ++ rest) ≡ f.bytes) → UnsealsAll key source sink
  written_all answer f bytes c first = known source.left source.after bytes (λ b. Appends sink.written sink.after (released key b)) c
      (λ rest is. subst (Appends sink.written sink.after) (ap (λ (l : List ℕ). concat (unspell key l).messages) (sym (first rest is))) f.appended)

  -- the source is at its end
  module _ (most : taken ≤ most_bytes) (c : Consumes now source.after []) (end : IsAtEnd source.after) where
    here : (answer : Bool) (f : SoFar key o source.left now sink.written sink.after taken answer) → Consumes source.left source.after f.bytes
    here answer f = subst (Consumes source.left source.after) (append-nil f.bytes) (consumes_more source.left now source.after f.bytes [] f.consumed c)

    first : (answer : Bool) (f : SoFar key o source.left now sink.written sink.after taken answer) (rest : List ℕ) → source.after ≡ Some rest → take most_bytes (f.bytes ++ rest) ≡ f.bytes
    first answer f rest is = whole_bytes f.bytes rest (omega (arith, f.long, most)) (λ _. subst IsAtEnd is end)

    length_here : (answer : Bool) (f : SoFar key o source.left now sink.written sink.after taken answer) (rest : List ℕ) → source.after ≡ Some rest → length (f.bytes ++ rest) ≤ most_bytes
    length_here answer f rest is =
        let none : rest ≡ [] = subst IsAtEnd is end in
        omega (arith, length-append f.bytes rest, ap length none, f.long, most)

    pub ends_here : (answer : Bool) → SoFar key o source.left now sink.written sink.after taken answer → UnsealsUpTo key source sink (cond answer Whole NotAStream)
    ends_here true f = (
      end,
      known source.left source.after f.bytes (λ b. (length b ≤ most_bytes) × (state_of key b ≡ Ended)) (here true f)
          (λ rest is. (length_here true f rest is, ap (λ (l : List ℕ). (unspell key l).state) (first true f rest is) ∙ over (unspell key f.bytes).state f.ended)),
      written_all true f f.bytes (here true f) (first true f),
    )
    ends_here false f = (
      known source.left source.after f.bytes (λ b. IsNoStream (state_of key b) b) (here false f)
          (λ rest is. subst (λ (s : State). IsNoStream s (f.bytes ++ rest))
          (sym (ap (λ (l : List ℕ). (unspell key l).state) (first false f rest is) ∙ goes_on (unspell key f.bytes).state f.due f.ended)) (length_here false f rest is)),
      written_all false f f.bytes (here false f) (first false f),
    )

  -- where no call failed, the counts stay
  pub counts_here : (answer : Bool) → sink.faults_after ≡ sink.faults → source.faults_after ≡ source.faults → HasCount source sink (cond answer Whole NotAStream)
  counts_here true k s = (k, s)
  counts_here false k s = (k, s)

  -- as many bytes were taken as there may be, and there are more
  pub ends_long : (answer : Bool) → SoFar key o source.left now sink.written sink.after taken answer → taken ≡ most_bytes → (p : List ℕ) → Consumes now source.after p → 0 < length p
      → UnsealsUpTo key source sink TooLong
  ends_long answer f full p c some =
      let all : Consumes source.left source.after (f.bytes ++ p) = consumes_more source.left now source.after f.bytes p f.consumed c in
      let first = λ (rest : List ℕ).
      let e : take most_bytes ((f.bytes ++ p) ++ rest) ≡ f.bytes =
      ap (take most_bytes) (append_assoc f.bytes p rest) ∙ whole_bytes f.bytes (p ++ rest) (omega (arith, f.long, full)) (λ less. absurd (omega (arith, less, f.long, full))) in
      e in (
        known source.left source.after (f.bytes ++ p) (λ b. (most_bytes < length b) × MayBeStream (state_of key b)) all
            (λ rest _. (
              omega (arith, length-append (f.bytes ++ p) rest, length-append f.bytes p, f.long, full, some),
              subst (λ (l : List ℕ). MayBeStream (unspell key l).state) (sym (first rest)) (may_be (unspell key f.bytes).state f.due),
            )),
        written_all answer f (f.bytes ++ p) all (λ rest _. first rest),
      )

-- a piece was taken
module _ (key : List ℕ) (o n : Opening) (left now next written mid after : Option (List ℕ)) (taken : ℕ) (answer : Bool) (f : SoFar key o left now written mid taken answer)
    (piece : List ℕ) (c : Consumes now next piece) (most : taken + length piece ≤ most_bytes) (faults faults_after : ℕ) where
  abbrev step : Output
  step = record { written = mid; after = after; faults = faults; faults_after = faults_after }

  all : Consumes left next (f.bytes ++ piece)
  all = consumes_more left now next f.bytes piece f.consumed c

  at_key : (b : List ℕ) → unspell key b ≡ unspell o.key b
  at_key b = ap (λ (k : List ℕ). unspell k b) (sym f.key_is)

  few : length (f.bytes ++ piece) ≤ most_bytes
  few = omega (arith, length-append f.bytes piece, f.long, most)

  released_is : (text : List ℕ) → Releases o.key f.bytes piece text → concat (unspell key (f.bytes ++ piece)).messages ≡ concat (unspell key f.bytes).messages ++ text
  released_is text r =
      ap (λ (u : Unspelled). concat u.messages) (at_key (f.bytes ++ piece))
      ∙ r
      ∙ ap (λ (u : Unspelled). concat u.messages ++ text) (sym (at_key f.bytes))

  -- it was opened
  pub piece_opened : (answer : Bool) → Opens o n f.bytes piece step (Ok answer) → (m : ℕ) → m ≡ taken + length piece → SoFar key n left next written after m answer
  piece_opened answer d m is = record {
    key_is = d.0.key ∙ f.key_is;
    going = d.0.going;
    bytes = f.bytes ++ piece;
    took = d.0.took;
    long = omega (arith, length-append f.bytes piece, f.long, is);
    consumed = all;
    appended = subst (Appends written after) (sym (released_is d.1.0 d.1.1)) (appends_more written mid after (concat (unspell key f.bytes).messages) d.1.0 f.appended d.1.2);
    ended = d.0.ended ∙ ap (λ (u : Unspelled). is_ended u.state) (sym (at_key (f.bytes ++ piece)));
    due = ap (λ (u : Unspelled). refusal_of u.state) (at_key (f.bytes ++ piece)) ∙ d.0.due;
  }

  module _ (source_faults source_after sink_faults : ℕ) where
    abbrev source : Intake
    source = record { left = left; after = next; faults = source_faults; faults_after = source_after }

    abbrev sink : Output
    sink = record { written = written; after = after; faults = sink_faults; faults_after = faults_after }

    -- it was not opened, or not written
    pub piece_stops : (end : StreamEnd) → Opens o n f.bytes piece step (Err end) → UnsealsUpTo key source sink end
    piece_stops Whole d = absurd d
    piece_stops ReadFault d = absurd d
    piece_stops OutOfMemory d = absurd d
    piece_stops TooLong d = absurd d
    piece_stops WriteFault d = known left next (f.bytes ++ piece) (λ b. AppendsPrefix written after (released key b)) all
        (λ rest _.
        let begins : Begins (released key ((f.bytes ++ piece) ++ rest)) (concat (unspell key f.bytes).messages ++ d.0.0) =
        subst (Begins (released key ((f.bytes ++ piece) ++ rest))) (released_is d.0.0 d.0.1) (releases_begin key (f.bytes ++ piece) rest few) in
        front_more written mid after (released key ((f.bytes ++ piece) ++ rest)) (concat (unspell key f.bytes).messages) d.0.0 begins f.appended d.0.2)
    piece_stops NotAStream d =
        let refused : refusal_of (unspell key (f.bytes ++ piece)).state ≡ Some d.0.0 = ap (λ (u : Unspelled). refusal_of u.state) (at_key (f.bytes ++ piece)) ∙ d.0.1 in
        let same = λ (rest : List ℕ).
        let e : unspell key (take most_bytes ((f.bytes ++ piece) ++ rest)) ≡ unspell key (f.bytes ++ piece) =
        ap (unspell key) (first_bytes (f.bytes ++ piece) rest few)
        ∙ (unspell_grows key (f.bytes ++ piece) (take (most_bytes - length (f.bytes ++ piece)) rest)).refused d.0.0 refused in
        e in (
          known left next (f.bytes ++ piece) (λ b. IsNoStream (state_of key b) b) all
              (λ rest _. subst (λ (u : Unspelled). IsNoStream u.state ((f.bytes ++ piece) ++ rest)) (sym (same rest))
              (is_no_stream (unspell key (f.bytes ++ piece)).state d.0.0 ((f.bytes ++ piece) ++ rest) refused)),
          known left next (f.bytes ++ piece) (λ b. Appends written after (released key b)) all
              (λ rest _. subst (Appends written after) (sym (ap (λ (u : Unspelled). concat u.messages) (same rest) ∙ released_is d.1.0 d.1.1))
              (appends_more written mid after (concat (unspell key f.bytes).messages) d.1.0 f.appended d.1.2)),
        )

    -- the counts then
    pub piece_counts : (end : StreamEnd) → Opens o n f.bytes piece step (Err end) → source_after ≡ source_faults → faults ≡ sink_faults
        → HasCount source sink end × (sink_faults ≤ faults_after)
    piece_counts Whole d s k = absurd d
    piece_counts ReadFault d s k = absurd d
    piece_counts OutOfMemory d s k = absurd d
    piece_counts TooLong d s k = absurd d
    piece_counts WriteFault d s k = ((subst (λ (m : ℕ). Rose m faults_after) k d.2, s), omega (arith, d.1, k))
    piece_counts NotAStream d s k = ((d.2 ∙ k, s), omega (arith, d.2, k))
