-- What a call of `feed` does to an opener that has taken some bytes.
use Rattle.std.proofs.Common.{◌≡◌, ◌⊎◌, ℕ, ◌+◌, ◌<◌, ◌≤◌, false, cond, ltb, List, [], ◌∷◌, ◌++◌, length, take, drop, Some, None, Ok, Err, refl, sym, ap, ◌∙◌, subst, arith, inl, inr, length-append}
use Rattle.std.specs.Prelude.{sum_by, Result}
use Rattle.std.specs.List.{concat}
use Rattle.std.proofs.Math.Seq.{take-append-add}
use Rattle.std.proofs.lemmas.List.{append_assoc, append-nil, take_all, take-append-drop, length-take-le, nil_from_length}
use Rattle.std.proofs.lemmas.List.Sums.{sum_by-append}
use Rattle.std.proofs.lemmas.Bool.{cond-true, cond-false, cases_lt, lt-ltb, le-ltb}
use Rattle.aegis_stream.specs.Unspell.{State, Unspelled, no_more, past_end, unspell_from, unspell}
use Rattle.aegis_stream.specs.Unspell.State.{More}
use Rattle.aegis_stream.specs.Opening.{Opening, Took, IsFed, IsRefused, Feeds, after, left_in, is_ended, refusal_of}
use Rattle.aegis_stream.specs.Progress.{Progress, unspell_in, IsKept, IsOpened, IsStopped, Moves}
use Rattle.aegis_stream.specs.declared.error.StreamError.{StreamError}
use Rattle.aegis_stream.specs.declared.fed.Fed.{Fed}
use Rattle.aegis_stream.proofs.Streams.{unspell_prefix, unspell_short}
use Rattle.aegis_stream.proofs.Progresses.{in_stops, in_kept, in_opened, in_nothing, push, after_frame, is_ended-after_frame}

-- bytes of the messages' frames
abbrev framed : List (List ℕ) → ℕ
framed ms = sum_by (λ (m : List ℕ). 21 + length m) ms

concat-append : (xs ys : List (List ℕ)) → concat (xs ++ ys) ≡ concat xs ++ concat ys
concat-append [] ys = refl
concat-append (x ∷ xs) ys = ap (λ (l : List ℕ). x ++ l) (concat-append xs ys) ∙ sym (append_assoc x (concat xs) (concat ys))

-- before a refusal
module _ (old : Opening) (taken : List ℕ) (t : Took old taken) (go : old.refused ≡ None) where
  abbrev so_far : List (List ℕ)
  so_far = (unspell old.key taken).messages

  abbrev progress : Progress
  progress = record { begun = old.begun; frames = old.frames; ended = old.ended }

  -- the opener that keeps a prefix and this progress
  abbrev goes : List ℕ → Progress → Opening
  goes prefix q = record { key = old.key; prefix = prefix; begun = q.begun; frames = q.frames; ended = q.ended; refused = None }

  -- these bytes bring messages, and further ones what the new opener says
  record Brings (prefix : List ℕ) (q : Progress) (g : List ℕ) (ms : List (List ℕ)) (s : State) : Type 0 where
    further : (x : List ℕ) → unspell old.key (taken ++ (g ++ x)) ≡ after so_far (after ms (left_in (goes prefix q) x))
    here : left_in (goes prefix q) [] ≡ no_more s
    frames : q.frames ≡ old.frames + length ms
    ended : q.ended ≡ is_ended s
    count : length g + (length old.prefix + length old.begun) ≡ length prefix + (framed ms + length q.begun)
    start : length prefix < 8 → (q.begun ≡ []) × (q.frames ≡ 0) × (q.ended ≡ false)

  result_is : (prefix : List ℕ) (q : Progress) (g : List ℕ) (ms : List (List ℕ)) (s : State) → Brings prefix q g ms s
      → unspell old.key (taken ++ g) ≡ record { messages = so_far ++ ms; state = s }
  result_is prefix q g ms s b =
      ap (λ (l : List ℕ). unspell old.key (taken ++ l)) (sym (append-nil g))
      ∙ b.further []
      ∙ ap (λ (u : Unspelled). after so_far (after ms u)) b.here
      ∙ ap (λ (l : List (List ℕ)). let u : Unspelled = record { messages = so_far ++ l; state = s } in u) (append-nil ms)

  took_more : (prefix : List ℕ) (q : Progress) (g : List ℕ) (ms : List (List ℕ)) (s : State) → Brings prefix q g ms s → Took (goes prefix q) (taken ++ g)
  took_more prefix q g ms s b =
      let u : Unspelled = unspell old.key (taken ++ g) in
      let is : u ≡ record { messages = so_far ++ ms; state = s } = result_is prefix q g ms s b in
      let all : u.messages ≡ so_far ++ ms = ap (λ (v : Unspelled). v.messages) is in
      record {
        frames = b.frames ∙ ap (λ (n : ℕ). n + length ms) t.frames ∙ sym (length-append so_far ms) ∙ ap length (sym all);
        ended = b.ended ∙ ap (λ (v : Unspelled). is_ended v.state) (sym is);
        count = omega (arith, length-append taken g, t.count, b.count, ap framed all, sum_by-append (λ (m : List ℕ). 21 + length m) so_far ms);
        start = λ _. b.start;
        further = λ _ x.
            let l : Unspelled = left_in (goes prefix q) x in
            ap (unspell old.key) (append_assoc taken g x)
            ∙ b.further x
            ∙ ap (λ (k : List (List ℕ)). let w : Unspelled = record { messages = k; state = l.state } in w) (sym (append_assoc so_far ms l.messages))
            ∙ ap (λ (k : List (List ℕ)). after k l) (sym all);
      }

  -- bytes that don't complete the prefix
  begins : (input : List ℕ) → length old.prefix + length input < 8 → Brings (old.prefix ++ input) progress input [] More
  unfolding left_in
  begins input short =
      let first = t.start go (omega arith) in
      let p : List ℕ = old.prefix ++ input in
      let less : length p < 8 = omega (arith, length-append old.prefix input) in
      let left : (o : Opening) (x : List ℕ) → length o.prefix < 8 → left_in o x ≡ unspell o.key (o.prefix ++ x) =
      λ o x l. cond-true (ltb (length o.prefix) 8) (unspell o.key (o.prefix ++ x)) (cond o.ended (no_more (past_end x)) (unspell_from o.key o.prefix o.frames (o.begun ++ x))) (lt-ltb (length o.prefix) 8 l) in
      record {
        further = λ x.
            t.further go (input ++ x)
            ∙ ap (after so_far) (left old (input ++ x) (omega arith) ∙ ap (unspell old.key) (sym (append_assoc old.prefix input x)) ∙ sym (left (goes p progress) x less));
        here = left (goes p progress) [] less ∙ ap (unspell old.key) (append-nil p) ∙ unspell_short old.key p p less;
        frames = omega arith;
        ended = first.2;
        count = omega (arith, length-append old.prefix input);
        start = λ _. first;
      }

  -- bytes that complete it, or none where it is there
  module _ (front : List ℕ) (eight : length (old.prefix ++ front) ≡ 8) where
    abbrev whole_prefix : List ℕ
    whole_prefix = old.prefix ++ front

    abbrev rest_gives : Progress → List ℕ → Unspelled
    rest_gives q x = unspell_in old.key whole_prefix q x

    left_goes : (q : Progress) (x : List ℕ) → left_in (goes whole_prefix q) x ≡ rest_gives q x
    unfolding left_in unspell_in
    left_goes q x =
        cond-false (ltb (length whole_prefix) 8) (unspell old.key (whole_prefix ++ x)) (cond q.ended (no_more (past_end x)) (unspell_from old.key whole_prefix q.frames (q.begun ++ x)))
        (le-ltb (length whole_prefix) 8 (omega (arith, eight)))

    left_old : (x : List ℕ) → left_in old (front ++ x) ≡ rest_gives progress x
    unfolding left_in unspell_in
    left_old x = elim (cases_lt (length old.prefix) 8) [
      | inl less ↦
          let first = t.start go less in
          cond-true (ltb (length old.prefix) 8) (unspell old.key (old.prefix ++ (front ++ x))) (cond old.ended (no_more (past_end (front ++ x))) (unspell_from old.key old.prefix old.frames (old.begun ++ (front ++ x))))
          (lt-ltb (length old.prefix) 8 less)
          ∙ ap (unspell old.key) (sym (append_assoc old.prefix front x))
          ∙ unspell_prefix old.key whole_prefix x eight
          ∙ ap (λ (n : ℕ). unspell_from old.key whole_prefix n x) (sym first.1)
          ∙ ap (λ (l : List ℕ). unspell_from old.key whole_prefix old.frames (l ++ x)) (sym first.0)
          ∙ sym (cond-false old.ended (no_more (past_end x)) (unspell_from old.key whole_prefix old.frames (old.begun ++ x)) first.2)
      | inr there ↦
          let none : front ≡ [] = nil_from_length front (omega (arith, length-append old.prefix front, eight)) in
          let same : old.prefix ≡ whole_prefix = sym (append-nil old.prefix) ∙ ap (λ (l : List ℕ). old.prefix ++ l) (sym none) in
          ap (λ (l : List ℕ). left_in old (l ++ x)) none
          ∙ cond-false (ltb (length old.prefix) 8) (unspell old.key (old.prefix ++ x)) (cond old.ended (no_more (past_end x)) (unspell_from old.key old.prefix old.frames (old.begun ++ x)))
          (le-ltb (length old.prefix) 8 there)
          ∙ ap (λ (l : List ℕ). cond old.ended (no_more (past_end x)) (unspell_from old.key l old.frames (old.begun ++ x))) same
    ]

    -- what further bytes give
    after_front : (x : List ℕ) → unspell old.key (taken ++ (front ++ x)) ≡ after so_far (rest_gives progress x)
    after_front x = t.further go (front ++ x) ∙ ap (after so_far) (left_old x)

    kept_brings : (rest out_old out_new : List ℕ) (q : Progress) (fed : Fed) → (k : IsKept old.key whole_prefix progress q rest out_old out_new fed)
        → Brings whole_prefix q (front ++ rest) [] k.state
    kept_brings rest out_old out_new q fed k = record {
      further = λ x.
          ap (λ (l : List ℕ). unspell old.key (taken ++ l)) (append_assoc front rest x)
          ∙ after_front (rest ++ x)
          ∙ ap (after so_far) (in_kept old.key whole_prefix progress rest x k.state k.brings k.due
          ∙ ap (λ (r : Progress). rest_gives r x) (sym k.now) ∙ sym (left_goes q x));
      here =
          left_goes q [] ∙ ap (λ (r : Progress). rest_gives r []) k.now
          ∙ sym (in_kept old.key whole_prefix progress rest [] k.state k.brings k.due)
          ∙ ap (rest_gives progress) (append-nil rest)
          ∙ in_stops old.key whole_prefix progress rest k.state k.brings;
      frames = ap (λ (r : Progress). r.frames) k.now ∙ omega arith;
      ended = ap (λ (r : Progress). r.ended) k.now ∙ sym k.ended.1 ∙ k.ended.0;
      count = omega (arith, length-append front rest, length-append old.prefix front, ap (λ (r : Progress). length r.begun) k.now, length-append old.begun rest);
      start = λ less. absurd (omega (arith, eight));
    }

    opened_brings : (rest out_old out_new : List ℕ) (q : Progress) (fed : Fed) → (k : IsOpened old.key whole_prefix progress q rest out_old out_new fed)
        → Brings whole_prefix q (front ++ take fed.taken rest) (k.message ∷ []) (after_frame k.last)
    opened_brings rest out_old out_new q fed k = record {
      further = λ x.
          ap (λ (l : List ℕ). unspell old.key (taken ++ l)) (append_assoc front g x)
          ∙ after_front (g ++ x)
          ∙ ap (after so_far) (opens x ∙ ap (push k.message) (ap (λ (r : Progress). rest_gives r x) (sym k.now) ∙ sym (left_goes q x)));
      here = left_goes q [] ∙ ap (λ (r : Progress). rest_gives r []) k.now ∙ in_nothing old.key whole_prefix (old.frames + 1) k.last;
      frames = ap (λ (r : Progress). r.frames) k.now;
      ended = ap (λ (r : Progress). r.ended) k.now ∙ sym (is_ended-after_frame k.last);
      count = omega (arith, length-append front g, length-append old.prefix front, ap (λ (r : Progress). length r.begun) k.now, k.taken, len_g);
      start = λ less. absurd (omega (arith, eight));
    }
      where
        g : List ℕ
        g = take fed.taken rest

        len_g : length g ≡ fed.taken
        len_g = length-take-le fed.taken rest k.within

        opens : (x : List ℕ) → rest_gives progress (g ++ x) ≡ push k.message (rest_gives (record { begun = []; frames = old.frames + 1; ended = k.last }) x)
        opens x = in_opened old.key whole_prefix progress g x k.last k.message k.going k.whole k.opens (omega (arith, length-append old.begun g, len_g, k.taken))

  -- a call that took bytes
  fed_from : (prefix : List ℕ) (q : Progress) (g : List ℕ) (ms : List (List ℕ)) (s : State) → Brings prefix q g ms s
      → (input out_old out_new : List ℕ) (fed : Fed) → take fed.taken input ≡ g → fed.taken ≤ length input → (0 < length input → 0 < fed.taken)
      → concat ms ≡ take fed.written out_new → drop fed.written out_new ≡ drop fed.written out_old → fed.ended ≡ q.ended
      → ((fed.taken ≡ length input) × (q.frames ≡ old.frames)) ⊎ ((q.frames ≡ old.frames + 1) × (q.begun ≡ []))
      → ((unspell old.key (taken ++ input)).messages ≡ so_far → refusal_of (unspell old.key (taken ++ input)).state ≡ None)
      → IsFed old (goes prefix q) taken input out_old out_new fed
  fed_from prefix q g ms s b input out_old out_new fed is within takes written rest ended stops due =
      let u : List ℕ → Unspelled = λ x. unspell old.key (taken ++ x) in
      let result : u g ≡ record { messages = so_far ++ ms; state = s } = result_is prefix q g ms s b in
      let at : u (take fed.taken input) ≡ record { messages = so_far ++ ms; state = s } = ap u is ∙ result in
      record {
        key = refl;
        going = (go, refl);
        within = within;
        takes = takes;
        took = subst (λ (x : List ℕ). Took (goes prefix q) (taken ++ x)) (sym is) (took_more prefix q g ms s b);
        released = ap (λ (v : Unspelled). concat v.messages) at ∙ concat-append so_far ms ∙ ap (λ (l : List ℕ). concat so_far ++ l) written;
        rest = rest;
        ended = ended ∙ b.ended ∙ ap (λ (v : Unspelled). is_ended v.state) (sym at);
        stops = stops;
        due = due;
      }

  pub short_feeds : (input out : List ℕ) → length old.prefix + length input < 8
      → IsFed old (goes (old.prefix ++ input) progress) taken input out out (record { taken = length input; written = 0; ended = false })
  short_feeds input out short =
      let b = begins input short in
      let all : take (length input) input ≡ input = take_all (length input) input (omega arith) in
      fed_from (old.prefix ++ input) progress input [] More b input out out (record { taken = length input; written = 0; ended = false })
      all (omega arith) (λ h. h) refl refl (sym (t.start go (omega arith)).2) (inl (refl, refl))
      (λ _. ap (λ (v : Unspelled). refusal_of v.state) (result_is (old.prefix ++ input) progress input [] More b))

  module _ (front : List ℕ) (eight : length (old.prefix ++ front) ≡ 8) (rest out_old out_new : List ℕ) (q : Progress) where
    abbrev input : List ℕ
    input = front ++ rest

    kept_feeds : (fed : Fed) → IsKept old.key (old.prefix ++ front) progress q rest out_old out_new fed
        → IsFed old (goes (old.prefix ++ front) q) taken input out_old out_new (record fed { taken = length front + fed.taken })
    kept_feeds fed k =
        let b = kept_brings front eight rest out_old out_new q fed k in
        let lens : length input ≡ length front + length rest = length-append front rest in
        let all : take (length front + fed.taken) input ≡ input = take_all (length front + fed.taken) input (omega (arith, k.taken)) in
        fed_from (old.prefix ++ front) q input [] k.state b input out_old out_new (record fed { taken = length front + fed.taken })
        all (omega (arith, k.taken)) (λ h. omega (arith, k.taken)) (ap (λ (n : ℕ). take n out_new) (sym k.written)) (ap (drop fed.written) k.out)
        (k.ended.1 ∙ ap (λ (r : Progress). r.ended) (sym k.now)) (inl (omega (arith, k.taken), ap (λ (r : Progress). r.frames) k.now))
        (λ _. ap (λ (v : Unspelled). refusal_of v.state) (result_is (old.prefix ++ front) q input [] k.state b) ∙ k.due)

    opened_feeds : (fed : Fed) → IsOpened old.key (old.prefix ++ front) progress q rest out_old out_new fed
        → IsFed old (goes (old.prefix ++ front) q) taken input out_old out_new (record fed { taken = length front + fed.taken })
    opened_feeds fed k =
        let b = opened_brings front eight rest out_old out_new q fed k in
        let lens : length input ≡ length front + length rest = length-append front rest in
        let g : List ℕ = front ++ take fed.taken rest in
        let is : take (length front + fed.taken) input ≡ g = take-append-add front rest fed.taken in
        fed_from (old.prefix ++ front) q g (k.message ∷ []) (after_frame k.last) b input out_old out_new (record fed { taken = length front + fed.taken })
        is (omega (arith, k.within)) (λ h. omega (arith, k.some)) (append-nil k.message ∙ sym k.out) k.rest
        (k.ended ∙ ap (λ (r : Progress). r.ended) (sym k.now))
        (inr (ap (λ (r : Progress). r.frames) k.now, ap (λ (r : Progress). r.begun) k.now))
        (λ same. absurd (brings_one b same))
      where
        brings_one : Brings (old.prefix ++ front) q (front ++ take fed.taken rest) (k.message ∷ []) (after_frame k.last) → (unspell old.key (taken ++ input)).messages ≡ so_far → ⊥
        brings_one b same =
            let cut : (front ++ take fed.taken rest) ++ drop fed.taken rest ≡ input =
            append_assoc front (take fed.taken rest) (drop fed.taken rest) ∙ ap (λ (l : List ℕ). front ++ l) (take-append-drop fed.taken rest) in
            let left : Unspelled = left_in (goes (old.prefix ++ front) q) (drop fed.taken rest) in
            let u : unspell old.key (taken ++ input) ≡ after so_far (after (k.message ∷ []) left) =
            ap (λ (l : List ℕ). unspell old.key (taken ++ l)) (sym cut) ∙ b.further (drop fed.taken rest) in
            let lens : length so_far ≡ length (so_far ++ (k.message ∷ left.messages)) = ap length (sym same) ∙ ap (λ (v : Unspelled). length v.messages) u in
            omega (arith, lens, length-append so_far (k.message ∷ left.messages))

    -- the opener under a refusal
    abbrev stopped : StreamError → Opening
    stopped e = record { key = old.key; prefix = old.prefix; begun = q.begun; frames = q.frames; ended = q.ended; refused = Some e }

    stopped_feeds : (e : StreamError) → IsStopped old.key (old.prefix ++ front) progress q rest out_old out_new e → IsRefused old (stopped e) taken input out_old out_new e
    stopped_feeds e k =
        let u : unspell old.key (taken ++ input) ≡ after so_far (no_more k.state) =
        after_front front eight rest ∙ ap (after so_far) (in_stops old.key (old.prefix ++ front) progress rest k.state k.brings) in
        record {
          key = refl;
          stands = refl;
          took = record {
            frames = k.frames ∙ t.frames;
            ended = k.ended ∙ t.ended;
            count = omega (arith, t.count, k.count);
            start = λ h. absurd (some_none h);
            further = λ h. absurd (some_none h);
          };
          out = k.out;
          due = λ _. (ap (λ (v : Unspelled). v.messages) u ∙ append-nil so_far, ap (λ (v : Unspelled). refusal_of v.state) u ∙ k.due);
        }
      where
        some_none : Some e ≡ None → ⊥
        some_none h = cc

    -- the opener after a call's way through the rest of the input, once the prefix is there
    abbrev passed : Result Fed StreamError → Opening
    passed (Ok fed) = goes (old.prefix ++ front) q
    passed (Err e) = stopped e

    abbrev answer : Result Fed StreamError → Result Fed StreamError
    answer (Ok fed) = Ok (record fed { taken = length front + fed.taken })
    answer (Err e) = Err e

    pub moves_feed : (r : Result Fed StreamError) → Moves old.key (old.prefix ++ front) progress q rest out_old out_new r
        → Feeds old (passed r) taken input out_old out_new (answer r)
    moves_feed (Ok fed) (inl k) = kept_feeds fed k
    moves_feed (Ok fed) (inr k) = opened_feeds fed k
    moves_feed (Err e) k = stopped_feeds e k

-- the same, as the code has it: the front of the input completes the prefix
module _ (old : Opening) (taken : List ℕ) (t : Took old taken) (go : old.refused ≡ None) (front rest input : List ℕ) (cut : front ++ rest ≡ input) (eight : length (old.prefix ++ front) ≡ 8)
    (out_old out_new : List ℕ) (q : Progress) where
  abbrev p : Progress
  p = record { begun = old.begun; frames = old.frames; ended = old.ended }

  pub fed_is : (fed : Fed) (m : ℕ) (new : Opening) → m ≡ length front
      → new ≡ record { key = old.key; prefix = old.prefix ++ front; begun = q.begun; frames = q.frames; ended = q.ended; refused = None }
      → Moves old.key (old.prefix ++ front) p q rest out_old out_new (Ok fed)
      → IsFed old new taken input out_old out_new (record { taken = m + fed.taken; written = fed.written; ended = fed.ended })
  fed_is fed m new len is moves =
      subst (λ (x : List ℕ). IsFed old new taken x out_old out_new (record { taken = m + fed.taken; written = fed.written; ended = fed.ended })) cut
      (subst (λ (n : ℕ). IsFed old new taken (front ++ rest) out_old out_new (record { taken = n + fed.taken; written = fed.written; ended = fed.ended })) (sym len)
      (subst (λ (o : Opening). IsFed old o taken (front ++ rest) out_old out_new (record { taken = length front + fed.taken; written = fed.written; ended = fed.ended })) (sym is)
      (moves_feed old taken t go front eight rest out_old out_new q (Ok fed) moves)))

  pub refused_is : (e : StreamError) → Moves old.key (old.prefix ++ front) p q rest out_old out_new (Err e)
      → IsRefused old (record { key = old.key; prefix = old.prefix; begun = q.begun; frames = q.frames; ended = q.ended; refused = Some e }) taken input out_old out_new e
  refused_is e moves =
      subst (λ (x : List ℕ). IsRefused old (record { key = old.key; prefix = old.prefix; begun = q.begun; frames = q.frames; ended = q.ended; refused = Some e }) taken x out_old out_new e) cut
      (moves_feed old taken t go front eight rest out_old out_new q (Err e) moves)

-- a refusal stands
pub refused_feeds : (old : Opening) (taken : List ℕ) → Took old taken → (input out : List ℕ) (e : StreamError) → old.refused ≡ Some e → IsRefused old old taken input out out e
refused_feeds old taken t input out e stands = record {
  key = refl;
  stands = stands;
  took = t;
  out = refl;
  due = λ none. absurd (some_none (sym stands ∙ none));
}
  where
    some_none : Some e ≡ None → ⊥
    some_none h = cc

-- nothing is taken of a new opener
pub took_nothing : (key : List ℕ) → Took (record { key = key; prefix = []; begun = []; frames = 0; ended = false; refused = None }) []
unfolding left_in
took_nothing key =
    let u : unspell key [] ≡ no_more More = unspell_short key [] [] (omega arith) in
    record {
      frames = ap (λ (v : Unspelled). length v.messages) (sym u);
      ended = ap (λ (v : Unspelled). is_ended v.state) (sym u);
      count = omega (arith, ap (λ (v : Unspelled). framed v.messages) u);
      start = λ _ _. (refl, refl, refl);
      further = λ _ x. ap (λ (v : Unspelled). after v.messages (unspell key x)) (sym u);
    }
