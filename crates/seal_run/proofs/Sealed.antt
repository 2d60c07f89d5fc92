-- How far a source is sealed.
use Rattle.std.proofs.Common.{◌≡◌, ℕ, zero, suc, ◌+◌, ◌*◌, ◌^◌, ◌<◌, ◌≤◌, Bool, true, false, ltb, inl, inr, List, [], ◌∷◌, ◌++◌, length, take, drop, Option, Some, None, refl, sym, ap, ◌∙◌, subst, arith, append_assoc, append-nil, length-append, take-append-drop, Result}
use Rattle.std.proofs.lemmas.Bool.{cases_lt, lt-ltb, le-ltb}
use Rattle.std.specs.Prelude.{IfSome, OnOk}
use Rattle.std.specs.Io.KnownBytes.{Appends, Consumes, IsAtEnd}
use Rattle.program_io.specs.Streams.{Output, AppendsPrefix}
use Rattle.program_io.specs.declared.streams.Failed.{Failed}
use Rattle.program_io.proofs.StreamLemmas.{appends_more, consumes_more, consumes_none}
use Rattle.aegis_stream.specs.Spell.{spell, spelled}
use Rattle.aegis_stream.specs.Sealing.{Sealing, Spells}
use Rattle.aegis_stream.specs.Laws.{IsStream}
use Rattle.seal_run.specs.Pieces.{pieces}
use Rattle.seal_run.specs.Ends.{most_bytes}
use Rattle.seal_run.specs.Sealing.{stream_of}
use Rattle.seal_run.specs.Steps.{Puts}
use Rattle.seal_run.proofs.Known.{known, Begins, begins_all, begins_front, front_written, front_more}
use Rattle.seal_run.proofs.Cuts.{pieces_few, pieces_more, pieces_some}

-- these bytes were taken, cut into these messages of 65536 bytes, and the stream of them was written
pub record SoFar (key prefix : List ℕ) (s : Sealing) (left now written after : Option (List ℕ)) (sealed : ℕ) : Type 0 where
  pub key_is : s.key ≡ key
  pub prefix_is : s.prefix ≡ prefix
  pub going : s.ended ≡ false
  pub messages : List (List ℕ)
  pub bytes : List ℕ
  pub text : List ℕ
  pub spells : Spells s messages text
  pub cuts : (rest : List ℕ) → pieces (bytes ++ rest) ≡ messages ++ pieces rest
  pub long : length bytes ≡ sealed
  pub count : 65536 * length messages ≡ sealed
  pub consumed : Consumes left now bytes
  pub appended : Appends written after text

-- nothing but the prefix
pub so_far_none : (key prefix : List ℕ) (s : Sealing) (left written after : Option (List ℕ)) → s ≡ record { key = key; prefix = prefix; frames = 0; ended = false }
    → Spells s [] prefix → Appends written after prefix → SoFar key prefix s left left written after 0
so_far_none key prefix s left written after is spells a = record {
  key_is = ap (λ (x : Sealing). x.key) is;
  prefix_is = ap (λ (x : Sealing). x.prefix) is;
  going = ap (λ (x : Sealing). x.ended) is;
  messages = [];
  bytes = [];
  text = prefix;
  spells = spells;
  cuts = λ _. refl;
  long = refl;
  count = refl;
  consumed = consumes_none left;
  appended = a;
}

-- how the next message is cut: the rest, or a whole piece
abbrev pub IsCut : Option (List ℕ) → List ℕ → Bool → Type 0
IsCut next p true = (length p < 65536) × IsAtEnd next
IsCut next p false = length p ≡ 65536

pub is_cut : (next : Option (List ℕ)) (p : List ℕ) (count : ℕ) → length p ≡ count → count ≤ 65536 → (count < 65536 → IsAtEnd next) → IsCut next p (ltb count 65536)
is_cut next p count len most end = elim (cases_lt count 65536) [
  | inl less ↦ subst (IsCut next p) (sym (lt-ltb count 65536 less)) (omega arith, end less)
  | inr more ↦ subst (IsCut next p) (sym (le-ltb count 65536 more)) (omega arith)
]

module _ (key prefix : List ℕ) (laws : IsStream) where
  -- a stream that goes on with these messages
  goes : (messages others : List (List ℕ)) → 0 < length others → Begins (spell key prefix (messages ++ others)) (spelled key prefix false messages)
  goes messages others some =
      let w : List ℕ = spelled key prefix false messages in
      let all : List ℕ = spell key prefix (messages ++ others) in
      record {
        rest = drop (length w) all;
        is = sym (take-append-drop (length w) all) ∙ ap (λ (l : List ℕ). l ++ drop (length w) all) (laws.goes_on key prefix messages others some);
      }

  spelled_by : (s : Sealing) (messages : List (List ℕ)) (text : List ℕ) (ends : Bool) → s.key ≡ key → s.prefix ≡ prefix → s.ended ≡ ends → Spells s messages text
      → text ≡ spelled key prefix ends messages
  spelled_by s messages text ends k p e h =
      h.stream
      ∙ ap (λ (l : List ℕ). spelled l s.prefix s.ended messages) k
      ∙ ap (λ (l : List ℕ). spelled key l s.ended messages) p
      ∙ ap (λ (b : Bool). spelled key prefix b messages) e

  module _ (s : Sealing) (left now written after : Option (List ℕ)) (sealed : ℕ) (f : SoFar key prefix s left now written after sealed) where
    begins : (rest : List ℕ) → Begins (stream_of key prefix (f.bytes ++ rest)) f.text
    begins rest =
        let text : f.text ≡ spelled key prefix false f.messages = spelled_by s f.messages f.text false f.key_is f.prefix_is f.going f.spells in
        subst (λ (ms : List (List ℕ)). Begins (spell key prefix ms) f.text) (sym (f.cuts rest))
        (subst (Begins (spell key prefix (f.messages ++ pieces rest))) (sym text) (goes f.messages (pieces rest) (pieces_some rest)))

    -- what was written is a front of the source's stream
    pub so_far_front : IfSome left (λ b. AppendsPrefix written after (stream_of key prefix b))
    so_far_front = known left now f.bytes (λ b. AppendsPrefix written after (stream_of key prefix b)) f.consumed
        (λ rest _. front_written written after (stream_of key prefix (f.bytes ++ rest)) f.text (begins rest) f.appended)

    -- there are more bytes than a source may have
    pub too_many : (next : Option (List ℕ)) (p : List ℕ) → Consumes now next p → most_bytes < sealed + length p → IfSome left (λ b. most_bytes < length b)
    too_many next p c more = known left next (f.bytes ++ p) (λ b. most_bytes < length b) (consumes_more left now next f.bytes p f.consumed c)
        (λ rest _. omega (arith, length-append (f.bytes ++ p) rest, length-append f.bytes p, f.long, more))

    cut_begins : (next : Option (List ℕ)) (p : List ℕ) (last : Bool) → IsCut next p last → (rest text : List ℕ) → next ≡ Some rest
        → text ≡ spelled key prefix last (f.messages ++ p ∷ []) → Begins (stream_of key prefix ((f.bytes ++ p) ++ rest)) text
    cut_begins next p false cut rest text is t =
        let ms : List (List ℕ) = f.messages ++ p ∷ [] in
        let e : pieces ((f.bytes ++ p) ++ rest) ≡ ms ++ pieces rest =
        ap pieces (append_assoc f.bytes p rest)
        ∙ f.cuts (p ++ rest)
        ∙ ap (λ (l : List (List ℕ)). f.messages ++ l) (pieces_more p rest cut)
        ∙ sym (append_assoc f.messages (p ∷ []) (pieces rest)) in
        subst (λ (l : List (List ℕ)). Begins (spell key prefix l) text) (sym e)
        (subst (Begins (spell key prefix (ms ++ pieces rest))) (sym t) (goes ms (pieces rest) (pieces_some rest)))
    cut_begins next p true cut rest text is t =
        subst (λ (l : List ℕ). Begins l text) (t ∙ sym (cut_last next p cut rest is)) (begins_all text)
      where
        cut_last : (next : Option (List ℕ)) (p : List ℕ) → IsCut next p true → (rest : List ℕ) → next ≡ Some rest
            → stream_of key prefix ((f.bytes ++ p) ++ rest) ≡ spelled key prefix true (f.messages ++ p ∷ [])
        cut_last next p cut rest is =
            let none : rest ≡ [] = subst IsAtEnd is cut.1 in
            ap (λ (l : List ℕ). stream_of key prefix ((f.bytes ++ p) ++ l)) none
            ∙ ap (stream_of key prefix) (append-nil (f.bytes ++ p))
            ∙ ap (spell key prefix) (f.cuts p ∙ ap (λ (l : List (List ℕ)). f.messages ++ l) (pieces_few p cut.0))

  -- the next message was taken and sealed
  module _ (s : Sealing) (left now written : Option (List ℕ)) (sealed : ℕ) (sink : Output) (f : SoFar key prefix s left now written sink.written sealed)
      (t : Sealing) (next : Option (List ℕ)) (p : List ℕ) (last : Bool) (result : Result (Unit {0}) Failed) (put : Puts s t p last sink result) (c : Consumes now next p) where
    texts : f.text ++ put.text ≡ spelled key prefix last (f.messages ++ p ∷ [])
    texts = spelled_by t (f.messages ++ p ∷ []) (f.text ++ put.text) last (put.key ∙ f.key_is) (put.prefix ∙ f.prefix_is) put.ended (put.stream f.messages f.text f.spells)

    -- a front of its frame was written
    pub put_front : IsCut next p last → IfSome left (λ b. AppendsPrefix written sink.after (stream_of key prefix b))
    put_front cut = known left next (f.bytes ++ p) (λ b. AppendsPrefix written sink.after (stream_of key prefix b)) (consumes_more left now next f.bytes p f.consumed c)
        (λ rest is. front_more written sink.written sink.after (stream_of key prefix ((f.bytes ++ p) ++ rest)) f.text put.text
        (cut_begins s left now written sink.written sealed f next p last cut rest (f.text ++ put.text) is texts) f.appended put.front)

  module _ (s : Sealing) (left now written : Option (List ℕ)) (sealed : ℕ) (sink : Output) (f : SoFar key prefix s left now written sink.written sealed)
      (t : Sealing) (next : Option (List ℕ)) (p : List ℕ) (result : Result (Unit {0}) Failed) (c : Consumes now next p) where
    -- it was the last one
    pub put_last : (put : Puts s t p true sink result) → Appends sink.written sink.after put.text → length p < 65536 → IsAtEnd next → sealed + length p ≤ most_bytes
        → IfSome left (λ b. (length b ≤ most_bytes) × Appends written sink.after (stream_of key prefix b))
    put_last put a few end most = known left next (f.bytes ++ p) (λ b. (length b ≤ most_bytes) × Appends written sink.after (stream_of key prefix b))
        (consumes_more left now next f.bytes p f.consumed c)
        (λ rest is. (
          all_there rest (subst IsAtEnd is end),
          subst (Appends written sink.after) (texts s left now written sealed sink f t next p true result put c ∙ sym (whole rest (subst IsAtEnd is end)))
              (appends_more written sink.written sink.after f.text put.text f.appended a),
        ))
      where
        whole : (rest : List ℕ) → rest ≡ [] → stream_of key prefix ((f.bytes ++ p) ++ rest) ≡ spelled key prefix true (f.messages ++ p ∷ [])
        whole rest none =
            ap (λ (l : List ℕ). stream_of key prefix ((f.bytes ++ p) ++ l)) none
            ∙ ap (stream_of key prefix) (append-nil (f.bytes ++ p))
            ∙ ap (spell key prefix) (f.cuts p ∙ ap (λ (l : List (List ℕ)). f.messages ++ l) (pieces_few p few))

        all_there : (rest : List ℕ) → rest ≡ [] → length ((f.bytes ++ p) ++ rest) ≤ most_bytes
        all_there rest none = omega (arith, length-append (f.bytes ++ p) rest, length-append f.bytes p, f.long, most, ap length none)

    -- it was a whole piece
    pub put_more : (put : Puts s t p false sink result) → Appends sink.written sink.after put.text → length p ≡ 65536 → (n : ℕ) → n ≡ sealed + length p
        → SoFar key prefix t left next written sink.after n
    put_more put a whole n is = record {
      key_is = put.key ∙ f.key_is;
      prefix_is = put.prefix ∙ f.prefix_is;
      going = put.ended;
      messages = f.messages ++ p ∷ [];
      bytes = f.bytes ++ p;
      text = f.text ++ put.text;
      spells = put.stream f.messages f.text f.spells;
      cuts = λ rest.
          ap pieces (append_assoc f.bytes p rest)
          ∙ f.cuts (p ++ rest)
          ∙ ap (λ (l : List (List ℕ)). f.messages ++ l) (pieces_more p rest whole)
          ∙ sym (append_assoc f.messages (p ∷ []) (pieces rest));
      long = omega (arith, length-append f.bytes p, f.long, is);
      count = omega (arith, length-append f.messages (p ∷ []), f.count, is, whole);
      consumed = consumes_more left now next f.bytes p f.consumed c;
      appended = appends_more written sink.written sink.after f.text put.text f.appended a;
    }
