-- Bytes begin with the spelling of the messages that they give.
use Rattle.std.proofs.Common.{◌≡◌, ℕ, zero, suc, ◌+◌, ◌≤◌, Bool, true, false, eqb, List, [], ◌∷◌, ◌++◌, length, take, drop, get_or, Option, Some, None, refl, sym, ap, ◌∙◌, arith, inl, inr, length-take, length-drop}
use Rattle.std.proofs.lemmas.List.{append_assoc, append-nil, take_at, take-append-drop, length-take-le, drop-drop, drop_more, get_or-take, get_or-drop, get_or_past}
use Rattle.std.proofs.lemmas.Bool.{cases_lt, cases_Bool, both_ways}
use Rattle.std.proofs.lemmas.Nat.{le_bytes_4}
use Rattle.std.specs.Int.{w32, to_le_bytes}
use Rattle.aegis_core.specs.Sealing.{seal, unsealed}
use Rattle.aegis_core.specs.declared.variant.Variant.TheVariants.{Aegis128L}
use Rattle.aegis_stream.specs.Grammar.{mark_of, frame_head, frame_nonce, frame}
use Rattle.aegis_stream.specs.Spell.{is_last, frames_from, spelled}
use Rattle.aegis_stream.specs.Unspell.{State, Next, Unspelled, is_malformed, is_whole, length_in, message_in, of_message, next, past_end, follow, unspell_frames, unspell_from, unspell}
use Rattle.aegis_stream.specs.Unspell.State.{Frame, Tag, More}
use Rattle.aegis_stream.specs.Unspell.Next.{Stops, Opens}
use Rattle.aegis_stream.specs.Laws.{AreBytes, is_past}
use Rattle.aegis_stream.proofs.Fronts.{whole_long, next_malformed, next_part, next_whole}
use Rattle.aegis_stream.proofs.Heads.{mark_malformed}
use Rattle.aegis_stream.proofs.Frames.{laws, frame_from}
use Rattle.aegis_stream.proofs.Streams.{unspell_prefix}
use Rattle.aegis_stream.proofs.Feeding.{take_next}

-- what a step says
apart : (s : State) (last : Bool) (m : List ℕ) → Stops s ≡ Opens last m → ⊥
apart s last m h = cc

same_state : (s t : State) → Stops s ≡ Stops t → s ≡ t
same_state s t h = cc

same_last : (a b : Bool) (m n : List ℕ) → Opens a m ≡ Opens b n → a ≡ b
same_last a b m n h = cc

same_message : (a b : Bool) (m n : List ℕ) → Opens a m ≡ Opens b n → m ≡ n
same_message a b m n h = cc

-- a frame that opens: its tests, and what they say
record Found (key prefix : List ℕ) (i : ℕ) (b : List ℕ) (last : Bool) (m : List ℕ) : Type 0 where
  formed : is_malformed b ≡ false
  whole : is_whole b ≡ true
  last_is : eqb (get_or b 0 0) 1 ≡ last
  message : message_in key prefix i b ≡ Some m

of_found : (a last : Bool) (o : Option (List ℕ)) (m : List ℕ) → of_message a o ≡ Opens last m → (a ≡ last) × (o ≡ Some m)
of_found a last None m h = absurd (apart Tag last m h)
of_found a last (Some n) m h = (same_last a last n m h, ap Some (same_message a last n m h))

found : (key prefix : List ℕ) (i : ℕ) (b : List ℕ) (last : Bool) (m : List ℕ) → next key prefix i b ≡ Opens last m → Found key prefix i b last m
found key prefix i b last m h = elim (cases_Bool (is_malformed b)) [
  | inl bad ↦ absurd (apart Frame last m (sym (next_malformed key prefix i b bad) ∙ h))
  | inr good ↦ elim (cases_Bool (is_whole b)) [
    | inl all ↦
        let is = of_found (eqb (get_or b 0 0) 1) last (message_in key prefix i b) m (sym (next_whole key prefix i b good all) ∙ h) in
        record { formed = good; whole = all; last_is = is.0; message = is.1 }
    | inr part ↦ absurd (apart More last m (sym (next_part key prefix i b good part) ∙ h))
  ]
]

-- where no frame is found, the stream isn't past its end
never_past : (key prefix : List ℕ) (i : ℕ) (b : List ℕ) (s : State) → next key prefix i b ≡ Stops s → is_past s ≡ false
never_past key prefix i b s h = elim (cases_Bool (is_malformed b)) [
  | inl bad ↦ ap is_past (sym (same_state Frame s (sym (next_malformed key prefix i b bad) ∙ h)))
  | inr good ↦ elim (cases_Bool (is_whole b)) [
    | inl all ↦ of_stops (eqb (get_or b 0 0) 1) (message_in key prefix i b) (sym (next_whole key prefix i b good all) ∙ h)
    | inr part ↦ ap is_past (sym (same_state More s (sym (next_part key prefix i b good part) ∙ h)))
  ]
]
  where
    of_stops : (a : Bool) (o : Option (List ℕ)) → of_message a o ≡ Stops s → is_past s ≡ false
    of_stops a None e = ap is_past (sym (same_state Tag s e))
    of_stops a (Some n) e = absurd (apart s a n (sym e))

-- the mark of a frame that opens
mark_is : (n : ℕ) → n ≤ 1 → mark_of (eqb n 1) ≡ n
mark_is n le = elim (cases_lt n 1) [
  | inl zero_is ↦ let e : n ≡ 0 = omega arith in ap (λ (k : ℕ). mark_of (eqb k 1)) e ∙ sym e
  | inr one ↦ let e : n ≡ 1 = omega arith in ap (λ (k : ℕ). mark_of (eqb k 1)) e ∙ sym e
]

bytes_part : (n m : ℕ) (b : List ℕ) → AreBytes b → AreBytes (take m (drop n b))
bytes_part n m b h = λ i. elim (cases_lt i m) [
  | inl less ↦ let e : get_or (take m (drop n b)) i 0 ≡ get_or b (n + i) 0 = get_or-take m (drop n b) i 0 less ∙ get_or-drop n b i 0 in omega (arith, e, h (n + i))
  | inr past ↦ let e : get_or (take m (drop n b)) i 0 ≡ 0 = get_or_past (take m (drop n b)) i 0 (omega (arith, length-take m (drop n b))) in omega (arith, e)
]

pub bytes_drop : (n : ℕ) (b : List ℕ) → AreBytes b → AreBytes (drop n b)
bytes_drop n b h = λ i. omega (arith, get_or-drop n b i 0, h (n + i))

opens_is : (key prefix : List ℕ) (i : ℕ) (b : List ℕ) (m : List ℕ) → message_in key prefix i b ≡ Some m
    → unsealed Aegis128L 16 key (frame_nonce prefix i) (take 5 b) (take (length_in b) (drop 5 b)) (take 16 (drop (5 + length_in b) b)) ≡ Some m
unfolding message_in
opens_is key prefix i b m h = h

-- a frame that opens is the one that its message is sealed to
pub frame_back : (key prefix : List ℕ) (i : ℕ) (b : List ℕ) (last : Bool) (m : List ℕ) → AreBytes b → next key prefix i b ≡ Opens last m
    → b ≡ frame key prefix i last m ++ drop (21 + length m) b
frame_back key prefix i b last m bytes h =
    let f : Found key prefix i b last m = found key prefix i b last m h in
    let n : ℕ = length_in b in
    let long = whole_long b f.whole in
    let nonce : List ℕ = frame_nonce prefix i in
    let text : List ℕ = take n (drop 5 b) in
    let tag : List ℕ = take 16 (drop (5 + n) b) in
    let sealed : seal Aegis128L 16 key nonce (take 5 b) m ≡ (text, tag) = laws.seals key nonce (take 5 b) text tag m (opens_is key prefix i b m f.message) in
    let len_text : length text ≡ n = length-take-le n (drop 5 b) (omega (arith, long.1, length-drop 5 b)) in
    let len : length m ≡ n =
    sym (laws.text_len key nonce (take 5 b) m) ∙ ap (λ (p : List ℕ × List ℕ). length p.0) sealed ∙ len_text in
    let low : get_or b 0 0 ≤ 1 = elim (cases_lt 1 (get_or b 0 0)) [
      | inl bad ↦ absurd (both_ways (is_malformed b) f.formed (mark_malformed b (omega (arith, long.0)) bad))
      | inr good ↦ good
    ] in
    let mark : get_or b 0 0 ≡ mark_of last = sym (mark_is (get_or b 0 0) low) ∙ ap mark_of f.last_is in
    let four : length (take 4 (drop 1 b)) ≡ 4 = length-take-le 4 (drop 1 b) (omega (arith, long.0, length-drop 1 b)) in
    let lens : take 4 (drop 1 b) ≡ to_le_bytes w32 (length m) =
    sym (le_bytes_4 (take 4 (drop 1 b)) n four (bytes_part 1 4 b bytes) refl) ∙ ap (to_le_bytes w32) (sym len) in
    let head : take 5 b ≡ frame_head last (length m) =
    ap (take 5) (drop_more b 0 0 (omega (arith, long.0)))
    ∙ ap (λ (k : ℕ). k ∷ take 4 (drop 1 b)) mark
    ∙ ap (λ (l : List ℕ). mark_of last ∷ l) lens in
    let whole : take 5 b ++ (text ++ tag) ≡ frame key prefix i last m =
    frame_from key prefix i last m key nonce (take 5 b) text tag (take 5 b) tag sealed refl refl head refl refl in
    let e : 21 + length m ≡ 5 + (n + 16) = omega arith in
    let parts : take (21 + length m) b ≡ take 5 b ++ (text ++ tag) =
    ap (λ (k : ℕ). take k b) e
    ∙ sym (take_next 5 (n + 16) b long.0)
    ∙ ap (λ (l : List ℕ). take 5 b ++ l) (sym (take_next n 16 (drop 5 b) (omega (arith, long.1, length-drop 5 b))))
    ∙ ap (λ (l : List ℕ). take 5 b ++ (text ++ take 16 l)) (drop-drop n 5 b) in
    sym (take-append-drop (21 + length m) b) ∙ ap (λ (l : List ℕ). l ++ drop (21 + length m) b) (parts ∙ whole)

-- b begins with the frames of what it gives
abbrev Begins : List ℕ → List ℕ → ℕ → List ℕ → Unspelled → Type 0
Begins key prefix i b u = (rest : List ℕ) × (b ≡ frames_from key prefix i (is_past u.state) u.messages ++ rest)

past_true : (l : List ℕ) → is_past (past_end l) ≡ true
past_true [] = refl
past_true (x ∷ l) = refl

goes_on : (ends : Bool) (ms : List (List ℕ)) → (ms ≡ [] → ends ≡ false) → is_last ends ms ≡ false
goes_on ends [] h = h refl
goes_on ends (m ∷ ms) h = refl

begins_by : (key prefix : List ℕ) (i : ℕ) (b : List ℕ) → AreBytes b → (rest : List ℕ → Unspelled)
    → ((l : List ℕ) → AreBytes l → Begins key prefix (suc i) l (rest l)) → ((l : List ℕ) → (rest l).messages ≡ [] → is_past (rest l).state ≡ false)
    → (x : Next) → next key prefix i b ≡ x → Begins key prefix i b (follow rest b x)
unfolding frames_from
begins_by key prefix i b bytes rest more never (Stops s) h = (b, refl)
begins_by key prefix i b bytes rest more never (Opens true m) h =
    let left : List ℕ = drop (21 + length m) b in (
      left,
      frame_back key prefix i b true m bytes h
          ∙ ap (λ (l : List ℕ). l ++ left) (sym (append-nil (frame key prefix i true m)))
          ∙ ap (λ (e : Bool). (frame key prefix i e m ++ []) ++ left) (sym (past_true left)),
    )
begins_by key prefix i b bytes rest more never (Opens false m) h =
    let left : List ℕ = drop (21 + length m) b in
    let u : Unspelled = rest left in
    let r = more left (bytes_drop (21 + length m) b bytes) in
    let f : List ℕ = frames_from key prefix (suc i) (is_past u.state) u.messages in (
      r.0,
      frame_back key prefix i b false m bytes h
          ∙ ap (λ (l : List ℕ). frame key prefix i false m ++ l) r.1
          ∙ sym (append_assoc (frame key prefix i false m) f r.0)
          ∙ ap (λ (e : Bool). (frame key prefix i e m ++ f) ++ r.0) (sym (goes_on (is_past u.state) u.messages (never left))),
    )

never_by : (key prefix : List ℕ) (i : ℕ) (b : List ℕ) (rest : List ℕ → Unspelled) (x : Next) → next key prefix i b ≡ x
    → (follow rest b x).messages ≡ [] → is_past (follow rest b x).state ≡ false
never_by key prefix i b rest (Stops s) h none = never_past key prefix i b s h
never_by key prefix i b rest (Opens true m) h none = absurd (filled m [] none)
  where
    filled : (y : List ℕ) (ys : List (List ℕ)) → y ∷ ys ≡ [] → ⊥
    filled y ys e = cc
never_by key prefix i b rest (Opens false m) h none = absurd (filled m (rest (drop (21 + length m) b)).messages none)
  where
    filled : (y : List ℕ) (ys : List (List ℕ)) → y ∷ ys ≡ [] → ⊥
    filled y ys e = cc

never : (n : ℕ) (key prefix : List ℕ) (i : ℕ) (b : List ℕ) → (unspell_frames n key prefix i b).messages ≡ [] → is_past (unspell_frames n key prefix i b).state ≡ false
unfolding unspell_frames
never zero key prefix i b none = refl
never (suc n) key prefix i b none = never_by key prefix i b (unspell_frames n key prefix (suc i)) (next key prefix i b) refl none

begins : (n : ℕ) (key prefix : List ℕ) (i : ℕ) (b : List ℕ) → AreBytes b → Begins key prefix i b (unspell_frames n key prefix i b)
unfolding unspell_frames frames_from
begins zero key prefix i b bytes = (b, refl)
begins (suc n) key prefix i b bytes =
    begins_by key prefix i b bytes (unspell_frames n key prefix (suc i)) (λ l h. begins n key prefix (suc i) l h) (never n key prefix (suc i)) (next key prefix i b) refl

pub spelled_back : (key b : List ℕ) → AreBytes b → 8 ≤ length b
    → take (length (spelled key (take 8 b) (is_past (unspell key b).state) (unspell key b).messages)) b ≡ spelled key (take 8 b) (is_past (unspell key b).state) (unspell key b).messages
spelled_back key b bytes long =
    let prefix : List ℕ = take 8 b in
    let x : List ℕ = drop 8 b in
    let r = begins (length x) key prefix 0 x (bytes_drop 8 b bytes) in
    let u : unspell key b ≡ unspell_from key prefix 0 x =
    ap (unspell key) (sym (take-append-drop 8 b)) ∙ unspell_prefix key prefix x (length-take-le 8 b long) in
    let w : Unspelled → List ℕ = λ (v : Unspelled). spelled key prefix (is_past v.state) v.messages in
    let front : (v : Unspelled) → v ≡ unspell_from key prefix 0 x → take (length (w v)) b ≡ w v = λ v e.
    let is : b ≡ w (unspell_from key prefix 0 x) ++ r.0 =
    sym (take-append-drop 8 b) ∙ ap (λ (l : List ℕ). prefix ++ l) r.1
    ∙ sym (append_assoc prefix (frames_from key prefix 0 (is_past (unspell_from key prefix 0 x).state) (unspell_from key prefix 0 x).messages) r.0) in
    ap (take (length (w v))) (is ∙ ap (λ (y : Unspelled). w y ++ r.0) (sym e)) ∙ take_at (w v) r.0 (length (w v)) refl in
    front (unspell key b) u
