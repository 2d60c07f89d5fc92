-- One call's way through the input.
use Rattle.std.proofs.Common.{◌≡◌, ℕ, ◌+◌, ◌-◌, ◌<◌, ◌≤◌, min, Bool, true, false, eqb, List, [], ◌∷◌, ◌++◌, length, take, drop, get_or, Option, Some, None, refl, sym, ap, ◌∙◌, subst, arith, inl, inr, length-append, length-take, length-drop}
use Rattle.std.specs.Prelude.{Result, Ok, Err, IfOk, IfErr}
use Rattle.std.proofs.Math.Seq.{take-append-add}
use Rattle.std.proofs.lemmas.List.{append_assoc, append-nil, take_all, take_at, take-take, take-append-drop, take-append-le, length-take-le, take_rest}
use Rattle.std.proofs.lemmas.Bool.{cases_lt, cond-true, cond-false}
use Rattle.aegis_core.specs.Sealing.{Unseals, unsealed}
use Rattle.aegis_core.specs.declared.variant.Variant.TheVariants.{Aegis128L}
use Rattle.aegis_stream.specs.Grammar.{frame_nonce}
use Rattle.aegis_stream.specs.Unspell.{is_malformed, is_whole, length_in, message_in, of_message, next, past_end}
use Rattle.aegis_stream.specs.Unspell.State.{Ended, Trailing, Frame, Tag, More}
use Rattle.aegis_stream.specs.Unspell.Next.{Stops}
use Rattle.aegis_stream.specs.Heads.{ReadsHead}
use Rattle.aegis_stream.specs.Progress.{Progress, IsBegun, next_in, IsKept, IsOpened, IsStopped, Moves}
use Rattle.aegis_stream.specs.declared.head.Head.{Head}
use Rattle.aegis_stream.specs.declared.fed.Fed.{Fed}
use Rattle.aegis_stream.specs.declared.error.StreamError.{StreamError}
use Rattle.aegis_stream.specs.declared.error.StreamError.TheVariants as error
use Rattle.aegis_stream.proofs.Fronts.{mark-append, length_in-append, malformed-append, malformed_more, whole_from, part_short, part_from, part_long, next_malformed, next_part, next_whole, next-append}
use Rattle.aegis_stream.proofs.Frames.{laws}

-- one part of a list, and the next
pub take_next : (k m : ℕ) (x : List ℕ) → k ≤ length x → take k x ++ take m (drop k x) ≡ take (k + m) x
take_next k m x le =
    let len : length (take k x) ≡ k = length-take-le k x le in
    sym (take-append-add (take k x) (drop k x) m)
    ∙ ap (λ (j : ℕ). take (j + m) (take k x ++ drop k x)) len
    ∙ ap (take (k + m)) (take-append-drop k x)

-- the tests of a frame see no more than its head and its length
malformed_head : (s : List ℕ) → 5 ≤ length s → is_malformed s ≡ is_malformed (take 5 s)
malformed_head s long =
    ap is_malformed (sym (take-append-drop 5 s)) ∙ malformed-append (take 5 s) (drop 5 s) (omega (arith, length-take 5 s))

length_in_head : (s : List ℕ) → 5 ≤ length s → length_in s ≡ length_in (take 5 s)
length_in_head s long =
    ap length_in (sym (take-append-drop 5 s)) ∙ length_in-append (take 5 s) (drop 5 s) (omega (arith, length-take 5 s))

begun_same : (s t : List ℕ) → 5 ≤ length s → take 5 s ≡ take 5 t → length s ≡ length t → IsBegun s → IsBegun t
begun_same s t long head len b =
    let less : length s < 21 + length_in s = part_long s b.part long in
    let same : length_in s ≡ length_in t = length_in_head s long ∙ ap length_in head ∙ sym (length_in_head t (omega arith)) in
    record {
      formed = malformed_head t (omega arith) ∙ ap is_malformed (sym head) ∙ sym (malformed_head s long) ∙ b.formed;
      part = part_from t (omega arith);
    }

-- what a wrong tag leaves of the bytes begun
pub begun_left : (b g h t : List ℕ) → IsBegun b → take (length b) g ≡ b → length b ≤ length h → length b ≤ length g → take 5 h ≡ take 5 g → t ≡ take (length b) h → IsBegun t
begun_left b g h t ok front len le head is = elim (cases_lt (length b) 5) [
  | inl short ↦
      let same : t ≡ b =
      is ∙ sym (take-take (length b) 5 h (omega arith)) ∙ ap (take (length b)) head ∙ take-take (length b) 5 g (omega arith) ∙ front in
      subst IsBegun (sym same) ok
  | inr long ↦
      let five : take 5 b ≡ take 5 t =
      ap (take 5) (sym front) ∙ take-take 5 (length b) g long ∙ sym head ∙ sym (take-take 5 (length b) h long) ∙ ap (take 5) (sym is) in
      begun_same b t long five (omega (arith, ap length is, length-take (length b) h)) ok
]

-- the bytes begun, further bytes, and those of them that complete the head
pub record Headed (b x f : List ℕ) (k : ℕ) : Type 0 where
  pub begun : IsBegun b
  pub count : k ≡ min (5 - length b) (length x)
  pub is : f ≡ b ++ take k x

module _ (key prefix : List ℕ) (n : ℕ) (e : Bool) (going : e ≡ false) (b x f : List ℕ) (k : ℕ) (h : Headed b x f k) where
  -- the progress with some bytes begun
  abbrev at : List ℕ → Progress
  at begun = record { begun = begun; frames = n; ended = e }

  next_is : next_in key prefix (at b) x ≡ next key prefix n (b ++ x)
  unfolding next_in
  next_is = cond-false e (Stops (past_end x)) (next key prefix n (b ++ x)) going

  within : k ≤ length x
  within = omega (arith, h.count)

  parted : f ++ drop k x ≡ b ++ x
  parted = ap (λ (l : List ℕ). l ++ drop k x) h.is ∙ append_assoc b (take k x) (drop k x) ∙ ap (λ (l : List ℕ). b ++ l) (take-append-drop k x)

  len_f : length f ≡ length b + k
  len_f = ap length h.is ∙ length-append b (take k x) ∙ ap (λ (j : ℕ). length b + j) (length-take-le k x within)

  kept_all : (g out : List ℕ) (t : ℕ) → g ≡ b ++ x → t ≡ length x → IsBegun g
      → IsKept key prefix (at b) (at g) x out out (record { taken = t; written = 0; ended = false })
  kept_all g out t is all ok = record {
    state = More;
    brings = next_is ∙ ap (next key prefix n) (sym is) ∙ next_part key prefix n g ok.formed ok.part;
    due = refl;
    now = ap at is;
    out = refl;
    taken = all;
    written = refl;
    ended = (refl, sym going);
  }

  -- the head is not there whole
  pub short_begun : is_malformed f ≡ false → length f < 5 → IsBegun f
  short_begun formed short = record { formed = formed; part = part_short f short }

  pub short_kept : (out : List ℕ) → is_malformed f ≡ false → length f < 5
      → IsKept key prefix (at b) (at f) x out out (record { taken = k; written = 0; ended = false })
  short_kept out formed short =
      let all : k ≡ length x = omega (arith, h.count, len_f) in
      let is : f ≡ b ++ x = h.is ∙ ap (λ (l : List ℕ). b ++ l) (take_all k x (omega arith)) in
      kept_all f out k is all (short_begun formed short)

  -- the mark or the length is none of a stream
  pub malformed_stops : (t out : List ℕ) → is_malformed f ≡ true → t ≡ take (length b) f
      → IsStopped key prefix (at b) (at t) x out out error.Frame
  malformed_stops t out bad is = record {
    state = Frame;
    brings = next_is ∙ ap (next key prefix n) (sym parted) ∙ next_malformed key prefix n (f ++ drop k x) (malformed_more f (drop k x) bad);
    due = refl;
    count = omega (arith, ap length is, length-take (length b) f, len_f);
    frames = refl;
    ended = refl;
    out = refl;
  }

  pub begun_le : length b ≤ length f
  begun_le = omega (arith, len_f)

  pub head_less : (d : Head) → ReadsHead f d → length f < 21 + d.len
  head_less d r = elim (cases_lt (length b) 5) [
    | inl short ↦ omega (arith, len_f, h.count)
    | inr long ↦
        let none : k ≡ 0 = omega (arith, h.count) in
        let same : f ≡ b = h.is ∙ ap (λ (m : ℕ). b ++ take m x) none ∙ append-nil b in
        omega (arith, part_long b h.begun.part long, ap length same, ap length_in same, r.len)
  ]

  -- the head is there, and the frame filled as far as the input goes
  module _ (d : Head) (r : ReadsHead f d) (g : List ℕ) (j : ℕ)
      (counted : j ≡ min (21 + d.len - length f) (length (take (length x - k) (drop k x)))) (appended : g ≡ f ++ take j (take (length x - k) (drop k x))) where
    count : j ≡ min (21 + d.len - length f) (length (drop k x))
    count = counted ∙ ap (λ (l : List ℕ). min (21 + d.len - length f) (length l)) (take_rest x k)

    more : g ≡ f ++ take j (drop k x)
    more = appended ∙ ap (λ (l : List ℕ). f ++ take j l) (take_rest x k)

    less : length f < 21 + d.len
    less = head_less d r

    len_rest : length (drop k x) ≡ length x - k
    len_rest = length-drop k x

    len_g : length g ≡ length f + j
    len_g = ap length more ∙ length-append f (take j (drop k x)) ∙ ap (λ (m : ℕ). length f + m) (length-take-le j (drop k x) (omega (arith, count)))

    pub filled : (k + j ≤ length x) × (g ≡ b ++ take (k + j) x)
    filled = (
      omega (arith, count, within, len_rest),
      more ∙ ap (λ (l : List ℕ). l ++ take j (drop k x)) h.is ∙ append_assoc b (take k x) (take j (drop k x)) ∙ ap (λ (l : List ℕ). b ++ l) (take_next k j x within),
    )

    length_in_g : length_in g ≡ d.len
    length_in_g = ap length_in more ∙ length_in-append f (take j (drop k x)) r.long ∙ sym r.len

    formed : is_malformed g ≡ false
    formed = ap is_malformed more ∙ malformed-append f (take j (drop k x)) r.long ∙ r.formed

    pub part_begun : length g < 21 + d.len → IsBegun g
    part_begun short = record { formed = formed; part = part_from g (omega (arith, length_in_g)) }

    pub part_kept : (out : List ℕ) → length g < 21 + d.len → IsKept key prefix (at b) (at g) x out out (record { taken = k + j; written = 0; ended = false })
    part_kept out short =
        let all : k + j ≡ length x = omega (arith, count, len_g, len_rest, within) in
        let is : g ≡ b ++ x = filled.1 ∙ ap (λ (l : List ℕ). b ++ l) (take_all (k + j) x (omega arith)) in
        kept_all g out (k + j) is all (part_begun short)

    -- whether the input goes as far
    pub short_len : length (take (length x - k) (drop k x)) < 21 + d.len - length f → length g < 21 + d.len
    short_len short = omega (arith, len_g, counted)

    pub long_len : j ≡ 21 + d.len - length f → 21 + d.len ≤ length g
    long_len is = omega (arith, len_g, less)

    pub head_g : take 5 f ≡ take 5 g
    head_g = sym (ap (take 5) appended ∙ take-append-le 5 f (take j (take (length x - k) (drop k x))) r.long)

    -- the frame is there
    pub whole_len : 21 + d.len ≤ length g → length g ≡ 21 + d.len
    whole_len all = omega (arith, len_g, count, less)

    pub whole_parts : 21 + d.len ≤ length g → length f + length (take j (take (length x - k) (drop k x))) ≡ 21 + d.len
    whole_parts all = sym (length-append f (take j (take (length x - k) (drop k x)))) ∙ sym (ap length appended) ∙ whole_len all

    module _ (all : 21 + d.len ≤ length g) where
      whole : is_whole g ≡ true
      whole = whole_from g (omega arith) (omega (arith, length_in_g))

      frame_is : next key prefix n g ≡ of_message d.last (message_in key prefix n g)
      frame_is =
          next_whole key prefix n g formed whole
          ∙ ap (λ (m : ℕ). of_message (eqb m 1) (message_in key prefix n g)) (ap (λ (l : List ℕ). get_or l 0 0) more ∙ mark-append f (take j (drop k x)) (omega (arith, r.long)))
          ∙ ap (λ (l : Bool). of_message l (message_in key prefix n g)) (sym r.last)

      message_is : (nonce : List ℕ) (a : Option (List ℕ)) → nonce ≡ frame_nonce prefix n
          → Unseals Aegis128L 16 key nonce (take 5 g) (take d.len (drop 5 g)) (take 16 (drop (5 + d.len) g)) a → message_in key prefix n g ≡ a
      unfolding message_in
      message_is nonce a is u =
          ap (λ (m : ℕ). unsealed Aegis128L 16 key (frame_nonce prefix n) (take 5 g) (take m (drop 5 g)) (take 16 (drop (5 + m) g))) length_in_g
          ∙ ap (λ (l : List ℕ). unsealed Aegis128L 16 key l (take 5 g) (take d.len (drop 5 g)) (take 16 (drop (5 + d.len) g))) (sym is)
          ∙ laws.one_answer key nonce (take 5 g) (take d.len (drop 5 g)) (take 16 (drop (5 + d.len) g)) a u

      begun_in : take (length b) g ≡ b
      begun_in = ap (take (length b)) filled.1 ∙ take_at b (take (k + j) x) (length b) refl

      len_b : length b + (k + j) ≡ 21 + d.len
      len_b = omega (arith, whole_len all, len_g, len_f)

      -- no message has its tag
      pub wrong_begun : (w t : List ℕ) → length b ≤ length w → take 5 w ≡ take 5 g → t ≡ take (length b) w → IsBegun t
      wrong_begun w t len head is = begun_left b g w t h.begun begun_in len (omega (arith, len_b, whole_len all)) head is

      pub wrong_stops : (nonce w t out_old out_new : List ℕ) → nonce ≡ frame_nonce prefix n
          → Unseals Aegis128L 16 key nonce (take 5 g) (take d.len (drop 5 g)) (take 16 (drop (5 + d.len) g)) None
          → length b ≤ length w → t ≡ take (length b) w → out_new ≡ out_old
          → IsStopped key prefix (at b) (at t) x out_old out_new error.InvalidTag
      wrong_stops nonce w t out_old out_new is u len left out = record {
        state = Tag;
        brings =
            next_is ∙ ap (next key prefix n) (sym (ap (λ (l : List ℕ). l ++ drop (k + j) x) filled.1 ∙ append_assoc b (take (k + j) x) (drop (k + j) x) ∙ ap (λ (l : List ℕ). b ++ l) (take-append-drop (k + j) x)))
            ∙ next-append key prefix n g (drop (k + j) x) whole ∙ frame_is ∙ ap (of_message d.last) (message_is nonce None is u);
        due = refl;
        count = omega (arith, ap length left, length-take (length b) w, len);
        frames = refl;
        ended = refl;
        out = out;
      }

      -- a message has its tag
      pub right_opens : (nonce out_old out_new : List ℕ) → nonce ≡ frame_nonce prefix n
          → Unseals Aegis128L 16 key nonce (take 5 g) (take d.len (drop 5 g)) (take 16 (drop (5 + d.len) g)) (Some (take d.len out_new))
          → d.len ≤ length out_new → drop d.len out_new ≡ drop d.len out_old
          → IsOpened key prefix (at b) (record { begun = []; frames = n + 1; ended = d.last }) x out_old out_new (record { taken = k + j; written = d.len; ended = d.last })
      right_opens nonce out_old out_new is u room rest =
          let len : length (take d.len out_new) ≡ d.len = length-take-le d.len out_new room in
          record {
            last = d.last;
            message = take d.len out_new;
            going = going;
            whole = ap is_whole (sym filled.1) ∙ whole;
            opens = ap (next key prefix n) (sym filled.1) ∙ frame_is ∙ ap (of_message d.last) (message_is nonce (Some (take d.len out_new)) is u);
            now = refl;
            within = filled.0;
            taken = omega (arith, len_b);
            some = omega (arith, len_b, less, len_f);
            written = sym len;
            out = refl;
            rest = rest;
            ended = refl;
          }

-- nothing is begun
pub nothing_begun : IsBegun []
unfolding is_malformed is_whole
nothing_begun = record { formed = refl; part = refl }

-- after the end
pub over_kept : (key prefix b : List ℕ) (n : ℕ) (e : Bool) → e ≡ true → (x out : List ℕ) (fed : Fed) → x ≡ [] → fed ≡ record { taken = 0; written = 0; ended = true }
    → IsKept key prefix (record { begun = b; frames = n; ended = e }) (record { begun = b; frames = n; ended = e }) x out out fed
unfolding next_in
over_kept key prefix b n e over x out fed none is = record {
  state = Ended;
  brings = cond-true e (Stops (past_end x)) (next key prefix n (b ++ x)) over ∙ ap (λ (l : List ℕ). Stops (past_end l)) none;
  due = refl;
  now = ap (λ (l : List ℕ). let p : Progress = record { begun = l; frames = n; ended = e } in p) (sym (append-nil b) ∙ ap (λ (l : List ℕ). b ++ l) (sym none));
  out = refl;
  taken = ap (λ (v : Fed). v.taken) is ∙ ap length (sym none);
  written = ap (λ (v : Fed). v.written) is;
  ended = (ap (λ (v : Fed). v.ended) is, ap (λ (v : Fed). v.ended) is ∙ sym over);
}

pub over_stops : (key prefix b : List ℕ) (n : ℕ) (e : Bool) → e ≡ true → (x out : List ℕ) → 0 < length x
    → IsStopped key prefix (record { begun = b; frames = n; ended = e }) (record { begun = b; frames = n; ended = e }) x out out error.Trailing
unfolding next_in
over_stops key prefix b n e over x out some = record {
  state = Trailing;
  brings = cond-true e (Stops (past_end x)) (next key prefix n (b ++ x)) over ∙ ap Stops (past x some);
  due = refl;
  count = refl;
  frames = refl;
  ended = refl;
  out = refl;
}
  where
    past : (l : List ℕ) → 0 < length l → past_end l ≡ Trailing
    past [] h = absurd (omega arith)
    past (y ∷ l) h = refl

pub over_moves : (key prefix b : List ℕ) (n : ℕ) (e : Bool) → e ≡ true → (x out : List ℕ) (r : Result Fed StreamError)
    → IfOk r (λ fed. (x ≡ []) × (fed ≡ record { taken = 0; written = 0; ended = true })) → IfErr r (λ f. (0 < length x) × (f ≡ error.Trailing))
    → Moves key prefix (record { begun = b; frames = n; ended = e }) (record { begun = b; frames = n; ended = e }) x out out r
over_moves key prefix b n e over x out (Ok fed) ok err = inl (over_kept key prefix b n e over x out fed ok.0 ok.1)
over_moves key prefix b n e over x out (Err f) ok err =
    let p : Progress = record { begun = b; frames = n; ended = e } in
    subst (λ (g : StreamError). IsStopped key prefix p p x out out g) (sym err.1) (over_stops key prefix b n e over x out err.0)
