-- A frame, read back.
use Rattle.std.proofs.Common.{◌≡◌, ℕ, ◌+◌, ◌<◌, ◌≤◌, Bool, true, false, not, ◌&&◌, ◌||◌, ltb, leb, eqb, List, ◌++◌, length, take, drop, get_or, Option, Some, refl, sym, ap, ◌∙◌, arith, inl, length-append}
use Rattle.std.proofs.lemmas.List.{append_assoc, take_at, drop_at, drop-drop, take_all, take-append-drop, length-take-le}
use Rattle.std.proofs.lemmas.Bool.{and_parts, leb-true, or_from, and_right, not_from_true}
use Rattle.std.proofs.lemmas.Nat.{from_le_bytes-to_le_bytes_4}
use Rattle.aegis_core.specs.Sealing.{seal, unsealed}
use Rattle.aegis_core.specs.Laws.{IsSealing}
use Rattle.aegis_core.specs.declared.variant.Variant.TheVariants.{Aegis128L}
use Rattle.aegis_core.proofs.Laws.{is_sealing}
use Rattle.aegis_stream.specs.Grammar.{is_message_len, mark_of, frame_head, frame_nonce, frame}
use Rattle.aegis_stream.specs.Unspell.{is_malformed, is_whole, length_in, message_in, of_message, next}
use Rattle.aegis_stream.specs.Unspell.State.{More}
use Rattle.aegis_stream.specs.Unspell.Next.{Stops, Opens}
use Rattle.aegis_stream.proofs.Fronts.{whole_from, next_whole, next-append, next_front}

pub laws : IsSealing Aegis128L 16
laws = is_sealing Aegis128L 16 (inl refl)

marked : (last : Bool) → eqb (mark_of last) 1 ≡ last
marked true = refl
marked false = refl

unmarked : (last : Bool) → ltb 1 (mark_of last) ≡ false
unmarked true = refl
unmarked false = refl

pub most : (last : Bool) (n : ℕ) → is_message_len last n ≡ true → n ≤ 65536
most last n fits = leb-true n 65536 (and_parts (leb n 65536) (last || ltb 0 n) fits).0

-- a frame from its parts
pub frame_from : (key prefix : List ℕ) (i : ℕ) (last : Bool) (m k nonce head c tag h t : List ℕ) → seal Aegis128L 16 k nonce head m ≡ (c, tag) → k ≡ key
    → nonce ≡ frame_nonce prefix i → head ≡ frame_head last (length m) → h ≡ head → t ≡ tag → h ++ (c ++ t) ≡ frame key prefix i last m
unfolding frame
frame_from key prefix i last m k nonce head c tag h t sealed ek en eh front back =
    let s : List ℕ × List ℕ = seal Aegis128L 16 key (frame_nonce prefix i) (frame_head last (length m)) m in
    let is : s ≡ (c, tag) =
    ap (λ (l : List ℕ). seal Aegis128L 16 key (frame_nonce prefix i) l m) (sym eh)
    ∙ ap (λ (l : List ℕ). seal Aegis128L 16 key l head m) (sym en)
    ∙ ap (λ (l : List ℕ). seal Aegis128L 16 l nonce head m) (sym ek) ∙ sealed in
    ap (λ (l : List ℕ). l ++ (c ++ t)) (front ∙ eh)
    ∙ ap (λ (l : List ℕ). frame_head last (length m) ++ (c ++ l)) (back ∙ sym (ap (λ (p : List ℕ × List ℕ). p.1) is))
    ∙ ap (λ (l : List ℕ). frame_head last (length m) ++ (l ++ s.1)) (sym (ap (λ (p : List ℕ × List ℕ). p.0) is))
    ∙ sym (append_assoc (frame_head last (length m)) s.0 s.1)

module _ (key prefix : List ℕ) (i : ℕ) (last : Bool) (m : List ℕ) where
  abbrev the_head : List ℕ
  the_head = frame_head last (length m)

  abbrev the_text : List ℕ
  the_text = (seal Aegis128L 16 key (frame_nonce prefix i) the_head m).0

  abbrev the_tag : List ℕ
  the_tag = (seal Aegis128L 16 key (frame_nonce prefix i) the_head m).1

  pub frame_is : frame key prefix i last m ≡ the_head ++ the_text ++ the_tag
  unfolding frame
  frame_is = refl

  text_len : length the_text ≡ length m
  text_len = laws.text_len key (frame_nonce prefix i) the_head m

  tag_len : length the_tag ≡ 16
  tag_len = laws.tag_len key (frame_nonce prefix i) the_head m

  pub length-frame : length (frame key prefix i last m) ≡ 21 + length m
  length-frame =
      ap length frame_is ∙ omega (arith, length-append (the_head ++ the_text) the_tag, length-append the_head the_text, text_len, tag_len)

  pub length_in-frame : length m ≤ 65536 → length_in (frame key prefix i last m) ≡ length m
  length_in-frame le = ap length_in frame_is ∙ from_le_bytes-to_le_bytes_4 (length m) (omega arith)

  mark_in : get_or (frame key prefix i last m) 0 0 ≡ mark_of last
  mark_in = ap (λ (l : List ℕ). get_or l 0 0) frame_is

  pub formed : is_message_len last (length m) ≡ true → is_malformed (frame key prefix i last m) ≡ false
  unfolding is_malformed
  formed fits =
      let f : List ℕ = frame key prefix i last m in
      let mark : (ltb 0 (length f) && ltb 1 (get_or f 0 0)) ≡ false = and_right (ltb 0 (length f)) (ltb 1 (get_or f 0 0)) (ap (ltb 1) mark_in ∙ unmarked last) in
      let says : is_message_len (eqb (get_or f 0 0) 1) (length_in f) ≡ true =
      ap (λ (k : ℕ). is_message_len (eqb k 1) (length_in f)) mark_in
      ∙ ap (λ (b : Bool). is_message_len b (length_in f)) (marked last)
      ∙ ap (is_message_len last) (length_in-frame (most last (length m) fits)) ∙ fits in
      or_from (ltb 0 (length f) && ltb 1 (get_or f 0 0)) (leb 5 (length f) && not (is_message_len (eqb (get_or f 0 0) 1) (length_in f)))
      mark (and_right (leb 5 (length f)) (not (is_message_len (eqb (get_or f 0 0) 1) (length_in f))) (not_from_true (is_message_len (eqb (get_or f 0 0) 1) (length_in f)) says))

  whole : length m ≤ 65536 → is_whole (frame key prefix i last m) ≡ true
  whole le = whole_from (frame key prefix i last m) (omega (arith, length-frame)) (omega (arith, length-frame, length_in-frame le))

  message_in-frame : length m ≤ 65536 → message_in key prefix i (frame key prefix i last m) ≡ Some m
  unfolding message_in
  message_in-frame le =
      let u : List ℕ → List ℕ → List ℕ → Option (List ℕ) = unsealed Aegis128L 16 key (frame_nonce prefix i) in
      let n : ℕ = length m in
      let tail : drop (5 + n) (the_head ++ the_text ++ the_tag) ≡ the_tag =
      sym (drop-drop n 5 (the_head ++ the_text ++ the_tag)) ∙ drop_at the_text the_tag n text_len in
      ap (λ (k : ℕ). u (take 5 (frame key prefix i last m)) (take k (drop 5 (frame key prefix i last m))) (take 16 (drop (5 + k) (frame key prefix i last m)))) (length_in-frame le)
      ∙ ap (λ (l : List ℕ). u (take 5 l) (take n (drop 5 l)) (take 16 (drop (5 + n) l))) frame_is
      ∙ ap (λ (l : List ℕ). u the_head l (take 16 (drop (5 + n) (the_head ++ the_text ++ the_tag)))) (take_at the_text the_tag n text_len)
      ∙ ap (λ (l : List ℕ). u the_head the_text (take 16 l)) tail
      ∙ ap (u the_head the_text) (take_all 16 the_tag (omega (arith, tag_len)))
      ∙ laws.opens key (frame_nonce prefix i) the_head m

  -- whatever follows a frame, it opens to its message
  pub frame_opens : (x : List ℕ) → is_message_len last (length m) ≡ true → next key prefix i (frame key prefix i last m ++ x) ≡ Opens last m
  frame_opens x fits =
      let f : List ℕ = frame key prefix i last m in
      let le : length m ≤ 65536 = most last (length m) fits in
      next-append key prefix i f x (whole le)
      ∙ next_whole key prefix i f (formed fits) (whole le)
      ∙ ap (of_message (eqb (get_or f 0 0) 1)) (message_in-frame le)
      ∙ ap (λ (k : ℕ). Opens (eqb k 1) m) mark_in
      ∙ ap (λ (b : Bool). Opens b m) (marked last)

  -- and less than a frame is none
  pub less_stops : (n : ℕ) → n < 21 + length m → is_message_len last (length m) ≡ true → next key prefix i (take n (frame key prefix i last m)) ≡ Stops More
  less_stops n less fits =
      let f : List ℕ = frame key prefix i last m in
      let parts : take n f ++ drop n f ≡ f = take-append-drop n f in
      next_front key prefix i (take n f) (drop n f) (ap is_malformed parts ∙ formed fits)
      (omega (arith, length-take-le n f (omega (arith, length-frame)), ap length_in parts, length_in-frame (most last (length m) fits)))
