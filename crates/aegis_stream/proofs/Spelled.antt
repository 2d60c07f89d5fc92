-- A stream, frame by frame.
use Rattle.std.proofs.Common.{◌≡◌, ℕ, suc, ◌+◌, Bool, false, List, [], ◌∷◌, ◌++◌, length, take, drop, refl, sym, ap, ◌∙◌, arith, length-append}
use Rattle.std.proofs.lemmas.List.{append_assoc, append-nil, take_at, drop_at}
use Rattle.aegis_stream.specs.Grammar.{frame}
use Rattle.aegis_stream.specs.Spell.{is_last, frames_from}
use Rattle.aegis_stream.specs.Sealing.{Sealing, Spells, IsSealed}

frames_push : (key prefix : List ℕ) (i : ℕ) (ends : Bool) (ms : List (List ℕ)) (m : List ℕ)
    → frames_from key prefix i ends (ms ++ m ∷ []) ≡ frames_from key prefix i false ms ++ frame key prefix (i + length ms) ends m
unfolding frames_from
frames_push key prefix i ends [] m =
    let e : i ≡ i + 0 = omega arith in
    append-nil (frame key prefix i ends m) ∙ ap (λ (n : ℕ). frame key prefix n ends m) e
frames_push key prefix i ends (x ∷ ms) m =
    let e : suc i + length ms ≡ i + length (x ∷ ms) = omega arith in
    ap (λ (b : Bool). frame key prefix i b x ++ frames_from key prefix (suc i) ends (ms ++ m ∷ [])) (going ms ∙ sym (never ms))
    ∙ ap (λ (l : List ℕ). frame key prefix i (is_last false ms) x ++ l) (frames_push key prefix (suc i) ends ms m)
    ∙ sym (append_assoc (frame key prefix i (is_last false ms) x) (frames_from key prefix (suc i) false ms) (frame key prefix (suc i + length ms) ends m))
    ∙ ap (λ (n : ℕ). (frame key prefix i (is_last false ms) x ++ frames_from key prefix (suc i) false ms) ++ frame key prefix n ends m) e
  where
    going : (xs : List (List ℕ)) → is_last ends (xs ++ m ∷ []) ≡ false
    going [] = refl
    going (y ∷ ys) = refl

    never : (xs : List (List ℕ)) → is_last false xs ≡ false
    never [] = refl
    never (y ∷ ys) = refl

-- one more message
pub spells_more : (s : Sealing) (messages : List (List ℕ)) (written m bytes : List ℕ) (last : Bool) → Spells s messages written → s.ended ≡ false
    → bytes ≡ frame s.key s.prefix s.frames last m
    → Spells (record s { frames = s.frames + 1; ended = last }) (messages ++ m ∷ []) (written ++ bytes)
spells_more s messages written m bytes last h going is = record {
  count = omega (arith, h.count, length-append messages (m ∷ []));
  stream =
      ap (λ (l : List ℕ). l ++ bytes) h.stream
      ∙ ap (λ (b : Bool). (s.prefix ++ frames_from s.key s.prefix 0 b messages) ++ bytes) going
      ∙ append_assoc s.prefix (frames_from s.key s.prefix 0 false messages) bytes
      ∙ ap (λ (l : List ℕ). s.prefix ++ (frames_from s.key s.prefix 0 false messages ++ l)) (is ∙ ap (λ (n : ℕ). frame s.key s.prefix n last m) (h.count ∙ from_zero (length messages)))
      ∙ ap (λ (l : List ℕ). s.prefix ++ l) (sym (frames_push s.key s.prefix 0 last messages m));
}
  where
    from_zero : (n : ℕ) → n ≡ 0 + n
    from_zero n = omega arith

-- a frame that was written to the front of out
pub sealed_is : (s : Sealing) (m : List ℕ) (last : Bool) (w out : List ℕ) (n : ℕ) → s.ended ≡ false → n ≡ 21 + length m → length w ≡ n
    → w ≡ frame s.key s.prefix s.frames last m → IsSealed s (record s { frames = s.frames + 1; ended = last }) m last out (w ++ drop n out) n
sealed_is s m last w out n going count len is =
    let front : take n (w ++ drop n out) ≡ frame s.key s.prefix s.frames last m = take_at w (drop n out) n len ∙ is in
    record {
      going = going;
      now = refl;
      count = count;
      frame = front;
      rest = drop_at w (drop n out) n len;
      stream = λ messages written h. spells_more s messages written m (take n (w ++ drop n out)) last h going front;
    }
