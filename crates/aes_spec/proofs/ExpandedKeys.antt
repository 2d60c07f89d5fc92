-- The round keys of a key of bytes are blocks.
use Rattle.std.proofs.Common.{◌≡◌, ℕ, zero, suc, ◌+◌, ◌-◌, ◌*◌, ◌/◌, ◌%◌, ◌<◌, ◌≤◌, Bool, true, false, ◌==◌, ◌&&◌, nat_lt, List, [], ◌∷◌, ◌++◌, length, take, drop, slice_index, get_or, refl, ◌∙◌, arith, length-append}
use Rattle.std.specs.Prelude.{if◌then◌else◌}
use Rattle.std.specs.List.{All, range_with_len}
use Rattle.std.proofs.lemmas.Bool.{ltb-true}
use Rattle.std.proofs.lemmas.List.{length-take-le, length-drop}
use Rattle.std.proofs.lemmas.List.Elements.{All-map, All-append, All-get_or}
use Rattle.std.proofs.lemmas.List.FromFn.{length-map-range_with_len, get_or-range_with_len, length-range_with_len}
use Rattle.aes_spec.specs.Bytes.{xor_bytes}
use Rattle.aes_spec.specs.Field.{carryless, remainder, mul}
use Rattle.aes_spec.specs.KeySchedule.{power, round_constant, rot_word, sub_word, word_at, changed, next_word, with_next, key_words, round_key, round_keys, all_words, expand}
use Rattle.aes_spec.proofs.AreBytes.{AreBytes, AreSmall, small-append, small-take, small-drop, bytes-xor_bytes, bytes-map-S}
use Rattle.aes_spec.proofs.Blocks.{IsBlock}
use Rattle.aes_spec.proofs.Tables.{all_below, all_below_at}

-- four bytes
abbrev pub IsWord : List ℕ → Type 0
IsWord w = AreBytes 4 w

word-rot_word : (w : List ℕ) → IsWord w → IsWord (rot_word w)
word-rot_word w h = record {
  long = omega (arith, length-append (drop 1 w) (take 1 w), length-drop 1 w, length-take-le 1 w (omega (arith, h.long)), h.long);
  small = small-append (drop 1 w) (take 1 w) (small-drop 1 w h.small) (small-take 1 w h.small);
}

double_right : all_below (λ b. nat_lt (mul 2 b) 256) 256 ≡ true
unfolding carryless remainder mul
double_right = refl

power-lt : (n : ℕ) → power n < 256
unfolding power
power-lt zero = omega arith
power-lt (suc n) = ltb-true (mul 2 (power n)) 256 (all_below_at (λ b. nat_lt (mul 2 b) 256) 256 (power n) double_right (power-lt n))

word-round_constant : (j : ℕ) → IsWord (round_constant j)
word-round_constant j = record { long = refl; small = entry }
  where
    entry : (i : ℕ) → slice_index (round_constant j) i < 256
    entry zero = power-lt (j - 1)
    entry (suc zero) = omega arith
    entry (suc (suc zero)) = omega arith
    entry (suc (suc (suc zero))) = omega arith
    entry (suc (suc (suc (suc i)))) = omega arith

word-if : (b : Bool) (v w : List ℕ) → IsWord v → IsWord w → IsWord (if b then v else w)
word-if true v w hv hw = hv
word-if false v w hv hw = hw

word-changed : (nk i : ℕ) (t : List ℕ) → IsWord t → IsWord (changed nk i t)
word-changed nk i t h =
    word-if (i % nk == 0) (xor_bytes (sub_word (rot_word t)) (round_constant (i / nk))) (if nat_lt 6 nk && (i % nk == 4) then sub_word t else t)
    (bytes-xor_bytes 4 (sub_word (rot_word t)) (round_constant (i / nk)) (bytes-map-S 4 (rot_word t) (word-rot_word t h)) (word-round_constant (i / nk)))
    (word-if (nat_lt 6 nk && (i % nk == 4)) (sub_word t) t (bytes-map-S 4 t h) h)

word-next_word : (nk : ℕ) (words : List (List ℕ)) → 0 < nk → nk ≤ length words → All IsWord words → IsWord (next_word nk words)
unfolding next_word
word-next_word nk words pos room h =
    let i : ℕ = length words in
    bytes-xor_bytes 4 (word_at words (i - nk)) (changed nk i (word_at words (i - 1)))
    (All-get_or IsWord words (i - nk) [] (omega arith) h)
    (word-changed nk i (word_at words (i - 1)) (All-get_or IsWord words (i - 1) [] (omega arith) h))

pub length-with_next : (nk : ℕ) (words : List (List ℕ)) (n : ℕ) → length (with_next nk words n) ≡ length words + n
unfolding with_next
length-with_next nk words zero = omega arith
length-with_next nk words (suc n) =
    let before : List (List ℕ) = with_next nk words n in
    omega (arith, length-append before (next_word nk before ∷ []), length-with_next nk words n)

one : (w : List ℕ) → IsWord w → All IsWord (w ∷ [])
one w h zero d low = h
one w h (suc k) d low = absurd (omega arith)

words-with_next : (nk : ℕ) (words : List (List ℕ)) (n : ℕ) → 0 < nk → nk ≤ length words → All IsWord words → All IsWord (with_next nk words n)
unfolding with_next
words-with_next nk words zero pos room h = h
words-with_next nk words (suc n) pos room h =
    let before : List (List ℕ) = with_next nk words n in
    let hb : All IsWord before = words-with_next nk words n pos room h in
    let wide : nk ≤ length before = omega (arith, length-with_next nk words n) in
    All-append IsWord before (next_word nk before ∷ []) hb (one (next_word nk before) (word-next_word nk before pos wide hb))

pub length-key_words : (key : List ℕ) (n : ℕ) → length (key_words key n) ≡ n
length-key_words key n = length-map-range_with_len (λ i. take 4 (drop (4 * i) key)) 0 n

words-key_words : (key : List ℕ) (n : ℕ) → 4 * n ≤ length key → AreSmall key → All IsWord (key_words key n)
words-key_words key n room small = All-map IsWord (λ i. take 4 (drop (4 * i) key)) (range_with_len 0 n) (λ k d low.
    let inside : k < n = omega (arith, length-range_with_len 0 n) in
    let e : get_or (range_with_len 0 n) k d ≡ k = get_or-range_with_len 0 n k d inside ∙ omega arith in
    let fits : 4 ≤ length (drop (4 * k) key) = omega (arith, length-drop (4 * k) key) in
    let word : IsWord (take 4 (drop (4 * k) key)) = record { long = length-take-le 4 (drop (4 * k) key) fits; small = small-take 4 (drop (4 * k) key) (small-drop (4 * k) key small) } in
    rw e word)

block-round_key : (words : List (List ℕ)) (j : ℕ) → 4 * j + 4 ≤ length words → All IsWord words → IsBlock (round_key words j)
block-round_key words j room h =
    let w = λ (k : ℕ) (low : k < length words). All-get_or IsWord words k [] low h in
    let a = w (4 * j) (omega arith) in
    let b = w (4 * j + 1) (omega arith) in
    let c = w (4 * j + 2) (omega arith) in
    let d = w (4 * j + 3) (omega arith) in
    let ab : List ℕ = word_at words (4 * j) ++ word_at words (4 * j + 1) in
    let abc : List ℕ = ab ++ word_at words (4 * j + 2) in
    record {
      long = omega (
        arith,
        length-append (word_at words (4 * j)) (word_at words (4 * j + 1)),
        length-append ab (word_at words (4 * j + 2)),
        length-append abc (word_at words (4 * j + 3)),
        a.long,
        b.long,
        c.long,
        d.long,
      );
      small = small-append abc (word_at words (4 * j + 3))
          (small-append ab (word_at words (4 * j + 2)) (small-append (word_at words (4 * j)) (word_at words (4 * j + 1)) a.small b.small) c.small) d.small;
    }

blocks-round_keys : (words : List (List ℕ)) (n : ℕ) → 4 * n ≤ length words → All IsWord words → All IsBlock (round_keys words n)
blocks-round_keys words n room h = All-map IsBlock (round_key words) (range_with_len 0 n) (λ k d low.
    let inside : k < n = omega (arith, length-range_with_len 0 n) in
    let e : get_or (range_with_len 0 n) k d ≡ k = get_or-range_with_len 0 n k d inside ∙ omega arith in
    rw e (block-round_key words k (omega arith) h))

pub length-all_words : (nk : ℕ) (key : List ℕ) → length (all_words nk key) ≡ nk + (3 * nk + 28)
unfolding all_words
length-all_words nk key = omega (arith, length-with_next nk (key_words key nk) (3 * nk + 28), length-key_words key nk)

words-all_words : (nk : ℕ) (key : List ℕ) → 0 < nk → 4 * nk ≤ length key → AreSmall key → All IsWord (all_words nk key)
unfolding all_words
words-all_words nk key pos room small =
    words-with_next nk (key_words key nk) (3 * nk + 28) pos (omega (arith, length-key_words key nk)) (words-key_words key nk room small)

pub blocks-expand : (key : List ℕ) → 4 ≤ length key → AreSmall key → All IsBlock (expand key)
unfolding expand
blocks-expand key room small =
    let nk : ℕ = length key / 4 in
    blocks-round_keys (all_words nk key) (nk + 7) (omega (arith, length-all_words nk key)) (words-all_words nk key (omega arith) (omega arith) small)

pub length-expand : (key : List ℕ) → length (expand key) ≡ length key / 4 + 7
unfolding expand
length-expand key = length-map-range_with_len (round_key (all_words (length key / 4) key)) 0 (length key / 4 + 7)
