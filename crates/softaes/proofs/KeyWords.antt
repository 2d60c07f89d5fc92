-- The words of a key schedule, each kept as a number of 32 bits.
use Rattle.std.proofs.Common.{◌≡◌, ℕ, ◌+◌, ◌-◌, ◌*◌, ◌/◌, ◌%◌, ◌<◌, ◌≤◌, Bool, true, ◌==◌, ◌&&◌, nat_lt, List, [], ◌∷◌, ◌++◌, length, map, take, drop, set, slice_index, bit_xor, refl, ap, ◌∙◌, arith, add-one}
use Rattle.std.proofs.lemmas.Bool.{and_parts, eq-eqb, eqb-true, ltb-true}
use Rattle.std.proofs.lemmas.List.{get_or-map, length-map, map-append}
use Rattle.std.proofs.lemmas.List.FromFn.{map-range_with_len_more}
use Rattle.std.proofs.lemmas.Grind.{take-set_at}
use Rattle.std.proofs.lemmas.Nat.{xor_mod}
use Rattle.std.proofs.Math.Nat.{mul-div-le}
use Rattle.std.specs.Int.{to_le_bytes, w32}
use Rattle.aes_spec.specs.Bytes.{on_bytes, xor_bytes}
use Rattle.aes_spec.specs.Field.{carryless, remainder, mul}
use Rattle.aes_spec.specs.KeySchedule.{power, changed, key_words, next_word, rot_word, sub_word, with_next, word_at}
use Rattle.aes_spec.proofs.Linear.{byte-xor}
use Rattle.aes_spec.proofs.Tables.{all_below, all_below_at}
use Rattle.softaes.specs.declared.schedule.TheConstants.{ROUND_CONSTANTS}

-- the bytes of a word
abbrev pub le : ℕ → List ℕ
le = to_le_bytes w32

pub le-xor : (a b : ℕ) → le (bit_xor a b) ≡ xor_bytes (le a) (le b)
unfolding on_bytes
le-xor a b = λ i. xor_mod a b 8 i ∷ byte-xor a b 1 i ∷ byte-xor a b 2 i ∷ byte-xor a b 3 i ∷ []

-- ---- the round constants

abbrev constant_test : ℕ → Bool
constant_test j = (slice_index ROUND_CONSTANTS j == power j) && nat_lt (slice_index ROUND_CONSTANTS j) 256

constants_right : all_below constant_test 10 ≡ true
unfolding carryless remainder mul power
constants_right = refl

one_byte : (x : ℕ) → x < 256 → le x ≡ x ∷ 0 ∷ 0 ∷ 0 ∷ []
one_byte x h =
    let e0 : x % 256 ≡ x = omega arith in
    let e1 : x / 256 % 256 ≡ 0 = omega arith in
    let e2 : x / 65536 % 256 ≡ 0 = omega arith in
    let e3 : x / 16777216 % 256 ≡ 0 = omega arith in
    λ i. e0 i ∷ e1 i ∷ e2 i ∷ e3 i ∷ []

le-constant : (j : ℕ) → j < 10 → le (slice_index ROUND_CONSTANTS j) ≡ power j ∷ 0 ∷ 0 ∷ 0 ∷ []
le-constant j h =
    let parts = and_parts (slice_index ROUND_CONSTANTS j == power j) (nat_lt (slice_index ROUND_CONSTANTS j) 256) (all_below_at constant_test 10 j constants_right h) in
    one_byte (slice_index ROUND_CONSTANTS j) (ltb-true (slice_index ROUND_CONSTANTS j) 256 parts.1)
    ∙ ap (λ (x : ℕ). x ∷ 0 ∷ 0 ∷ 0 ∷ []) (eqb-true (slice_index ROUND_CONSTANTS j) (power j) parts.0)

-- ---- one more word

-- every own-th word
pub changed_at : (own i s : ℕ) (t : List ℕ) → i % own ≡ 0 → i / own - 1 < 10 → le s ≡ sub_word (rot_word t)
    → le (bit_xor s (slice_index ROUND_CONSTANTS (i / own - 1))) ≡ changed own i t
changed_at own i s t whole few e =
    let test : (i % own == 0) ≡ true = eq-eqb (i % own) 0 whole in
    let k : ℕ = slice_index ROUND_CONSTANTS (i / own - 1) in
    rw test (le-xor s k ∙ (λ x. xor_bytes (e x) (le-constant (i / own - 1) few x)))

word_at-map : (ws : List ℕ) (j : ℕ) → j < length ws → word_at (map le ws) j ≡ le (slice_index ws j)
word_at-map ws j h = get_or-map le ws j 0 [] h

pub next_word-map : (own : ℕ) (ws : List ℕ) (v : ℕ) → 0 < own → own ≤ length ws → le v ≡ changed own (length ws) (le (slice_index ws (length ws - 1)))
    → le (bit_xor (slice_index ws (length ws - own)) v) ≡ next_word own (map le ws)
unfolding next_word
next_word-map own ws v pos some e =
    let i : ℕ = length ws in
    let n : length (map le ws) ≡ i = length-map ws le in
    let far : word_at (map le ws) (i - own) ≡ le (slice_index ws (i - own)) = word_at-map ws (i - own) (omega arith) in
    let near : word_at (map le ws) (i - 1) ≡ le (slice_index ws (i - 1)) = word_at-map ws (i - 1) (omega arith) in
    rw (n, far, near) (le-xor (slice_index ws (i - own)) v ∙ ap (xor_bytes (le (slice_index ws (i - own)))) e)

-- one more word of a list that grows by the loop
pub one_more : (ws : List ℕ) (i v : ℕ) → i < length ws → map le (take (i + 1) (set ws i v)) ≡ map le (take i ws) ++ le v ∷ []
one_more ws i v h = ap (map le) (take-set_at ws i (i + 1) v refl h) ∙ map-append le (take i ws) (v ∷ [])

pub key_words_more : (key : List ℕ) (i : ℕ) → key_words key (i + 1) ≡ key_words key i ++ take 4 (drop (4 * i) key) ∷ []
key_words_more key i = map-range_with_len_more (λ k. take 4 (drop (4 * k) key)) 0 i i (omega arith)

pub with_next_more : (own n : ℕ) (words : List (List ℕ)) → with_next own words (n + 1) ≡ with_next own words n ++ next_word own (with_next own words n) ∷ []
unfolding with_next
with_next_more own n words = rw (add-one n) refl

pub with_next_none : (own : ℕ) (words : List (List ℕ)) → with_next own words 0 ≡ words
unfolding with_next
with_next_none own words = refl

-- the number of the round constant
pub count_small : (own i : ℕ) → 0 < own → i < 11 * own → i / own - 1 < 10
count_small own i pos few = let h : own * (i / own) ≤ i = mul-div-le i own in grind arith
