-- Where a text of five lines of settings and a line an item reads as no content, the line that is named is the first that doesn't fit.
use Rattle.std.proofs.Common.{◌≡◌, ℕ, ◌+◌, List, [], ◌∷◌, ◌++◌, length, Option, Some, None, Result, Ok, Err, refl, sym, ◌∙◌, arith, subst, inr}
use Rattle.std.specs.Prelude.{bytes_eq, codes, ◌==◌}
use Rattle.std.specs.List.{join_with_byte}
use Rattle.std.proofs.lemmas.List.{length-append}
use Rattle.aegis_core.specs.Sealing.{key_len}
use Rattle.raf_format.specs.Numbers.{variant_of}
use Rattle.raf_format.specs.declared.algorithm_id.AlgorithmId.{AlgorithmId}
use Rattle.raf_script.specs.Words.{words, number, hex_bytes}
use Rattle.raf_script.specs.Lines.{fits, lines}
use Rattle.raf_script.specs.Reading.{plain_command, truncate_command, range_command, command_words, plain_log_command, entry_command, log_command_words, items, argument, algorithm_named, algorithm_words, key_words, randomness_words, tree_words, start_words, settings, whole}
use Rattle.raf_script.specs.Places.{IsFirstWrong}
use Rattle.raf_script.specs.Settings.{SpellsKey, FitsLines}
use Rattle.raf_script.specs.declared.script.Medium.{Medium}
use Rattle.raf_script.proofs.PlaceLemmas.{Names, err_value, names_ok, names_err, names_fits, names_if, names_bind, by_err, nonempty, Place, onward, stuck, unread, step}
use Rattle.raf_script.proofs.ReadingLemmas.{five_read, algorithm_spelled, key_spelled, randomness_spelled, tree_spelled, start_spelled}
use Rattle.raf_script.proofs.SpellingLemmas.{IsLine, fits_line, algorithm_read, key_read, randomness_read, tree_read, start_read}

-- ---- the readings of a line name it

pub names_argument : (n : ℕ) (name : List ℕ) (ws : List (List ℕ)) → Names n (argument n name ws)
unfolding argument
names_argument n name [] = names_err n
names_argument n name (w ∷ []) = names_err n
names_argument n name (w ∷ a ∷ []) = names_if n (bytes_eq w name) (Ok a) (Err n) (names_ok n a) (names_err n)
names_argument n name (w ∷ a ∷ b ∷ more) = names_err n

names_named : (n : ℕ) (w : List ℕ) → Names n (algorithm_named n w)
unfolding algorithm_named
names_named n w = search (names_ok, names_err, names_if) depth 9

pub names_algorithm : (n : ℕ) (ws : List (List ℕ)) → Names n (algorithm_words n ws)
unfolding algorithm_words
names_algorithm n ws = names_bind n (argument n (codes "alg") ws) (algorithm_named n) (names_argument n (codes "alg") ws) (names_named n)

pub names_key : (n : ℕ) (a : AlgorithmId) (ws : List (List ℕ)) → Names n (key_words n a ws)
unfolding key_words
names_key n a ws = names_bind n (argument n (codes "key") ws) _ (names_argument n (codes "key") ws) (λ text.
    names_bind n (fits n (hex_bytes text)) _ (names_fits n (hex_bytes text)) (λ key.
    names_if n (length key == key_len (variant_of a)) (Ok key) (Err n) (names_ok n key) (names_err n)))

names_randomness : (n : ℕ) (ws : List (List ℕ)) → Names n (randomness_words n ws)
names_randomness n [] = names_err n
names_randomness n (w ∷ []) = names_err n
names_randomness n (w ∷ text ∷ []) = search (names_ok, names_err, names_if, names_fits, names_bind)
names_randomness n (w ∷ a ∷ b ∷ more) = names_err n

names_tree : (n : ℕ) (ws : List (List ℕ)) → Names n (tree_words n ws)
names_tree n [] = names_err n
names_tree n (w ∷ []) = names_err n
names_tree n (w ∷ a ∷ []) = search (names_ok, names_err, names_if)
names_tree n (w ∷ a ∷ b ∷ []) = search (names_ok, names_err, names_if, names_fits, names_bind)
names_tree n (w ∷ a ∷ b ∷ c ∷ more) = names_err n

names_start : (n : ℕ) (medium : Medium) (ws : List (List ℕ)) → Names n (start_words n medium ws)
names_start n medium [] = names_err n
names_start n medium (w ∷ []) = names_err n
names_start n medium (w ∷ a ∷ []) = search (names_ok, names_err, names_if, names_fits, names_bind)
names_start n medium (w ∷ a ∷ b ∷ []) = search (names_ok, names_err, names_if, names_fits, names_bind)
names_start n medium (w ∷ a ∷ b ∷ c ∷ more) = names_err n

pub names_command : (n : ℕ) (ws : List (List ℕ)) → Names n (command_words n ws)
unfolding plain_command truncate_command range_command
names_command n [] = names_err n
names_command n (w ∷ []) = search (names_ok, names_err, names_if) depth 9
names_command n (w ∷ a ∷ []) = search (names_ok, names_err, names_if, names_fits, names_bind)
names_command n (w ∷ a ∷ b ∷ []) = search (names_ok, names_err, names_if, names_fits, names_bind)
names_command n (w ∷ a ∷ b ∷ c ∷ more) = names_err n

pub names_log_command : (n : ℕ) (ws : List (List ℕ)) → Names n (log_command_words n ws)
unfolding plain_log_command entry_command
names_log_command n [] = names_err n
names_log_command n (w ∷ []) = search (names_ok, names_err, names_if)
names_log_command n (w ∷ a ∷ []) = search (names_ok, names_err, names_if, names_fits, names_bind)
names_log_command n (w ∷ a ∷ b ∷ more) = names_err n

-- ---- the whole

pub ok_same : {A : Type 0} {x y : A} → ◌≡◌ {A = Result A ℕ} (Ok x) (Ok y) → x ≡ y
ok_same h = (cc)

module _ {C : Type 0} (SpellsItem : List (List ℕ) → C → Type 0) (item : ℕ → List (List ℕ) → Result C ℕ)
    (is_line : (ws : List (List ℕ)) (c : C) → SpellsItem ws c → IsLine ws)
    (read : (n : ℕ) (ws : List (List ℕ)) (c : C) → SpellsItem ws c → item n ws ≡ Ok c)
    (spelled : (n : ℕ) (ws : List (List ℕ)) (c : C) → item n ws ≡ Ok c → SpellsItem ws c)
    (names : (n : ℕ) (ws : List (List ℕ)) → Names n (item n ws))
    (medium : Medium) (text : List ℕ) where
  abbrev Fits : List (List (List ℕ)) → List (List ℕ) → Type 0
  Fits = FitsLines SpellsItem medium

  line : (before : List (List (List ℕ))) (ws : List (List ℕ)) → Fits before ws → IsLine ws
  line = fits_line SpellsItem item is_line medium

  module _ (a b c d e : List (List ℕ)) where
    abbrev Before : List (List (List ℕ)) → List (List (List ℕ))
    Before done = a ∷ b ∷ c ∷ d ∷ e ∷ done

    wrong_item : (ls : List (Option (List ℕ))) (n m : ℕ) (done : List (List (List ℕ))) (rest : List ℕ) → Place Fits text (Before done) rest → lines rest ≡ ls → n ≡ length (Before done) + 1
        → items item n ls ≡ Err m → IsFirstWrong Fits 5 text m
    unfolding items
    wrong_item [] n m done rest p shape number h = (cc)
    wrong_item (None ∷ more) n m done rest p shape number h =
        let same : n ≡ m = err_value h in
        subst (IsFirstWrong Fits 5 text) same (stuck Fits 5 line text (Before done) rest n p number (inr (nonempty rest None more shape)) (λ ws after is e f.
        let odd : ◌≡◌ {A = List (Option (List ℕ))} (None ∷ more) (Some (join_with_byte 32 ws) ∷ lines after) = sym shape ∙ e in
        (cc)))
    wrong_item (Some l ∷ more) n m done rest p shape number h =
        let fitting : (ws : List (List ℕ)) → Fits (Before done) ws → (x : C) × (item n ws ≡ Ok x) = λ ws f. (f.0, read n ws f.0 f.1) in
        by_err (item n (words l)) _ m h
        (λ wrong. unread Fits 5 line (Before done) (item n) fitting text rest n m l more p number (inr (nonempty rest (Some l) more shape)) (names n (words l)) shape wrong)
        (λ x got h. by_err (items item (n + 1) more) _ m h
        (λ later.
        let here : Fits (Before done) (words l) = (x, spelled n (words l) x got) in
        let next = onward Fits text (Before done) rest (Some l ∷ more) n (l, more) p shape refl here in
        let count : n + 1 ≡ length (Before (done ++ words l ∷ [])) + 1 = rw (length-append done (words l ∷ [])) (omega (arith, number)) in
        wrong_item more (n + 1) m (done ++ words l ∷ []) next.0 next.1 next.2 count later)
        (λ cs got' h. (cc)))

  abbrev at_front : Place Fits text [] text
  at_front = record { split = refl; fit = tt }

  wrong_settings : (m : ℕ) → settings medium text ≡ Err m → IsFirstWrong Fits 5 text m
  unfolding settings
  wrong_settings m h =
      step Fits 5 line [] (algorithm_words 1) (λ ws f. (f.0, algorithm_read 1 ws f.0 f.1)) text text (lines text) 1 m _ at_front refl refl (omega arith) (names_algorithm 1)
      (λ ws a got. (a, algorithm_spelled 1 ws a got)) h (λ l1 a b1 ra p1 s1 h.
      step Fits 5 line (words l1.0 ∷ []) (key_words 2 a)
      (λ ws f. let same : f.0 ≡ a = ok_same (sym (algorithm_read 1 (words l1.0) f.0 f.2) ∙ ra) in (f.1, key_read 2 a ws f.1 (subst (λ (v : AlgorithmId). SpellsKey v ws f.1) same f.3)))
      text b1 l1.1 2 m _ p1 s1 refl (omega arith) (names_key 2 a)
      (λ ws key got. (a, key, algorithm_spelled 1 (words l1.0) a ra, key_spelled 2 a ws key got)) h (λ l2 key b2 rk p2 s2 h.
      step Fits 5 line (words l1.0 ∷ words l2.0 ∷ []) (randomness_words 3) (λ ws f. (f.0, randomness_read 3 ws f.0 f.1)) text b2 l2.1 3 m _ p2 s2 refl (omega arith) (names_randomness 3)
      (λ ws r got. (r, randomness_spelled 3 ws r got)) h (λ l3 r b3 rr p3 s3 h.
      step Fits 5 line (words l1.0 ∷ words l2.0 ∷ words l3.0 ∷ []) (tree_words 4) (λ ws f. (f.0, tree_read 4 ws f.0 f.1)) text b3 l3.1 4 m _ p3 s3 refl (omega arith) (names_tree 4)
      (λ ws t got. (t, tree_spelled 4 ws t got)) h (λ l4 t b4 rt p4 s4 h.
      step Fits 5 line (words l1.0 ∷ words l2.0 ∷ words l3.0 ∷ words l4.0 ∷ []) (start_words 5 medium) (λ ws f. (f.0, start_read 5 medium ws f.0 f.1)) text b4 l4.1 5 m _ p4 s4 refl (omega arith) (names_start 5 medium)
      (λ ws s got. (s, start_spelled 5 medium ws s got)) h (λ l5 s b5 rs p5 s5 h. (cc))))))

  pub wrong_lines : (m : ℕ) → whole item medium text ≡ Err m → IsFirstWrong Fits 5 text m
  wrong_lines m h =
      by_err (settings medium text) _ m h (wrong_settings m) (λ st got h.
      let five = five_read medium text st got in
      let n1 = onward Fits text [] text (lines text) 1 five.l1 at_front refl five.first1 (st.0.algorithm, algorithm_spelled 1 (words five.l1.0) st.0.algorithm five.algorithm) in
      let n2 = onward Fits text (words five.l1.0 ∷ []) n1.0 five.l1.1 2 five.l2 n1.1 n1.2 five.first2
      (st.0.algorithm, st.0.key, algorithm_spelled 1 (words five.l1.0) st.0.algorithm five.algorithm, key_spelled 2 st.0.algorithm (words five.l2.0) st.0.key five.key) in
      let n3 = onward Fits text (words five.l1.0 ∷ words five.l2.0 ∷ []) n2.0 five.l2.1 3 five.l3 n2.1 n2.2 five.first3 (st.0.randomness, randomness_spelled 3 (words five.l3.0) st.0.randomness five.randomness) in
      let n4 = onward Fits text (words five.l1.0 ∷ words five.l2.0 ∷ words five.l3.0 ∷ []) n3.0 five.l3.1 4 five.l4 n3.1 n3.2 five.first4 (st.0.max_chunks, tree_spelled 4 (words five.l4.0) st.0.max_chunks five.tree) in
      let n5 = onward Fits text (words five.l1.0 ∷ words five.l2.0 ∷ words five.l3.0 ∷ words five.l4.0 ∷ []) n4.0 five.l4.1 5 (five.l5, st.1) n4.1 n4.2 five.first5 (st.0.start, start_spelled 5 medium (words five.l5) st.0.start five.start) in
      by_err (items item 6 st.1) _ m h
      (wrong_item (words five.l1.0) (words five.l2.0) (words five.l3.0) (words five.l4.0) (words five.l5) st.1 6 m [] n5.0 n5.1 n5.2 refl)
      (λ cs got' h. (cc)))
