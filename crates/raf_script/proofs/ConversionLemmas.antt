-- A reading of a conversion, by what the text spells.
use Rattle.std.proofs.Common.{◌≡◌, ℕ, ◌+◌, true, List, [], ◌∷◌, length, map, Option, Some, Result, Ok, Err, refl, sym, ap, ◌∙◌, arith, rules, subst, inr}
use Rattle.std.specs.Prelude.{codes, if◌then◌else◌}
use Rattle.std.specs.List.{join_with_byte}
use Rattle.raf_format.specs.declared.algorithm_id.AlgorithmId.{AlgorithmId}
use Rattle.raf_format.specs.declared.version.Version.{Version}
use Rattle.raf_script.specs.Words.{words, number, hex_bytes}
use Rattle.raf_script.specs.Lines.{Gives, fits, first, lines}
use Rattle.raf_script.specs.Reading.{argument, algorithm_words, key_words, version_named, bytes_words, create_words, is_end, conversion}
use Rattle.raf_script.specs.Places.{IsFirstWrong}
use Rattle.raf_script.specs.Settings.{SpellsKey, version_word}
use Rattle.raf_script.specs.Conversion.{SpellsNamed, SpellsCreate, SpellsConversion, FitsConversion, ReadsConversion}
use Rattle.raf_script.specs.declared.conversion.Conversion.{Conversion}
use Rattle.raf_script.specs.declared.script.ScriptError.{ScriptError}
use Rattle.raf_script.specs.declared.script.ScriptError.TheVariants as errors
use Rattle.raf_script.proofs.ItemLemmas.{first_ok}
use Rattle.raf_script.proofs.ReadingLemmas.{by_bind, by_test, by_word, came, fits_ok, number_in, bytes_in, argument_spelled, version_spelled, line_joined, algorithm_spelled, key_spelled, text_spelled, Cut}
use Rattle.raf_script.proofs.SpellingLemmas.{IsWord, IsLine, AreAllLines, number_is_word, bytes_are_word, version_is_word, version_read, number_read, bytes_read, argument_read, algorithm_is_line, algorithm_read, key_is_line, key_read, words_of_line, lines_of_text}
use Rattle.raf_script.proofs.PlaceLemmas.{Names, err_value, names_ok, names_err, names_fits, names_if, names_bind, nonempty, Place, stuck, step}
use Rattle.raf_script.proofs.WrongLemmas.{names_argument, names_algorithm, names_key, ok_same}

-- ---- its own lines

named_spelled : (n : ℕ) (name : List ℕ) (ws : List (List ℕ)) (bytes : List ℕ) → bytes_words n name ws ≡ Ok bytes → SpellsNamed name ws bytes
unfolding bytes_words
named_spelled n name ws bytes h =
    by_bind (argument n name ws) _ bytes h (λ text got h. (text, argument_spelled n name ws text got, bytes_in n text bytes h))

named_read : (n : ℕ) (name : List ℕ) (ws : List (List ℕ)) (bytes : List ℕ) → SpellsNamed name ws bytes → bytes_words n name ws ≡ Ok bytes
unfolding bytes_words
named_read n name ws bytes h = rw (h.1, argument_read n name h.0, bytes_read h.0 bytes h.2) refl

named_is_line : (name : List ℕ) (ws : List (List ℕ)) (bytes : List ℕ) → IsWord name → SpellsNamed name ws bytes → IsLine ws
named_is_line name ws bytes word h = rw h.1 (omega arith, (word, (bytes_are_word h.0 bytes h.2, tt)))

names_named_bytes : (n : ℕ) (name : List ℕ) (ws : List (List ℕ)) → Names n (bytes_words n name ws)
unfolding bytes_words
names_named_bytes n name ws = names_bind n (argument n name ws) _ (names_argument n name ws) (λ text. names_fits n (hex_bytes text))

storage_is_line : (ws : List (List ℕ)) (bytes : List ℕ) → SpellsNamed (codes "storage") ws bytes → IsLine ws
storage_is_line ws bytes h = let word : IsWord (codes "storage") = search rules in named_is_line (codes "storage") ws bytes word h

random_is_line : (ws : List (List ℕ)) (bytes : List ℕ) → SpellsNamed (codes "random") ws bytes → IsLine ws
random_is_line ws bytes h = let word : IsWord (codes "random") = search rules in named_is_line (codes "random") ws bytes word h

create_spelled : (n : ℕ) (ws : List (List ℕ)) (c : ℕ × Version) → create_words n ws ≡ Ok c → SpellsCreate ws c.0 c.1
create_spelled n [] c h = (cc)
create_spelled n (w ∷ []) c h = (cc)
create_spelled n (w ∷ a ∷ []) c h = (cc)
create_spelled n (w ∷ text ∷ name ∷ []) c h =
    by_word w (codes "create") _ _ (Ok c) h (λ e h.
    by_bind (fits n (number 32 text)) _ c h (λ size read h.
    by_bind (fits n (version_named name)) _ c h (λ version named k.
    let is : name ≡ version_word version = version_spelled name version (fits_ok n (version_named name) version named) in
    came (λ (v : ℕ × Version). SpellsCreate (w ∷ text ∷ name ∷ []) v.0 v.1) (size, version) c k (text, (λ i. e i ∷ text ∷ is i ∷ []), number_in n 32 text size read)))) (λ k. (cc))
create_spelled n (w ∷ a ∷ b ∷ d ∷ more) c h = (cc)

create_read : (n : ℕ) (ws : List (List ℕ)) (size : ℕ) (v : Version) → SpellsCreate ws size v → create_words n ws ≡ Ok (size, v)
create_read n ws size v h = rw (h.1, number_read 32 h.0 size (omega arith) h.2, version_read v) refl

create_is_line : (ws : List (List ℕ)) (size : ℕ) (v : Version) → SpellsCreate ws size v → IsLine ws
create_is_line ws size v h =
    let word : IsWord (codes "create") = search rules in
    rw h.1 (omega arith, (word, (number_is_word 32 h.0 size (omega arith) h.2, (version_is_word v, tt))))

names_create : (n : ℕ) (ws : List (List ℕ)) → Names n (create_words n ws)
names_create n [] = names_err n
names_create n (w ∷ []) = names_err n
names_create n (w ∷ a ∷ []) = names_err n
names_create n (w ∷ a ∷ b ∷ []) = search (names_ok, names_err, names_if, names_fits, names_bind)
names_create n (w ∷ a ∷ b ∷ c ∷ more) = names_err n

-- ---- what was read is spelled

end_alone : (ls : List (Option (List ℕ))) → is_end ls ≡ true → ls ≡ []
end_alone [] h = refl
end_alone (l ∷ more) h = (cc)

-- a text cut into so many lines is these lines
cut_one : (n : ℕ) (ls after : List (Option (List ℕ))) (l : Cut) (wss : List (List (List ℕ))) → first n ls ≡ Ok l → l.1 ≡ map (λ ws. Some (join_with_byte 32 ws)) wss
    → ls ≡ map (λ ws. Some (join_with_byte 32 ws)) (words l.0 ∷ wss)
cut_one n ls after l wss found rest = first_ok n ls l.0 l.1 found ∙ (λ i. Some (line_joined l.0 i) ∷ rest i)

pub conversion_spelled : (text : List ℕ) (c : Conversion) → conversion text ≡ Ok c → SpellsConversion text c
unfolding conversion
conversion_spelled text c h =
    by_bind (first 1 (lines text)) _ c h (λ l1 r1 h.
    by_bind (algorithm_words 1 (words l1.0)) _ c h (λ a ra h.
    by_bind (first 2 l1.1) _ c h (λ l2 r2 h.
    by_bind (key_words 2 a (words l2.0)) _ c h (λ k rk h.
    by_bind (first 3 l2.1) _ c h (λ l3 r3 h.
    by_bind (bytes_words 3 (codes "storage") (words l3.0)) _ c h (λ s rs h.
    by_bind (first 4 l3.1) _ c h (λ l4 r4 h.
    by_bind (algorithm_words 4 (words l4.0)) _ c h (λ a' ra' h.
    by_bind (first 5 l4.1) _ c h (λ l5 r5 h.
    by_bind (key_words 5 a' (words l5.0)) _ c h (λ k' rk' h.
    by_bind (first 6 l5.1) _ c h (λ l6 r6 h.
    by_bind (bytes_words 6 (codes "random") (words l6.0)) _ c h (λ r rr h.
    by_bind (first 7 l6.1) _ c h (λ l7 r7 h.
    by_bind (create_words 7 (words l7.0)) _ c h (λ n rn h.
    by_test (is_end l7.1) _ _ (Ok c) h (λ over same.
    let c7 = cut_one 7 l6.1 l6.1 l7 [] r7 (end_alone l7.1 over) in
    let c6 = cut_one 6 l5.1 l5.1 l6 (words l7.0 ∷ []) r6 c7 in
    let c5 = cut_one 5 l4.1 l4.1 l5 (words l6.0 ∷ words l7.0 ∷ []) r5 c6 in
    let c4 = cut_one 4 l3.1 l3.1 l4 (words l5.0 ∷ words l6.0 ∷ words l7.0 ∷ []) r4 c5 in
    let c3 = cut_one 3 l2.1 l2.1 l3 (words l4.0 ∷ words l5.0 ∷ words l6.0 ∷ words l7.0 ∷ []) r3 c4 in
    let c2 = cut_one 2 l1.1 l1.1 l2 (words l3.0 ∷ words l4.0 ∷ words l5.0 ∷ words l6.0 ∷ words l7.0 ∷ []) r2 c3 in
    let c1 = cut_one 1 (lines text) (lines text) l1 (words l2.0 ∷ words l3.0 ∷ words l4.0 ∷ words l5.0 ∷ words l6.0 ∷ words l7.0 ∷ []) r1 c2 in
    came (SpellsConversion text) (record { old_algorithm = a; old_key = k; storage = s; algorithm = a'; key = k'; random = r; chunk_size = n.0; version = n.1 }) c same (record {
      old_algorithm_line = words l1.0;
      old_key_line = words l2.0;
      storage_line = words l3.0;
      algorithm_line = words l4.0;
      key_line = words l5.0;
      random_line = words l6.0;
      create_line = words l7.0;
      spelled = text_spelled text (words l1.0 ∷ words l2.0 ∷ words l3.0 ∷ words l4.0 ∷ words l5.0 ∷ words l6.0 ∷ words l7.0 ∷ []) c1;
      old_algorithm = algorithm_spelled 1 (words l1.0) a ra;
      old_key = key_spelled 2 a (words l2.0) k rk;
      storage = named_spelled 3 (codes "storage") (words l3.0) s rs;
      algorithm = algorithm_spelled 4 (words l4.0) a' ra';
      key = key_spelled 5 a' (words l5.0) k' rk';
      random = named_spelled 6 (codes "random") (words l6.0) r rr;
      create = create_spelled 7 (words l7.0) n rn;
    })) (λ odd. (cc))))))))))))))))

-- ---- what is spelled is read

pub conversion_line : (before : List (List (List ℕ))) (ws : List (List ℕ)) → FitsConversion before ws → IsLine ws
conversion_line [] ws h = algorithm_is_line ws h.0 h.1
conversion_line (a ∷ []) ws h = key_is_line h.0 ws h.1 h.3
conversion_line (a ∷ b ∷ []) ws h = storage_is_line ws h.0 h.1
conversion_line (a ∷ b ∷ c ∷ []) ws h = algorithm_is_line ws h.0 h.1
conversion_line (a ∷ b ∷ c ∷ d ∷ []) ws h = key_is_line h.0 ws h.1 h.3
conversion_line (a ∷ b ∷ c ∷ d ∷ e ∷ []) ws h = random_is_line ws h.0 h.1
conversion_line (a ∷ b ∷ c ∷ d ∷ e ∷ f ∷ []) ws h = create_is_line ws h.0 h.1 h.2
conversion_line (a ∷ b ∷ c ∷ d ∷ e ∷ f ∷ g ∷ more) ws h = absurd h

pub conversion_read : (text : List ℕ) (c : Conversion) → SpellsConversion text c → conversion text ≡ Ok c
unfolding conversion
conversion_read text c h =
    let l1 = algorithm_is_line h.old_algorithm_line c.old_algorithm h.old_algorithm in
    let l2 = key_is_line c.old_algorithm h.old_key_line c.old_key h.old_key in
    let l3 = storage_is_line h.storage_line c.storage h.storage in
    let l4 = algorithm_is_line h.algorithm_line c.algorithm h.algorithm in
    let l5 = key_is_line c.algorithm h.key_line c.key h.key in
    let l6 = random_is_line h.random_line c.random h.random in
    let l7 = create_is_line h.create_line c.chunk_size c.version h.create in
    let all : AreAllLines (h.old_algorithm_line ∷ h.old_key_line ∷ h.storage_line ∷ h.algorithm_line ∷ h.key_line ∷ h.random_line ∷ h.create_line ∷ [])
    = (l1.0, l1.1, (l2.0, l2.1, (l3.0, l3.1, (l4.0, l4.1, (l5.0, l5.1, (l6.0, l6.1, (l7.0, l7.1, tt))))))) in
    let cut = ap lines h.spelled ∙ lines_of_text (h.old_algorithm_line ∷ h.old_key_line ∷ h.storage_line ∷ h.algorithm_line ∷ h.key_line ∷ h.random_line ∷ h.create_line ∷ []) all in
    rw (
      cut,
      words_of_line h.old_algorithm_line l1.0 l1.1,
      algorithm_read 1 h.old_algorithm_line c.old_algorithm h.old_algorithm,
      words_of_line h.old_key_line l2.0 l2.1,
      key_read 2 c.old_algorithm h.old_key_line c.old_key h.old_key,
      words_of_line h.storage_line l3.0 l3.1,
      named_read 3 (codes "storage") h.storage_line c.storage h.storage,
      words_of_line h.algorithm_line l4.0 l4.1,
      algorithm_read 4 h.algorithm_line c.algorithm h.algorithm,
      words_of_line h.key_line l5.0 l5.1,
      key_read 5 c.algorithm h.key_line c.key h.key,
      words_of_line h.random_line l6.0 l6.1,
      named_read 6 (codes "random") h.random_line c.random h.random,
      words_of_line h.create_line l7.0 l7.1,
      create_read 7 h.create_line c.chunk_size c.version h.create,
    ) refl

-- ---- the line that is named is the first that doesn't fit

left_over : (text : List ℕ) (before : List (List (List ℕ))) (rest : List ℕ) (ls : List (Option (List ℕ))) (c : Conversion) (m : ℕ) → Place FitsConversion text before rest → lines rest ≡ ls → 8 ≡ length before + 1
    → ((ws : List (List ℕ)) → FitsConversion before ws → ⊥) → (if is_end ls then Ok c else Err 8) ≡ Err m → IsFirstWrong FitsConversion 7 text m
left_over text before rest [] c m p shape number none h = (cc)
left_over text before rest (l ∷ more) c m p shape number none h =
    let same : 8 ≡ m = err_value h in
    subst (IsFirstWrong FitsConversion 7 text) same (stuck FitsConversion 7 conversion_line text before rest 8 p number (inr (nonempty rest l more shape)) (λ ws after is e f. none ws f))

pub wrong_conversion : (text : List ℕ) (m : ℕ) → conversion text ≡ Err m → IsFirstWrong FitsConversion 7 text m
unfolding conversion
wrong_conversion text m h =
    step FitsConversion 7 conversion_line [] (algorithm_words 1) (λ ws f. (f.0, algorithm_read 1 ws f.0 f.1)) text text (lines text) 1 m _ (record { split = refl; fit = tt }) refl refl (omega arith) (names_algorithm 1)
    (λ ws a got. (a, algorithm_spelled 1 ws a got)) h (λ l1 a b1 ra p1 s1 h.
    step FitsConversion 7 conversion_line (words l1.0 ∷ []) (key_words 2 a)
    (λ ws f. let same : f.0 ≡ a = ok_same (sym (algorithm_read 1 (words l1.0) f.0 f.2) ∙ ra) in (f.1, key_read 2 a ws f.1 (subst (λ (v : AlgorithmId). SpellsKey v ws f.1) same f.3)))
    text b1 l1.1 2 m _ p1 s1 refl (omega arith) (names_key 2 a)
    (λ ws key got. (a, key, algorithm_spelled 1 (words l1.0) a ra, key_spelled 2 a ws key got)) h (λ l2 key b2 rk p2 s2 h.
    step FitsConversion 7 conversion_line (words l1.0 ∷ words l2.0 ∷ []) (bytes_words 3 (codes "storage")) (λ ws f. (f.0, named_read 3 (codes "storage") ws f.0 f.1)) text b2 l2.1 3 m _ p2 s2 refl (omega arith)
    (names_named_bytes 3 (codes "storage")) (λ ws s got. (s, named_spelled 3 (codes "storage") ws s got)) h (λ l3 s b3 rs p3 s3 h.
    step FitsConversion 7 conversion_line (words l1.0 ∷ words l2.0 ∷ words l3.0 ∷ []) (algorithm_words 4) (λ ws f. (f.0, algorithm_read 4 ws f.0 f.1)) text b3 l3.1 4 m _ p3 s3 refl (omega arith) (names_algorithm 4)
    (λ ws a got. (a, algorithm_spelled 4 ws a got)) h (λ l4 a' b4 ra' p4 s4 h.
    step FitsConversion 7 conversion_line (words l1.0 ∷ words l2.0 ∷ words l3.0 ∷ words l4.0 ∷ []) (key_words 5 a')
    (λ ws f. let same : f.0 ≡ a' = ok_same (sym (algorithm_read 4 (words l4.0) f.0 f.2) ∙ ra') in (f.1, key_read 5 a' ws f.1 (subst (λ (v : AlgorithmId). SpellsKey v ws f.1) same f.3)))
    text b4 l4.1 5 m _ p4 s4 refl (omega arith) (names_key 5 a')
    (λ ws key got. (a', key, algorithm_spelled 4 (words l4.0) a' ra', key_spelled 5 a' ws key got)) h (λ l5 key' b5 rk' p5 s5 h.
    step FitsConversion 7 conversion_line (words l1.0 ∷ words l2.0 ∷ words l3.0 ∷ words l4.0 ∷ words l5.0 ∷ []) (bytes_words 6 (codes "random")) (λ ws f. (f.0, named_read 6 (codes "random") ws f.0 f.1))
    text b5 l5.1 6 m _ p5 s5 refl (omega arith) (names_named_bytes 6 (codes "random")) (λ ws r got. (r, named_spelled 6 (codes "random") ws r got)) h (λ l6 r b6 rr p6 s6 h.
    step FitsConversion 7 conversion_line (words l1.0 ∷ words l2.0 ∷ words l3.0 ∷ words l4.0 ∷ words l5.0 ∷ words l6.0 ∷ []) (create_words 7) (λ ws f. ((f.0, f.1), create_read 7 ws f.0 f.1 f.2))
    text b6 l6.1 7 m _ p6 s6 refl (omega arith) (names_create 7) (λ ws n got. (n.0, n.1, create_spelled 7 ws n got)) h (λ l7 n b7 rn p7 s7 h.
    left_over text (words l1.0 ∷ words l2.0 ∷ words l3.0 ∷ words l4.0 ∷ words l5.0 ∷ words l6.0 ∷ words l7.0 ∷ []) b7 l7.1 _ m p7 s7 refl (λ ws f. f) h)))))))

-- ---- the whole

pub conversion_content : (text : List ℕ) (r : Result Conversion ScriptError) → Gives (λ c. c) r (conversion text) → ReadsConversion text r
conversion_content text (Ok c) h = conversion_spelled text c h
conversion_content text (Err (errors.Line n)) h = (wrong_conversion text n h, λ c spelled. let clash = sym h ∙ conversion_read text c spelled in (cc))
conversion_content text (Err errors.OutOfMemory) h = tt
