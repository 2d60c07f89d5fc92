-- What is spelled is read: a text that spells a content reads as that content.
use Rattle.std.proofs.Common.{◌≡◌, ℕ, ◌+◌, ◌^◌, ◌<◌, ◌≤◌, Bool, true, false, List, [], ◌∷◌, ◌++◌, length, map, Option, Some, None, Result, Ok, refl, sym, ap, ◌∙◌, append_assoc, arith, rules, inl, inr}
use Rattle.std.specs.Prelude.{decimal, bytes_eq, codes, if◌then◌else◌, nat_eq, ◌==◌, ⊤, ◌⊎◌}
use Rattle.std.specs.List.{join_with_byte, All, AllZip}
use Rattle.std.specs.Str.Parse.{digits_value}
use Rattle.std.proofs.lemmas.Bool.{ne_eqb, eq-eqb}
use Rattle.std.proofs.lemmas.Fmt.{decimal_is_IsNumeral}
use Rattle.std.proofs.lemmas.Str.Parse.{digit_at}
use Rattle.std.proofs.lemmas.List.Elements.{All-weaker, All-append, All-cons, All-from_get_or, All-nil}
use Rattle.std.proofs.lemmas.List.Splits.{slice_split_at, slice_split_none}
use Rattle.std.proofs.lemmas.Slice.Eq.{bytes_eq-Decides}
use Rattle.hex.specs.Hex.{decode_of, is_hex_digit}
use Rattle.hex.proofs.HexLemmas.{decode_of-ok}
use Rattle.raf.specs.declared.command.Command.{Command}
use Rattle.raf.specs.declared.command.Command.TheVariants.{Read, Write, Size, Truncate, Sync, Rebuild, Verify, Commitment}
use Rattle.aegis_core.specs.Sealing.{key_len}
use Rattle.raf_format.specs.Numbers.{variant_of}
use Rattle.raf_format.specs.declared.algorithm_id.AlgorithmId.{AlgorithmId}
use Rattle.raf_format.specs.declared.algorithm_id.AlgorithmId.TheVariants.{Aegis128L, Aegis128X2, Aegis128X4, Aegis256, Aegis256X2, Aegis256X4}
use Rattle.raf_format.specs.declared.version.Version.{Version}
use Rattle.raf_format.specs.declared.version.Version.TheVariants.{V1, V2}
use Rattle.raf_script.specs.Words.{parts, words, number, hex_bytes, some_bytes}
use Rattle.raf_script.specs.Lines.{fits, lines}
use Rattle.raf_script.specs.Reading.{plain_command, truncate_command, range_command, command_words, items, argument, algorithm_named, algorithm_words, key_words, randomness_words, tree_words, version_named, may_hold, start_words, settings, whole}
use Rattle.raf_script.specs.Places.{line_text, text_of}
use Rattle.raf_script.specs.Settings.{SpellsNumber, SpellsBytes, name_of, version_word, SpellsAlgorithm, SpellsKey, SpellsRandomness, SpellsTree, MayHold, SpellsStart, SpellsLines, FitsLines}
use Rattle.raf_script.specs.Script.{SpellsCommand}
use Rattle.raf_script.specs.declared.script.Medium.{Medium}
use Rattle.raf_script.specs.declared.script.Medium.TheVariants.{Memory, Disk}
use Rattle.raf_script.specs.declared.script.Randomness.{Randomness}
use Rattle.raf_script.specs.declared.script.Randomness.TheVariants.{Random, Seed}
use Rattle.raf_script.specs.declared.script.Start.{Start}
use Rattle.raf_script.specs.declared.script.Start.TheVariants.{Storage, Create}
use Rattle.raf_script.specs.declared.script.Settings.{Settings}
use Rattle.raf_script.proofs.NumberLemmas.{number_some}
use Rattle.raf_script.proofs.PartsLemmas.{parts_cons}

-- ---- a word has bytes above the space alone

abbrev pub IsWord : List ℕ → Type 0
IsWord word = All (λ b. 32 < b) word

abbrev pub AreAllWords : List (List ℕ) → Type 0
AreAllWords [] = ⊤
AreAllWords (w ∷ ws) = IsWord w × AreAllWords ws

abbrev pub AreAllLines : List (List (List ℕ)) → Type 0
AreAllLines [] = ⊤
AreAllLines (ws ∷ wss) = (0 < length ws) × AreAllWords ws × AreAllLines wss

none_of : (c : ℕ) → c ≤ 32 → (word : List ℕ) → IsWord word → All (λ x. nat_eq x c ≡ false) word
none_of c small word above = All-weaker (λ b. 32 < b) (λ x. nat_eq x c ≡ false) (λ x high. ne_eqb x c (λ e. omega arith)) word above

-- words with spaces between them are cut into these words
words_joined : (w : List ℕ) (ws : List (List ℕ)) → IsWord w → AreAllWords ws → parts 32 (join_with_byte 32 (w ∷ ws)) ≡ w ∷ ws
words_joined w [] one rest = slice_split_none (λ b. nat_eq b 32) w (none_of 32 (omega arith) w one)
words_joined w (next ∷ more) one rest =
    slice_split_at (λ b. nat_eq b 32) w 32 (join_with_byte 32 (next ∷ more)) (none_of 32 (omega arith) w one) refl
    ∙ ap (λ (r : List (List ℕ)). w ∷ r) (words_joined next more rest.0 rest.1)

pub words_of_line : (ws : List (List ℕ)) → 0 < length ws → AreAllWords ws → words (join_with_byte 32 ws) ≡ ws
unfolding words
words_of_line [] some h = absurd (omega arith)
words_of_line (w ∷ ws) some h = words_joined w ws h.0 h.1

-- no LF stands in a line of words
line_unbroken : (ws : List (List ℕ)) → AreAllWords ws → All (λ x. nat_eq x 10 ≡ false) (join_with_byte 32 ws)
line_unbroken [] h = All-nil (λ x. nat_eq x 10 ≡ false)
line_unbroken (w ∷ []) h = none_of 10 (omega arith) w h.0
line_unbroken (w ∷ next ∷ more) h =
    All-append (λ x. nat_eq x 10 ≡ false) w (32 ∷ join_with_byte 32 (next ∷ more)) (none_of 10 (omega arith) w h.0)
    (All-cons (λ x. nat_eq x 10 ≡ false) 32 (join_with_byte 32 (next ∷ more)) refl (line_unbroken (next ∷ more) h.1))

lines_cons : (text a b : List ℕ) → parts 10 text ≡ a ∷ parts 10 b → lines text ≡ Some a ∷ lines b
unfolding lines
lines_cons text a b e = let p = parts_cons 10 b in rw (e, p.2) refl

-- a text that begins with a line of words
pub lines_of_front : (ws : List (List ℕ)) (after : List ℕ) → (0 < length ws) × AreAllWords ws → lines (line_text ws ++ after) ≡ Some (join_with_byte 32 ws) ∷ lines after
lines_of_front ws after h =
    let line = join_with_byte 32 ws in
    let cut : parts 10 (line_text ws ++ after) ≡ line ∷ parts 10 after = ap (parts 10) (append_assoc line (10 ∷ []) after) ∙ slice_split_at (λ b. nat_eq b 10) line 10 after (line_unbroken ws h.1) refl in
    lines_cons (line_text ws ++ after) line after cut

-- lines of words are cut into these lines
pub lines_of_text : (wss : List (List (List ℕ))) → AreAllLines wss → lines (text_of wss) ≡ map (λ ws. Some (join_with_byte 32 ws)) wss
unfolding lines
lines_of_text [] h = refl
lines_of_text (ws ∷ wss) h =
    let line = join_with_byte 32 ws in
    let text : text_of (ws ∷ wss) ≡ line ++ (10 ∷ text_of wss) = append_assoc line (10 ∷ []) (text_of wss) in
    let cut : parts 10 (text_of (ws ∷ wss)) ≡ line ∷ parts 10 (text_of wss) = ap (parts 10) text ∙ slice_split_at (λ b. nat_eq b 10) line 10 (text_of wss) (line_unbroken ws h.1) refl in
    lines_cons (text_of (ws ∷ wss)) line (text_of wss) cut ∙ ap (λ (r : List (Option (List ℕ))). Some line ∷ r) (lines_of_text wss h.2)

-- ---- what is spelled is a word

pub number_is_word : (bits : ℕ) (word : List ℕ) (n : ℕ) → 2 ^ bits ≤ 2 ^ 64 → SpellsNumber bits word n → IsWord word
number_is_word bits word n fits h =
    let small : n < 2 ^ 64 = omega (arith, h.small) in
    let numeral = decimal_is_IsNumeral n small in
    rw h.digits (All-from_get_or (λ b. 32 < b) (decimal n) 0 (λ i lt. let d = digit_at (decimal n) i numeral.0.1 lt in omega (arith, d.0)))

hex_digit_high : (b : ℕ) → is_hex_digit b ≡ true → 32 < b
hex_digit_high b h = grind (arith)

pub bytes_are_word : (word bytes : List ℕ) → SpellsBytes word bytes → IsWord word
bytes_are_word word [] h = rw h (search rules)
bytes_are_word word (b ∷ bytes) h = All-weaker (λ x. is_hex_digit x ≡ true) (λ x. 32 < x) hex_digit_high word (decode_of-ok word (b ∷ bytes) h).1

-- ---- what is spelled is read

pub number_read : (bits : ℕ) (word : List ℕ) (n : ℕ) → 2 ^ bits ≤ 2 ^ 64 → SpellsNumber bits word n → number bits word ≡ Some n
number_read bits word n fits h =
    let small : n < 2 ^ 64 = omega (arith, h.small) in
    let value : digits_value 10 (decimal n) ≡ n = (decimal_is_IsNumeral n small).1 in
    let here : digits_value 10 word ≡ n = ap (digits_value 10) h.digits ∙ value in
    let spelled : decimal (digits_value 10 word) ≡ word = ap decimal here ∙ sym h.digits in
    number_some bits word spelled (rw here h.small) ∙ ap Some here

hex_chosen : (t : Bool) (word : List ℕ) (b : ℕ) (bytes : List ℕ) → bytes_eq word (codes "-") ≡ t → decode_of word ≡ Ok (b ∷ bytes) → (if t then Some [] else some_bytes (decode_of word)) ≡ Some (b ∷ bytes)
hex_chosen true word b bytes e h =
    let dash : word ≡ codes "-" = (bytes_eq-Decides word (codes "-")).0 e in
    let odd = rw dash at h in
    (cc)
hex_chosen false word b bytes e h = ap some_bytes h

pub bytes_read : (word bytes : List ℕ) → SpellsBytes word bytes → hex_bytes word ≡ Some bytes
unfolding hex_bytes
bytes_read word [] h = let same : bytes_eq word (codes "-") ≡ true = (bytes_eq-Decides word (codes "-")).1 h in rw same refl
bytes_read word (b ∷ bytes) h = hex_chosen (bytes_eq word (codes "-")) word b bytes refl h

pub argument_read : (n : ℕ) (name word : List ℕ) → argument n name (name ∷ word ∷ []) ≡ Ok word
unfolding argument
argument_read n name word = let same : bytes_eq name name ≡ true = (bytes_eq-Decides name name).1 refl in rw same refl

-- ---- each line of settings

-- a line has a word, and all its words are words
abbrev pub IsLine : List (List ℕ) → Type 0
IsLine ws = (0 < length ws) × AreAllWords ws

name_is_word : (a : AlgorithmId) → IsWord (name_of a)
name_is_word Aegis128L = search rules
name_is_word Aegis128X2 = search rules
name_is_word Aegis128X4 = search rules
name_is_word Aegis256 = search rules
name_is_word Aegis256X2 = search rules
name_is_word Aegis256X4 = search rules

pub algorithm_is_line : (ws : List (List ℕ)) (a : AlgorithmId) → SpellsAlgorithm ws a → IsLine ws
algorithm_is_line ws a h = let word : IsWord (codes "alg") = search rules in rw h (omega arith, (word, (name_is_word a, tt)))

pub algorithm_read : (n : ℕ) (ws : List (List ℕ)) (a : AlgorithmId) → SpellsAlgorithm ws a → algorithm_words n ws ≡ Ok a
unfolding algorithm_words algorithm_named argument
algorithm_read n ws Aegis128L h = rw h refl
algorithm_read n ws Aegis128X2 h = rw h refl
algorithm_read n ws Aegis128X4 h = rw h refl
algorithm_read n ws Aegis256 h = rw h refl
algorithm_read n ws Aegis256X2 h = rw h refl
algorithm_read n ws Aegis256X4 h = rw h refl

pub key_is_line : (a : AlgorithmId) (ws : List (List ℕ)) (key : List ℕ) → SpellsKey a ws key → IsLine ws
key_is_line a ws key h = let word : IsWord (codes "key") = search rules in rw h.1 (omega arith, (word, (bytes_are_word h.0 key h.2, tt)))

pub key_read : (n : ℕ) (a : AlgorithmId) (ws : List (List ℕ)) (key : List ℕ) → SpellsKey a ws key → key_words n a ws ≡ Ok key
unfolding key_words
key_read n a ws key h =
    let long : (length key == key_len (variant_of a)) ≡ true = eq-eqb (length key) (key_len (variant_of a)) h.3 in
    rw (h.1, argument_read n (codes "key") h.0, bytes_read h.0 key h.2, long) refl

pub randomness_is_line : (ws : List (List ℕ)) (r : Randomness) → SpellsRandomness ws r → IsLine ws
randomness_is_line ws (Random bytes) h = let word : IsWord (codes "random") = search rules in rw h.1 (omega arith, (word, (bytes_are_word h.0 bytes h.2, tt)))
randomness_is_line ws (Seed seed) h = let word : IsWord (codes "seed") = search rules in rw h.1 (omega arith, (word, (bytes_are_word h.0 seed h.2, tt)))

pub randomness_read : (n : ℕ) (ws : List (List ℕ)) (r : Randomness) → SpellsRandomness ws r → randomness_words n ws ≡ Ok r
randomness_read n ws (Random bytes) h = rw (h.1, bytes_read h.0 bytes h.2) refl
randomness_read n ws (Seed seed) h = let long : (length seed == 32) ≡ true = eq-eqb (length seed) 32 h.3 in rw (h.1, bytes_read h.0 seed h.2, long) refl

pub tree_is_line : (ws : List (List ℕ)) (t : Option ℕ) → SpellsTree ws t → IsLine ws
tree_is_line ws None h =
    let word : IsWord (codes "merkle") = search rules in
    let none : IsWord (codes "none") = search rules in
    rw h (omega arith, (word, (none, tt)))
tree_is_line ws (Some most) h =
    let word : IsWord (codes "merkle") = search rules in
    let hash : IsWord (codes "sha256") = search rules in
    rw h.1 (omega arith, (word, (hash, (number_is_word 64 h.0 most (omega arith) h.2, tt))))

pub tree_read : (n : ℕ) (ws : List (List ℕ)) (t : Option ℕ) → SpellsTree ws t → tree_words n ws ≡ Ok t
tree_read n ws None h = rw h refl
tree_read n ws (Some most) h = rw (h.1, number_read 64 h.0 most (omega arith) h.2) refl

pub version_is_word : (v : Version) → IsWord (version_word v)
version_is_word V1 = search rules
version_is_word V2 = search rules

pub version_read : (v : Version) → version_named (version_word v) ≡ Some v
version_read V1 = refl
version_read V2 = refl

-- how a line may make a new file
abbrev pub CreateWords : List (List ℕ) → List ℕ → Version → Type 0
CreateWords ws w v = (ws ≡ codes "create" ∷ w ∷ version_word v ∷ []) ⊎ ((ws ≡ codes "create" ∷ w ∷ []) × (v ≡ V1))

create_is_line : (ws : List (List ℕ)) (w : List ℕ) (v : Version) → IsWord w → CreateWords ws w v → IsLine ws
create_is_line ws w v word (inl e) = let create : IsWord (codes "create") = search rules in rw e (omega arith, (create, (word, (version_is_word v, tt))))
create_is_line ws w v word (inr e) = let create : IsWord (codes "create") = search rules in rw e.0 (omega arith, (create, (word, tt)))

create_read : (n : ℕ) (medium : Medium) (ws : List (List ℕ)) (w : List ℕ) (size : ℕ) (v : Version) → number 32 w ≡ Some size → CreateWords ws w v → start_words n medium ws ≡ Ok (Create size v)
create_read n medium ws w size v read (inl e) = rw (e, read, version_read v) refl
create_read n medium ws w size v read (inr e) = rw (e.0, read, e.1) refl

pub start_is_line : (medium : Medium) (ws : List (List ℕ)) (s : Start) → SpellsStart medium ws s → IsLine ws
start_is_line medium ws (Storage bytes) h = let word : IsWord (codes "storage") = search rules in rw h.1 (omega arith, (word, (bytes_are_word h.0 bytes h.2, tt)))
start_is_line medium ws (Create size v) h = create_is_line ws h.0 v (number_is_word 32 h.0 size (omega arith) h.1) h.2

may_hold_told : (medium : Medium) (bytes : List ℕ) → MayHold medium bytes → may_hold medium bytes ≡ true
may_hold_told Memory bytes h = refl
may_hold_told Disk bytes h = rw h refl

pub start_read : (n : ℕ) (medium : Medium) (ws : List (List ℕ)) (s : Start) → SpellsStart medium ws s → start_words n medium ws ≡ Ok s
start_read n medium ws (Storage bytes) h = rw (h.1, bytes_read h.0 bytes h.2, may_hold_told medium bytes h.3) refl
start_read n medium ws (Create size v) h = create_read n medium ws h.0 size v (number_read 32 h.0 size (omega arith) h.1) h.2

-- ---- commands

pub command_is_line : (ws : List (List ℕ)) (c : Command) → SpellsCommand ws c → IsLine ws
command_is_line ws (Read offset len) h =
    let word : IsWord (codes "read") = search rules in
    rw h.2 (omega arith, (word, (number_is_word 64 h.0 offset (omega arith) h.3, (number_is_word 64 h.1 len (omega arith) h.4, tt))))
command_is_line ws (Write offset bytes) h =
    let word : IsWord (codes "write") = search rules in
    rw h.2 (omega arith, (word, (number_is_word 64 h.0 offset (omega arith) h.3, (bytes_are_word h.1 bytes h.4, tt))))
command_is_line ws (Truncate size) h =
    let word : IsWord (codes "truncate") = search rules in
    rw h.1 (omega arith, (word, (number_is_word 64 h.0 size (omega arith) h.2, tt)))
command_is_line ws Size h = let word : IsWord (codes "size") = search rules in rw h (omega arith, (word, tt))
command_is_line ws Sync h = let word : IsWord (codes "sync") = search rules in rw h (omega arith, (word, tt))
command_is_line ws Rebuild h = let word : IsWord (codes "rebuild") = search rules in rw h (omega arith, (word, tt))
command_is_line ws Verify h = let word : IsWord (codes "verify") = search rules in rw h (omega arith, (word, tt))
command_is_line ws Commitment h = let word : IsWord (codes "commitment") = search rules in rw h (omega arith, (word, tt))

pub command_read : (n : ℕ) (ws : List (List ℕ)) (c : Command) → SpellsCommand ws c → command_words n ws ≡ Ok c
unfolding plain_command truncate_command range_command
command_read n ws (Read offset len) h =
    rw (h.2, number_read 64 h.0 offset (omega arith) h.3, number_read 64 h.1 len (omega arith) h.4) refl
command_read n ws (Write offset bytes) h =
    rw (h.2, number_read 64 h.0 offset (omega arith) h.3, bytes_read h.1 bytes h.4) refl
command_read n ws (Truncate size) h = rw (h.1, number_read 64 h.0 size (omega arith) h.2) refl
command_read n ws Size h = rw h refl
command_read n ws Sync h = rw h refl
command_read n ws Rebuild h = rw h refl
command_read n ws Verify h = rw h refl
command_read n ws Commitment h = rw h refl

-- ---- the whole

module _ {C : Type 0} (SpellsItem : List (List ℕ) → C → Type 0) (item : ℕ → List (List ℕ) → Result C ℕ)
    (is_line : (ws : List (List ℕ)) (c : C) → SpellsItem ws c → IsLine ws) where
  -- a line that fits its place is one
  pub fits_line : (medium : Medium) (before : List (List (List ℕ))) (ws : List (List ℕ)) → FitsLines SpellsItem medium before ws → IsLine ws
  fits_line medium [] ws h = algorithm_is_line ws h.0 h.1
  fits_line medium (a ∷ []) ws h = key_is_line h.0 ws h.1 h.3
  fits_line medium (a ∷ b ∷ []) ws h = randomness_is_line ws h.0 h.1
  fits_line medium (a ∷ b ∷ c ∷ []) ws h = tree_is_line ws h.0 h.1
  fits_line medium (a ∷ b ∷ c ∷ d ∷ []) ws h = start_is_line medium ws h.0 h.1
  fits_line medium (a ∷ b ∷ c ∷ d ∷ e ∷ more) ws h = is_line ws h.0 h.1

  items_are_lines : (wss : List (List (List ℕ))) (cs : List C) → AllZip SpellsItem wss cs → AreAllLines wss
  items_are_lines [] cs h = tt
  items_are_lines (ws ∷ wss) [] h = absurd h
  items_are_lines (ws ∷ wss) (c ∷ cs) h = let one = is_line ws c h.0 in (one.0, one.1, items_are_lines wss cs h.1)

  module _ (read : (n : ℕ) (ws : List (List ℕ)) (c : C) → SpellsItem ws c → item n ws ≡ Ok c) where
    items_read : (n : ℕ) (wss : List (List (List ℕ))) (cs : List C) → AllZip SpellsItem wss cs → items item n (map (λ ws. Some (join_with_byte 32 ws)) wss) ≡ Ok cs
    unfolding items
    items_read n [] [] h = refl
    items_read n [] (c ∷ cs) h = absurd h
    items_read n (ws ∷ wss) [] h = absurd h
    items_read n (ws ∷ wss) (c ∷ cs) h =
        let shape = is_line ws c h.0 in
        rw (words_of_line ws shape.0 shape.1, read n ws c h.0, items_read (n + 1) wss cs h.1) refl

    -- a text that spells a content reads as it
    pub lines_read : (medium : Medium) (text : List ℕ) (s : Settings) (cs : List C) → SpellsLines SpellsItem medium text s cs → whole item medium text ≡ Ok (s, cs)
    unfolding settings
    lines_read medium text s cs h =
        let l1 = algorithm_is_line h.algorithm_line s.algorithm h.algorithm in
        let l2 = key_is_line s.algorithm h.key_line s.key h.key in
        let l3 = randomness_is_line h.randomness_line s.randomness h.randomness in
        let l4 = tree_is_line h.tree_line s.max_chunks h.tree in
        let l5 = start_is_line medium h.start_line s.start h.start in
        let all : AreAllLines (h.algorithm_line ∷ h.key_line ∷ h.randomness_line ∷ h.tree_line ∷ h.start_line ∷ h.item_lines)
        = (l1.0, l1.1, (l2.0, l2.1, (l3.0, l3.1, (l4.0, l4.1, (l5.0, l5.1, items_are_lines h.item_lines cs h.items))))) in
        let cut = ap lines h.spelled ∙ lines_of_text (h.algorithm_line ∷ h.key_line ∷ h.randomness_line ∷ h.tree_line ∷ h.start_line ∷ h.item_lines) all in
        rw (
          cut,
          words_of_line h.algorithm_line l1.0 l1.1,
          algorithm_read 1 h.algorithm_line s.algorithm h.algorithm,
          words_of_line h.key_line l2.0 l2.1,
          key_read 2 s.algorithm h.key_line s.key h.key,
          words_of_line h.randomness_line l3.0 l3.1,
          randomness_read 3 h.randomness_line s.randomness h.randomness,
          words_of_line h.tree_line l4.0 l4.1,
          tree_read 4 h.tree_line s.max_chunks h.tree,
          words_of_line h.start_line l5.0 l5.1,
          start_read 5 medium h.start_line s.start h.start,
          items_read 6 h.item_lines cs h.items,
        ) refl
