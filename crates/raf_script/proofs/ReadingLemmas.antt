-- What was read is spelled: a text that reads as a content spells it.
use Rattle.std.proofs.Common.{◌≡◌, ℕ, ◌+◌, ◌^◌, ◌<◌, ◌&&◌, Bool, true, false, List, [], ◌∷◌, ◌++◌, length, map, Option, Some, None, Result, Ok, Err, refl, sym, ap, ◌∙◌, append_assoc, arith, subst, inl, inr}
use Rattle.std.specs.Prelude.{decimal, bytes_eq, codes, if◌then◌else◌, nat_lt, ◌==◌}
use Rattle.std.specs.List.{join_with_byte, AllZip}
use Rattle.std.specs.Str.Parse.{digits_value}
use Rattle.std.proofs.lemmas.Bool.{ltb-true, eqb-true}
use Rattle.std.proofs.lemmas.List.{nil_from_length}
use Rattle.std.proofs.lemmas.List.Splits.{join_with_byte-slice_split}
use Rattle.std.proofs.lemmas.Slice.Eq.{bytes_eq-Decides}
use Rattle.hex.specs.declared.error.FromHexError.{FromHexError}
use Rattle.hex.specs.Hex.{decode_of}
use Rattle.raf.specs.declared.command.Command.{Command}
use Rattle.raf.specs.declared.command.Command.TheVariants.{Read, Write, Truncate, Size, Sync, Rebuild, Verify, Commitment}
use Rattle.aegis_core.specs.Sealing.{key_len}
use Rattle.raf_format.specs.Numbers.{variant_of}
use Rattle.raf_format.specs.declared.algorithm_id.AlgorithmId.{AlgorithmId}
use Rattle.raf_format.specs.declared.algorithm_id.AlgorithmId.TheVariants.{Aegis128L, Aegis128X2, Aegis128X4, Aegis256, Aegis256X2, Aegis256X4}
use Rattle.raf_format.specs.declared.version.Version.{Version}
use Rattle.raf_format.specs.declared.version.Version.TheVariants.{V1}
use Rattle.raf_script.specs.Words.{parts, words, number, hex_bytes, some_bytes}
use Rattle.raf_script.specs.Lines.{◌>>=◌, fits, first, lines, lines_of_parts}
use Rattle.raf_script.specs.Reading.{plain_command, truncate_command, range_command, command_words, items, argument, algorithm_named, algorithm_words, key_words, randomness_words, tree_words, version_named, may_hold, start_words, settings, whole}
use Rattle.raf_script.specs.Places.{text_of}
use Rattle.raf_script.specs.Settings.{MayHold, SpellsNumber, SpellsBytes, name_of, version_word, SpellsAlgorithm, SpellsKey, SpellsRandomness, SpellsTree, SpellsStart, SpellsLines}
use Rattle.raf_script.specs.Script.{SpellsCommand}
use Rattle.raf_script.specs.declared.script.Medium.{Medium}
use Rattle.raf_script.specs.declared.script.Medium.TheVariants.{Memory, Disk}
use Rattle.raf_script.specs.declared.script.Randomness.{Randomness}
use Rattle.raf_script.specs.declared.script.Randomness.TheVariants.{Random, Seed}
use Rattle.raf_script.specs.declared.script.Start.{Start}
use Rattle.raf_script.specs.declared.script.Start.TheVariants.{Storage, Create}
use Rattle.raf_script.specs.declared.script.Settings.{Settings}
use Rattle.raf_script.proofs.NumberLemmas.{both}
use Rattle.raf_script.proofs.PartsLemmas.{parts_cons}
use Rattle.raf_script.proofs.ItemLemmas.{first_ok}

-- ---- how a reading went

-- a reading that ends well went on with a value
pub by_bind : {A B P : Type 0} (r : Result A ℕ) (f : A → Result B ℕ) (y : B) → (r >>= f) ≡ Ok y → ((x : A) → r ≡ Ok x → f x ≡ Ok y → P) → P
by_bind (Ok x) f y h go = go x refl h
by_bind (Err n) f y h go = (cc)

-- a choice took one of two ways
pub by_test : {A P : Type 0} (t : Bool) (r s y : A) → (if t then r else s) ≡ y → (t ≡ true → r ≡ y → P) → (s ≡ y → P) → P
by_test true r s y h took other = took refl h
by_test false r s y h took other = other h

pub by_word : {A P : Type 0} (w name : List ℕ) (r s y : A) → (if bytes_eq w name then r else s) ≡ y → (w ≡ name → r ≡ y → P) → (s ≡ y → P) → P
by_word w name r s y h took other = by_test (bytes_eq w name) r s y h (λ t. took ((bytes_eq-Decides w name).0 t)) other

pub ok_value : {A : Type 0} {x y : A} → ◌≡◌ {A = Result A ℕ} (Ok x) (Ok y) → x ≡ y
ok_value h = (cc)

some_value : {A : Type 0} {x y : A} → ◌≡◌ {A = Option A} (Some x) (Some y) → x ≡ y
some_value h = (cc)

-- what holds of the value holds of the one that was read
pub came : {A : Type 0} (P : A → Type 0) (x y : A) → ◌≡◌ {A = Result A ℕ} (Ok x) (Ok y) → P x → P y
came P x y h p = subst P (ok_value h) p

pub fits_ok : {A : Type 0} (n : ℕ) (o : Option A) (x : A) → fits n o ≡ Ok x → o ≡ Some x
fits_ok n (Some y) x h = (cc)
fits_ok n None x h = (cc)

pub one : {a a' : List ℕ} → a ≡ a' → a ∷ [] ≡ a' ∷ []
one p = λ i. p i ∷ []

pub two : {a a' : List ℕ} (b : List ℕ) → a ≡ a' → a ∷ b ∷ [] ≡ a' ∷ b ∷ []
two b p = λ i. p i ∷ b ∷ []

three : {a a' : List ℕ} (b c : List ℕ) → a ≡ a' → a ∷ b ∷ c ∷ [] ≡ a' ∷ b ∷ c ∷ []
three b c p = λ i. p i ∷ b ∷ c ∷ []

-- ---- numbers and bytes

tested_some : (t : Bool) (x y : ℕ) → (if t then Some x else None) ≡ Some y → (t ≡ true) × (x ≡ y)
tested_some true x y h = (refl, (cc))
tested_some false x y h = (cc)

pub number_spelled : (bits : ℕ) (word : List ℕ) (n : ℕ) → number bits word ≡ Some n → SpellsNumber bits word n
unfolding number
number_spelled bits word n h =
    let m = digits_value 10 word in
    let found = tested_some (bytes_eq (decimal m) word && nat_lt m (2 ^ bits)) m n h in
    let tests = both (bytes_eq (decimal m) word) (nat_lt m (2 ^ bits)) found.0 in
    let digits : decimal m ≡ word = (bytes_eq-Decides (decimal m) word).0 tests.0 in
    let small : m < 2 ^ bits = ltb-true m (2 ^ bits) tests.1 in
    record { digits = sym digits ∙ ap decimal found.1; small = rw (← found.1) small }

decoded : (word : List ℕ) (r : Result (List ℕ) FromHexError) (bytes : List ℕ) → decode_of word ≡ r → some_bytes r ≡ Some bytes → SpellsBytes word bytes
decoded word (Ok []) bytes e h = (cc)
decoded word (Ok (b ∷ rest)) [] e h = (cc)
decoded word (Ok (b ∷ rest)) (x ∷ xs) e h = let same : ◌≡◌ {A = List ℕ} (b ∷ rest) (x ∷ xs) = (cc) in e ∙ ap (λ (l : List ℕ). Ok l) same
decoded word (Err e') bytes e h = (cc)

hex_cases : (t : Bool) (word bytes : List ℕ) → bytes_eq word (codes "-") ≡ t → (if t then Some [] else some_bytes (decode_of word)) ≡ Some bytes → SpellsBytes word bytes
hex_cases true word [] e h = (bytes_eq-Decides word (codes "-")).0 e
hex_cases true word (b ∷ bytes) e h = (cc)
hex_cases false word bytes e h = decoded word (decode_of word) bytes refl h

pub bytes_spelled : (word bytes : List ℕ) → hex_bytes word ≡ Some bytes → SpellsBytes word bytes
unfolding hex_bytes
bytes_spelled word bytes h = hex_cases (bytes_eq word (codes "-")) word bytes refl h

pub number_in : (n bits : ℕ) (word : List ℕ) (x : ℕ) → fits n (number bits word) ≡ Ok x → SpellsNumber bits word x
number_in n bits word x h = number_spelled bits word x (fits_ok n (number bits word) x h)

pub bytes_in : (n : ℕ) (word bytes : List ℕ) → fits n (hex_bytes word) ≡ Ok bytes → SpellsBytes word bytes
bytes_in n word bytes h = bytes_spelled word bytes (fits_ok n (hex_bytes word) bytes h)

-- ---- the first five lines

-- a line is its words with spaces between them
pub line_joined : (line : List ℕ) → line ≡ join_with_byte 32 (words line)
unfolding words
line_joined line = sym (join_with_byte-slice_split 32 line)

pub argument_spelled : (n : ℕ) (name : List ℕ) (ws : List (List ℕ)) (value : List ℕ) → argument n name ws ≡ Ok value → ws ≡ name ∷ value ∷ []
unfolding argument
argument_spelled n name [] value h = (cc)
argument_spelled n name (w ∷ []) value h = (cc)
argument_spelled n name (w ∷ a ∷ []) value h = by_word w name _ _ (Ok value) h (λ e k. came (λ v. w ∷ a ∷ [] ≡ name ∷ v ∷ []) a value k (two a e)) (λ k. (cc))
argument_spelled n name (w ∷ a ∷ b ∷ more) value h = (cc)

name_spelled : (n : ℕ) (w : List ℕ) (a : AlgorithmId) → algorithm_named n w ≡ Ok a → w ≡ name_of a
unfolding algorithm_named
name_spelled n w a h =
    let P : AlgorithmId → Type 0 = λ v. w ≡ name_of v in
    by_word w (codes "aegis128l") _ _ (Ok a) h (λ e k. came P Aegis128L a k e) (λ h.
    by_word w (codes "aegis128x2") _ _ (Ok a) h (λ e k. came P Aegis128X2 a k e) (λ h.
    by_word w (codes "aegis128x4") _ _ (Ok a) h (λ e k. came P Aegis128X4 a k e) (λ h.
    by_word w (codes "aegis256") _ _ (Ok a) h (λ e k. came P Aegis256 a k e) (λ h.
    by_word w (codes "aegis256x2") _ _ (Ok a) h (λ e k. came P Aegis256X2 a k e) (λ h.
    by_word w (codes "aegis256x4") _ _ (Ok a) h (λ e k. came P Aegis256X4 a k e) (λ h. (cc)))))))

pub algorithm_spelled : (n : ℕ) (ws : List (List ℕ)) (a : AlgorithmId) → algorithm_words n ws ≡ Ok a → SpellsAlgorithm ws a
unfolding algorithm_words
algorithm_spelled n ws a h =
    by_bind (argument n (codes "alg") ws) (algorithm_named n) a h (λ name got named.
    argument_spelled n (codes "alg") ws name got ∙ ap (λ (w : List ℕ). codes "alg" ∷ w ∷ []) (name_spelled n name a named))

pub key_spelled : (n : ℕ) (a : AlgorithmId) (ws : List (List ℕ)) (key : List ℕ) → key_words n a ws ≡ Ok key → SpellsKey a ws key
unfolding key_words
key_spelled n a ws key h =
    by_bind (argument n (codes "key") ws) _ key h (λ text got h.
    by_bind (fits n (hex_bytes text)) _ key h (λ bytes read h.
    by_test (length bytes == key_len (variant_of a)) _ _ (Ok key) h (λ t k.
    came (SpellsKey a ws) bytes key k (text, argument_spelled n (codes "key") ws text got, bytes_in n text bytes read, eqb-true (length bytes) (key_len (variant_of a)) t)) (λ k. (cc))))

pub randomness_spelled : (n : ℕ) (ws : List (List ℕ)) (r : Randomness) → randomness_words n ws ≡ Ok r → SpellsRandomness ws r
randomness_spelled n [] r h = (cc)
randomness_spelled n (w ∷ []) r h = (cc)
randomness_spelled n (w ∷ text ∷ []) r h =
    by_word w (codes "random") _ _ (Ok r) h (λ e h.
    by_bind (fits n (hex_bytes text)) _ r h (λ bytes read k.
    came (SpellsRandomness (w ∷ text ∷ [])) (Random bytes) r k (text, two text e, bytes_in n text bytes read))) (λ h.
    by_word w (codes "seed") _ _ (Ok r) h (λ e h.
    by_bind (fits n (hex_bytes text)) _ r h (λ bytes read h.
    by_test (length bytes == 32) _ _ (Ok r) h (λ t k.
    came (SpellsRandomness (w ∷ text ∷ [])) (Seed bytes) r k (text, two text e, bytes_in n text bytes read, eqb-true (length bytes) 32 t)) (λ k. (cc)))) (λ k. (cc)))
randomness_spelled n (w ∷ a ∷ b ∷ more) r h = (cc)

pub tree_spelled : (n : ℕ) (ws : List (List ℕ)) (t : Option ℕ) → tree_words n ws ≡ Ok t → SpellsTree ws t
tree_spelled n [] t h = (cc)
tree_spelled n (w ∷ []) t h = (cc)
tree_spelled n (w ∷ a ∷ []) t h =
    by_word w (codes "merkle") _ _ (Ok t) h (λ e h.
    by_word a (codes "none") _ _ (Ok t) h (λ f k. came (SpellsTree (w ∷ a ∷ [])) None t k (λ i. e i ∷ f i ∷ [])) (λ k. (cc))) (λ k. (cc))
tree_spelled n (w ∷ a ∷ most ∷ []) t h =
    by_word w (codes "merkle") _ _ (Ok t) h (λ e h.
    by_word a (codes "sha256") _ _ (Ok t) h (λ f h.
    by_bind (fits n (number 64 most)) _ t h (λ m read k.
    came (SpellsTree (w ∷ a ∷ most ∷ [])) (Some m) t k (most, (λ i. e i ∷ f i ∷ most ∷ []), number_in n 64 most m read))) (λ k. (cc))) (λ k. (cc))
tree_spelled n (w ∷ a ∷ b ∷ c ∷ more) t h = (cc)

pub version_spelled : (w : List ℕ) (v : Version) → version_named w ≡ Some v → w ≡ version_word v
version_spelled w v h =
    by_word w (codes "1") _ _ (Some v) h (λ e k. subst (λ u. w ≡ version_word u) (some_value k) e) (λ h.
    by_word w (codes "2") _ _ (Some v) h (λ e k. subst (λ u. w ≡ version_word u) (some_value k) e) (λ k. (cc)))

-- what a storage may hold, by its test
may_hold_so : (medium : Medium) (bytes : List ℕ) → may_hold medium bytes ≡ true → MayHold medium bytes
may_hold_so Memory bytes h = tt
may_hold_so Disk bytes h = nil_from_length bytes (eqb-true (length bytes) 0 h)

pub start_spelled : (n : ℕ) (medium : Medium) (ws : List (List ℕ)) (s : Start) → start_words n medium ws ≡ Ok s → SpellsStart medium ws s
start_spelled n medium [] s h = (cc)
start_spelled n medium (w ∷ []) s h = (cc)
start_spelled n medium (w ∷ text ∷ []) s h =
    by_word w (codes "storage") _ _ (Ok s) h (λ e h.
    by_bind (fits n (hex_bytes text)) _ s h (λ bytes read h.
    by_test (may_hold medium bytes) _ _ (Ok s) h (λ t k.
    came (SpellsStart medium (w ∷ text ∷ [])) (Storage bytes) s k (text, two text e, bytes_in n text bytes read, may_hold_so medium bytes t)) (λ k. (cc)))) (λ h.
    by_word w (codes "create") _ _ (Ok s) h (λ e h.
    by_bind (fits n (number 32 text)) _ s h (λ size read k.
    came (SpellsStart medium (w ∷ text ∷ [])) (Create size V1) s k (text, number_in n 32 text size read, inr (two text e, refl)))) (λ k. (cc)))
start_spelled n medium (w ∷ text ∷ name ∷ []) s h =
    by_word w (codes "create") _ _ (Ok s) h (λ e h.
    by_bind (fits n (number 32 text)) _ s h (λ size read h.
    by_bind (fits n (version_named name)) _ s h (λ version named k.
    let is : name ≡ version_word version = version_spelled name version (fits_ok n (version_named name) version named) in
    came (SpellsStart medium (w ∷ text ∷ name ∷ [])) (Create size version) s k (text, number_in n 32 text size read, inl (λ i. e i ∷ text ∷ is i ∷ []))))) (λ k. (cc))
start_spelled n medium (w ∷ a ∷ b ∷ c ∷ more) s h = (cc)

-- ---- commands

plain_spelled : (n : ℕ) (w : List ℕ) (c : Command) → plain_command n w ≡ Ok c → SpellsCommand (w ∷ []) c
unfolding plain_command
plain_spelled n w c h =
    let P : Command → Type 0 = SpellsCommand (w ∷ []) in
    by_word w (codes "size") _ _ (Ok c) h (λ e k. came P Size c k (one e)) (λ h.
    by_word w (codes "sync") _ _ (Ok c) h (λ e k. came P Sync c k (one e)) (λ h.
    by_word w (codes "rebuild") _ _ (Ok c) h (λ e k. came P Rebuild c k (one e)) (λ h.
    by_word w (codes "verify") _ _ (Ok c) h (λ e k. came P Verify c k (one e)) (λ h.
    by_word w (codes "commitment") _ _ (Ok c) h (λ e k. came P Commitment c k (one e)) (λ h. (cc))))))

truncate_spelled : (n : ℕ) (w size : List ℕ) (c : Command) → truncate_command n w size ≡ Ok c → SpellsCommand (w ∷ size ∷ []) c
unfolding truncate_command
truncate_spelled n w size c h =
    by_word w (codes "truncate") _ _ (Ok c) h (λ e h.
    by_bind (fits n (number 64 size)) _ c h (λ z read k.
    came (SpellsCommand (w ∷ size ∷ [])) (Truncate z) c k (size, two size e, number_in n 64 size z read))) (λ k. (cc))

range_spelled : (n : ℕ) (w offset rest : List ℕ) (c : Command) → range_command n w offset rest ≡ Ok c → SpellsCommand (w ∷ offset ∷ rest ∷ []) c
unfolding range_command
range_spelled n w offset rest c h =
    let P : Command → Type 0 = SpellsCommand (w ∷ offset ∷ rest ∷ []) in
    by_word w (codes "read") _ _ (Ok c) h (λ e h.
    by_bind (fits n (number 64 offset)) _ c h (λ o at h.
    by_bind (fits n (number 64 rest)) _ c h (λ l read k.
    came P (Read o l) c k (offset, rest, three offset rest e, number_in n 64 offset o at, number_in n 64 rest l read)))) (λ h.
    by_word w (codes "write") _ _ (Ok c) h (λ e h.
    by_bind (fits n (number 64 offset)) _ c h (λ o at h.
    by_bind (fits n (hex_bytes rest)) _ c h (λ b read k.
    came P (Write o b) c k (offset, rest, three offset rest e, number_in n 64 offset o at, bytes_in n rest b read)))) (λ k. (cc)))

pub command_spelled : (n : ℕ) (ws : List (List ℕ)) (c : Command) → command_words n ws ≡ Ok c → SpellsCommand ws c
command_spelled n [] c h = (cc)
command_spelled n (w ∷ []) c h = plain_spelled n w c h
command_spelled n (w ∷ a ∷ []) c h = truncate_spelled n w a c h
command_spelled n (w ∷ a ∷ b ∷ []) c h = range_spelled n w a b c h
command_spelled n (w ∷ a ∷ b ∷ d ∷ more) c h = (cc)

-- ---- the whole

-- a text all of whose lines are ended is these lines
ended : (t : Bool) (last : List ℕ) (wss : List (List (List ℕ))) → (length last == 0) ≡ t → (if t then [] else None ∷ []) ≡ map (λ ws. Some (join_with_byte 32 ws)) wss → last ≡ text_of wss
ended true last [] e h = nil_from_length last (eqb-true (length last) 0 e)
ended true last (ws ∷ wss) e h = (cc)
ended false last [] e h = (cc)
ended false last (ws ∷ wss) e h = (cc)

lines_text : (ps : List (List ℕ)) (wss : List (List (List ℕ))) → 0 < length ps → lines_of_parts ps ≡ map (λ ws. Some (join_with_byte 32 ws)) wss → join_with_byte 10 ps ≡ text_of wss
lines_text [] wss some h = absurd (omega arith)
lines_text (last ∷ []) wss some h = ended (length last == 0) last wss refl h
lines_text (line ∷ next ∷ more) [] some h = (cc)
lines_text (line ∷ next ∷ more) (ws ∷ wss) some h =
    let front : line ≡ join_with_byte 32 ws = (cc) in
    let back : lines_of_parts (next ∷ more) ≡ map (λ ws. Some (join_with_byte 32 ws)) wss = (cc) in
    let rest = lines_text (next ∷ more) wss (omega arith) back in
    ap (λ (l : List ℕ). line ++ (10 ∷ l)) rest ∙ ap (λ (l : List ℕ). l ++ (10 ∷ text_of wss)) front ∙ sym (append_assoc (join_with_byte 32 ws) (10 ∷ []) (text_of wss))

pub text_spelled : (text : List ℕ) (wss : List (List (List ℕ))) → lines text ≡ map (λ ws. Some (join_with_byte 32 ws)) wss → text ≡ text_of wss
unfolding lines
text_spelled text wss h =
    let shape = parts_cons 10 text in
    let some : 0 < length (parts 10 text) = rw shape.2 (omega arith) in
    sym (join_with_byte-slice_split 10 text) ∙ lines_text (parts 10 text) wss some h

-- five lines and the rest
abbrev pub Cut : Type 0
Cut = List ℕ × List (Option (List ℕ))

cut_lines : (ls : List (Option (List ℕ))) (l1 l2 l3 l4 l5 : Cut) → first 1 ls ≡ Ok l1 → first 2 l1.1 ≡ Ok l2 → first 3 l2.1 ≡ Ok l3 → first 4 l3.1 ≡ Ok l4 → first 5 l4.1 ≡ Ok l5
    → ls ≡ Some l1.0 ∷ Some l2.0 ∷ Some l3.0 ∷ Some l4.0 ∷ Some l5.0 ∷ l5.1
cut_lines ls l1 l2 l3 l4 l5 h1 h2 h3 h4 h5 =
    first_ok 1 ls l1.0 l1.1 h1
    ∙ ap (λ (r : List (Option (List ℕ))). Some l1.0 ∷ r) (first_ok 2 l1.1 l2.0 l2.1 h2)
    ∙ ap (λ (r : List (Option (List ℕ))). Some l1.0 ∷ Some l2.0 ∷ r) (first_ok 3 l2.1 l3.0 l3.1 h3)
    ∙ ap (λ (r : List (Option (List ℕ))). Some l1.0 ∷ Some l2.0 ∷ Some l3.0 ∷ r) (first_ok 4 l3.1 l4.0 l4.1 h4)
    ∙ ap (λ (r : List (Option (List ℕ))). Some l1.0 ∷ Some l2.0 ∷ Some l3.0 ∷ Some l4.0 ∷ r) (first_ok 5 l4.1 l5.0 l5.1 h5)

pub five : {a b c d e a' b' c' d' e' : List ℕ} {r r' : List (Option (List ℕ))} → a ≡ a' → b ≡ b' → c ≡ c' → d ≡ d' → e ≡ e' → r ≡ r'
    → ◌≡◌ {A = List (Option (List ℕ))} (Some a ∷ Some b ∷ Some c ∷ Some d ∷ Some e ∷ r) (Some a' ∷ Some b' ∷ Some c' ∷ Some d' ∷ Some e' ∷ r')
five p q s t u v = λ i. Some (p i) ∷ Some (q i) ∷ Some (s i) ∷ Some (t i) ∷ Some (u i) ∷ v i

-- the lines that were read, and what was read of each
pub record FiveRead (medium : Medium) (text : List ℕ) (s : Settings) (more : List (Option (List ℕ))) : Type 0 where
  pub l1 : Cut
  pub l2 : Cut
  pub l3 : Cut
  pub l4 : Cut
  pub l5 : List ℕ
  pub first1 : first 1 (lines text) ≡ Ok l1
  pub first2 : first 2 l1.1 ≡ Ok l2
  pub first3 : first 3 l2.1 ≡ Ok l3
  pub first4 : first 4 l3.1 ≡ Ok l4
  pub first5 : first 5 l4.1 ≡ Ok (l5, more)
  pub algorithm : algorithm_words 1 (words l1.0) ≡ Ok s.algorithm
  pub key : key_words 2 s.algorithm (words l2.0) ≡ Ok s.key
  pub randomness : randomness_words 3 (words l3.0) ≡ Ok s.randomness
  pub tree : tree_words 4 (words l4.0) ≡ Ok s.max_chunks
  pub start : start_words 5 medium (words l5) ≡ Ok s.start

pub five_read : (medium : Medium) (text : List ℕ) (st : Settings × List (Option (List ℕ))) → settings medium text ≡ Ok st → FiveRead medium text st.0 st.1
unfolding settings
five_read medium text st h =
    by_bind (first 1 (lines text)) _ st h (λ l1 r1 h.
    by_bind (algorithm_words 1 (words l1.0)) _ st h (λ a ra h.
    by_bind (first 2 l1.1) _ st h (λ l2 r2 h.
    by_bind (key_words 2 a (words l2.0)) _ st h (λ key rk h.
    by_bind (first 3 l2.1) _ st h (λ l3 r3 h.
    by_bind (randomness_words 3 (words l3.0)) _ st h (λ r rr h.
    by_bind (first 4 l3.1) _ st h (λ l4 r4 h.
    by_bind (tree_words 4 (words l4.0)) _ st h (λ t rt h.
    by_bind (first 5 l4.1) _ st h (λ l5 r5 h.
    by_bind (start_words 5 medium (words l5.0)) _ st h (λ b rb k.
    came (λ (v : Settings × List (Option (List ℕ))). FiveRead medium text v.0 v.1) (record { algorithm = a; key = key; randomness = r; max_chunks = t; start = b }, l5.1) st k (record {
      l1 = l1;
      l2 = l2;
      l3 = l3;
      l4 = l4;
      l5 = l5.0;
      first1 = r1;
      first2 = r2;
      first3 = r3;
      first4 = r4;
      first5 = r5;
      algorithm = ra;
      key = rk;
      randomness = rr;
      tree = rt;
      start = rb;
    })))))))))))

module _ {C : Type 0} (SpellsItem : List (List ℕ) → C → Type 0) (item : ℕ → List (List ℕ) → Result C ℕ)
    (spelled : (n : ℕ) (ws : List (List ℕ)) (c : C) → item n ws ≡ Ok c → SpellsItem ws c) where
  -- these lines spell these items
  abbrev pub ItemLines : List (Option (List ℕ)) → List C → Type 0
  ItemLines ls cs = (wss : List (List (List ℕ))) × (ls ≡ map (λ ws. Some (join_with_byte 32 ws)) wss) × AllZip SpellsItem wss cs

  items_spelled : (n : ℕ) (ls : List (Option (List ℕ))) (cs : List C) → items item n ls ≡ Ok cs → ItemLines ls cs
  unfolding items
  items_spelled n [] [] h = ([], refl, tt)
  items_spelled n [] (c ∷ cs) h = (cc)
  items_spelled n (None ∷ more) cs h = (cc)
  items_spelled n (Some line ∷ more) cs h =
      by_bind (item n (words line)) _ cs h (λ c read h.
      by_bind (items item (n + 1) more) _ cs h (λ next read' k.
      let rest = items_spelled (n + 1) more next read' in
      came (ItemLines (Some line ∷ more)) (c ∷ next) cs k
      (words line ∷ rest.0, ap (λ (l : List ℕ). Some l ∷ more) (line_joined line) ∙ ap (λ (ls : List (Option (List ℕ))). Some (join_with_byte 32 (words line)) ∷ ls) rest.1, (spelled n (words line) c read, rest.2))))

  -- what a text reads as is what it spells
  pub lines_spelled : (medium : Medium) (text : List ℕ) (s : Settings) (cs : List C) → whole item medium text ≡ Ok (s, cs) → SpellsLines SpellsItem medium text s cs
  lines_spelled medium text s cs h =
      by_bind (settings medium text) _ (s, cs) h (λ st rs h.
      by_bind (items item 6 st.1) _ (s, cs) h (λ list rc k.
      let five' = five_read medium text st rs in
      let rest = items_spelled 6 st.1 list rc in
      let shape = cut_lines (lines text) five'.l1 five'.l2 five'.l3 five'.l4 (five'.l5, st.1) five'.first1 five'.first2 five'.first3 five'.first4 five'.first5 in
      came (λ (v : Settings × List C). SpellsLines SpellsItem medium text v.0 v.1) (st.0, list) (s, cs) k (record {
        algorithm_line = words five'.l1.0;
        key_line = words five'.l2.0;
        randomness_line = words five'.l3.0;
        tree_line = words five'.l4.0;
        start_line = words five'.l5;
        item_lines = rest.0;
        spelled = text_spelled text (words five'.l1.0 ∷ words five'.l2.0 ∷ words five'.l3.0 ∷ words five'.l4.0 ∷ words five'.l5 ∷ rest.0)
            (shape ∙ five (line_joined five'.l1.0) (line_joined five'.l2.0) (line_joined five'.l3.0) (line_joined five'.l4.0) (line_joined five'.l5) rest.1);
        algorithm = algorithm_spelled 1 (words five'.l1.0) st.0.algorithm five'.algorithm;
        key = key_spelled 2 st.0.algorithm (words five'.l2.0) st.0.key five'.key;
        randomness = randomness_spelled 3 (words five'.l3.0) st.0.randomness five'.randomness;
        tree = tree_spelled 4 (words five'.l4.0) st.0.max_chunks five'.tree;
        start = start_spelled 5 medium (words five'.l5) st.0.start five'.start;
        items = rest.2;
      })))
