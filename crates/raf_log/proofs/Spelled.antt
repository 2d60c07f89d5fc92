-- Bytes spell at most one list of entries.
use Rattle.std.proofs.Common.{◌≡◌, ℕ, ◌+◌, ◌^◌, ◌<◌, ◌≤◌, List, [], ◌∷◌, ◌++◌, length, take, drop, refl, sym, ap, ◌∙◌, arith, length-append}
use Rattle.std.specs.Int.{w32, to_le_bytes, from_le_bytes}
use Rattle.std.proofs.lemmas.Nat.{from_le_bytes-to_le_bytes_4}
use Rattle.std.proofs.lemmas.List.{append_assoc, append-nil, take_at, drop_at}
use Rattle.raf_log.specs.Entries.{spelled, spell, AreEntries, starts_from}

pub head_long : (n : ℕ) → length (to_le_bytes w32 n) ≡ 4
head_long n = refl

pub same_len : (m n : ℕ) → m < 2 ^ 32 → n < 2 ^ 32 → to_le_bytes w32 m ≡ to_le_bytes w32 n → m ≡ n
same_len m n a b e = sym (from_le_bytes-to_le_bytes_4 m a) ∙ ap (from_le_bytes w32) e ∙ from_le_bytes-to_le_bytes_4 n b

pub spelled_long : (e : List ℕ) → length (spelled e) ≡ 4 + length e
spelled_long e = omega (arith, length-append (to_le_bytes w32 (length e)) e, head_long (length e))

pub spell_long : (e : List ℕ) (es : List (List ℕ)) → length (spell (e ∷ es)) ≡ 4 + length e + length (spell es)
spell_long e es = omega (arith, length-append (spelled e) (spell es), spelled_long e)

-- what a spelling begins with, and what stands behind its first entry
pub head_of : (e : List ℕ) (es : List (List ℕ)) → take 4 (spell (e ∷ es)) ≡ to_le_bytes w32 (length e)
head_of e es =
    ap (λ (l : List ℕ). take 4 l) (append_assoc (to_le_bytes w32 (length e)) e (spell es))
    ∙ take_at (to_le_bytes w32 (length e)) (e ++ spell es) 4 (head_long (length e))

pub behind : (e : List ℕ) (es : List (List ℕ)) (n : ℕ) → n ≡ length e → drop (4 + n) (spell (e ∷ es)) ≡ spell es
behind e es n is = drop_at (spelled e) (spell es) (4 + n) (omega (arith, spelled_long e, is))

pub first_of : (e : List ℕ) (es : List (List ℕ)) (n : ℕ) → n ≡ length e → take (4 + n) (spell (e ∷ es)) ≡ spelled e
first_of e es n is = take_at (spelled e) (spell es) (4 + n) (omega (arith, spelled_long e, is))

body_of : (e : List ℕ) → drop 4 (spelled e) ≡ e
body_of e = drop_at (to_le_bytes w32 (length e)) e 4 (head_long (length e))

pub one_list : (xs ys : List (List ℕ)) → AreEntries xs → AreEntries ys → spell xs ≡ spell ys → xs ≡ ys
one_list [] [] a b e = refl
one_list [] (y ∷ ys) a b e = absurd (omega (arith, ap length e, spell_long y ys))
one_list (x ∷ xs) [] a b e = absurd (omega (arith, ap length e, spell_long x xs))
one_list (x ∷ xs) (y ∷ ys) a b e =
    let n : length x ≡ length y = same_len (length x) (length y) (omega (arith, a.0)) (omega (arith, b.0)) (sym (head_of x xs) ∙ ap (λ (l : List ℕ). take 4 l) e ∙ head_of y ys) in
    let first : spelled x ≡ spelled y = sym (first_of x xs (length x) refl) ∙ ap (λ (l : List ℕ). take (4 + length x) l) e ∙ first_of y ys (length x) n in
    let rest : spell xs ≡ spell ys = sym (behind x xs (length x) refl) ∙ ap (λ (l : List ℕ). drop (4 + length x) l) e ∙ behind y ys (length x) n in
    let same : x ≡ y = sym (body_of x) ∙ ap (λ (l : List ℕ). drop 4 l) first ∙ body_of y in
    ap (λ (z : List ℕ). z ∷ xs) same ∙ ap (λ (zs : List (List ℕ)). y ∷ zs) (one_list xs ys a.1 b.1 rest)

-- one more entry
pub spell-push : (es : List (List ℕ)) (e : List ℕ) → spell (es ++ e ∷ []) ≡ spell es ++ spelled e
spell-push [] e = append-nil (spelled e)
spell-push (x ∷ es) e = ap (λ (l : List ℕ). spelled x ++ l) (spell-push es e) ∙ sym (append_assoc (spelled x) (spell es) (spelled e))

pub entries-push : (es : List (List ℕ)) (e : List ℕ) → AreEntries es → length e ≤ 65536 → AreEntries (es ++ e ∷ [])
entries-push [] e are small = (small, tt)
entries-push (x ∷ es) e are small = (are.0, entries-push es e are.1 small)

pub starts-push : (at : ℕ) (es : List (List ℕ)) (e : List ℕ) → starts_from at (es ++ e ∷ []) ≡ starts_from at es ++ (at + length (spell es)) ∷ []
starts-push at [] e = let z : at ≡ at + 0 = omega arith in ap (λ (n : ℕ). n ∷ []) z
starts-push at (x ∷ es) e =
    let n : at + 4 + length x + length (spell es) ≡ at + length (spell (x ∷ es)) = omega (arith, spell_long x es) in
    ap (λ (l : List ℕ). at ∷ l) (starts-push (at + 4 + length x) es e) ∙ ap (λ (n : ℕ). at ∷ (starts_from (at + 4 + length x) es ++ n ∷ [])) n

pub length-starts : (at : ℕ) (es : List (List ℕ)) → length (starts_from at es) ≡ length es
length-starts at [] = refl
length-starts at (x ∷ es) = omega (arith, length-starts (at + 4 + length x) es)
