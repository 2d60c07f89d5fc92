-- The equivalent inverse cipher undoes the cipher, for any round keys of 16 bytes.
use Rattle.std.proofs.Common.{◌≡◌, ℕ, zero, suc, ◌+◌, ◌-◌, ◌<◌, ◌≤◌, List, [], ◌∷◌, ◌++◌, length, map, take, drop, reverse, get_or, refl, ap, ◌∙◌, subst, arith, length-append}
use Rattle.std.specs.Prelude.{fold, slice_index_or}
use Rattle.std.specs.List.{All}
use Rattle.std.proofs.lemmas.List.{take_at, reverse-append, map-append}
use Rattle.aes_spec.specs.Bytes.{xor_bytes}
use Rattle.aes_spec.specs.Cipher.{with_rounds, cipher, decipher}
use Rattle.aes_spec.specs.KeySchedule.{inner, inverse_keys, expand}
use Rattle.aes_spec.specs.Rounds.{R, RL, IR, IRL, sub_bytes, shift_rows, mix_columns, inv_sub_bytes, inv_shift_rows, inv_mix_columns}
use Rattle.aes_spec.proofs.AreBytes.{AreSmall, bytes-xor_bytes}
use Rattle.aes_spec.proofs.Blocks.{IsBlock, block-R, block-sub_bytes, block-shift_rows, block-mix_columns, inv_shift_rows-shift_rows, inv_sub_bytes-sub_bytes, inv_mix_columns-mix_columns, inv_mix_columns-xor_bytes}
use Rattle.aes_spec.proofs.ByteLists.{xor_twice}
use Rattle.aes_spec.proofs.ExpandedKeys.{blocks-expand, length-expand}

-- the first two steps of a round, which its inverse undoes last
abbrev begun : List ℕ → List ℕ
begun a = shift_rows (sub_bytes a)

begun_back : (a : List ℕ) → IsBlock a → inv_sub_bytes (inv_shift_rows (begun a)) ≡ a
begun_back a h = ap inv_sub_bytes (inv_shift_rows-shift_rows (sub_bytes a) (block-sub_bytes a h)) ∙ inv_sub_bytes-sub_bytes a h

block-begun : (a : List ℕ) → IsBlock a → IsBlock (begun a)
block-begun a h = block-shift_rows (sub_bytes a) (block-sub_bytes a h)

-- an inverse round under the mixed key goes from the begun next round to the begun round
one_back : (a k : List ℕ) → IsBlock a → IsBlock k → IR (begun (R a k)) (inv_mix_columns k) ≡ begun a
unfolding IR R
one_back a k ha hk =
    let next : List ℕ = R a k in
    let mixed : List ℕ = mix_columns (begun a) in
    let hm : IsBlock mixed = block-mix_columns (begun a) (block-begun a ha) in
    let back : inv_sub_bytes (inv_shift_rows (begun next)) ≡ next = begun_back next (block-R a k ha hk) in
    ap (λ (v : List ℕ). xor_bytes (inv_mix_columns v) (inv_mix_columns k)) back
    ∙ ap (λ (v : List ℕ). xor_bytes v (inv_mix_columns k)) (inv_mix_columns-xor_bytes mixed k hm.long hk.long)
    ∙ xor_twice (inv_mix_columns mixed) (inv_mix_columns k)
    ∙ inv_mix_columns-mix_columns (begun a) (block-begun a ha)

fold-snoc : {A B : Type 0} (f : B → A → B) (a : B) (xs : List A) (x : A) → fold f a (xs ++ x ∷ []) ≡ f (fold f a xs) x
fold-snoc f a [] x = refl
fold-snoc f a (y ∷ ys) x = fold-snoc f (f a y) ys x

reverse-cons : (k : List ℕ) (ks : List (List ℕ)) → reverse (k ∷ ks) ≡ reverse ks ++ k ∷ []
reverse-cons k ks = reverse-append (k ∷ []) ks

-- all inverse rounds, the last key's first
rounds_back : (ks : List (List ℕ)) (a : List ℕ) → All IsBlock ks → IsBlock a
    → fold IR (begun (fold R a ks)) (map inv_mix_columns (reverse ks)) ≡ begun a
rounds_back [] a hks ha = refl
rounds_back (k ∷ ks) a hks ha =
    let hk : IsBlock k = hks 0 [] (omega arith) in
    let rest : All IsBlock ks = λ i d h. hks (suc i) d (omega arith) in
    let next : List ℕ = R a k in
    let back : List (List ℕ) = map inv_mix_columns (reverse ks) in
    let keys : map inv_mix_columns (reverse (k ∷ ks)) ≡ back ++ inv_mix_columns k ∷ [] =
    ap (map inv_mix_columns) (reverse-cons k ks) ∙ map-append inv_mix_columns (reverse ks) (k ∷ []) in
    ap (fold IR (begun (fold R next ks))) keys
    ∙ fold-snoc IR (begun (fold R next ks)) back (inv_mix_columns k)
    ∙ ap (λ (v : List ℕ). IR v (inv_mix_columns k)) (rounds_back ks next rest (block-R a k ha hk))
    ∙ one_back a k ha hk

-- ---- the round keys by their ends

module _ (a b : List ℕ) (ms : List (List ℕ)) where
  abbrev keys : List (List ℕ)
  keys = a ∷ (ms ++ b ∷ [])

  long : length keys ≡ length ms + 2
  long = omega (arith, length-append ms (b ∷ []))

  inner_of : inner keys ≡ ms
  inner_of = let e : length keys - 2 ≡ length ms = omega (arith, long) in ap (λ (n : ℕ). take n (ms ++ b ∷ [])) e ∙ take_at ms (b ∷ []) (length ms) refl

  at_end : (xs : List (List ℕ)) (d : List ℕ) → get_or (xs ++ b ∷ []) (length xs) d ≡ b
  at_end [] d = refl
  at_end (x ∷ xs) d = at_end xs d

  last_of : slice_index_or keys (length keys - 1) [] ≡ b
  last_of = let e : length keys - 1 ≡ suc (length ms) = omega (arith, long) in ap (λ (n : ℕ). get_or keys n []) e ∙ at_end ms []

  pub with_rounds-ends : (whole last : List ℕ → List ℕ → List ℕ) (x : List ℕ) → with_rounds whole last keys x ≡ last (fold whole (xor_bytes x a) ms) b
  with_rounds-ends whole last x = λ i. last (fold whole (xor_bytes x a) (inner_of i)) (last_of i)

  reversed : reverse keys ≡ b ∷ (reverse ms ++ a ∷ [])
  reversed = reverse-cons a (ms ++ b ∷ []) ∙ ap (λ (v : List (List ℕ)). v ++ a ∷ []) (reverse-append ms (b ∷ []))

  drop_front : (xs : List (List ℕ)) → drop (length xs) (xs ++ a ∷ []) ≡ a ∷ []
  drop_front [] = refl
  drop_front (x ∷ xs) = drop_front xs

pub inverse_keys-ends : (a b : List ℕ) (ms : List (List ℕ)) → inverse_keys (a ∷ (ms ++ b ∷ [])) ≡ b ∷ (map inv_mix_columns (reverse ms) ++ a ∷ [])
unfolding inverse_keys
inverse_keys-ends a b ms =
    let back : List (List ℕ) = b ∷ (reverse ms ++ a ∷ []) in
    let e : reverse (a ∷ (ms ++ b ∷ [])) ≡ back = reversed a b ms in
    let n : length back - 1 ≡ suc (length (reverse ms)) = omega (arith, long b a (reverse ms)) in
    ap (λ (v : List (List ℕ)). take 1 v ++ map inv_mix_columns (inner v) ++ drop (length v - 1) v) e
    ∙ (λ i. b ∷ (map inv_mix_columns (inner_of b a (reverse ms) i) ++ drop (n i) back))
    ∙ ap (λ (v : List (List ℕ)). b ∷ (map inv_mix_columns (reverse ms) ++ v)) (drop_front a b (reverse ms) (reverse ms))

-- the first key, the inner keys and the last key
pub record HasEnds (ks : List (List ℕ)) : Type 0 where
  pub first : List ℕ
  pub last : List ℕ
  pub between : List (List ℕ)
  pub is : ks ≡ first ∷ (between ++ last ∷ [])

pub ends : (k : List ℕ) (ks : List (List ℕ)) → 1 ≤ length ks → HasEnds (k ∷ ks)
ends k [] h = absurd (omega arith)
ends k (x ∷ []) h = record { first = k; last = x; between = []; is = refl }
ends k (x ∷ (y ∷ ys)) h =
    let more : HasEnds (x ∷ (y ∷ ys)) = ends x (y ∷ ys) (omega arith) in
    record { first = k; last = more.last; between = more.first ∷ more.between; is = ap (λ (v : List (List ℕ)). k ∷ v) more.is }

front_of : (xs ys : List (List ℕ)) (i : ℕ) (d : List ℕ) → i < length xs → IsBlock (get_or (xs ++ ys) i d) → IsBlock (get_or xs i d)
front_of [] ys i d h b = absurd (omega arith)
front_of (x ∷ xs) ys zero d h b = b
front_of (x ∷ xs) ys (suc i) d h b = front_of xs ys i d (omega arith) b

-- what the rounds made, the inverse rounds under the inverse keys take back
back_by_ends : (a b : List ℕ) (ms : List (List ℕ)) (x : List ℕ) → All IsBlock ms → IsBlock a → IsBlock x
    → with_rounds IR IRL (inverse_keys (a ∷ (ms ++ b ∷ []))) (with_rounds R RL (a ∷ (ms ++ b ∷ [])) x) ≡ x
unfolding RL IRL
back_by_ends a b ms x hms ha hx =
    let start : List ℕ = xor_bytes x a in
    let hs : IsBlock start = bytes-xor_bytes 16 x a hx ha in
    let c : List ℕ = xor_bytes (begun (fold R start ms)) b in
    let ms' : List (List ℕ) = map inv_mix_columns (reverse ms) in
    (λ i. with_rounds IR IRL (inverse_keys-ends a b ms i) (with_rounds-ends a b ms R RL x i))
    ∙ with_rounds-ends b a ms' IR IRL c
    ∙ ap (λ (v : List ℕ). IRL (fold IR v ms') a) (xor_twice (begun (fold R start ms)) b)
    ∙ ap (λ (v : List ℕ). IRL v a) (rounds_back ms start hms hs)
    ∙ ap (λ (v : List ℕ). xor_bytes v a) (begun_back start hs)
    ∙ xor_twice x a

pub rounds_and_back : (ks : List (List ℕ)) (x : List ℕ) → 2 ≤ length ks → All IsBlock ks → IsBlock x → with_rounds IR IRL (inverse_keys ks) (with_rounds R RL ks x) ≡ x
rounds_and_back [] x two hks hx = absurd (omega arith)
rounds_and_back (k ∷ ks) x two hks hx =
    let e : HasEnds (k ∷ ks) = ends k ks (omega arith) in
    let P : List (List ℕ) → Type 0 = λ v. All IsBlock v in
    let all : All IsBlock (e.first ∷ (e.between ++ e.last ∷ [])) = subst P e.is hks in
    let ha : IsBlock e.first = all 0 [] (omega arith) in
    let hms : All IsBlock e.between = λ i d h. front_of e.between (e.last ∷ []) i d h (all (suc i) d (omega (arith, length-append e.between (e.last ∷ [])))) in
    ap (λ (v : List (List ℕ)). with_rounds IR IRL (inverse_keys v) (with_rounds R RL v x)) e.is ∙ back_by_ends e.first e.last e.between x hms ha hx

-- The law of the standard's two ciphers: what was enciphered is deciphered.
pub deciphered : (key block : List ℕ) → 4 ≤ length key → AreSmall key → IsBlock block → decipher key (cipher key block) ≡ block
unfolding cipher decipher
deciphered key block room small h =
    rounds_and_back (expand key) block (omega (arith, length-expand key)) (blocks-expand key room small) h
