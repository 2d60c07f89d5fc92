-- Key expansion (FIPS 197, section 5.2), and the round keys of the equivalent inverse cipher (section 5.3.5).
-- A word is a list of four bytes, a key has nk = 4, 6 or 8 words.
use Rattle.std.specs.Prelude.{ℕ, zero, suc, ◌+◌, ◌-◌, ◌*◌, ◌/◌, ◌%◌, ◌==◌, ◌&&◌, nat_lt, if◌then◌else◌, List, [], ◌∷◌, ◌++◌, length, map, take, drop, reverse, slice_index_or}
use Rattle.std.specs.List.{range_with_len}
use Rattle.aes_spec.specs.Bytes.{xor_bytes}
use Rattle.aes_spec.specs.Field.{mul, S}
use Rattle.aes_spec.specs.Rounds.{inv_mix_columns}

-- the power x^n in the field
unfoldable pub power : ℕ → ℕ
power zero = 1
power (suc n) = mul 2 (power n)

-- the round constant Rcon[j]: x^(j - 1), and three zeros
abbrev pub round_constant : ℕ → List ℕ
round_constant j = power (j - 1) ∷ 0 ∷ 0 ∷ 0 ∷ []

-- RotWord: the first byte moves to the end
abbrev pub rot_word : List ℕ → List ℕ
rot_word w = drop 1 w ++ take 1 w

-- SubWord: the S-box at each byte
abbrev pub sub_word : List ℕ → List ℕ
sub_word w = map S w

-- word w[i] of the words so far
abbrev pub word_at : List (List ℕ) → ℕ → List ℕ
word_at words i = slice_index_or words i []

-- what is added to w[i - nk] for w[i], where t is w[i - 1]
abbrev pub changed : ℕ → ℕ → List ℕ → List ℕ
changed nk i t =
    if i % nk == 0 then xor_bytes (sub_word (rot_word t)) (round_constant (i / nk))
    else (if nat_lt 6 nk && (i % nk == 4) then sub_word t else t)

-- the word that follows those so far
unfoldable pub next_word : ℕ → List (List ℕ) → List ℕ
next_word nk words =
    let i : ℕ = length words in
    xor_bytes (word_at words (i - nk)) (changed nk i (word_at words (i - 1)))

-- these words and the n that follow
unfoldable pub with_next : ℕ → List (List ℕ) → ℕ → List (List ℕ)
with_next nk words zero = words
with_next nk words (suc n) = let before : List (List ℕ) = with_next nk words n in before ++ next_word nk before ∷ []

-- the first n words of a key
abbrev pub key_words : List ℕ → ℕ → List (List ℕ)
key_words key n = map (λ i. take 4 (drop (4 * i) key)) (range_with_len 0 n)

-- round key j: the words 4j to 4j + 3
abbrev pub round_key : List (List ℕ) → ℕ → List ℕ
round_key words j = word_at words (4 * j) ++ word_at words (4 * j + 1) ++ word_at words (4 * j + 2) ++ word_at words (4 * j + 3)

-- the first n round keys of the words
abbrev pub round_keys : List (List ℕ) → ℕ → List (List ℕ)
round_keys words n = map (round_key words) (range_with_len 0 n)

-- the 4 * (nk + 7) words of a key, nk of them its own
unfoldable pub all_words : ℕ → List ℕ → List (List ℕ)
all_words nk key = with_next nk (key_words key nk) (3 * nk + 28)

-- the nk + 7 round keys of a key
unfoldable pub expand : List ℕ → List (List ℕ)
expand key = let nk : ℕ = length key / 4 in round_keys (all_words nk key) (nk + 7)

-- all members but the first and the last
abbrev pub inner : List (List ℕ) → List (List ℕ)
inner keys = take (length keys - 2) (drop 1 keys)

-- the round keys in reverse, with InvMixColumns on all but the first and the last
unfoldable pub inverse_keys : List (List ℕ) → List (List ℕ)
inverse_keys keys =
    let back : List (List ℕ) = reverse keys in
    take 1 back ++ map inv_mix_columns (inner back) ++ drop (length back - 1) back
