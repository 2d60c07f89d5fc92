-- The cipher (FIPS 197, section 5.1) and the equivalent inverse cipher (section 5.3.5) on a block of 16 bytes.
use Rattle.std.specs.Prelude.{ℕ, ◌-◌, List, [], length, fold, slice_index_or}
use Rattle.aes_spec.specs.KeySchedule.{expand, inverse_keys, inner}
use Rattle.aes_spec.specs.Rounds.{R, RL, IR, IRL, add_round_key}

-- The first round key is added, then comes a whole round for each further key but the last, and the last round for that.
abbrev pub with_rounds : (List ℕ → List ℕ → List ℕ) → (List ℕ → List ℕ → List ℕ) → List (List ℕ) → List ℕ → List ℕ
with_rounds whole last keys block =
    last (fold whole (add_round_key block (slice_index_or keys 0 [])) (inner keys)) (slice_index_or keys (length keys - 1) [])

-- the cipher text of a block
unfoldable pub cipher : List ℕ → List ℕ → List ℕ
cipher key block = with_rounds R RL (expand key) block

-- the block of a cipher text, by the equivalent inverse cipher
unfoldable pub decipher : List ℕ → List ℕ → List ℕ
decipher key block = with_rounds IR IRL (inverse_keys (expand key)) block
