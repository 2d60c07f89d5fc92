-- Lines of words that fit their places, by any grammar of lines, and the first one that doesn't (this project's own).
use Rattle.std.specs.Prelude.{◌≡◌, ◌∷◌, [], ◌++◌, ℕ, ◌+◌, ◌<◌, ◌≤◌, ◌⊎◌, List, length, ⊤}
use Rattle.std.specs.List.{flat_map, join_with_byte}

-- a line of words: one space between two words, and LF at the end
abbrev pub line_text : List (List ℕ) → List ℕ
line_text words = join_with_byte 32 words ++ 10 ∷ []

abbrev pub text_of : List (List (List ℕ)) → List ℕ
text_of lines = flat_map line_text lines

-- A grammar says of a line of words whether it fits its place, which is after these lines.
module _ (Fits : List (List (List ℕ)) → List (List ℕ) → Type 0) where
  -- Each of the lines fits its place, the first of them after those before.
  abbrev pub AllFit : List (List (List ℕ)) → List (List (List ℕ)) → Type 0
  AllFit before [] = ⊤
  AllFit before (line ∷ lines) = Fits before line × AllFit (before ++ line ∷ []) lines

  -- Line n, counted from 1, is the first that doesn't fit its place: what stands after the lines before it doesn't begin with a line that
  -- does. After so many lines as are the least a text may end.
  pub record IsFirstWrong (least : ℕ) (text : List ℕ) (n : ℕ) : Type 0 where
    pub before : List (List (List ℕ))
    pub rest : List ℕ
    pub split : text ≡ text_of before ++ rest
    pub number : n ≡ length before + 1
    pub fit : AllFit [] before
    pub wrong : (words : List (List ℕ)) (after : List ℕ) → rest ≡ line_text words ++ after → Fits before words → ⊥
    pub unfinished : (n ≤ least) ⊎ (0 < length rest)
