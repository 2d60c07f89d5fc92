-- What the calls of a random source take (this project's own).
use Rattle.std.specs.Prelude.{◌≡◌, ℕ, ◌<◌, ◌≤◌, List, ◌++◌, length, ⊤, Option, Some, None}

-- the told bytes began with these, which are taken
abbrev pub Takes : Option (List ℕ) → List ℕ → Option (List ℕ) → Type 0
Takes None got None = ⊤
Takes None got (Some left) = ⊥
Takes (Some bytes) got None = ⊥
Takes (Some bytes) got (Some left) = bytes ≡ got ++ left

-- at most n bytes from the front were taken
abbrev pub TakesAtMost : Option (List ℕ) → ℕ → Option (List ℕ) → Type 0
TakesAtMost old n new = (got : List ℕ) × (length got ≤ n) × Takes old got new

-- fewer than n bytes are told
abbrev pub IsShort : Option (List ℕ) → ℕ → Type 0
IsShort None n = ⊥
IsShort (Some left) n = length left < n
