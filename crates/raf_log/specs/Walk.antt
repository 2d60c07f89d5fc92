-- How far the entries of a log are found (this project's own).
use Rattle.std.specs.Prelude.{◌≡◌, ℕ, ◌+◌, ◌≤◌, List, [], ◌∷◌, length, take, drop, Bool, true, false, None}
use Rattle.std.specs.Int.{w32, to_le_bytes}
use Rattle.raf_log.specs.Entries.{Entries}

-- entries begin at these places of the bytes, one after the other, the first one here; the next one would begin there
abbrev pub Walks : List ℕ → ℕ → List ℕ → ℕ → Type 0
Walks x from [] next = next ≡ from
Walks x from (o ∷ os) next =
    (n : ℕ) × (o ≡ from) × (n ≤ 65536) × (o + 4 + n ≤ length x) × (take 4 (drop o x) ≡ to_le_bytes w32 n) × Walks x (o + 4 + n) os next

-- what is known of the bytes from where entries were found to begin, and where the next one would: or they spell no list
abbrev pub Walked : List ℕ → List ℕ → ℕ → Bool → Type 0
Walked x starts next true = Walks x 0 starts next
Walked x starts next false = Entries x None

-- these bytes stand at this place of the others, which are this many
pub record Stands (x piece : List ℕ) (at size : ℕ) : Type 0 where
  pub long : length x ≡ size
  pub is : take (length piece) (drop at x) ≡ piece
