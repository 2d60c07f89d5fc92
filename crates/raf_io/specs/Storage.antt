-- What the calls of a storage do to its bytes, where it tells them (this project's own).
use Rattle.std.specs.Prelude.{◌≡◌, ℕ, ◌+◌, ◌-◌, ◌≤◌, max, min, List, ◌++◌, length, take, drop, replicate, ⊤, Option, Some, None}
use Rattle.counts.specs.Counts.{raised}

-- bytes of which this much is asked, with zeros past the end
abbrev pub resized : ℕ → List ℕ → List ℕ
resized n b = take n b ++ replicate (n - length b) 0

-- the bytes with these in the place of those from an offset on; a gap past the end becomes zeros
abbrev pub spliced : ℕ → List ℕ → List ℕ → List ℕ
spliced at new b = resized at b ++ new ++ drop (at + length new) b

-- two optional meanings tell alike, and where they tell, this holds of what they tell
abbrev pub Told : (List ℕ → List ℕ → Type 0) → Option (List ℕ) → Option (List ℕ) → Type 0
Told R None None = ⊤
Told R None (Some new) = ⊥
Told R (Some old) None = ⊥
Told R (Some old) (Some new) = R old new

-- n bytes from an offset on, where they are told
abbrev pub ReadsFrom : Option (List ℕ) → ℕ → List ℕ → Type 0
ReadsFrom None at got = ⊤
ReadsFrom (Some b) at got = (at + length got ≤ length b) × (got ≡ take (length got) (drop at b))

-- after a write of n bytes at an offset that failed
pub record Torn (at n : ℕ) (old new : List ℕ) : Type 0 where
  pub before : take (min at (length old)) new ≡ take at old
  pub after : drop (at + n) new ≡ drop (at + n) old
  pub no_shorter : length old ≤ length new
  pub no_longer : length new ≤ max (length old) (at + n)

-- after a resize that failed
pub record Cut (n : ℕ) (old new : List ℕ) : Type 0 where
  pub front : take (min n (length old)) new ≡ take n old

-- the length of what is told
abbrev pub IsLengthOf : Option (List ℕ) → ℕ → Type 0
IsLengthOf None n = ⊤
IsLengthOf (Some b) n = length b ≡ n

-- a range passes the end of what is told
abbrev pub Strays : Option (List ℕ) → ℕ → ℕ → ℕ → ℕ → Type 0
Strays None at n old new = old ≤ new
Strays (Some b) at n old new = (at + n ≤ length b → new ≡ old) × (length b + 1 ≤ at + n → new ≡ raised old 1)

-- what is durable now is what was told, if it was
abbrev pub SyncedTo : Option (List ℕ) → List ℕ → List ℕ → Type 0
SyncedTo told before now = (b : List ℕ) → told ≡ Some b → now ≡ b
