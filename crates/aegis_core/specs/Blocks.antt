-- A list of bytes cut into blocks of r bytes, the last one padded with zeros (AEGIS specification, ZeroPad and Split).
use Rattle.std.specs.Prelude.{ℕ, zero, suc, ◌-◌, ◌*◌, ◌%◌, ◌/◌, List, [], ◌∷◌, ◌++◌, length, take, drop, replicate}

-- block i of p
abbrev pub block_at : ℕ → List ℕ → ℕ → List ℕ
block_at r p i = take r (drop (i * r) p)

-- the first n blocks of p
unfoldable pub first_blocks : ℕ → List ℕ → ℕ → List (List ℕ)
first_blocks r p zero = []
first_blocks r p (suc n) = first_blocks r p n ++ block_at r p n ∷ []

-- p padded with zeros to whole blocks; nothing stays nothing
abbrev pub padded : ℕ → List ℕ → List ℕ
padded r p = p ++ replicate ((r - length p % r) % r) 0

-- the blocks of p padded with zeros
abbrev pub blocks : ℕ → List ℕ → List (List ℕ)
blocks r p = first_blocks r (padded r p) (length (padded r p) / r)
