-- The last bytes of an input, which are less than a block (AEGIS specification, ZeroPad).
use Rattle.std.specs.Prelude.{ℕ, ◌-◌, List, [], ◌∷◌, ◌++◌, length, replicate}
use Rattle.aegis_core.specs.Lanes.{State}
use Rattle.aegis_core.specs.Family.{Family}

-- the state after less than a block, padded with zeros; nothing is no block
abbrev pub absorbed_tail : Family → State → List ℕ → State
absorbed_tail f s [] = s
absorbed_tail f s (b ∷ bs) = f.update s ((b ∷ bs) ++ replicate (f.rate - length (b ∷ bs)) 0)
