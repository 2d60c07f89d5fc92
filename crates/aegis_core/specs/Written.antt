-- What contracts see of a lent destination (this project's own).
use Rattle.std.specs.Prelude.{ℕ, List}

-- the bytes that are written, how many there may be, and what stands behind those that are written
pub record Written : Type 0 where
  pub bytes : List ℕ
  pub capacity : ℕ
  pub rest : List ℕ
