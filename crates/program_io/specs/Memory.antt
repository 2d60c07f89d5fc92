-- What contracts see of the source and the sink in memory (this project's own).
use Rattle.std.specs.Prelude.{ℕ, List}

-- the bytes that are left or were written, the numbers of the calls that are to fail, how many calls were made, and
-- how many failed
pub record Memory : Type 0 where
  pub bytes : List ℕ
  pub fail : List ℕ
  pub calls : ℕ
  pub faults : ℕ
