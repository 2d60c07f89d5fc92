-- What a call does to the bytes of a source or a sink (this project's own).
use Rattle.std.specs.Prelude.{◌≡◌, ◌<◌, ◌≤◌, ℕ, List, length, take, Option, Result, IfOk, is_some}
use Rattle.std.specs.Io.KnownBytes.{Appends, Consumes}

-- whether an object tells its bytes doesn't change
abbrev pub TellsAsBefore : Option (List ℕ) → Option (List ℕ) → Type 0
TellsAsBefore old new = is_some new ≡ is_some old

-- of a piece that isn't empty something is taken
abbrev pub TakesSome : {E : Type 0} → Result ℕ E → List ℕ → Type 0
TakesSome result piece = IfOk result (λ n. 0 < length piece → 0 < n)

-- what was appended is a prefix of the text
abbrev pub AppendsPrefix : Option (List ℕ) → Option (List ℕ) → List ℕ → Type 0
AppendsPrefix old new text = (n : ℕ) × (n ≤ length text) × Appends old new (take n text)

-- what was consumed has at most so many bytes
abbrev pub ConsumesAtMost : Option (List ℕ) → Option (List ℕ) → ℕ → Type 0
ConsumesAtMost old new most = (bytes : List ℕ) × (length bytes ≤ most) × Consumes old new bytes

-- what a source had left, where it tells, and how often it had failed, before some calls and after them
pub record Intake : Type 0 where
  pub left : Option (List ℕ)
  pub after : Option (List ℕ)
  pub faults : ℕ
  pub faults_after : ℕ

abbrev pub intake_of : {S : Type 0} (left : S → Option (List ℕ)) (faults : S → ℕ) → S → S → Intake
intake_of left faults old new = record { left = left old; after = left new; faults = faults old; faults_after = faults new }

-- what had been written to a sink, where it tells, and how often it had failed, before some calls and after them
pub record Output : Type 0 where
  pub written : Option (List ℕ)
  pub after : Option (List ℕ)
  pub faults : ℕ
  pub faults_after : ℕ

abbrev pub output_of : {K : Type 0} (written : K → Option (List ℕ)) (faults : K → ℕ) → K → K → Output
output_of written faults old new = record { written = written old; after = written new; faults = faults old; faults_after = faults new }
