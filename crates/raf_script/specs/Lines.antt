-- The lines of a text, and readings that name the line that is wrong (this project's own).
use Rattle.std.specs.Prelude.{◌≡◌, ◌∷◌, [], ℕ, List, length, Option, Some, None, Result, Ok, Err, if◌then◌else◌, ◌==◌}
use Rattle.raf_script.specs.Words.{parts}
use Rattle.raf_script.specs.declared.script.ScriptError.{ScriptError}
use Rattle.raf_script.specs.declared.script.ScriptError.TheVariants as errors

-- Each part before an LF is a line. What follows the last LF, if anything, is a line without LF: None.
abbrev pub lines_of_parts : List (List ℕ) → List (Option (List ℕ))
lines_of_parts [] = []
lines_of_parts (last ∷ []) = if length last == 0 then [] else None ∷ []
lines_of_parts (line ∷ next ∷ more) = Some line ∷ lines_of_parts (next ∷ more)

unfoldable pub lines : List ℕ → List (Option (List ℕ))
lines text = lines_of_parts (parts 10 text)

-- a reading goes on with the value, or ends with the number of the wrong line
infixl 10 ◌>>=◌
abbrev pub ◌>>=◌ : {A B : Type 0} → Result A ℕ → (A → Result B ℕ) → Result B ℕ
Ok x >>= f = f x
Err n >>= f = Err n

-- the value, or line n is wrong
abbrev pub fits : {A : Type 0} → ℕ → Option A → Result A ℕ
fits n (Some x) = Ok x
fits n None = Err n

-- line n, which is the first of these, and the lines after it
abbrev pub first : ℕ → List (Option (List ℕ)) → Result (List ℕ × List (Option (List ℕ))) ℕ
first n [] = Err n
first n (None ∷ more) = Err n
first n (Some line ∷ more) = Ok (line, more)

-- why a function of the program failed is what the reading says, unless memory ran out
abbrev pub Fails : {Y : Type 0} → ScriptError → Result Y ℕ → Type 0
Fails errors.OutOfMemory read = Unit {0}
Fails (errors.Line n) read = read ≡ Err n

-- what a function of the program returned, seen by view, is what the reading gives, unless memory ran out
abbrev pub Gives : {X Y : Type 0} → (X → Y) → Result X ScriptError → Result Y ℕ → Type 0
Gives view (Ok x) read = read ≡ Ok (view x)
Gives view (Err e) read = Fails e read
