-- What a script spells: the text of each content, in the words of the script format. The format is this project's own.
use Rattle.std.specs.Prelude.{◌≡◌, ◌∷◌, [], ℕ, List, codes, Result, Ok, Err, ⊤}
use Rattle.raf.specs.declared.command.Command.{Command}
use Rattle.raf.specs.declared.command.Command.TheVariants as command
use Rattle.raf_script.specs.Places.{IsFirstWrong}
use Rattle.raf_script.specs.Settings.{SpellsNumber, SpellsBytes, SpellsLines, FitsLines}
use Rattle.raf_script.specs.declared.script.Medium.{Medium}
use Rattle.raf_script.specs.declared.script.Script.{Script}
use Rattle.raf_script.specs.declared.script.ScriptError.{ScriptError}
use Rattle.raf_script.specs.declared.script.ScriptError.TheVariants as errors
use Rattle.raf_script.specs.declared.script.Settings.{Settings}

-- a line from the sixth on
abbrev pub SpellsCommand : List (List ℕ) → Command → Type 0
SpellsCommand words (command.Read offset len) =
    (o : List ℕ) × (l : List ℕ) × (words ≡ codes "read" ∷ o ∷ l ∷ []) × SpellsNumber 64 o offset × SpellsNumber 64 l len
SpellsCommand words (command.Write offset bytes) =
    (o : List ℕ) × (b : List ℕ) × (words ≡ codes "write" ∷ o ∷ b ∷ []) × SpellsNumber 64 o offset × SpellsBytes b bytes
SpellsCommand words (command.Truncate size) = (z : List ℕ) × (words ≡ codes "truncate" ∷ z ∷ []) × SpellsNumber 64 z size
SpellsCommand words command.Size = words ≡ codes "size" ∷ []
SpellsCommand words command.Sync = words ≡ codes "sync" ∷ []
SpellsCommand words command.Rebuild = words ≡ codes "rebuild" ∷ []
SpellsCommand words command.Verify = words ≡ codes "verify" ∷ []
SpellsCommand words command.Commitment = words ≡ codes "commitment" ∷ []

abbrev pub settings_of : Script → Settings
settings_of s = record { algorithm = s.algorithm; key = s.key; randomness = s.randomness; max_chunks = s.max_chunks; start = s.start }

-- The text is a script with this content, over a storage of this kind: five lines of settings, and then a line a command.
abbrev pub Spells : Medium → List ℕ → Script → Type 0
Spells medium text s = SpellsLines SpellsCommand medium text (settings_of s) s.commands

-- A line of words fits its place, which is after these lines.
abbrev pub Fits : Medium → List (List (List ℕ)) → List (List ℕ) → Type 0
Fits medium = FitsLines SpellsCommand medium

-- What a reading of the text answered: the content that it spells; or, where it spells none, its first wrong line. Want of memory is free.
abbrev pub Reads : Medium → List ℕ → Result Script ScriptError → Type 0
Reads medium text (Ok s) = Spells medium text s
Reads medium text (Err (errors.Line n)) = IsFirstWrong (Fits medium) 5 text n × ((s : Script) → Spells medium text s → ⊥)
Reads medium text (Err errors.OutOfMemory) = ⊤
