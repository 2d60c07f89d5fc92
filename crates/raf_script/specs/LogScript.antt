-- What the source of a log spells: five lines of settings, as a script in memory has them, and then a line a command (this project's own).
use Rattle.std.specs.Prelude.{◌≡◌, ◌∷◌, [], ℕ, List, codes, Result, Ok, Err, ⊤}
use Rattle.raf_log.specs.declared.command.LogCommand.{LogCommand}
use Rattle.raf_log.specs.declared.command.LogCommand.TheVariants as command
use Rattle.raf_script.specs.Places.{IsFirstWrong}
use Rattle.raf_script.specs.Settings.{SpellsNumber, SpellsBytes, SpellsLines, FitsLines}
use Rattle.raf_script.specs.declared.log_script.LogScript.{LogScript}
use Rattle.raf_script.specs.declared.script.Medium.TheVariants.{Memory}
use Rattle.raf_script.specs.declared.script.ScriptError.{ScriptError}
use Rattle.raf_script.specs.declared.script.ScriptError.TheVariants as errors
use Rattle.raf_script.specs.declared.script.Settings.{Settings}

-- a line from the sixth on
abbrev pub SpellsLogCommand : List (List ℕ) → LogCommand → Type 0
SpellsLogCommand words (command.Append entry) = (w : List ℕ) × (words ≡ codes "append" ∷ w ∷ []) × SpellsBytes w entry
SpellsLogCommand words (command.Get index) = (w : List ℕ) × (words ≡ codes "get" ∷ w ∷ []) × SpellsNumber 64 w index
SpellsLogCommand words command.Count = words ≡ codes "count" ∷ []
SpellsLogCommand words command.Commitment = words ≡ codes "commitment" ∷ []

abbrev pub log_settings : LogScript → Settings
log_settings s = record { algorithm = s.algorithm; key = s.key; randomness = s.randomness; max_chunks = s.max_chunks; start = s.start }

-- The text is a log's source with this content.
abbrev pub SpellsLog : List ℕ → LogScript → Type 0
SpellsLog text s = SpellsLines SpellsLogCommand Memory text (log_settings s) s.commands

-- A line of words fits its place, which is after these lines.
abbrev pub FitsLog : List (List (List ℕ)) → List (List ℕ) → Type 0
FitsLog = FitsLines SpellsLogCommand Memory

-- What a reading of the text answered: the content that it spells; or, where it spells none, its first wrong line. Want of memory is free.
abbrev pub ReadsLog : List ℕ → Result LogScript ScriptError → Type 0
ReadsLog text (Ok s) = SpellsLog text s
ReadsLog text (Err (errors.Line n)) = IsFirstWrong FitsLog 5 text n × ((s : LogScript) → SpellsLog text s → ⊥)
ReadsLog text (Err errors.OutOfMemory) = ⊤
