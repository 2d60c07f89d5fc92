-- A reading of a text of five lines of settings and a line an item, by what the text spells.
use Rattle.std.proofs.Common.{ℕ, List, Result, Ok, Err, sym, ◌∙◌}
use Rattle.raf_script.specs.Lines.{Gives}
use Rattle.raf_script.specs.Reading.{command_words, log_command_words, whole}
use Rattle.raf_script.specs.Script.{SpellsCommand, settings_of, Reads}
use Rattle.raf_script.specs.LogScript.{SpellsLogCommand, log_settings, ReadsLog}
use Rattle.raf_script.specs.declared.script.Medium.{Medium}
use Rattle.raf_script.specs.declared.script.Medium.TheVariants.{Memory}
use Rattle.raf_script.specs.declared.script.Script.{Script}
use Rattle.raf_script.specs.declared.log_script.LogScript.{LogScript}
use Rattle.raf_script.specs.declared.script.ScriptError.{ScriptError}
use Rattle.raf_script.specs.declared.script.ScriptError.TheVariants as errors
use Rattle.raf_script.proofs.ReadingLemmas.{lines_spelled, command_spelled}
use Rattle.raf_script.proofs.SpellingLemmas.{lines_read, command_is_line, command_read}
use Rattle.raf_script.proofs.WrongLemmas.{wrong_lines, names_command, names_log_command}
use Rattle.raf_script.proofs.LogLemmas.{log_command_spelled, log_command_is_line, log_command_read}

pub reads_spelled : (medium : Medium) (text : List ℕ) (r : Result Script ScriptError) → Gives (λ s. (settings_of s, s.commands)) r (whole command_words medium text) → Reads medium text r
reads_spelled medium text (Ok s) h = lines_spelled SpellsCommand command_words command_spelled medium text (settings_of s) s.commands h
reads_spelled medium text (Err (errors.Line n)) h = (
  wrong_lines SpellsCommand command_words command_is_line command_read command_spelled names_command medium text n h,
  λ s spelled. let clash = sym h ∙ lines_read SpellsCommand command_words command_is_line command_read medium text (settings_of s) s.commands spelled in (cc),
)
reads_spelled medium text (Err errors.OutOfMemory) h = tt

pub log_spelled : (text : List ℕ) (r : Result LogScript ScriptError) → Gives (λ s. (log_settings s, s.commands)) r (whole log_command_words Memory text) → ReadsLog text r
log_spelled text (Ok s) h = lines_spelled SpellsLogCommand log_command_words log_command_spelled Memory text (log_settings s) s.commands h
log_spelled text (Err (errors.Line n)) h = (
  wrong_lines SpellsLogCommand log_command_words log_command_is_line log_command_read log_command_spelled names_log_command Memory text n h,
  λ s spelled. let clash = sym h ∙ lines_read SpellsLogCommand log_command_words log_command_is_line log_command_read Memory text (log_settings s) s.commands spelled in (cc),
)
log_spelled text (Err errors.OutOfMemory) h = tt
