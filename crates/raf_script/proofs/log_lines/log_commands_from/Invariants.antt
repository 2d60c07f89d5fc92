use Rattle.std.proofs.Common.{◌≡◌, ◌≤◌, ◌+◌, length}
use Rattle.raf_script.specs.Lines.{lines}
use Rattle.raf_script.specs.Reading.{log_command_words, items}
use Rattle.raf_script.proofs.ItemLemmas.{with_front}
use Rattle.raf_script.proofs.log_lines.log_commands_from.Given as goal

abbrev pub invariant-loop-rest : goal.invariant-loop-rest
invariant-loop-rest l = (with_front l.list (items log_command_words l.next (lines l.rest)) ≡ items log_command_words l.number (lines l.text))
    × (l.next + length l.rest ≤ l.number + length l.text)

abbrev pub decreases-loop-rest : goal.decreases-loop-rest
decreases-loop-rest l = length l.rest
