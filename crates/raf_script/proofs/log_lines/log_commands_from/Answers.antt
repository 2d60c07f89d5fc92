use Rattle.std.proofs.Common.{arith, ap, ◌∙◌}
use Rattle.std.proofs.lemmas.Result.{err_from_is_err_and}
use Rattle.std.proofs.lemmas.List.{nil_from_length}
use Rattle.raf_script.specs.Lines.{lines}
use Rattle.raf_script.specs.Reading.{log_command_words, items}
use Rattle.raf_script.proofs.PartsLemmas.{lines_none}
use Rattle.raf_script.proofs.ItemLemmas.{goes_on, item_ends, cut_ends, is_done}
use Rattle.raf_script.proofs.log_lines.log_commands_from.Goals as goal

pub returns-in_err-line : goal.returns-in_err-line
returns-in_err-line c =
    let p = err_from_is_err_and c.from_residual.result c.from_residual.ensures.1 in
    rw (p.1, p.2) (cut_ends log_command_words c.in_err-line.field-0.0 c.loop-rest.list c.loop-rest.next (lines c.loop-rest.rest.now) (items log_command_words c.args.number (lines c.args.text.now)) (c.in_err-line.ensures.cut (grind arith)) c.in_err-line.ensures.read c.loop-rest.invariant.0)

pub returns-in_err-command : goal.returns-in_err-command
returns-in_err-command c =
    let p = err_from_is_err_and c.from_residual-in_err-command.result c.from_residual-in_err-command.ensures.1 in
    rw (p.1, p.2) (item_ends log_command_words c.in_err-command.field-0.0 c.loop-rest.list c.loop-rest.next (lines c.loop-rest.rest.now) c.in_ok-line.line.now (lines c.in_ok-line.after.now) (items log_command_words c.args.number (lines c.args.text.now)) c.in_ok-line.ensures.read c.in_err-command.ensures c.loop-rest.invariant.0)

pub loop-rest-preserved : goal.loop-rest-preserved
loop-rest-preserved c = (
  rw c.in_ok-push.ensures.ok (goes_on log_command_words c.loop-rest.list c.loop-rest.next (lines c.loop-rest.rest.now) c.in_ok-line.line.now (lines c.in_ok-line.after.now) c.in_ok-command.command (items log_command_words c.args.number (lines c.args.text.now)) c.in_ok-line.ensures.read c.in_ok-command.ensures c.loop-rest.invariant.0),
  omega (arith, c.in_ok-line.ensures.shorter, c.loop-rest.invariant.1),
)

pub returns : goal.returns
returns c = is_done log_command_words c.loop-rest.list c.loop-rest.next (lines c.loop-rest.rest.now) (items log_command_words c.args.number (lines c.args.text.now)) (ap lines (nil_from_length c.loop-rest.rest.now (grind arith)) ∙ lines_none) c.loop-rest.invariant.0
