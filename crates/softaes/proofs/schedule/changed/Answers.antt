-- A word at a multiple of the key's length has its round constant.
use Rattle.std.proofs.Common.{arith, ap, ◌∙◌}
use Rattle.aes_spec.specs.KeySchedule.{sub_word}
use Rattle.softaes.proofs.KeyWords.{le, changed_at, count_small}
use Rattle.softaes.proofs.schedule.changed.Goals as goal

pub returns-then-i-own-eq0 : goal.returns-then-i-own-eq0
returns-then-i-own-eq0 g c =
    changed_at c.args.own c.args.i c.sub_word.result (le c.args.word) c.if-i-own-eq0.true
    (count_small c.args.own c.args.i (omega arith) c.requires.few)
    (c.sub_word.ensures ∙ ap sub_word c.rot_word.ensures)
