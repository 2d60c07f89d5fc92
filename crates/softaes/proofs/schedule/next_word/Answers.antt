-- The word `own` places before and the changed last word give the next.
use Rattle.std.proofs.Common.{arith}
use Rattle.softaes.proofs.KeyWords.{next_word-map}
use Rattle.softaes.proofs.schedule.next_word.Goals as goal

pub returns : goal.returns
returns g c = next_word-map c.args.own c.args.words.now c.changed.result (omega arith) c.requires.some c.changed.ensures
