-- The words so far are those of the schedule.
use Rattle.std.proofs.Common.{◌≡◌, ◌-◌, map, take}
use Rattle.aes_spec.specs.KeySchedule.{key_words, with_next}
use Rattle.softaes.proofs.KeyWords.{le}
use Rattle.softaes.proofs.schedule.expand_words.Given as goal

abbrev pub invariant-own : goal.invariant-own
invariant-own g l = map le (take l.i l.words) ≡ key_words l.key l.i

abbrev pub invariant-rest : goal.invariant-rest
invariant-rest g l = map le (take l.i l.words) ≡ with_next l.own (key_words l.key l.own) (l.i - l.own)
