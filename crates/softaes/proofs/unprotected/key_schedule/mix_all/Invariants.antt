-- The blocks so far are mixed, and the others are as they were.
use Rattle.std.proofs.Common.{◌≡◌, ◌++◌, map, take, drop}
use Rattle.aes_spec.specs.Rounds.{inv_mix_columns}
use Rattle.softaes.proofs.unprotected.key_schedule.mix_all.Given as goal

abbrev pub invariant-keys : goal.invariant-keys
invariant-keys l = l.keys ≡ map inv_mix_columns (take l.j l.initial.keys) ++ drop l.j l.initial.keys
