-- The keys so far are the round keys of the words.
use Rattle.std.proofs.Common.{◌≡◌, ℕ, ◌<◌, [], get_or, map}
use Rattle.aes_spec.specs.KeySchedule.{round_key}
use Rattle.softaes.proofs.KeyWords.{le}
use Rattle.softaes.proofs.unprotected.key_schedule.expand.Given as goal

abbrev pub invariant-keys : goal.invariant-keys
invariant-keys l = (k : ℕ) → k < l.j → get_or l.keys k [] ≡ round_key (map le l.words) k
