-- The ends of the reversed keys stay, and what lies between is mixed.
use Rattle.std.proofs.Common.{◌∙◌, List, ℕ, length, map, take, drop, ◌++◌, ◌-◌, ap, arith}
use Rattle.aes_spec.specs.KeySchedule.{inner, inverse_keys}
use Rattle.aes_spec.specs.Rounds.{inv_mix_columns}
use Rattle.softaes.proofs.InvertedKeys.{inverted}
use Rattle.softaes.proofs.unprotected.key_schedule.invert.Goals as goal

pub returns : goal.returns
unfolding inverse_keys
returns c =
    let back : List (List ℕ) = c.reverse.new.self in
    inverted back c.mix_all.new.keys (omega (arith, c.reverse.ensures.len)) c.mix_all.ensures
    ∙ ap (λ (v : List (List ℕ)). take 1 v ++ map inv_mix_columns (inner v) ++ drop (length v - 1) v) c.reverse.ensures.after
