-- One more block is mixed.
use Rattle.std.proofs.Common.{◌∙◌, ap, arith, set}
use Rattle.std.proofs.lemmas.List.Edits.{map_over_more}
use Rattle.aes_spec.specs.Rounds.{inv_mix_columns}
use Rattle.softaes.proofs.unprotected.key_schedule.mix_all.Goals as goal

pub keys-preserved : goal.keys-preserved
keys-preserved c =
    ap (set c.keys.keys c.keys.j) c.inv_mix_block.ensures
    ∙ map_over_more inv_mix_columns c.args.keys.now c.keys.keys c.keys.j c.index-keys-j.result (omega arith) c.keys.invariant c.index-keys-j.is
