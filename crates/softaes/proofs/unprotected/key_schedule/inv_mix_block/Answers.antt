-- Each column is mixed.
use Rattle.std.proofs.Common.{ap, ◌∙◌}
use Rattle.aes_spec.specs.Rounds.{inv_mix_columns}
use Rattle.softaes.proofs.TableRounds.{unmixed_columns}
use Rattle.softaes.proofs.unprotected.key_schedule.inv_mix_block.Goals as goal

pub returns : goal.returns
returns c =
    let x = c.block.inside in
    unmixed_columns x.c0 x.c1 x.c2 x.c3 c.inv_mix_column.result c.inv_mix_column-2.result c.inv_mix_column-3.result c.inv_mix_column-4.result
    c.inv_mix_column.ensures c.inv_mix_column-2.ensures c.inv_mix_column-3.ensures c.inv_mix_column-4.ensures
    ∙ ap inv_mix_columns c.block.view_is
