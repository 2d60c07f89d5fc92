use Rattle.aegis_core.specs.Lanes128.{z1}
use Rattle.aegis_core.proofs.RowLemmas.{row_flat}
use Rattle.aegis_core.proofs.lanes128.Lanes128.z1_row.Goals as goal

pub returns-clause-blocks : goal.returns-clause-blocks
returns-clause-blocks g c = row_flat z1 c.args.count c.args.self.now.count _ _ _ _ _ _ _ _ c.requires c.z1.ensures c.z1-2.ensures c.z1-3.ensures c.z1-4.ensures
