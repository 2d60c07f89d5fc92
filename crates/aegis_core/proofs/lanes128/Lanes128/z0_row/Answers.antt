use Rattle.aegis_core.specs.Lanes128.{z0}
use Rattle.aegis_core.proofs.RowLemmas.{row_flat}
use Rattle.aegis_core.proofs.lanes128.Lanes128.z0_row.Goals as goal

pub returns-clause-blocks : goal.returns-clause-blocks
returns-clause-blocks g c = row_flat z0 c.args.count c.args.self.now.count _ _ _ _ _ _ _ _ c.requires c.z0.ensures c.z0-2.ensures c.z0-3.ensures c.z0-4.ensures
