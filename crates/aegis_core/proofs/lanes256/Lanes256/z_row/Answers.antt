use Rattle.aegis_core.specs.Lanes256.{z}
use Rattle.aegis_core.proofs.RowLemmas.{row_flat}
use Rattle.aegis_core.proofs.lanes256.Lanes256.z_row.Goals as goal

pub returns-clause-blocks : goal.returns-clause-blocks
returns-clause-blocks g c = row_flat z c.args.count c.args.self.now.count _ _ _ _ _ _ _ _ c.requires c.z.ensures c.z-2.ensures c.z-3.ensures c.z-4.ensures
