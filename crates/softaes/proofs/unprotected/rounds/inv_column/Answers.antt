-- Each look-up adds a column of the matrix.
use Rattle.softaes.proofs.TableColumns.{inv_column_entries}
use Rattle.softaes.proofs.unprotected.rounds.inv_column.Goals as goal

pub returns : goal.returns
returns c r hr = inv_column_entries c.args.w0 c.args.w1 c.args.w2 c.args.w3 r hr
