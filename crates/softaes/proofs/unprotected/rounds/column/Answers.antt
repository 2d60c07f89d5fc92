-- Each look-up adds a column of the matrix.
use Rattle.softaes.proofs.TableColumns.{column_entries}
use Rattle.softaes.proofs.unprotected.rounds.column.Goals as goal

pub returns : goal.returns
returns c r hr = column_entries c.args.w0 c.args.w1 c.args.w2 c.args.w3 r hr
