-- Each byte goes through its box.
use Rattle.softaes.proofs.TableColumns.{last_column_entries}
use Rattle.softaes.proofs.unprotected.rounds.last_column.Goals as goal

pub returns : goal.returns
returns c = last_column_entries c.args.w0 c.args.w1 c.args.w2 c.args.w3 c.from_le_bytes.result c.from_le_bytes.ensures
