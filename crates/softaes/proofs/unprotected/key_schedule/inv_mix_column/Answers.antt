-- The S-box undoes that of the inverse tables.
use Rattle.softaes.proofs.TableColumns.{inv_mix_entries}
use Rattle.softaes.proofs.unprotected.key_schedule.inv_mix_column.Goals as goal

pub returns : goal.returns
returns c r hr = inv_mix_entries c.args.w r hr
