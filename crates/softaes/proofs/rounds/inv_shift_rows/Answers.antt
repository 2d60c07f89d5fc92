-- Each byte by its place in the two words.
use Rattle.std.proofs.Common.{arith}
use Rattle.softaes.proofs.InverseRows.{inv_shifted_bytes}
use Rattle.softaes.proofs.rounds.inv_shift_rows.Goals as goal

pub returns : goal.returns
returns c = inv_shifted_bytes c.args.lo c.args.hi (omega arith) (omega arith)
