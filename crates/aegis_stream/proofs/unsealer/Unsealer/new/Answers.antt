use Rattle.std.proofs.Common.{sym, subst}
use Rattle.aegis_stream.specs.Progress.{IsBegun}
use Rattle.aegis_stream.proofs.Feeding.{nothing_begun}
use Rattle.aegis_stream.proofs.unsealer.Unsealer.new.Goals as goal

pub invariant_of-result : goal.invariant_of-result
invariant_of-result c = subst IsBegun (sym c.in_ok-new.ensures) nothing_begun
