use Rattle.std.proofs.Common.{length, ◌-◌, ◌+◌, ◌≡◌, ◌≤◌}
use Rattle.std.specs.Io.KnownBytes.{Consumes}
use Rattle.program_io.specs.Streams.{TellsAsBefore}
use Rattle.program_io.proofs.whole.read_whole.Given as goal

abbrev pub invariant-loop-piece : goal.invariant-loop-piece
invariant-loop-piece g l = (length l.text.items ≤ l.limit + 1)
    × Consumes (g.S.Source.left l.fn.source) (g.S.Source.left l.source) l.text.items
    × (g.S.Source.faults l.source ≡ g.S.Source.faults l.fn.source)
    × TellsAsBefore (g.S.Source.left l.fn.source) (g.S.Source.left l.source)

abbrev pub decreases-loop-piece : goal.decreases-loop-piece
decreases-loop-piece g l = l.limit + 1 - length l.text.items
