use Rattle.std.proofs.Common.{length, take, ◌-◌, ◌≡◌, ◌≤◌}
use Rattle.std.specs.Io.KnownBytes.{Consumes}
use Rattle.raf_os.proofs.whole.read_whole.Given as goal

abbrev pub invariant-loop-at : goal.invariant-loop-at
invariant-loop-at g l = (length l.buf ≡ length l.initial.buf)
    × (l.at ≤ length l.buf)
    × Consumes (g.T.Read.remaining l.fn.reader) (g.T.Read.remaining l.reader) (take l.at l.buf)

-- each turn reads a byte
abbrev pub decreases-loop-at : goal.decreases-loop-at
decreases-loop-at g l = length l.initial.buf - l.at
