use Rattle.std.proofs.Common.{arith, ◌+◌}
use Rattle.raf_script.proofs.PartsLemmas.{found_at, none_at, whole_drop}
use Rattle.raf_script.proofs.words.cut_at.Goals as goal

pub returns-then-x-byte-clause-parts : goal.returns-then-x-byte-clause-parts
returns-then-x-byte-clause-parts c =
    rw (whole_drop (c.loop-i.i + 1) c.args.text.now) (found_at c.args.byte c.args.text.now c.loop-i.i c.loop-i-test.true c.loop-i.invariant c.if-x-byte.true)

pub returns-clause-parts : goal.returns-clause-parts
returns-clause-parts c = none_at c.args.byte c.args.text.now (λ k h. c.loop-i.invariant k (omega arith))
