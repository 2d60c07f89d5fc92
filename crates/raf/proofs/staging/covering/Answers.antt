use Rattle.std.proofs.Common.{◌≡◌, ◌+◌, ◌-◌, ℕ, length, take, drop, sym, ap, ◌∙◌, arith}
use Rattle.raf.proofs.Pieces.{covers}
use Rattle.raf.proofs.staging.covering.Goals as goal

pub returns-clause-covers : goal.returns-clause-covers
returns-clause-covers c = λ old len.
    let from = c.args.start - c.args.offset in
    let n : from + c.args.len - from ≡ length old = omega (arith, len) in
    ap (λ (k : ℕ). take k (drop from c.args.bytes.now)) n ∙ sym (covers c.args.start c.args.offset c.args.bytes.now old (omega arith) (omega (arith, len)))
