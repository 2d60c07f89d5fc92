use Rattle.std.proofs.Common.{◌≡◌, ℕ, ◌+◌, ◌-◌, take, drop, ap, arith}
use Rattle.raf.proofs.Pieces.{staged}
use Rattle.raf.proofs.staging.stage_chunk.Goals as goal

pub returns : goal.returns
returns c =
    let n : c.min-from.result + c.min-n.result - c.min-from.result ≡ c.min-n.result = omega arith in
    staged c.args.start c.args.offset c.args.bytes.now c.args.chunk.now c.args.kept c.min-skip.result c.min-from.result c.min-n.result c.requires (omega arith) (omega arith) (omega arith)
    c.clear_from.new.chunk c.overwrite.new.bytes _ c.clear_from.ensures (ap (λ (k : ℕ). take k (drop c.min-from.result c.args.bytes.now)) n) c.overwrite.ensures
