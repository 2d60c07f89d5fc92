use Rattle.std.proofs.Common.{arith, drop, ◌+◌}
use Rattle.std.proofs.lemmas.Result.{err_from_is_err_and}
use Rattle.hex.specs.Hex.{encode_lower}
use Rattle.raf_run.proofs.PutLemmas.{puts_then, puts_stop, puts_none, encode-none, encode_more, encode_split, piece_is}
use Rattle.raf_run.proofs.output.put_digits.Goals as goal

pub loop-at-init : goal.loop-at-init
loop-at-init g c = (omega arith, rw encode-none (puts_none (g.K.Sink.written c.args.sink.now) (g.K.Sink.faults c.args.sink.now)))

pub returns-in_err-put_piece : goal.returns-in_err-put_piece
returns-in_err-put_piece g c =
    let p = err_from_is_err_and c.from_residual.result c.from_residual.ensures.1 in
    let at = c.loop-at.at in
    let n = c.min-count.result in
    let bytes = c.args.bytes.now in
    let put = rw (piece_is at n bytes) at c.in_err-put_piece.ensures in
    rw (p.1, ← encode_split at n bytes) (puts_stop p.0 (encode_lower (drop (at + n) bytes)) (puts_then c.loop-at.invariant.1 put))

pub loop-at-preserved : goal.loop-at-preserved
loop-at-preserved g c =
    let at = c.loop-at.at in
    let n = c.min-count.result in
    let bytes = c.args.bytes.now in
    let put = rw (piece_is at n bytes) at c.in_ok-put_piece.ensures in
    (omega (arith, c.min-count.ensures), rw (encode_more at n bytes) (puts_then c.loop-at.invariant.1 put))
