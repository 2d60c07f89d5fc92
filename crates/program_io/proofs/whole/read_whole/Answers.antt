use Rattle.std.proofs.Common.{arith, take, ◌++◌, ℕ}
use Rattle.std.proofs.lemmas.List.{length-append, length-take}
use Rattle.program_io.proofs.StreamLemmas.{consumes_more}
use Rattle.program_io.proofs.whole.read_whole.Goals as goal

pub returns-in_err-extend_from_slice-clause-most :
    goal.returns-in_err-extend_from_slice-clause-most
returns-in_err-extend_from_slice-clause-most g c = (
  c.loop-piece.text.items ++ take c.in-Ok.count c.read.new.buf,
  omega (arith, length-append c.loop-piece.text.items (take c.in-Ok.count c.read.new.buf), length-take c.in-Ok.count c.read.new.buf, c.in-Ok.ensures.bound, c.read.auto.buf, c.min-room.ensures, c.len-in-loop-piece.ensures, length-take {A = ℕ}),
  consumes_more (g.S.Source.left c.args.source.now) (g.S.Source.left c.loop-piece.source) (g.S.Source.left c.read.new.self) c.loop-piece.text.items (take c.in-Ok.count c.read.new.buf) c.loop-piece.invariant.1 c.in-Ok.ensures.bytes.0,
)
