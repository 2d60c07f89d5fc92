use Rattle.std.proofs.Common.{arith, ap}
use Rattle.std.specs.List.{sum}
use Rattle.std.proofs.lemmas.List.{drop_all}
use Rattle.raf_run.proofs.DemoLemmas.{sum_next}
use Rattle.raf_run.proofs.demo.sum_of.Goals as goal

pub loop-byte-preserved : goal.loop-byte-preserved
loop-byte-preserved c =
    let next = sum_next c.args.bytes.now c.loop-byte.byte-index c.loop-byte-test.true in
    record {
      most = omega (arith, c.loop-byte.invariant.most, c.type_inv.bytes c.loop-byte.byte-index);
      so_far = omega (arith, next, c.loop-byte.invariant.so_far);
    }

pub returns : goal.returns
returns c =
    let none = ap sum (drop_all c.loop-byte.byte-index c.args.bytes.now c.loop-byte-test.false) in
    omega (arith, none, c.loop-byte.invariant.so_far)
