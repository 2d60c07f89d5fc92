use Rattle.std.proofs.Common.{Result}
use Rattle.raf_format.specs.Cipher.{cipher_of}
use Rattle.raf.specs.Carry.{Finishes}
use Rattle.raf_io.specs.declared.errors.Error.{Error}
use Rattle.raf.proofs.Tears.{handed_result}
use Rattle.raf.proofs.Finished.{finishes_unwritten, finishes_grown, finishes_cut}
use Rattle.raf.proofs.committing.finish.Goals as goal

pub returns-in_err-write : goal.returns-in_err-write
returns-in_err-write g c =
    let C = cipher_of g.A.Algorithm.variant in
    let key = g.A.Algorithm.key_list c.args.key.now in
    let h = c.args.header.now in
    let p = c.args.plan.now in
    let e = c.in_err-write.field-0.0 in
    let w = c.in_err-write.ensures in
    handed_result c.from_residual.result e (λ (r : Result (Unit {0}) Error). Finishes C key h p c.args.parts.now c.write.new.self r) c.from_residual.ensures.1
    (finishes_unwritten C key h p c.if-plan.false c.args.parts.now c.write.new.self c.write_header.new.out c.write_header.array_long c.write_header.ensures.header w.moved w.began e w.torn w.left w.failed w.strays)

pub returns-then-plan-2 : goal.returns-then-plan-2
returns-then-plan-2 g c =
    let C = cipher_of g.A.Algorithm.variant in
    let key = g.A.Algorithm.key_list c.args.key.now in
    let w = c.in_ok-write.ensures in
    finishes_grown C key c.args.header.now c.args.plan.now c.if-plan.false c.args.parts.now c.write.new.self c.write_header.new.out c.write_header.array_long c.write_header.ensures.header w.moved w.began w.written w.left w.quiet w.strays tt c.if-plan-2.true

pub returns : goal.returns
returns g c =
    let C = cipher_of g.A.Algorithm.variant in
    let key = g.A.Algorithm.key_list c.args.key.now in
    let w = c.in_ok-write.ensures in
    let z = c.resize.ensures in
    finishes_cut C key c.args.header.now c.args.plan.now c.if-plan.false c.args.parts.now c.write.new.self c.write_header.new.out c.write_header.array_long c.write_header.ensures.header w.moved w.began w.written w.left w.quiet w.strays
    c.resize.result c.resize.new.self c.if-plan-2.false z.resized z.cut z.left z.failed z.quiet z.moved z.began z.strays
