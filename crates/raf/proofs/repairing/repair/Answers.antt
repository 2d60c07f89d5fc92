use Rattle.std.proofs.Common.{Bool, arith}
use Rattle.std.specs.Prelude.{Result}
use Rattle.raf_format.specs.Cipher.{cipher_of}
use Rattle.raf_format.proofs.Ciphers.{lawful}
use Rattle.raf_io.specs.declared.errors.Error.{Error}
use Rattle.raf.specs.Probe.{alone}
use Rattle.raf.specs.Repaired.{Repaired}
use Rattle.raf.proofs.HandedOn.{handed_on_result}
use Rattle.raf.proofs.Repairs.{repaired_idle, repaired_set, repaired_cut}
use Rattle.raf.proofs.repairing.repair.Goals as goal

pub returns-then-has-says : goal.returns-then-has-says
returns-then-has-says g c =
    let m = c.in_ok-has.ensures in
    repaired_idle (cipher_of g.A.Algorithm.variant) (lawful g.A.Algorithm.variant) (g.A.Algorithm.key_list c.args.key.now) (alone g.I.RafIo c.args.io.now) (alone g.I.RafIo c.measure.new.io)
    c.in_ok-has.field-0 c.if-has-says.true m (omega (arith, m.moved.changes_later, m.moved.changes_most))

pub returns-in_err-set_length : goal.returns-in_err-set_length
returns-in_err-set_length g c =
    let C = cipher_of g.A.Algorithm.variant in
    let key = g.A.Algorithm.key_list c.args.key.now in
    let old = alone g.I.RafIo c.args.io.now in
    let new = alone g.I.RafIo c.set_length.new.io in
    let s = c.in_err-set_length.ensures in
    let e = c.in_err-set_length.field-0.0 in
    handed_on_result c.from_residual-in_err-set_length.result e (λ (r : Result Bool Error). Repaired C key old new r) c.from_residual-in_err-set_length.ensures.1
    (repaired_cut C (lawful g.A.Algorithm.variant) key old (alone g.I.RafIo c.measure.new.io) c.in_ok-has.field-0 c.if-has-says.false (omega arith) c.in_ok-has.ensures new s.moved s.strays
    e s.failed s.began s.cut)

pub returns : goal.returns
returns g c =
    let s = c.in_ok-set_length.ensures in
    repaired_set (cipher_of g.A.Algorithm.variant) (lawful g.A.Algorithm.variant) (g.A.Algorithm.key_list c.args.key.now) (alone g.I.RafIo c.args.io.now) (alone g.I.RafIo c.measure.new.io)
    c.in_ok-has.field-0 c.if-has-says.false (omega arith) c.in_ok-has.ensures (alone g.I.RafIo c.set_length.new.io) s.moved s.strays s.resized s.quiet
