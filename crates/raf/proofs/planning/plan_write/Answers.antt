use Rattle.std.proofs.Common.{refl, arith}
use Rattle.raf_format.specs.Cipher.{cipher_of}
use Rattle.raf_format.specs.File.{shape_of}
use Rattle.raf.specs.Change.{write_change}
use Rattle.raf.proofs.planning.plan_write.Goals as goal

pub returns-clause-found : goal.returns-clause-found
returns-clause-found g c =
    let h = c.args.header.now in
    c.plan_by.ensures (shape_of (cipher_of g.A.Algorithm.variant) h) (write_change h.file_size c.args.offset c.args.buf.now)
    refl (omega (arith, c.max-size.ensures, c.in_ok-end.ensures)) (omega (arith, c.min.ensures)) (omega (arith, c.in_ok-end.ensures)) refl c.in_ok-layout.ensures.found
