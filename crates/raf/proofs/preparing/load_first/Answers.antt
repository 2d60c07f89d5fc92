use Rattle.std.proofs.Common.{arith}
use Rattle.raf_format.specs.Cipher.{cipher_of}
use Rattle.raf.proofs.Prepared.{readies_none, readies_first}
use Rattle.raf.proofs.preparing.load_first.Goals as goal

pub returns-then-plan : goal.returns-then-plan
returns-then-plan g c =
    readies_none (cipher_of g.A.Algorithm.variant) (g.A.Algorithm.key_list c.args.chunk_key.now) c.args.header.now c.args.plan.now c.args.len c.requires.planned c.requires.size c.args.parts.now c.args.buf.now tt c.if-plan.true

pub returns : goal.returns
returns g c =
    readies_first (cipher_of g.A.Algorithm.variant) (g.A.Algorithm.key_list c.args.chunk_key.now) c.args.header.now c.args.plan.now c.args.len c.requires.planned c.requires.size c.load_needed.result c.args.parts.now c.load_needed.new.parts c.load_needed.new.buf
    (omega (arith, c.requires.some, c.if-plan.false)) c.load_needed.ensures
