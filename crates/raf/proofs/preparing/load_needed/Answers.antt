use Rattle.std.proofs.Common.{arith}
use Rattle.raf_format.specs.Cipher.{cipher_of}
use Rattle.raf.proofs.Prepared.{readies_loaded}
use Rattle.raf.proofs.preparing.load_needed.Goals as goal

pub returns : goal.returns
returns g c =
    readies_loaded (cipher_of g.A.Algorithm.variant) (g.A.Algorithm.key_list c.args.chunk_key.now) c.args.header.now c.args.plan.now c.args.len c.requires.planned c.requires.size c.load.result c.args.index c.args.parts.now c.load.new.parts c.load.new.buf
    (omega (arith, c.kept_of.ensures, c.if-kept_of-eq0.false)) c.load.ensures
