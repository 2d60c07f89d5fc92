use Rattle.std.proofs.Common.{length, sym}
use Rattle.raf_format.specs.Cipher.{cipher_of}
use Rattle.raf_format.proofs.Ciphers.{lawful}
use Rattle.raf.proofs.WrittenThenRead.{read_written}
use Rattle.raf.proofs.laws.write_then_read.Goals as goal

pub returns : goal.returns
returns g c = λ F held.
    read_written (cipher_of g.A.Algorithm.variant) (lawful g.A.Algorithm.variant) g.H.MerkleHasher.hashing c.args.file.now c.write.new.self c.read.new.self F held c.args.offset
    c.in_ok-write.field-0 c.in_ok-read.field-0 (length c.args.buf.now) c.read.new.buf c.read.auto.buf c.args.bytes.now (sym c.requires) c.in_ok-write.ensures.stepped c.in_ok-read.ensures.stepped
