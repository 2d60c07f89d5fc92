use Rattle.std.proofs.Common.{length, take, refl}
use Rattle.raf_format.specs.Cipher.{cipher_of}
use Rattle.raf_io.specs.Kinds.{kind_of}
use Rattle.raf.specs.declared.command.Reply.TheVariants.{Bytes, Refused}
use Rattle.raf_log.proofs.Looks.{piece_read, refused, asked}
use Rattle.raf_log.proofs.opening.read_piece.Goals as goal

pub returns-in-Ok-clause-read : goal.returns-in-Ok-clause-read
returns-in-Ok-clause-read g c =
    let n = c.in-Ok.field-0 in
    piece_read (cipher_of g.A.Algorithm.variant) c.contents.ensures g.H.MerkleHasher.hashing c.args.raf.now c.read.new.self c.args.at (length c.args.buf.now) (Bytes (take n c.read.new.buf)) c.in-Ok.ensures.stepped
    (take n c.read.new.buf) refl c.read.new.buf n refl c.read.auto.buf c.requires

pub returns-in-Err-clause-refused : goal.returns-in-Err-clause-refused
returns-in-Err-clause-refused g c =
    let k = kind_of c.in-Err.error in
    refused (cipher_of g.A.Algorithm.variant) c.contents.ensures g.H.MerkleHasher.hashing c.args.raf.now c.read.new.self c.args.at (length c.args.buf.now) (Refused k) c.in-Err.ensures.stepped k refl

pub returns-in-Ok-clause-asked : goal.returns-in-Ok-clause-asked
returns-in-Ok-clause-asked g c =
    asked (cipher_of g.A.Algorithm.variant) c.contents.ensures g.H.MerkleHasher.hashing c.args.raf.now c.read.new.self c.args.at (length c.args.buf.now) (Bytes (take c.in-Ok.field-0 c.read.new.buf)) c.in-Ok.ensures.stepped

pub returns-in-Err-clause-asked : goal.returns-in-Err-clause-asked
returns-in-Err-clause-asked g c =
    asked (cipher_of g.A.Algorithm.variant) c.contents.ensures g.H.MerkleHasher.hashing c.args.raf.now c.read.new.self c.args.at (length c.args.buf.now) (Refused (kind_of c.in-Err.error)) c.in-Err.ensures.stepped
