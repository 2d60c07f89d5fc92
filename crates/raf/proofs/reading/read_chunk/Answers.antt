use Rattle.std.proofs.Common.{◌≡◌, take, drop}
use Rattle.raf_format.specs.Cipher.{cipher_of}
use Rattle.raf_format.specs.File.{chunk_len}
use Rattle.raf.specs.Read.{with_chunk}
use Rattle.raf.proofs.Loadings.{loads_handed}
use Rattle.raf.proofs.reading.read_chunk.Goals as goal

pub returns-clause-loads : goal.returns-clause-loads
returns-clause-loads g c =
    let h = c.args.header.now in
    (take (chunk_len h.chunk_size h.file_size c.args.index) (drop (cipher_of g.A.Algorithm.variant).nonce_len c.load.new.buf), c.in_ok-load.ensures, c.copy_chunk.ensures)

pub returns-in_err-load-clause-loads : goal.returns-in_err-load-clause-loads
returns-in_err-load-clause-loads g c =
    let C = cipher_of g.A.Algorithm.variant in
    let h = c.args.header.now in
    let m = take (chunk_len h.chunk_size h.file_size c.args.index) (drop C.nonce_len c.load.new.buf) in
    let both = loads_handed C (g.A.Algorithm.key_list c.args.chunk_key.now) h c.args.index c.args.parts.now c.load.new.parts m
    (c.args.buf.now ≡ with_chunk h.chunk_size c.args.offset c.args.index m c.args.buf.now) c.from_residual.result c.in_err-load.field-0.0
    c.from_residual.ensures.1 c.in_err-load.ensures in
    (m, both.0, both.1)
