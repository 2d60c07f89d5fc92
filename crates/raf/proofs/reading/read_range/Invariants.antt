use Rattle.std.proofs.Common.{◌≡◌, length}
use Rattle.raf_format.specs.Cipher.{cipher_of}
use Rattle.raf.specs.Read.{ReadSoFar}
use Rattle.raf.proofs.reading.read_range.Given as goal

abbrev pub invariant-loop-index : goal.invariant-loop-index
invariant-loop-index g l =
    let C = cipher_of g.A.Algorithm.variant in
    let K = g.A.Algorithm.key_list l.fn.chunk_key in
    record {
      room : length l.record ≡ length l.fn.record;
      len : length l.buf ≡ length l.fn.buf;
      so_far : ReadSoFar C K l.fn.header l.fn.offset l.first l.index l.fn.parts l.parts l.fn.buf l.buf;
    }
