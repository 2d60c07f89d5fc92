use Rattle.std.proofs.Common.{◌≡◌, length}
use Rattle.raf_format.specs.Cipher.{cipher_of}
use Rattle.raf.specs.Verifying.{MatchedSoFar}
use Rattle.raf.proofs.verifying.first_bad.Given as goal

abbrev pub invariant-loop-index : goal.invariant-loop-index
invariant-loop-index g l = record {
  buf : length l.buf ≡ length l.fn.buf;
  so_far : MatchedSoFar (cipher_of g.A.Algorithm.variant) g.H.MerkleHasher.hashing (g.A.Algorithm.key_list l.fn.chunk_key) l.fn.header l.fn.tree l.index l.fn.parts l.parts;
}
