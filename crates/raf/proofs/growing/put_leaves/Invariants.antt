use Rattle.std.proofs.Common.{◌≡◌, length}
use Rattle.raf_format.specs.Cipher.{cipher_of}
use Rattle.raf.specs.Growing.{LeavesSoFar}
use Rattle.raf.proofs.growing.put_leaves.Given as goal

abbrev pub invariant-loop-index : goal.invariant-loop-index
invariant-loop-index g l =
    let C = cipher_of g.A.Algorithm.variant in
    let K = g.A.Algorithm.key_list l.fn.chunk_key in
    record {
      buf : length l.buf ≡ length l.fn.buf;
      so_far : LeavesSoFar C g.H.MerkleHasher.hashing K l.fn.header l.index l.fn.parts l.parts l.fn.tree l.tree l.begun;
    }
