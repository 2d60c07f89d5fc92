use Rattle.raf_format.specs.Cipher.{cipher_of}
use Rattle.raf.specs.Handle.{handle_of}
use Rattle.raf.specs.Clashing.{SameSoFar}
use Rattle.raf.proofs.clashing.same_chunks.Given as goal

abbrev pub invariant-loop-index : goal.invariant-loop-index
invariant-loop-index g l = record {
  so_far : SameSoFar (cipher_of g.A1.Algorithm.variant) (cipher_of g.A2.Algorithm.variant) g.H.MerkleHasher.hashing l.index
      (handle_of l.fn.a_parts (g.A1.Algorithm.key_list l.fn.a.key) l.fn.a.header l.fn.a.tree l.fn.a.broken)
      (handle_of l.fn.b_parts (g.A2.Algorithm.key_list l.fn.b.key) l.fn.b.header l.fn.b.tree l.fn.b.broken)
      (handle_of l.a_parts (g.A1.Algorithm.key_list l.a.key) l.a.header l.a.tree l.a.broken)
      (handle_of l.b_parts (g.A2.Algorithm.key_list l.b.key) l.b.header l.b.tree l.b.broken);
}
