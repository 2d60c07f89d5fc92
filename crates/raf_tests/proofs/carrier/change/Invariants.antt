use Rattle.std.proofs.Common.{◌≡◌, ◌+◌, ◌-◌, ◌≤◌}
use Rattle.raf_tree.specs.Steps.{SameShape}
use Rattle.raf_tests.proofs.Changed.{SoFar}
use Rattle.raf_tests.proofs.carrier.change.Given as goal

abbrev pub invariant-loop-index : goal.invariant-loop-index
invariant-loop-index g l = record {
  so_far : SoFar (g.H.MerkleHasher.hashing (g.H.MerkleHasher.setting l.initial.hasher)) l.text l.chunk_size l.first l.mid l.end l.index l.initial.tree l.tree;
  shape : SameShape l.initial.tree l.tree;
  setting : g.H.MerkleHasher.setting l.hasher ≡ g.H.MerkleHasher.setting l.initial.hasher;
  faults : g.H.MerkleHasher.faults l.hasher ≡ g.H.MerkleHasher.faults l.initial.hasher;
  later : g.H.MerkleHasher.calls l.initial.hasher ≤ g.H.MerkleHasher.calls l.hasher;
  calls : g.H.MerkleHasher.calls l.hasher ≤ g.H.MerkleHasher.calls l.initial.hasher + (l.index - l.first);
}
