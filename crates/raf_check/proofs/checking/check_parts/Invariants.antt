use Rattle.std.proofs.Common.{◌≡◌, ◌+◌, length}
use Rattle.counts.specs.Counts.{raised}
use Rattle.raf_tree.specs.Calls.{answer}
use Rattle.raf_check.specs.Claim.{claim_of, path_call}
use Rattle.raf_check.proofs.checking.check_parts.Given as goal

abbrev pub invariant-loop-level : goal.invariant-loop-level
invariant-loop-level g l = record {
  node : l.node ≡ answer (g.H.MerkleHasher.hashing (g.H.MerkleHasher.setting l.fn.hasher)) (path_call (g.H.MerkleHasher.hashing (g.H.MerkleHasher.setting l.fn.hasher)) l.fn.chunk (claim_of l.fn.index l.fn.size l.fn.id l.fn.height l.fn.siblings) l.level);
  long : length l.node ≡ l.len;
  setting : g.H.MerkleHasher.setting l.hasher ≡ g.H.MerkleHasher.setting l.fn.hasher;
  faults : g.H.MerkleHasher.faults l.hasher ≡ g.H.MerkleHasher.faults l.fn.hasher;
  calls : g.H.MerkleHasher.calls l.hasher ≡ raised (g.H.MerkleHasher.calls l.fn.hasher) (l.level + 1);
}
