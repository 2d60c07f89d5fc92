use Rattle.std.proofs.Common.{◌≡◌, length}
use Rattle.raf.specs.Given.{OnlyAsked}
use Rattle.raf_proof.specs.Proving.{Gathered}
use Rattle.raf_proof.proofs.proving.gather.Given as goal

abbrev pub invariant-loop-level : goal.invariant-loop-level
invariant-loop-level g l = record {
  gathered : Gathered g.H.MerkleHasher.hashing l.fn.index l.fn.len l.level l.fn.raf l.raf l.siblings.items;
  asked : OnlyAsked l.level l.fn.raf l.raf;
}
