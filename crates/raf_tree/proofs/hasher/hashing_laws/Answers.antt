use Rattle.raf_tree.proofs.hasher.hashing_laws.Goals as goal

pub returns : goal.returns
returns g c = g.met.H.MerkleHasher.lengths
