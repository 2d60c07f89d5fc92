use Rattle.std.proofs.Common.{subst, ℕ, ◌≡◌, ◌≤◌, ◌+◌, ◌*◌}
use Rattle.std.specs.Result.{OnOk}
use Rattle.raf.specs.Carry.{OfTrees}
use Rattle.raf_tree.specs.Kept.{tree_height}
use Rattle.raf_format.specs.Cipher.{cipher_of}
use Rattle.raf_format.specs.File.{chunk_count}
use Rattle.raf_tree.specs.Steps.{Built}
use Rattle.raf.proofs.Grown.{grew_ended}
use Rattle.raf.proofs.growing.grow.Goals as goal

pub returns-clause-grew : goal.returns-clause-grew
returns-clause-grew g c =
    let C = cipher_of g.A.Algorithm.variant in
    let K = g.A.Algorithm.key_list c.args.chunk_key.now in
    let h = c.args.header.now in
    let count : c.count_of.result ≡ chunk_count h.chunk_size h.file_size = c.count_of.ensures in
    let b = c.build.ensures in
    grew_ended C g.H.MerkleHasher.hashing K h c.args.parts.now c.args.tree.now c.put_leaves.new.parts c.build.new.self c.put_leaves.new.tree c.build.new.tree c.put_leaves.new.begun
    c.requires.sound c.requires.some c.in_ok-put_leaves.ensures.put b.shapes b.kept b.moved
    (λ t is. subst (λ (n : ℕ). c.build.new.self.calls ≤ c.put_leaves.new.parts.calls + n + 2 * tree_height t + 1) count (b.calls t is)) b.strays c.build.result b.quiet
    (subst (λ (n : ℕ). OnOk c.build.result (OfTrees g.H.MerkleHasher.hashing c.put_leaves.new.parts.setting c.put_leaves.new.tree c.build.new.tree (λ H t u. Built H n t u))) count b.built) b.failed c.tree_laws.ensures
