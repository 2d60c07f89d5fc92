use Rattle.std.proofs.Common.{refl, ap, ◌∙◌, arith}
use Rattle.raf_tree.specs.Hashing.{Hashing}
use Rattle.raf_tests.proofs.Changed.{none_put, one_put, all_put}
use Rattle.raf_tests.proofs.carrier.change.Goals as goal

pub loop-index-init : goal.loop-index-init
loop-index-init g c =
    let a = c.args in
    let H : Hashing = g.H.MerkleHasher.hashing (g.H.MerkleHasher.setting a.hasher.now) in
    record {
      so_far = none_put H (c.tree_laws.ensures H) a.text.now a.chunk_size a.first a.mid a.end a.tree.now;
      shape = record { hash_len = refl; max_chunks = refl };
      setting = refl;
      faults = refl;
      later = omega arith;
      calls = omega arith;
    }

pub loop-index-preserved : goal.loop-index-preserved
loop-index-preserved g c =
    let a = c.args in
    let i = c.loop-index.index in
    let inv = c.loop-index.invariant in
    let step = c.in_ok-put_leaf.ensures in
    let H : Hashing = g.H.MerkleHasher.hashing (g.H.MerkleHasher.setting a.hasher.now) in
    let K : Hashing = g.H.MerkleHasher.hashing (g.H.MerkleHasher.setting c.loop-index.hasher) in
    record {
      so_far = one_put H K (c.tree_laws.ensures H) a.text.now a.chunk_size a.first a.mid a.end i a.tree.now c.loop-index.tree c.put_leaf.new.self (ap g.H.MerkleHasher.hashing inv.setting) inv.shape.max_chunks (omega arith) (omega arith) (omega arith) inv.so_far step.put;
      shape = record { hash_len = step.shape.hash_len ∙ inv.shape.hash_len; max_chunks = step.shape.max_chunks ∙ inv.shape.max_chunks };
      setting = step.setting ∙ inv.setting;
      faults = step.cause.kept ∙ inv.faults;
      later = omega (arith, step.calls, inv.later);
      calls = omega (arith, step.calls, inv.calls);
    }

pub returns-clause-keeps : goal.returns-clause-keeps
returns-clause-keeps g c =
    let a = c.args in
    let inv = c.loop-index.invariant in
    let H : Hashing = g.H.MerkleHasher.hashing (g.H.MerkleHasher.setting a.hasher.now) in
    let K : Hashing = g.H.MerkleHasher.hashing (g.H.MerkleHasher.setting c.loop-index.hasher) in
    all_put _ H K (c.tree_laws.ensures H) a.text.now a.chunk_size a.count a.first a.mid a.end c.loop-index.index a.tree.now c.loop-index.tree c.update.new.self (ap g.H.MerkleHasher.hashing inv.setting) c.requires.mid (omega arith) inv.so_far c.update.ensures.keeps
