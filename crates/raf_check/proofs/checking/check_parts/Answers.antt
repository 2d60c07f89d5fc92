use Rattle.std.proofs.Common.{refl, ℕ, ap, ◌∙◌, arith, rules, length, length-take}
use Rattle.raf_tree.specs.Hashing.{Hashing}
use Rattle.raf_check.specs.Claim.{claim_of}
use Rattle.raf_check.proofs.Checked.{first_node, part_is, next_node, checked}
use Rattle.raf_check.proofs.checking.check_parts.Goals as goal

pub loop-level-init : goal.loop-level-init
loop-level-init g c =
    let H : Hashing = g.H.MerkleHasher.hashing (g.H.MerkleHasher.setting c.args.hasher.now) in
    record {
      node = first_node H c.args.chunk.now (claim_of c.args.index c.args.size c.args.id.now c.args.height c.args.siblings.now) c.args.index c.hash_leaf.new.out refl c.in_ok-hash_leaf.ensures.answer;
      long = omega (arith, length-take {A = ℕ});
      setting = c.hash_leaf.ensures.setting;
      faults = c.in_ok-hash_leaf.ensures.cause.kept;
      calls = c.hash_leaf.ensures.calls;
    }

pub loop-level-preserved : goal.loop-level-preserved
loop-level-preserved g c =
    let H : Hashing = g.H.MerkleHasher.hashing (g.H.MerkleHasher.setting c.args.hasher.now) in
    let K : Hashing = g.H.MerkleHasher.hashing (g.H.MerkleHasher.setting c.loop-level.hasher) in
    let v = c.loop-level.invariant in
    record {
      node = next_node H K c.args.chunk.now (claim_of c.args.index c.args.size c.args.id.now c.args.height c.args.siblings.now) c.loop-level.level _ c.loop-level.node _ c.climb.new.node (ap g.H.MerkleHasher.hashing v.setting) v.node (part_is H.len (length c.args.commitment.now) c.loop-level.level c.args.siblings.now c.args.siblings.now c.requires.commitment refl) refl c.in_ok-climb.ensures.made;
      long = omega arith;
      setting = c.climb.ensures.setting ∙ v.setting;
      faults = c.in_ok-climb.ensures.cause.kept ∙ v.faults;
      calls = omega arith;
    }

pub returns-clause-checks : goal.returns-clause-checks
returns-clause-checks g c =
    let H : Hashing = g.H.MerkleHasher.hashing (g.H.MerkleHasher.setting c.args.hasher.now) in
    let K : Hashing = g.H.MerkleHasher.hashing (g.H.MerkleHasher.setting c.loop-level.hasher) in
    let v = c.loop-level.invariant in
    checked H K c.args.commitment.now c.args.chunk.now _ (claim_of c.args.index c.args.size c.args.id.now c.args.height c.args.siblings.now) c.loop-level.level _ c.loop-level.node c.hash_commitment.new.out c.eq.result (c.call_laws.ensures H) c.requires.proof.inside (ap g.H.MerkleHasher.hashing v.setting) (omega arith) refl refl v.node c.in_ok-hash_commitment.ensures.answer (search rules)
