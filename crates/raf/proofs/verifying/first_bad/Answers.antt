use Rattle.std.proofs.Common.{arith, ◌∙◌}
use Rattle.raf_format.specs.Cipher.{cipher_of}
use Rattle.raf.proofs.Verified.{matched_more, verified_first}
use Rattle.raf.proofs.verifying.first_bad.Goals as goal

pub returns-then-not-branch : goal.returns-then-not-branch
returns-then-not-branch g c =
    let C = cipher_of g.A.Algorithm.variant in
    let K = g.A.Algorithm.key_list c.args.chunk_key.now in
    verified_first C K c.args.header.now g.H.MerkleHasher.hashing c.args.tree.now c.args.parts.now c.loop-index.index c.loop-index.parts c.compare.new.parts c.requires.sound
    (omega (arith, c.loop-index-test.true, c.count_of-index-end.ensures)) c.loop-index.invariant.so_far c.in_ok-compare.field-0 c.if-not-branch.true c.in_ok-compare.ensures

pub loop-index-preserved : goal.loop-index-preserved
loop-index-preserved g c =
    let C = cipher_of g.A.Algorithm.variant in
    let K = g.A.Algorithm.key_list c.args.chunk_key.now in
    record {
      buf = c.compare.auto.buf ∙ c.loop-index.invariant.buf;
      so_far = matched_more C K c.args.header.now g.H.MerkleHasher.hashing c.args.tree.now c.args.parts.now c.loop-index.index c.loop-index.parts c.compare.new.parts c.requires.sound
          (omega (arith, c.loop-index-test.true, c.count_of-index-end.ensures)) c.loop-index.invariant.so_far c.in_ok-compare.field-0 c.if-not-branch.false c.in_ok-compare.ensures;
    }
