use Rattle.std.proofs.Common.{refl, ◌∙◌, sym, ap, subst, ℕ, List, arith, ◌≡◌, Some}
use Rattle.raf_format.specs.Cipher.{cipher_of}
use Rattle.raf_format.specs.File.{chunk_count}
use Rattle.raf.specs.Growing.{LeavesSoFar, LeavesStopped}
use Rattle.raf.proofs.HandedOn.{handed_on}
use Rattle.raf.proofs.Grown.{leaves_none, leaves_more, leaves_unloaded, leaves_unhashed}
use Rattle.raf.proofs.growing.put_leaves.Goals as goal

pub loop-index-init : goal.loop-index-init
loop-index-init g c = record {
  buf = refl;
  so_far = leaves_none (cipher_of g.A.Algorithm.variant) g.H.MerkleHasher.hashing (g.A.Algorithm.key_list c.args.chunk_key.now) c.args.header.now c.args.parts.now c.args.tree.now c.args.begun.now c.requires.unbegun;
}

pub returns-in_err-load-clause-stopped : goal.returns-in_err-load-clause-stopped
returns-in_err-load-clause-stopped g c =
    let C = cipher_of g.A.Algorithm.variant in
    let K = g.A.Algorithm.key_list c.args.chunk_key.now in
    let h = c.args.header.now in
    let e = c.in_err-load.field-0.0 in
    let loads = c.in_err-load.ensures in
    let index = c.loop-index.index in
    handed_on c.from_residual.result e (LeavesStopped C K h c.args.parts.now c.load.new.parts c.args.tree.now c.loop-index.tree c.loop-index.begun) c.from_residual.ensures.1
    (leaves_unloaded C g.H.MerkleHasher.hashing K h c.args.parts.now c.args.tree.now index c.loop-index.parts c.load.new.parts c.loop-index.tree c.loop-index.begun
    c.requires.sound (omega (arith, c.loop-index-test.true, c.count_of-index-end.ensures)) c.loop-index.invariant.so_far e loads.missing loads.kinds loads.kept loads.moved loads.strays)

pub returns-in_err-put_leaf-clause-stopped : goal.returns-in_err-put_leaf-clause-stopped
returns-in_err-put_leaf-clause-stopped g c =
    let C = cipher_of g.A.Algorithm.variant in
    let K = g.A.Algorithm.key_list c.args.chunk_key.now in
    let h = c.args.header.now in
    let e = c.in_err-put_leaf.field-0.0 in
    let loads = c.in_ok-load.ensures in
    let put = c.in_err-put_leaf.ensures in
    let index = c.loop-index.index in
    handed_on c.from_residual-in_err-put_leaf.result e _ c.from_residual-in_err-put_leaf.ensures.1
    (leaves_unhashed C g.H.MerkleHasher.hashing K h c.args.parts.now c.args.tree.now index c.loop-index.parts c.load.new.parts c.loop-index.tree c.loop-index.begun
    c.requires.sound (omega (arith, c.loop-index-test.true, c.count_of-index-end.ensures)) c.loop-index.invariant.so_far
    c.put_leaf.new.self c.put_leaf.new.tree c.load.new.buf c.chunk_of-chunk.result.now loads.quiet loads.kept loads.moved loads.strays
    put.asked c.requires.some put.same put.kept put.moved put.strays e put.failed)

pub loop-index-preserved : goal.loop-index-preserved
loop-index-preserved g c =
    let C = cipher_of g.A.Algorithm.variant in
    let K = g.A.Algorithm.key_list c.args.chunk_key.now in
    let h = c.args.header.now in
    let loads = c.in_ok-load.ensures in
    let put = c.in_ok-put_leaf.ensures in
    let index = c.loop-index.index in
    record {
      buf = c.load.auto.buf ∙ c.loop-index.invariant.buf;
      so_far = leaves_more C g.H.MerkleHasher.hashing K h c.args.parts.now c.args.tree.now index c.loop-index.parts c.load.new.parts c.loop-index.tree c.loop-index.begun
          c.requires.sound (omega (arith, c.loop-index-test.true, c.count_of-index-end.ensures)) c.loop-index.invariant.so_far
          c.put_leaf.new.self c.put_leaf.new.tree c.load.new.buf c.chunk_of-chunk.result.now loads.quiet loads.kept loads.moved loads.strays
          put.asked c.requires.some put.same put.kept put.moved put.strays c.tree_laws.ensures c.requires.room
          (λ b tells. loads.loaded b tells ∙ ap (λ (m : List ℕ). Some m) (sym c.chunk_of-chunk.ensures.chunk)) put.leaf put.quiet;
    }

pub returns-clause-put : goal.returns-clause-put
returns-clause-put g c =
    let C = cipher_of g.A.Algorithm.variant in
    let K = g.A.Algorithm.key_list c.args.chunk_key.now in
    let h = c.args.header.now in
    let last : c.loop-index.index ≡ chunk_count h.chunk_size h.file_size = omega (arith, c.loop-index-test.false, c.loop-index.auto.index-end, c.count_of-index-end.ensures) in
    subst (λ (n : ℕ). LeavesSoFar C g.H.MerkleHasher.hashing K h n c.args.parts.now c.loop-index.parts c.args.tree.now c.loop-index.tree c.loop-index.begun) last c.loop-index.invariant.so_far
