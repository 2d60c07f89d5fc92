use Rattle.std.proofs.Common.{◌≡◌, ℕ, List, length, max, false, arith}
use Rattle.raf_tree.specs.Hashing.{Hashing}
use Rattle.raf_format.specs.Cipher.{Cipher, cipher_of}
use Rattle.raf.specs.Handle.{handle_of}
use Rattle.raf.proofs.Descents.{steps_ok, steps_handed}
use Rattle.raf.proofs.ChunkLooks.{content_count}
use Rattle.raf.proofs.AllChunks.{still, steps_so_far, all_so_far, same_more, not_same, all_same}
use Rattle.raf.proofs.clashing.same_chunks.Goals as goal

pub loop-index-preserved : goal.loop-index-preserved
loop-index-preserved g c =
    let C : Cipher = cipher_of g.A1.Algorithm.variant in
    let D : Cipher = cipher_of g.A2.Algorithm.variant in
    let E : List ℕ → Hashing = g.H.MerkleHasher.hashing in
    let a = handle_of c.args.a_parts.now (g.A1.Algorithm.key_list c.args.a.now.key) c.args.a.now.header c.args.a.now.tree c.args.a.now.broken in
    let b = handle_of c.args.b_parts.now (g.A2.Algorithm.key_list c.args.b.now.key) c.args.b.now.header c.args.b.now.tree c.args.b.now.broken in
    let l = c.loop-index in
    record {
      so_far = same_more C D E a b l.index _ _ l.invariant.so_far _ _ c.in_ok-same_chunk.field-0 c.if-not-branch.false c.in_ok-same_chunk.ensures.steps c.in_ok-same_chunk.ensures.found;
    }

pub returns-in_err-same_chunk-clause-steps : goal.returns-in_err-same_chunk-clause-steps
returns-in_err-same_chunk-clause-steps g c =
    let C : Cipher = cipher_of g.A1.Algorithm.variant in
    let D : Cipher = cipher_of g.A2.Algorithm.variant in
    let E : List ℕ → Hashing = g.H.MerkleHasher.hashing in
    let a = handle_of c.args.a_parts.now (g.A1.Algorithm.key_list c.args.a.now.key) c.args.a.now.header c.args.a.now.tree c.args.a.now.broken in
    let b = handle_of c.args.b_parts.now (g.A2.Algorithm.key_list c.args.b.now.key) c.args.b.now.header c.args.b.now.tree c.args.b.now.broken in
    let l = c.loop-index in
    steps_so_far C D E a b l.index _ _ l.invariant.so_far _ _ c.from_residual.result
    (steps_handed C D _ _ _ _ _ _ _ _ c.in_err-same_chunk.field-0.0 c.from_residual.result c.from_residual.ensures.1 c.in_err-same_chunk.ensures.steps)

pub returns-then-not-branch-clause-steps : goal.returns-then-not-branch-clause-steps
returns-then-not-branch-clause-steps g c =
    let C : Cipher = cipher_of g.A1.Algorithm.variant in
    let D : Cipher = cipher_of g.A2.Algorithm.variant in
    let E : List ℕ → Hashing = g.H.MerkleHasher.hashing in
    let a = handle_of c.args.a_parts.now (g.A1.Algorithm.key_list c.args.a.now.key) c.args.a.now.header c.args.a.now.tree c.args.a.now.broken in
    let b = handle_of c.args.b_parts.now (g.A2.Algorithm.key_list c.args.b.now.key) c.args.b.now.header c.args.b.now.tree c.args.b.now.broken in
    let l = c.loop-index in
    steps_so_far C D E a b l.index _ _ l.invariant.so_far _ _ _
    (steps_ok C D _ _ _ _ _ _ _ _ c.in_ok-same_chunk.field-0 false c.in_ok-same_chunk.ensures.steps)

pub returns-then-not-branch-clause-found : goal.returns-then-not-branch-clause-found
returns-then-not-branch-clause-found g c = λ s x y has_x has_y.
    let C : Cipher = cipher_of g.A1.Algorithm.variant in
    let D : Cipher = cipher_of g.A2.Algorithm.variant in
    let E : List ℕ → Hashing = g.H.MerkleHasher.hashing in
    let a = handle_of c.args.a_parts.now (g.A1.Algorithm.key_list c.args.a.now.key) c.args.a.now.header c.args.a.now.tree c.args.a.now.broken in
    let b = handle_of c.args.b_parts.now (g.A2.Algorithm.key_list c.args.b.now.key) c.args.b.now.header c.args.b.now.tree c.args.b.now.broken in
    let l = c.loop-index in
    let had = still C D E a b l.index _ _ l.invariant.so_far s x y has_x has_y in
    let count : c.max-count.result ≡ max (length x.chunks) (length y.chunks) =
    omega (arith, c.max-count.ensures, c.count_of.ensures, c.count_of-2.ensures, content_count C E s a x has_x, content_count D E s b y has_y) in
    not_same x y c.max-count.result l.index c.in_ok-same_chunk.field-0 count (omega (arith, c.loop-index-test.true)) c.if-not-branch.true (c.in_ok-same_chunk.ensures.found s x y had.0 had.1)

pub returns-clause-steps : goal.returns-clause-steps
returns-clause-steps g c =
    let C : Cipher = cipher_of g.A1.Algorithm.variant in
    let D : Cipher = cipher_of g.A2.Algorithm.variant in
    let E : List ℕ → Hashing = g.H.MerkleHasher.hashing in
    let a = handle_of c.args.a_parts.now (g.A1.Algorithm.key_list c.args.a.now.key) c.args.a.now.header c.args.a.now.tree c.args.a.now.broken in
    let b = handle_of c.args.b_parts.now (g.A2.Algorithm.key_list c.args.b.now.key) c.args.b.now.header c.args.b.now.tree c.args.b.now.broken in
    let l = c.loop-index in
    all_so_far C D E a b l.index _ _ l.invariant.so_far

pub returns-clause-found : goal.returns-clause-found
returns-clause-found g c = λ s x y has_x has_y.
    let C : Cipher = cipher_of g.A1.Algorithm.variant in
    let D : Cipher = cipher_of g.A2.Algorithm.variant in
    let E : List ℕ → Hashing = g.H.MerkleHasher.hashing in
    let a = handle_of c.args.a_parts.now (g.A1.Algorithm.key_list c.args.a.now.key) c.args.a.now.header c.args.a.now.tree c.args.a.now.broken in
    let b = handle_of c.args.b_parts.now (g.A2.Algorithm.key_list c.args.b.now.key) c.args.b.now.header c.args.b.now.tree c.args.b.now.broken in
    let l = c.loop-index in
    let count : c.max-count.result ≡ max (length x.chunks) (length y.chunks) =
    omega (arith, c.max-count.ensures, c.count_of.ensures, c.count_of-2.ensures, content_count C E s a x has_x, content_count D E s b y has_y) in
    all_same x y c.max-count.result count (λ i lt. l.invariant.so_far.same s x y has_x has_y i (omega (arith, lt, c.loop-index-test.false)))
