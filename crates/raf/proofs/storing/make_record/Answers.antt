use Rattle.std.proofs.Common.{◌≡◌, ℕ, ◌+◌, ◌-◌, List, length, take, drop, ◌∙◌, ap, subst, arith}
use Rattle.raf_format.specs.Cipher.{cipher_of}
use Rattle.raf_format.specs.File.{chunk_len, sealed, shape_of}
use Rattle.raf_format.specs.Version.{tag_len_of}
use Rattle.raf.specs.Plan.{kept_len}
use Rattle.raf.specs.Carry.{OfTrees, Leafed}
use Rattle.raf.proofs.Pieces.{covered}
use Rattle.raf.proofs.storing.make_record.Goals as goal

pub returns-clause-leaf : goal.returns-clause-leaf
returns-clause-leaf g c =
    let C = cipher_of g.A.Algorithm.variant in
    let h = c.args.header.now in
    let p = c.args.plan.now in
    let n : c.nonce_length-from.result + c.chunk_len_at-len.result - c.nonce_length-from.result ≡ chunk_len h.chunk_size p.size c.args.index = omega (arith, c.chunk_len_at-len.ensures) in
    subst (λ (l : List ℕ). OfTrees g.H.MerkleHasher.hashing c.args.parts.now.setting c.args.tree.now c.put_leaf-2.new.tree (Leafed c.args.index l))
    (ap (λ (k : ℕ). take k (drop c.nonce_length-from.result c.stage.new.place)) n
    ∙ ap (λ (k : ℕ). take (chunk_len h.chunk_size p.size c.args.index) (drop k c.stage.new.place)) c.nonce_length-from.ensures.is
    ∙ c.stage.ensures.staged)
    c.in_ok-put_leaf-2.ensures.leaf

pub returns-in-Some-clause-leaf : goal.returns-in-Some-clause-leaf
returns-in-Some-clause-leaf g c =
    let C = cipher_of g.A.Algorithm.variant in
    let h = c.args.header.now in
    let p = c.args.plan.now in
    let kept = take (kept_len h.chunk_size p (length c.args.bytes.now) c.args.index) (drop C.nonce_len c.args.place.now) in
    subst (λ (l : List ℕ). OfTrees g.H.MerkleHasher.hashing c.args.parts.now.setting c.args.tree.now c.put_leaf.new.tree (Leafed c.args.index l))
    (covered (shape_of C h) p c.args.bytes.now c.in-Some.chunk.now c.args.index _ _ kept c.chunk_len_at-len.ensures c.from.ensures c.in-Some.ensures.covers)
    c.in_ok-put_leaf.ensures.leaf

pub returns-in-Some-clause-made : goal.returns-in-Some-clause-made
returns-in-Some-clause-made g c =
    let C = cipher_of g.A.Algorithm.variant in
    let K = g.A.Algorithm.key_list c.args.chunk_key.now in
    let h = c.args.header.now in
    let p = c.args.plan.now in
    let nonce = take C.nonce_len c.args.place.now in
    let kept = take (kept_len h.chunk_size p (length c.args.bytes.now) c.args.index) (drop C.nonce_len c.args.place.now) in
    c.seal_record_into.ensures
    ∙ ap (λ (t : ℕ). sealed C t K h.id c.args.index nonce c.in-Some.chunk.now) c.tag_len.ensures.is
    ∙ ap (λ (m : List ℕ). sealed C (tag_len_of h.version) K h.id c.args.index nonce m)
    (covered (shape_of C h) p c.args.bytes.now c.in-Some.chunk.now c.args.index _ _ kept c.chunk_len_at-len.ensures c.from.ensures c.in-Some.ensures.covers)
