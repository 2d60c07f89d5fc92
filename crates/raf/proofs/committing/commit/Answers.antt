use Rattle.std.proofs.Common.{length, take, Result}
use Rattle.raf_format.specs.Cipher.{cipher_of}
use Rattle.raf.specs.Carry.{Commits, kept_in, buffer_of}
use Rattle.raf_io.specs.declared.errors.Error.{Error}
use Rattle.raf.proofs.Tears.{handed_result}
use Rattle.raf.proofs.Committed.{update_room, commits_unstored, commits_unfinished, commits_updated}
use Rattle.raf.proofs.committing.commit.Goals as goal

pub returns-in_err-store_touched : goal.returns-in_err-store_touched
returns-in_err-store_touched g c =
    let C = cipher_of g.A.Algorithm.variant in
    let K = g.A.Algorithm.key_list c.args.chunk_key.now in
    let key = g.A.Algorithm.key_list c.args.key.now in
    let h = c.args.header.now in
    let p = c.args.plan.now in
    let E = g.H.MerkleHasher.hashing in
    let kept = kept_in C h p (length c.args.bytes.now) c.args.first.now c.args.second.now in
    let nonce = take C.nonce_len (buffer_of p p.first c.args.first.now c.args.second.now) in
    let e = c.in_err-store_touched.field-0.0 in
    handed_result c.from_residual.result e
    (λ (r : Result (Unit {0}) Error). Commits C E key K h p c.args.bytes.now kept nonce c.args.parts.now c.store_touched.new.parts c.args.tree.now c.store_touched.new.tree r) c.from_residual.ensures.1
    (commits_unstored C E key K h p c.args.bytes.now kept nonce c.requires.planned c.args.parts.now c.store_touched.new.parts c.args.tree.now c.store_touched.new.tree e c.in_err-store_touched.ensures)

pub returns-in_err-finish : goal.returns-in_err-finish
returns-in_err-finish g c =
    let C = cipher_of g.A.Algorithm.variant in
    let K = g.A.Algorithm.key_list c.args.chunk_key.now in
    let key = g.A.Algorithm.key_list c.args.key.now in
    let h = c.args.header.now in
    let p = c.args.plan.now in
    let E = g.H.MerkleHasher.hashing in
    let kept = kept_in C h p (length c.args.bytes.now) c.args.first.now c.args.second.now in
    let nonce = take C.nonce_len (buffer_of p p.first c.args.first.now c.args.second.now) in
    let e = c.in_err-finish.field-0.0 in
    handed_result c.from_residual-in_err-finish.result e
    (λ (r : Result (Unit {0}) Error). Commits C E key K h p c.args.bytes.now kept nonce c.args.parts.now c.finish.new.parts c.args.tree.now c.store_touched.new.tree r) c.from_residual-in_err-finish.ensures.1
    (commits_unfinished C E key K h p c.args.bytes.now kept nonce c.requires.planned c.args.parts.now c.store_touched.new.parts c.args.tree.now c.store_touched.new.tree c.in_ok-store_touched.field-0 c.in_ok-store_touched.ensures
    c.finish.new.parts e c.in_err-finish.ensures)

pub update_tree-requires-clause-room : goal.update_tree-requires-clause-room
update_tree-requires-clause-room g c =
    let C = cipher_of g.A.Algorithm.variant in
    update_room C g.H.MerkleHasher.hashing (g.A.Algorithm.key_list c.args.key.now) (g.A.Algorithm.key_list c.args.chunk_key.now) c.args.header.now c.args.plan.now c.args.bytes.now
    (kept_in C c.args.header.now c.args.plan.now (length c.args.bytes.now) c.args.first.now c.args.second.now) (take C.nonce_len (buffer_of c.args.plan.now c.args.plan.now.first c.args.first.now c.args.second.now)) c.requires.planned
    c.args.tree.now c.store_touched.new.tree c.requires.tree_room c.requires.old_room c.store_touched.ensures.same

pub returns : goal.returns
returns g c =
    let C = cipher_of g.A.Algorithm.variant in
    let K = g.A.Algorithm.key_list c.args.chunk_key.now in
    let key = g.A.Algorithm.key_list c.args.key.now in
    let h = c.args.header.now in
    let p = c.args.plan.now in
    let E = g.H.MerkleHasher.hashing in
    let kept = kept_in C h p (length c.args.bytes.now) c.args.first.now c.args.second.now in
    let nonce = take C.nonce_len (buffer_of p p.first c.args.first.now c.args.second.now) in
    let u = c.update_tree.ensures in
    commits_updated C E key K h p c.args.bytes.now kept nonce c.requires.planned c.args.parts.now c.store_touched.new.parts c.args.tree.now c.store_touched.new.tree c.in_ok-store_touched.field-0 c.in_ok-store_touched.ensures
    c.update_tree.result c.finish.new.parts c.update_tree.new.self c.update_tree.new.tree c.in_ok-finish.field-0 c.in_ok-finish.ensures
    u.updated u.same u.there u.kept u.failed u.quiet u.moved u.began u.calls u.none u.strays
