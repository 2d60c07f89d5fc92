use Rattle.std.proofs.Common.{ℕ, ◌++◌, drop, Ok, ap, ◌∙◌, arith}
use Rattle.raf.specs.Handle.{handle_of}
use Rattle.raf.specs.Given.{Given}
use Rattle.raf.proofs.TreeSteps.{paired_setting, at_these}
use Rattle.raf.proofs.Given.{of_kept, of_empty}
use Rattle.raf.proofs.verifying.give_node.Goals as goal

pub returns-in-Some-node-clause-given : goal.returns-in-Some-node-clause-given
returns-in-Some-node-clause-given g c =
    let E = g.H.MerkleHasher.hashing in
    let f = c.args.file.now in
    let key = g.A.Algorithm.key_list f.key in
    let a = c.args.parts.now in
    let t = c.in-Some.tree in
    let x = paired_setting E a.setting f.tree t c.requires.paired c.in-Some.is in
    let n = c.in-Some-node.ensures.node in
    at_these (λ o k. Given E c.args.level c.args.index (handle_of a key f.header o k) (handle_of a key f.header o k) c.args.out.now (c.copy_from_slice.new.self ++ c.split_at_mut-front.result.1.now) (Ok tt)) f.tree f.broken _ c.in-Some.is c.requires.unmarked
    (of_kept E c.args.level c.args.index key f.header t a x.0 x.1 x.2 (c.tree_laws.ensures (E x.0)) c.args.out.now c.copy_from_slice.new.self c.split_at_mut-front.result.1.now (omega arith) (omega (arith, c.copy_from_slice.auto.self, c.split_at_mut-front.ensures.front_len)) (c.split_at_mut-front.ensures.back ∙ ap (λ (k : ℕ). drop k c.args.out.now) c.root-len.ensures.len) n.0 (c.copy_from_slice.ensures.after ∙ n.1))

pub returns-in-None-clause-given : goal.returns-in-None-clause-given
returns-in-None-clause-given g c =
    let E = g.H.MerkleHasher.hashing in
    let f = c.args.file.now in
    let key = g.A.Algorithm.key_list f.key in
    let a = c.args.parts.now in
    let b = c.empty.new.self in
    let t = c.in-Some.tree in
    let x = paired_setting E a.setting f.tree t c.requires.paired c.in-Some.is in
    at_these (λ o k. Given E c.args.level c.args.index (handle_of a key f.header o k) (handle_of b key f.header o k) c.args.out.now (c.empty.new.out ++ c.split_at_mut-front.result.1.now) c.empty.result) f.tree f.broken _ c.in-Some.is c.requires.unmarked
    (of_empty E c.args.level c.args.index key f.header t a x.0 x.1 x.2 (c.tree_laws.ensures (E x.0)) b c.args.out.now c.empty.new.out c.split_at_mut-front.result.1.now c.empty.result (omega arith) (omega (arith, c.empty.auto.out, c.split_at_mut-front.ensures.front_len)) (c.split_at_mut-front.ensures.back ∙ ap (λ (k : ℕ). drop k c.args.out.now) c.root-len.ensures.len) (c.requires.place t c.in-Some.is) c.in-None.ensures.node c.empty.ensures.empty c.empty.ensures.failed c.empty.ensures.quiet c.empty.ensures.asked)
