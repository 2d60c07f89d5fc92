use Rattle.std.proofs.Common.{◌≡◌, ℕ, ◌+◌, List, ◌++◌, take, Ok, sym, subst, ◌∙◌, arith, rules}
use Rattle.std.proofs.lemmas.Grind.{common_steps}
use Rattle.raf.specs.Given.{IsPlace, Given}
use Rattle.raf_proof.specs.Proving.{Gathered}
use Rattle.raf_proof.proofs.Handles.{only_asked_then}
use Rattle.raf_proof.proofs.Gathered.{place, gather_more}
use Rattle.raf_proof.proofs.proving.gather.Goals as goal

pub merkle_node-requires : goal.merkle_node-requires
merkle_node-requires g c = λ u tree.
    let a = c.args in
    let E = g.H.MerkleHasher.hashing in
    subst (λ (k : ℕ). IsPlace u c.loop-level.level k) (sym c.sibling_of.ensures) (place E a.height a.len a.index a.raf.now c.loop-level.raf c.loop-level.raf c.requires.ready c.loop-level.level c.loop-level.invariant.asked (omega arith) u tree)

pub loop-level-preserved : goal.loop-level-preserved
loop-level-preserved g c =
    let a = c.args in
    let E = g.H.MerkleHasher.hashing in
    let l = c.loop-level in
    let new = c.merkle_node.new.self in
    let given = subst (λ (k : ℕ). Given E l.level k l.raf new l.node c.merkle_node.new.out (Ok tt)) c.sibling_of.ensures c.in_ok-merkle_node.ensures in
    let items : c.extend_from_slice.new.self.items ≡ l.siblings.items ++ take a.len c.merkle_node.new.out = grind (arith, common_steps) in
    record {
      gathered = subst (λ (x : List ℕ). Gathered E a.index a.len (l.level + 1) a.raf.now new x) (sym items) (gather_more E a.height a.len a.index a.raf.now l.raf new c.requires.ready l.level l.siblings.items l.node c.merkle_node.new.out l.invariant.asked l.invariant.gathered given (search rules));
      asked = only_asked_then l.level 1 a.raf.now l.raf new l.invariant.asked c.merkle_node.ensures.asked;
    }
