use Rattle.raf_tree.proofs.WalkLaws.{binding_laws_hold}
use Rattle.raf_tree.proofs.laws.binding_laws.Goals as goal

pub returns : goal.returns
returns c = binding_laws_hold
