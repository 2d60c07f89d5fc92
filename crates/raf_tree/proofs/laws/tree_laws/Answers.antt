use Rattle.raf_tree.proofs.TreeLaws.{tree_laws_hold}
use Rattle.raf_tree.proofs.laws.tree_laws.Goals as goal

pub returns : goal.returns
returns c = tree_laws_hold
