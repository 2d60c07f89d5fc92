use Rattle.raf_tree.proofs.WalkLaws.{walk_laws_hold}
use Rattle.raf_tree.proofs.laws.walk_laws.Goals as goal

pub returns : goal.returns
returns c = walk_laws_hold
