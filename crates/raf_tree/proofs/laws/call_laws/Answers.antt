use Rattle.raf_tree.proofs.Calls.{call_laws_hold}
use Rattle.raf_tree.proofs.laws.call_laws.Goals as goal

pub returns : goal.returns
returns c = call_laws_hold
