use Rattle.raf_log.proofs.Spelled as spelled
use Rattle.raf_log.proofs.laws.one_list.Goals as goal

pub returns : goal.returns
returns c = spelled.one_list
