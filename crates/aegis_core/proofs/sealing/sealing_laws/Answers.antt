use Rattle.aegis_core.proofs.Laws.{is_sealing}
use Rattle.aegis_core.proofs.sealing.sealing_laws.Goals as goal

pub returns : goal.returns
returns c = is_sealing c.args.variant c.args.tag_len c.requires
