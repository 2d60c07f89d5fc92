use Rattle.raf_script.proofs.ContentLemmas.{log_spelled}
use Rattle.raf_script.proofs.log_lines.parse_log.Goals as goal

pub returns : goal.returns
returns c = log_spelled c.args.text.now c.read_log.result c.read_log.ensures
