use Rattle.raf_script.proofs.ContentLemmas.{reads_spelled}
use Rattle.raf_script.proofs.settings.parse.Goals as goal

pub returns : goal.returns
returns c = reads_spelled c.args.medium c.args.text.now c.read_script.result c.read_script.ensures
