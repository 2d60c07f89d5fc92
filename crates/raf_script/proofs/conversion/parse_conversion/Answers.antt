use Rattle.raf_script.proofs.ConversionLemmas.{conversion_content}
use Rattle.raf_script.proofs.conversion.parse_conversion.Goals as goal

pub returns : goal.returns
returns c = conversion_content c.args.text.now c.read_conversion.result c.read_conversion.ensures
