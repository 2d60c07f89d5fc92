use Rattle.raf_format.specs.Cipher.{cipher_of}
use Rattle.raf_log.proofs.Sweeps.{opened}
use Rattle.raf_log.proofs.log.Log.open.Goals as goal

pub returns-in-Ok-clause-opened : goal.returns-in-Ok-clause-opened
returns-in-Ok-clause-opened g c =
    opened (cipher_of g.A.Algorithm.variant) c.args.raf c.find_entries.new.raf c.in-Ok.field-0.starts.items 0 c.in-Ok.ensures.found c.in-Ok.ensures.spaced c.find_entries.ensures.asked
