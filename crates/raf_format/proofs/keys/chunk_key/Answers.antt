use Rattle.std.proofs.Common.{sym, ◌∙◌}
use Rattle.raf_format.proofs.Ciphers.{chunk_key_is}
use Rattle.raf_format.proofs.keys.chunk_key.Goals as goal

pub returns : goal.returns
returns g c = c.key_for.ensures ∙ sym (chunk_key_is g.A.Algorithm.variant (g.A.Algorithm.key_list c.args.key.now) c.args.id.now)
