use Rattle.std.proofs.Common.{refl, sym}
use Rattle.std.proofs.lemmas.List.{append-nil}
use Rattle.aegis_stream.specs.Spell.{frames_from}
use Rattle.aegis_stream.proofs.sealer.Sealer.new.Goals as goal

pub returns-clause-stream : goal.returns-clause-stream
unfolding frames_from
returns-clause-stream c = record { count = refl; stream = sym (append-nil c.args.prefix.now) }
