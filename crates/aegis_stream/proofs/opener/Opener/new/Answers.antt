use Rattle.std.proofs.Common.{[], None, sym, subst}
use Rattle.aegis_stream.specs.Opening.{Took}
use Rattle.aegis_stream.specs.Progress.{Progress}
use Rattle.aegis_stream.proofs.Openings.{took_nothing}
use Rattle.aegis_stream.proofs.opener.Opener.new.Goals as goal

pub returns-clause-took : goal.returns-clause-took
returns-clause-took c =
    let key = c.args.key.now in
    subst (λ (u : Progress). Took (record { key = key; prefix = []; begun = u.begun; frames = u.frames; ended = u.ended; refused = None }) []) (sym c.in-Ok.ensures) (took_nothing key)
