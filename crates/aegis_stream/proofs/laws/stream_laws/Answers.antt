use Rattle.aegis_stream.proofs.Streams.{fronts, goes_on}
use Rattle.aegis_stream.proofs.Back.{spelled_back}
use Rattle.aegis_stream.proofs.laws.stream_laws.Goals as goal

pub returns : goal.returns
returns c = record { fronts = fronts; goes_on = goes_on; back = spelled_back }
