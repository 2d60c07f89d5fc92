use Rattle.aegis_core.proofs.Laws.{is_sealing}
use Rattle.aegis_aead.proofs.round_trip.aead_laws.Goals as goal

pub returns-clause-sealing : goal.returns-clause-sealing
returns-clause-sealing g c = is_sealing g.A.KeySizeUser.variant g.A.AeadCore.TAG_SIZE g.A.AeadCore.tag_size
