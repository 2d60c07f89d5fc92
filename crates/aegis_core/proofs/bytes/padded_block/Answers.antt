use Rattle.std.proofs.lemmas.List.{drop-replicate}
use Rattle.aegis_core.proofs.bytes.padded_block.Goals as goal

pub returns : goal.returns
returns c = simp (c.copy_from_slice.ensures.after, drop-replicate)
