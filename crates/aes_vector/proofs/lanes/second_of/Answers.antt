use Rattle.std.proofs.Common.{[], ◌∷◌}
use Rattle.std.proofs.lemmas.Simd.{pick_l_left}
use Rattle.aes_vector.proofs.lanes.second_of.Goals as goal

pub returns : goal.returns
returns c = pick_l_left 0 c.args.pair c.args.pair 32 (16 ∷ 17 ∷ 18 ∷ 19 ∷ 20 ∷ 21 ∷ 22 ∷ 23 ∷ 24 ∷ 25 ∷ 26 ∷ 27 ∷ 28 ∷ 29 ∷ 30 ∷ 31 ∷ []) c.fits-pair.0 tt
