use Rattle.std.proofs.Common.{[], ◌∷◌}
use Rattle.std.proofs.lemmas.Simd.{pick_l_left}
use Rattle.aes_vector.proofs.turned.below_once_turned.Goals as goal

pub returns : goal.returns
returns c = pick_l_left 0 c.args.x c.args.x 32 (5 ∷ 6 ∷ 7 ∷ 4 ∷ 9 ∷ 10 ∷ 11 ∷ 8 ∷ 13 ∷ 14 ∷ 15 ∷ 12 ∷ 1 ∷ 2 ∷ 3 ∷ 0 ∷ 21 ∷ 22 ∷ 23 ∷ 20 ∷ 25 ∷ 26 ∷ 27 ∷ 24 ∷ 29 ∷ 30 ∷ 31 ∷ 28 ∷ 17 ∷ 18 ∷ 19 ∷ 16 ∷ []) c.fits-x.0 tt
