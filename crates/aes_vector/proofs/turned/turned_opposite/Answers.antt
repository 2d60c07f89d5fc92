use Rattle.std.proofs.Common.{[], ◌∷◌}
use Rattle.std.proofs.lemmas.Simd.{pick_l_left}
use Rattle.aes_vector.proofs.turned.turned_opposite.Goals as goal

pub returns : goal.returns
returns c = pick_l_left 0 c.args.x c.args.x 32 (10 ∷ 15 ∷ 0 ∷ 5 ∷ 14 ∷ 3 ∷ 4 ∷ 9 ∷ 2 ∷ 7 ∷ 8 ∷ 13 ∷ 6 ∷ 11 ∷ 12 ∷ 1 ∷ 26 ∷ 31 ∷ 16 ∷ 21 ∷ 30 ∷ 19 ∷ 20 ∷ 25 ∷ 18 ∷ 23 ∷ 24 ∷ 29 ∷ 22 ∷ 27 ∷ 28 ∷ 17 ∷ []) c.fits-x.0 tt
