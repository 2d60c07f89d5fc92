use Rattle.std.proofs.Common.{[], ◌∷◌}
use Rattle.std.proofs.lemmas.Simd.{pick_l_left}
use Rattle.aes_vector.proofs.turned.turned.Goals as goal

pub returns : goal.returns
returns c = pick_l_left 0 c.args.x c.args.x 32 (0 ∷ 5 ∷ 10 ∷ 15 ∷ 4 ∷ 9 ∷ 14 ∷ 3 ∷ 8 ∷ 13 ∷ 2 ∷ 7 ∷ 12 ∷ 1 ∷ 6 ∷ 11 ∷ 16 ∷ 21 ∷ 26 ∷ 31 ∷ 20 ∷ 25 ∷ 30 ∷ 19 ∷ 24 ∷ 29 ∷ 18 ∷ 23 ∷ 28 ∷ 17 ∷ 22 ∷ 27 ∷ []) c.fits-x.0 tt
