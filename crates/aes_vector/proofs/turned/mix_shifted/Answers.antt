use Rattle.std.proofs.Common.{◌≡◌, ℕ, List, length, refl}
use Rattle.aes_vector.proofs.LaneLemmas.{small}
use Rattle.aes_vector.proofs.TurnedLanes.{turned_mixed}
use Rattle.aes_vector.proofs.turned.mix_shifted.Goals as goal

pub returns : goal.returns
returns c =
    let x : List ℕ = c.args.x in
    let long : length x ≡ 32 = c.fits-x.0 in
    turned_mixed x long (small 32 x long c.fits-x.1) c.below_once_turned-below.result _ c.twice_and_constant.result c.turned.result c.turned_opposite.result
    c.below_once_turned-below.ensures refl c.twice_and_constant.ensures c.turned.ensures c.turned_opposite.ensures
