use Rattle.aes_vector.specs.declared.sbox.TheConstants.{FIRST, SECOND}
use Rattle.aes_vector.specs.HalfBytes.{half_bytes, first_fraction, second_fraction}
use Rattle.aes_vector.specs.Lanes.{looked_up}
use Rattle.aes_vector.proofs.HalfBytes.{index-first, index-second}
use Rattle.aes_vector.proofs.LaneLemmas.{small}
use Rattle.aes_vector.proofs.SboxLanes.{through, indexed, looked, summed, substituted}
use Rattle.aes_vector.proofs.sbox.before_constant.Goals as goal

pub look_up-of_first-requires : goal.look_up-of_first-requires
look_up-of_first-requires c =
    let x = c.args.x in
    indexed x (small 32 x c.fits-x.0 c.fits-x.1) _ _ index-first (through x _ _ half_bytes first_fraction c.half_bytes-halves.ensures c.fractions.ensures.first)

pub look_up-of_second-requires : goal.look_up-of_second-requires
look_up-of_second-requires c =
    let x = c.args.x in
    indexed x (small 32 x c.fits-x.0 c.fits-x.1) _ _ index-second (through x _ _ half_bytes second_fraction c.half_bytes-halves.ensures c.fractions.ensures.second)

pub returns : goal.returns
returns c =
    let x = c.args.x in
    let halves = c.half_bytes-halves.ensures in
    let both = c.fractions.ensures in
    let first = looked x FIRST _ c.look_up-of_first.result (λ b. first_fraction (half_bytes b)) (through x _ _ half_bytes first_fraction halves both.first) c.look_up-of_first.ensures in
    let second = looked x SECOND _ c.look_up-of_second.result (λ b. second_fraction (half_bytes b)) (through x _ _ half_bytes second_fraction halves both.second) c.look_up-of_second.ensures in
    let sum = summed x _ _ (λ b. looked_up FIRST (first_fraction (half_bytes b))) (λ b. looked_up SECOND (second_fraction (half_bytes b))) first second in
    record { value = substituted x (small 32 x c.fits-x.0 c.fits-x.1) _ sum; long = sum.long }
