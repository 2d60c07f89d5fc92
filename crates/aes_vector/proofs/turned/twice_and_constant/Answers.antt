use Rattle.std.proofs.Common.{◌≡◌, ℕ, ◌+◌, ◌%◌, ◌^◌, List, leb, cond, length, replicate, slice_index, bit_xor, ◌∙◌, w8}
use Rattle.std.proofs.lemmas.Simd.{tops_compared}
use Rattle.aes_vector.specs.Lanes.{HasLanes}
use Rattle.aes_vector.proofs.LaneLemmas.{own, zipped, small}
use Rattle.aes_vector.proofs.MixedLanes.{chosen, doubled_more-mul}
use Rattle.aes_vector.proofs.turned.twice_and_constant.Goals as goal

pub returns : goal.returns
returns c =
    let x : List ℕ = c.args.x in
    let long : length x ≡ 32 = c.fits-x.0 in
    let carries : HasLanes 32 _ (λ k. cond (leb 128 (slice_index x k)) 120 99) =
    rw (tops_compared w8 leb (replicate 32 128) x) (chosen 32 120 99 x long) in
    let sums = zipped (λ a b. (a + b) % 2 ^ 8) 32 x x (slice_index x) (slice_index x) (own 32 x long) (own 32 x long) in
    let got = zipped bit_xor 32 _ _ (λ k. (slice_index x k + slice_index x k) % 2 ^ 8) (λ k. cond (leb 128 (slice_index x k)) 120 99) sums carries in
    record { long = got.long; each = λ k l. got.each k l ∙ doubled_more-mul (slice_index x k) (small 32 x long c.fits-x.1 k l) }
