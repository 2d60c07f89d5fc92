use Rattle.std.proofs.Common.{◌≡◌, ℕ, ◌+◌, ◌*◌, List, length, slice_index, bit_xor, arith}
use Rattle.std.specs.Simd.Lanes.{zip2}
use Rattle.std.proofs.lemmas.Simd.{get_or-zip2}
use Rattle.aes_spec.specs.Bytes.{on_bytes}
use Rattle.aes_vector.proofs.LaneLemmas.{same_blocks}
use Rattle.aes_vector.proofs.lanes.xor_pairs.Goals as goal

pub returns : goal.returns
unfolding on_bytes
returns c = λ h l.
    let a : List ℕ = c.args.a in
    let b : List ℕ = c.args.b in
    let of_a : length a ≡ 32 = c.fits-a.0 in
    let of_b : length b ≡ 32 = c.fits-b.0 in
    same_blocks (λ k. slice_index (zip2 bit_xor a b) (16 * h + k)) (λ k. bit_xor (slice_index a (16 * h + k)) (slice_index b (16 * h + k)))
    (λ k m. get_or-zip2 bit_xor a b (16 * h + k) 0 0 0 (omega arith) (omega arith))
