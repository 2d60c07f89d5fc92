-- The steps of the round, one after the other.
use Rattle.std.proofs.Common.{ℕ, ◌+◌, ◌*◌, List, slice_index, bit_xor, ap, ◌∙◌, arith}
use Rattle.aes_spec.specs.Bytes.{xor_bytes}
use Rattle.aes_spec.specs.Field.{S}
use Rattle.aes_spec.specs.Rounds.{R, mix_columns, shift_rows}
use Rattle.aes_vector.specs.Lanes.{part}
use Rattle.aes_vector.proofs.LaneLemmas.{same_blocks}
use Rattle.aes_vector.proofs.rounds.round_pair.Goals as goal

pub returns : goal.returns
unfolding R
returns c = λ h l.
    let r : List ℕ = c.before_constant.result in
    let x : List ℕ = c.args.x in
    c.xor_pairs.ensures h l
    ∙ ap (λ (v : List ℕ). xor_bytes v (part h c.args.key))
    (c.mix_shifted.ensures h l
    ∙ ap (λ (v : List ℕ). mix_columns (shift_rows v))
    (same_blocks (λ k. bit_xor (slice_index r (16 * h + k)) 0x63) (λ k. S (slice_index x (16 * h + k))) (λ k m. c.before_constant.ensures.value (16 * h + k) (omega arith))))
