-- The rotated sum is the affine map, by its 256 values.
use Rattle.std.proofs.Common.{bit_xor, ◌∙◌, arith}
use Rattle.aes_spec.proofs.Tables.{affine-rotated}
use Rattle.aes_spec.proofs.affine.Goals as goal

pub returns : goal.returns
returns c =
    (λ i. bit_xor (bit_xor (bit_xor (bit_xor (bit_xor c.args.b (c.rotate_left.ensures i)) (c.rotate_left-2.ensures i)) (c.rotate_left-3.ensures i)) (c.rotate_left-4.ensures i)) 0x63)
    ∙ affine-rotated c.args.b (omega arith)
