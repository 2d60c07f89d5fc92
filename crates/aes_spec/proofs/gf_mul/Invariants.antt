-- The partial product, and the remainder that is left.
use Rattle.std.proofs.Common.{◌≡◌, ◌^◌, ◌<◌, ◌+◌}
use Rattle.aes_spec.specs.Field.{carryless, remainder, mul}
use Rattle.aes_spec.proofs.gf_mul.Given as goal

abbrev pub invariant-loop-i : goal.invariant-loop-i
invariant-loop-i l = l.product ≡ carryless l.a l.b l.i

abbrev pub invariant-loop-i-2 : goal.invariant-loop-i-2
invariant-loop-i-2 l = record { same : remainder l.i l.product ≡ mul l.a l.b; small : l.product < 2 ^ (l.i + 8) }
