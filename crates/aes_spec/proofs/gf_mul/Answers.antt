-- Each step of the two loops is a step of the definitions.
use Rattle.std.proofs.Common.{◌≡◌, ℕ, ◌+◌, ◌-◌, ◌*◌, ◌%◌, ◌^◌, ◌<◌, bit_xor, refl, sym, ap, ◌∙◌, subst, arith}
use Rattle.std.proofs.lemmas.Nat.Bits.{shr_and_one}
use Rattle.std.specs.Int.{bit_at}
use Rattle.aes_spec.specs.Field.{carryless, remainder}
use Rattle.aes_spec.proofs.Products.{carryless_set, carryless_clear, carryless-lt, remainder_set, remainder_clear, remainder_none, set-lt, clear-lt, mul-steps}
use Rattle.aes_spec.proofs.gf_mul.Goals as goal
use Rattle.aes_spec.proofs.gf_mul.Goals.{then-b-i-eq1, else-b-i-eq1}

pub loop-i-init : goal.loop-i-init
unfolding carryless
loop-i-init c = refl

pub loop-i-preserved : goal.loop-i-preserved
loop-i-preserved c = elim c.if-b-i-eq1.branch [
  | then-b-i-eq1 w ↦
      w.product-is ∙ ap (λ p. bit_xor p (c.args.a * 2 ^ c.loop-i.i % 2 ^ 16)) c.loop-i.invariant
      ∙ carryless_set c.args.a c.args.b c.loop-i.i (omega arith) c.loop-i-test.true w.if-b-i-eq1.true
  | else-b-i-eq1 w ↦
      w.product-is ∙ c.loop-i.invariant
      ∙ carryless_clear c.args.a c.args.b c.loop-i.i (omega (arith, shr_and_one c.args.b c.loop-i.i, w.if-b-i-eq1.false))
]

pub loop-i-2-init : goal.loop-i-2-init
loop-i-2-init c =
    let eight : c.loop-i.i ≡ 8 = omega arith in
    let whole : c.loop-i.product ≡ carryless c.args.a c.args.b 8 = c.loop-i.invariant ∙ ap (carryless c.args.a c.args.b) eight in
    record {
      same = ap (remainder 7) whole ∙ sym (mul-steps c.args.a c.args.b);
      small = omega (arith, carryless-lt c.args.a c.args.b 8 (omega arith) (omega arith));
    }

pub loop-i-2-preserved-then-product-i-eq1 : goal.loop-i-2-preserved-then-product-i-eq1
loop-i-2-preserved-then-product-i-eq1 c =
    let n : ℕ = c.loop-i-2.i - 1 in
    let back : n + 1 ≡ c.loop-i-2.i = omega arith in
    let set = c.if-product-i-eq1.true in
    record {
      same = remainder_set c.loop-i-2.product n (omega arith) set ∙ ap (λ k. remainder k c.loop-i-2.product) back ∙ c.loop-i-2.invariant.same;
      small = set-lt c.loop-i-2.product n (omega arith) (subst (λ k. c.loop-i-2.product < 2 ^ (k + 8)) (sym back) c.loop-i-2.invariant.small) set;
    }

pub loop-i-2-preserved : goal.loop-i-2-preserved
loop-i-2-preserved c =
    let n : ℕ = c.loop-i-2.i - 1 in
    let back : n + 1 ≡ c.loop-i-2.i = omega arith in
    let clear : bit_at c.loop-i-2.product (n + 8) ≡ 0 = omega (arith, shr_and_one c.loop-i-2.product (n + 8), c.if-product-i-eq1.false) in
    record {
      same = remainder_clear c.loop-i-2.product n clear ∙ ap (λ k. remainder k c.loop-i-2.product) back ∙ c.loop-i-2.invariant.same;
      small = clear-lt c.loop-i-2.product n (subst (λ k. c.loop-i-2.product < 2 ^ (k + 8)) (sym back) c.loop-i-2.invariant.small) clear;
    }

pub overflow_cast-result : goal.overflow_cast-result
overflow_cast-result c =
    let none : c.loop-i-2.i ≡ 0 = omega arith in
    let small : c.loop-i-2.product < 2 ^ 8 = subst (λ k. c.loop-i-2.product < 2 ^ (k + 8)) none c.loop-i-2.invariant.small in
    omega arith

pub returns : goal.returns
returns c = sym (remainder_none c.loop-i-2.product c.loop-i-2.i c.loop-i-2-test.false) ∙ c.loop-i-2.invariant.same
