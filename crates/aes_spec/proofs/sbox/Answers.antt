-- The search finds the inverse.
use Rattle.std.proofs.Common.{◌≡◌, sym, ap, ◌∙◌, arith}
use Rattle.aes_spec.specs.Field.{inverse_up_to}
use Rattle.aes_spec.proofs.Inverses.{inverse_found, inverse_missed, inverse_none, S-inverse}
use Rattle.aes_spec.proofs.sbox.Goals as goal
use Rattle.aes_spec.proofs.sbox.Goals.{then-gf_mul-eq1, else-gf_mul-eq1}

pub loop-x-init : goal.loop-x-init
loop-x-init c = inverse_none c.args.b

pub loop-x-preserved : goal.loop-x-preserved
loop-x-preserved c = elim c.if-gf_mul-eq1.branch [
  | then-gf_mul-eq1 w ↦ w.inverse-is ∙ inverse_found c.args.b c.loop-x.x (sym c.gf_mul.ensures ∙ w.if-gf_mul-eq1.true)
  | else-gf_mul-eq1 w ↦
      w.inverse-is ∙ c.loop-x.invariant
      ∙ inverse_missed c.args.b c.loop-x.x (λ e. w.if-gf_mul-eq1.false (c.gf_mul.ensures ∙ e))
]

pub returns : goal.returns
returns c =
    let all : c.loop-x.x ≡ 255 = omega arith in
    c.affine.ensures ∙ S-inverse c.args.b c.loop-x.inverse (c.loop-x.invariant ∙ ap (inverse_up_to c.args.b) all)
