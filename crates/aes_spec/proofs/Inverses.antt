-- One more candidate for the inverse.
use Rattle.std.proofs.Common.{◌≡◌, ℕ, suc, ◌+◌, true, false, ◌==◌, refl, sym, ap, ◌∙◌, add-one}
use Rattle.std.proofs.lemmas.Bool.{eq-eqb, ne_eqb}
use Rattle.aes_spec.specs.Field.{mul, inverse_up_to, inv, S, affine}

pub inverse_found : (a n : ℕ) → mul a (n + 1) ≡ 1 → n + 1 ≡ inverse_up_to a (n + 1)
unfolding inverse_up_to
inverse_found a n one =
    let test : (mul a (suc n) == 1) ≡ true = eq-eqb (mul a (suc n)) 1 (ap (mul a) (sym (add-one n)) ∙ one) in
    rw (add-one n, test) refl

pub inverse_missed : (a n : ℕ) → (mul a (n + 1) ≡ 1 → ⊥) → inverse_up_to a n ≡ inverse_up_to a (n + 1)
unfolding inverse_up_to
inverse_missed a n other =
    let test : (mul a (suc n) == 1) ≡ false = ne_eqb (mul a (suc n)) 1 (λ e. other (ap (mul a) (add-one n) ∙ e)) in
    rw (add-one n, test) refl

pub inverse_none : (a : ℕ) → 0 ≡ inverse_up_to a 0
unfolding inverse_up_to
inverse_none a = refl

pub S-inverse : (b x : ℕ) → x ≡ inverse_up_to b 255 → affine x ≡ S b
unfolding S inv
S-inverse b x e = ap affine e
