use Rattle.std.proofs.Common.{refl, subst, arith}
use Rattle.std.specs.Prelude.{Option}
use Rattle.std.proofs.Math.Pow.{pow_mono}
use Rattle.raf_tree.specs.Hashing.{Hashing}
use Rattle.raf_tree.specs.Walk.{Finds}
use Rattle.raf_tree.specs.declared.place.Place.{Place}
use Rattle.raf_format.specs.Cipher.{cipher_of}
use Rattle.raf.proofs.Descents.{steps_ok, steps_handed}
use Rattle.raf.proofs.AllChunks.{whole_walk}
use Rattle.raf.proofs.clashing.clash_below.Goals as goal

pub walk-requires-clause-place : goal.walk-requires-clause-place
walk-requires-clause-place g c = omega (arith, pow_mono {i = c.args.height} {j = 27} c.requires.place)

pub returns-in-Some-clause-steps : goal.returns-in-Some-clause-steps
returns-in-Some-clause-steps g c =
    whole_walk (cipher_of g.A1.Algorithm.variant) (cipher_of g.A2.Algorithm.variant) c.args.height _ _ _ _ _ (steps_ok (cipher_of g.A1.Algorithm.variant) (cipher_of g.A2.Algorithm.variant) _ _ _ _ _ _ _ _ _ _ c.in_ok-place.ensures.steps)

pub returns-in-None-clause-steps : goal.returns-in-None-clause-steps
returns-in-None-clause-steps g c =
    whole_walk (cipher_of g.A1.Algorithm.variant) (cipher_of g.A2.Algorithm.variant) c.args.height _ _ _ _ _ (steps_ok (cipher_of g.A1.Algorithm.variant) (cipher_of g.A2.Algorithm.variant) _ _ _ _ _ _ _ _ _ _ c.in_ok-place.ensures.steps)

pub returns-in_err-place-clause-steps : goal.returns-in_err-place-clause-steps
returns-in_err-place-clause-steps g c =
    whole_walk (cipher_of g.A1.Algorithm.variant) (cipher_of g.A2.Algorithm.variant) c.args.height _ _ _ _ _ (steps_handed (cipher_of g.A1.Algorithm.variant) (cipher_of g.A2.Algorithm.variant) _ _ _ _ _ _ _ _ c.in_err-place.field-0.0 c.from_residual.result c.from_residual.ensures.1 c.in_err-place.ensures.steps)

pub returns-in-Some-clause-found : goal.returns-in-Some-clause-found
returns-in-Some-clause-found g c = λ s x y has_x has_y one.
    let M : Hashing = g.H.MerkleHasher.hashing s in
    (refl, subst (λ (o : Option Place). Finds M x y c.args.height 0 o) c.in-Some.is (c.in_ok-place.ensures.found s x y has_x has_y one))

pub returns-in-None-clause-found : goal.returns-in-None-clause-found
returns-in-None-clause-found g c = λ s x y has_x has_y one.
    let M : Hashing = g.H.MerkleHasher.hashing s in
    subst (λ (o : Option Place). Finds M x y c.args.height 0 o) c.in-None.is (c.in_ok-place.ensures.found s x y has_x has_y one)
