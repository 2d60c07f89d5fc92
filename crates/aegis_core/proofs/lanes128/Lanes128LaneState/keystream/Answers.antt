use Rattle.std.proofs.Common.{◌≡◌, ◌+◌, ◌/◌, ◌++◌, ℕ, List, length, ap, ◌∙◌, arith}
use Rattle.std.proofs.lemmas.List.{length-take-le}
use Rattle.std.specs.List.{flat_map}
use Rattle.aegis_core.specs.Lanes128.{z0}
use Rattle.aegis_core.specs.Held.{lanes_of_128}
use Rattle.aegis_core.proofs.RowLemmas.{half_of, halves_put}
use Rattle.aegis_core.proofs.lanes128.Lanes128LaneState.keystream.Goals as goal

pub returns : goal.returns
returns g c =
    let half : ℕ = c.rate-half.result / 2 in
    let both : length c.args.out.now ≡ c.rate-half.result / 2 + c.rate-half.result / 2 = half_of c.args.self.now.count _ _ c.rate-half.ensures.rate c.requires in
    let long : length c.put.new.out ≡ half = c.put.auto.out ∙ length-take-le half c.args.out.now (omega arith) in
    halves_put c.args.out.now c.put.new.out c.put-2.new.out half both long
    ∙ ap (λ (v : List ℕ). v ++ c.put-2.new.out) (c.put.ensures ∙ c.z0_row.ensures.blocks) ∙ ap (λ (v : List ℕ). flat_map z0 (lanes_of_128 g.B.RoundBlock.bytes c.args.self.now) ++ v) (c.put-2.ensures ∙ c.z1_row.ensures.blocks)
