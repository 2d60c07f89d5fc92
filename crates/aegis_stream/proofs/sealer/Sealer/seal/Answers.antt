use Rattle.std.proofs.Common.{◌≡◌, ℕ, ◌+◌, ◌++◌, length, drop, refl, subst, ◌∙◌}
use Rattle.std.proofs.lemmas.List.{length-take-le}
use Rattle.aegis_stream.specs.Sealing.{Sealing, IsSealed}
use Rattle.aegis_stream.proofs.Spelled.{sealed_is}
use Rattle.aegis_stream.proofs.sealer.Sealer.seal.Goals as goal

pub returns-clause-sealed : goal.returns-clause-sealed
returns-clause-sealed c =
    let u = c.self.inside in
    let m = c.args.piece.now in
    let out = c.args.out.now in
    let n : ℕ = 21 + length m in
    let old : Sealing = record { key = u.key; prefix = u.prefix; frames = u.frames; ended = u.ended } in
    let new : Sealing = record { key = u.key; prefix = u.prefix; frames = u.frames + 1; ended = c.args.last } in
    let len : length c.write.new.out ≡ n = c.write.auto.out ∙ length-take-le n out c.requires.room in
    subst (λ (s : Sealing). IsSealed s new m c.args.last out (c.write.new.out ++ drop n out) n) c.self.view_is
    (sealed_is old m c.args.last c.write.new.out out n c.if-self.false refl len c.write.ensures)
