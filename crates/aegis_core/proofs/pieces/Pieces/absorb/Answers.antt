use Rattle.std.proofs.Common.{◌≡◌, ◌+◌, ◌-◌, ◌<◌, ◌≤◌, ◌++◌, ℕ, List, length, take, drop, refl, ap, ◌∙◌, arith, subst}
use Rattle.std.proofs.lemmas.List.{append_assoc}
use Rattle.aegis_core.specs.Pieces.{Holds}
use Rattle.aegis_core.proofs.FrontLemmas.{next_part, part_len_is}
use Rattle.aegis_core.proofs.pieces.Pieces.absorb.Goals as goal

pub parts-preserved : goal.parts-preserved
parts-preserved g c =
    let family = g.S.LaneState.family in
    let lanes = g.S.LaneState.lanes in
    let i = c.parts.invariant in
    let at : ℕ = c.parts.at in
    let n : ℕ = c.min-n.result in
    let piece = c.args.piece.now in
    let left : n ≤ length c.args.piece.now - at = omega (arith, c.min-n.ensures) in
    let test : at < length c.args.piece.now = c.parts-test.true in
    let lp : length (take (at + n - at) (drop at c.args.piece.now)) ≡ n = part_len_is c.args.piece.now at n (omega arith) in
    record {
      within = omega arith;
      same = c.take_in.ensures.same ∙ i.same;
      total = c.take_in.ensures.total ∙ omega (arith, i.total);
      holds = λ f key nonce ad m h.
          let P : List ℕ → Type 0 = λ v. Holds family lanes f c.take_in.new.self key nonce ad v in
          subst P (append_assoc m (take at piece) (take (at + n - at) (drop at piece)) ∙ ap (λ (v : List ℕ). m ++ v) (next_part piece piece at n refl))
          (c.take_in.ensures.holds f key nonce ad (m ++ take at piece) (i.holds f key nonce ad m h));
    }
