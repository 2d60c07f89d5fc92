use Rattle.std.proofs.Common.{◌≡◌, ◌<◌, length, ap, ◌∙◌}
use Rattle.aegis_core.specs.Family.{Family, keyed}
use Rattle.aegis_core.proofs.LoopLemmas.{pos_along}
use Rattle.aegis_core.proofs.PiecesLemmas.{place_of, ended_state}
use Rattle.aegis_core.proofs.pieces.Pieces.ended.Goals as goal

pub returns-clause-rate : goal.returns-clause-rate
returns-clause-rate g c = pos_along c.rate-rate.result _ c.rate-rate.ensures.rate c.rate-rate.ensures.some

pub returns-clause-ended : goal.returns-clause-ended
returns-clause-ended g c = λ f key nonce ad m h.
    let er : c.rate-rate.result ≡ f.rate = c.rate-rate.ensures.rate ∙ ap (λ (v : Family). v.rate) h.same in
    let pos : 0 < f.rate = pos_along c.rate-rate.result f.rate er c.rate-rate.ensures.some in
    let used = place_of c.args.self.now.total (length m) c.rate-rate.result f.rate h.total er in (
      c.absorb_tail.ensures.same ∙ h.same,
      ended_state f (g.S.LaneState.family c.args.self.now.lanes) (keyed f key nonce ad) (g.S.LaneState.lanes c.args.self.now.lanes) _ m c.args.self.now.block _ pos used h.state h.rest h.same c.absorb_tail.ensures.updated,
    )
