use Rattle.std.proofs.Common.{length, ap, ◌∙◌}
use Rattle.aegis_core.specs.Family.{Family, stream_by}
use Rattle.aegis_core.proofs.VariantLemmas.{started}
use Rattle.aegis_core.proofs.StreamLemmas.{stream_code}
use Rattle.aegis_core.proofs.crypt.stream_lanes.Goals as goal

pub returns : goal.returns
returns g c =
    let a = c.absorb_all.ensures in
    let family = g.S.LaneState.family in
    let s = c.start.ensures in
    let key = c.args.key.now in
    let nonce = c.args.nonce.now in
    stream_code (family c.start.new.self) (family c.absorb_all.new.state) key nonce c.clear.new.out _ (length c.args.out.now) _ _ a.same a.updated c.clear.ensures c.encrypt_all.ensures.text (started _ _ _ key nonce s.same s.initial)
    ∙ ap (λ (v : Family). stream_by v key nonce (length c.args.out.now)) s.same
