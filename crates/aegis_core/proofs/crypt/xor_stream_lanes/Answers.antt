use Rattle.std.proofs.Common.{length, ap, ◌∙◌}
use Rattle.aes_spec.specs.Bytes.{xor_bytes}
use Rattle.aegis_core.specs.Family.{Family, stream_by}
use Rattle.aegis_core.proofs.VariantLemmas.{started}
use Rattle.aegis_core.proofs.StreamLemmas.{xor_stream_code}
use Rattle.aegis_core.proofs.crypt.xor_stream_lanes.Goals as goal

pub returns : goal.returns
returns g c =
    let a = c.absorb_all.ensures in
    let family = g.S.LaneState.family in
    let s = c.start.ensures in
    let key = c.args.key.now in
    let nonce = c.args.nonce.now in
    xor_stream_code (family c.start.new.self) (family c.absorb_all.new.state) key nonce c.args.mc.now _ _ _ a.same a.updated c.xor_stream_all.ensures (started _ _ _ key nonce s.same s.initial)
    ∙ ap (λ (v : Family). xor_bytes c.args.mc.now (stream_by v key nonce (length c.args.mc.now))) s.same
