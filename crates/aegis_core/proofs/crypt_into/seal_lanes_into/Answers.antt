use Rattle.std.proofs.Common.{length, refl, sym, ap, ◌∙◌}
use Rattle.aegis_core.specs.Family.{Family, sealed_by}
use Rattle.aegis_core.proofs.VariantLemmas.{started}
use Rattle.aegis_core.proofs.OneText.{seal_code}
use Rattle.aegis_core.proofs.crypt_into.seal_lanes_into.Goals as goal

pub returns : goal.returns
returns g c =
    let a = c.absorb_all.ensures in
    let e = c.encrypt_all_into.ensures in
    let family = g.S.LaneState.family in
    let s = c.start.ensures in
    let key = c.args.key.now in
    let nonce = c.args.nonce.now in
    let t = length c.args.tag.now in
    ap (λ (v : Family). sealed_by v t key nonce c.args.ad.now c.args.m.now) (sym s.same)
    ∙ seal_code (family c.start.new.self) (family c.absorb_all.new.state) (family c.encrypt_all_into.new.state) t (length c.args.m.now) key nonce c.args.ad.now c.args.m.now _ _ _ _ _
    a.same e.same a.updated e.text e.updated refl c.finalise.ensures (started _ _ _ key nonce s.same s.initial)
