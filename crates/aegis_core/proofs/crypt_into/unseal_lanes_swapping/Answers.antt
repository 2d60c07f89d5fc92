use Rattle.std.proofs.Common.{◌*◌, ℕ, length, ap, sym, ◌∙◌}
use Rattle.aegis_core.specs.Family.{Family, sealed_by}
use Rattle.aegis_core.proofs.VariantLemmas.{started}
use Rattle.aegis_core.proofs.OneText.{seal_code, no_other, tag_part, pos_same}
use Rattle.aegis_core.proofs.crypt_into.unseal_lanes_swapping.Goals as goal

pub returns-then-are_same-clause-message : goal.returns-then-are_same-clause-message
returns-then-are_same-clause-message g c =
    let a = c.absorb_all.ensures in
    let e = c.decrypt_all_swapping.ensures in
    let family = g.S.LaneState.family in
    let s = c.start.ensures in
    let key = c.args.key.now in
    let nonce = c.args.nonce.now in
    let ad = c.args.ad.now in
    let t = tag_part c.args.tag.now c.requires.tag_len in
    ap (λ (v : Family). sealed_by v (length c.args.tag.now) key nonce ad c.decrypt_all_swapping.new.m) (sym s.same)
    ∙ seal_code (family c.start.new.self) (family c.absorb_all.new.state) (family c.decrypt_all_swapping.new.state) (length c.args.tag.now) (length c.decrypt_all_swapping.new.c) key nonce ad c.decrypt_all_swapping.new.m _ _ _ _ _
    a.same e.same a.updated e.text e.updated (ap length e.swapped ∙ sym c.decrypt_all_swapping.auto.m)
    (sym c.if-are_same.ensures.yes ∙ c.finalise.ensures ∙ ap (λ (j : ℕ). (family c.decrypt_all_swapping.new.state).finalise j (8 * length ad) (8 * (length c.decrypt_all_swapping.new.c)) (g.S.LaneState.lanes c.decrypt_all_swapping.new.state)) t) (started _ _ _ key nonce s.same s.initial)

pub returns-clause-none : goal.returns-clause-none
returns-clause-none g c = λ m.
    let a = c.absorb_all.ensures in
    let e = c.decrypt_all_swapping.ensures in
    let family = g.S.LaneState.family in
    let s = c.start.ensures in
    let key = c.args.key.now in
    let nonce = c.args.nonce.now in
    let ad = c.args.ad.now in
    let t = tag_part c.args.tag.now c.requires.tag_len in
    let sealed = seal_code (family c.start.new.self) (family c.absorb_all.new.state) (family c.decrypt_all_swapping.new.state) (length c.args.tag.now) (length c.decrypt_all_swapping.new.c) key nonce ad c.decrypt_all_swapping.new.m _ c.finalise.new.tag _ _ _
    a.same e.same a.updated e.text e.updated (ap length e.swapped ∙ sym c.decrypt_all_swapping.auto.m)
    (c.finalise.ensures ∙ ap (λ (j : ℕ). (family c.decrypt_all_swapping.new.state).finalise j (8 * length ad) (8 * (length c.decrypt_all_swapping.new.c)) (g.S.LaneState.lanes c.decrypt_all_swapping.new.state)) t) (started _ _ _ key nonce s.same s.initial) in
    no_other (family c.args.state.now) (length c.args.tag.now) key nonce ad c.decrypt_all_swapping.new.m c.args.c.now c.finalise.new.tag c.args.tag.now
    (pos_same _ _ (a.same ∙ s.same) e.rate) (ap (λ (v : Family). sealed_by v (length c.args.tag.now) key nonce ad c.decrypt_all_swapping.new.m) (sym s.same) ∙ sealed) c.if-are_same.ensures.no m
