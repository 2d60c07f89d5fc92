use Rattle.std.proofs.Common.{◌≡◌, ◌+◌, ◌*◌, ◌/◌, ◌≤◌, ℕ, length, refl, sym, ap, ◌∙◌, arith}
use Rattle.aegis_core.specs.Blocks.{first_blocks}
use Rattle.aegis_core.proofs.LoopLemmas.{half_way, decrypt_into_step, decrypt_into_end, decrypting_none, rest_at, pos_along, block_fits, whole_fits, le_split, back_to}
use Rattle.aegis_core.proofs.crypt_into.decrypt_all_into.Goals as goal

pub each-init : goal.each-init
unfolding first_blocks
each-init g c = record {
  same = refl;
  lanes = refl;
  text = decrypting_none (g.S.LaneState.family c.args.state.now) (g.S.LaneState.lanes c.args.state.now) c.args.c.now (half_way c.args.c.now c.args.m.now (0 * (g.S.LaneState.family c.args.state.now).rate));
}

pub each-preserved : goal.each-preserved
each-preserved g c =
    let i = c.each.invariant in
    let f = g.S.LaneState.family c.args.state.now in
    let s = g.S.LaneState.lanes c.args.state.now in
    let fits : c.each.i * c.rate-rate.result + c.rate-rate.result ≤ length c.args.c.now = block_fits c.each.i (length c.args.c.now) c.rate-rate.result c.each-test.true in
    let next = decrypt_into_step f (g.S.LaneState.family c.each.state) s _ _ c.args.c.now c.each.m _ c.each.i c.rate-rate.result _ i.same c.rate-rate.ensures.rate
    (back_to (c.each.i * c.rate-rate.result) c.rate-rate.result) fits (c.each.auto.m ∙ c.requires) i.lanes i.text c.decrypt_into.ensures.text c.decrypt_into.ensures.updated in
    record { same = c.decrypt_into.ensures.same ∙ i.same; lanes = next.0; text = next.1 }

pub returns : goal.returns
returns g c =
    let i = c.each.invariant in
    let f = g.S.LaneState.family c.args.state.now in
    let s = g.S.LaneState.lanes c.args.state.now in
    let rate = c.rate-rate.ensures.rate in
    let pos = pos_along c.rate-rate.result _ c.rate-rate.ensures.rate c.rate-rate.ensures.some in
    let whole : c.each.i ≡ length c.args.c.now / c.rate-rate.result = omega arith in
    let n = whole ∙ ap (λ (j : ℕ). length c.args.c.now / j) rate in
    let fits = whole_fits c.each.i (length c.args.c.now) (g.S.LaneState.family c.args.state.now).rate n in
    let rest = c.copy_from_slice.ensures.after ∙ rest_at c.args.c.now c.each.i _ _ _ (sym whole) rate in
    let at = ap (λ (j : ℕ). j * c.rate-rate.result) (sym whole) ∙ ap (λ (j : ℕ). c.each.i * j) rate in
    let end = decrypt_into_end f (g.S.LaneState.family c.each.state) s _ _ c.args.c.now c.each.m _ _ c.each.i _ _ pos i.same n fits (c.each.auto.m ∙ c.requires) i.lanes i.text
    rest c.decrypt_tail.ensures.text c.decrypt_tail.ensures.updated at (le_split _ _) in
    record { same = c.decrypt_tail.ensures.same ∙ i.same; rate = pos; text = end.0; updated = end.1 }
