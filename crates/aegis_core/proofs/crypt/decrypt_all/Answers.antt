use Rattle.std.proofs.Common.{◌≡◌, ◌+◌, ◌*◌, ◌/◌, ◌≤◌, ℕ, length, refl, sym, ap, ◌∙◌, arith}
use Rattle.aegis_core.specs.Blocks.{first_blocks}
use Rattle.aegis_core.proofs.LoopLemmas.{decrypt_step, decrypt_end, decrypting_none, rest_at, pos_along, block_fits, whole_fits, le_split, back_to}
use Rattle.aegis_core.proofs.crypt.decrypt_all.Goals as goal

pub each-init : goal.each-init
unfolding first_blocks
each-init g c = record {
  same = refl;
  lanes = refl;
  text = decrypting_none (g.S.LaneState.family c.args.state.now) (g.S.LaneState.lanes c.args.state.now) c.args.mc.now c.args.mc.now;
  rest = refl;
}

pub each-preserved : goal.each-preserved
each-preserved g c =
    let i = c.each.invariant in
    let k = g.S.LaneState.family c.args.state.now in
    let s = g.S.LaneState.lanes c.args.state.now in
    let old : c.each.i * c.rate-rate.result + c.rate-rate.result ≤ length c.args.mc.now = block_fits c.each.i (length c.args.mc.now) c.rate-rate.result c.each-test.true in
    let fits : c.each.i * c.rate-rate.result + c.rate-rate.result ≤ length c.each.mc = omega (arith, c.each.auto.mc) in
    let next = decrypt_step k (g.S.LaneState.family c.each.state) s _ _ c.args.mc.now c.each.mc _ c.each.i c.rate-rate.result _ i.same c.rate-rate.ensures.rate
    (back_to (c.each.i * c.rate-rate.result) c.rate-rate.result) fits i.lanes i.text i.rest c.decrypt.ensures.text c.decrypt.ensures.updated in
    record { same = c.decrypt.ensures.same ∙ i.same; lanes = next.0; text = next.1; rest = next.2 }

pub returns : goal.returns
returns g c =
    let i = c.each.invariant in
    let k = g.S.LaneState.family c.args.state.now in
    let s = g.S.LaneState.lanes c.args.state.now in
    let rate = c.rate-rate.ensures.rate in
    let whole : c.each.i ≡ length c.args.mc.now / c.rate-rate.result = omega arith in
    let n = whole ∙ ap (λ (j : ℕ). length c.args.mc.now / j) rate ∙ ap (λ (j : ℕ). j / (g.S.LaneState.family c.args.state.now).rate) (sym c.each.auto.mc) in
    let fits = whole_fits c.each.i (length c.each.mc) (g.S.LaneState.family c.args.state.now).rate n in
    let rest = rest_at c.each.mc c.each.i _ _ _ (sym whole) rate in
    let at = ap (λ (j : ℕ). j * c.rate-rate.result) (sym whole) ∙ ap (λ (j : ℕ). c.each.i * j) rate in
    let end = decrypt_end k (g.S.LaneState.family c.each.state) s _ _ c.args.mc.now c.each.mc _ _ c.each.i _ _ (pos_along c.rate-rate.result _ c.rate-rate.ensures.rate c.rate-rate.ensures.some) i.same n fits i.lanes i.text i.rest
    rest c.decrypt_tail.ensures.text c.decrypt_tail.ensures.updated at (le_split _ _) in
    record { same = c.decrypt_tail.ensures.same ∙ i.same; rate = pos_along c.rate-rate.result _ c.rate-rate.ensures.rate c.rate-rate.ensures.some; text = end.0; updated = end.1 }
