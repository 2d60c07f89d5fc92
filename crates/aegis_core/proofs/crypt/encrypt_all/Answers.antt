use Rattle.std.proofs.Common.{◌≡◌, ◌+◌, ◌*◌, ◌/◌, ◌≤◌, ℕ, List, length, refl, sym, ap, ◌∙◌, arith}
use Rattle.aegis_core.specs.Blocks.{first_blocks}
use Rattle.aegis_core.proofs.SealLemmas.{encrypting_none, encrypting_block}
use Rattle.aegis_core.proofs.LoopLemmas.{absorb_step, absorb_end, encrypt_step, encrypt_block, encrypt_end, rest_at, pos_along, block_fits, whole_fits, le_split, back_to}
use Rattle.aegis_core.proofs.crypt.encrypt_all.Goals as goal

pub each-init : goal.each-init
unfolding first_blocks
each-init g c = record {
  same = refl;
  lanes = refl;
  text = encrypting_none (g.S.LaneState.family c.args.state.now) (g.S.LaneState.lanes c.args.state.now) c.args.mc.now;
}

pub each-preserved : goal.each-preserved
each-preserved g c =
    let i = c.each.invariant in
    let k = g.S.LaneState.family c.args.state.now in
    let s = g.S.LaneState.lanes c.args.state.now in
    let rate = c.rate-rate.ensures.rate in
    let fits : c.each.i * c.rate-rate.result + c.rate-rate.result ≤ length c.args.mc.now = block_fits c.each.i (length c.args.mc.now) c.rate-rate.result c.each-test.true in
    let same = back_to (c.each.i * c.rate-rate.result) c.rate-rate.result in
    record {
      same = c.encrypt.ensures.same ∙ i.same;
      lanes = absorb_step k (g.S.LaneState.family c.each.state) s _ _ c.args.mc.now c.each.i c.rate-rate.result _ i.same rate same i.lanes
          (c.encrypt.ensures.updated ∙ ap (λ (v : List ℕ). (g.S.LaneState.family c.each.state).update (g.S.LaneState.lanes c.each.state) v)
          (encrypt_block k s c.args.mc.now c.each.mc c.each.i c.rate-rate.result _ rate (omega arith) i.text));
      text = encrypt_step k (g.S.LaneState.family c.each.state) s _ c.args.mc.now c.each.mc _ c.each.i c.rate-rate.result _ i.same rate same fits i.lanes i.text c.encrypt.ensures.text;
    }

pub returns : goal.returns
returns g c =
    let i = c.each.invariant in
    let k = g.S.LaneState.family c.args.state.now in
    let s = g.S.LaneState.lanes c.args.state.now in
    let m = c.args.mc.now in
    let rate = c.rate-rate.ensures.rate in
    let pos = pos_along c.rate-rate.result _ c.rate-rate.ensures.rate c.rate-rate.ensures.some in
    let whole : c.each.i ≡ length c.args.mc.now / c.rate-rate.result = omega arith in
    let n = whole ∙ ap (λ (j : ℕ). length c.args.mc.now / j) rate in
    let fits = whole_fits c.each.i (length c.args.mc.now) (g.S.LaneState.family c.args.state.now).rate n in
    let rest = rest_at c.each.mc c.each.i _ _ _ (sym whole) rate in
    let at = ap (λ (j : ℕ). j * c.rate-rate.result) (sym whole) ∙ ap (λ (j : ℕ). c.each.i * j) rate in
    record {
      same = c.encrypt_tail.ensures.same ∙ i.same;
      text = encrypt_end k (g.S.LaneState.family c.each.state) s _ m c.each.mc _ _ c.each.i _ _ pos i.same n fits i.lanes i.text rest c.encrypt_tail.ensures.text at (le_split _ _);
      updated = absorb_end k (g.S.LaneState.family c.each.state) s _ _ m _ c.each.i pos i.same n i.lanes (rest ∙ encrypting_block k s m c.each.mc c.each.i fits i.text) c.encrypt_tail.ensures.updated;
    }
