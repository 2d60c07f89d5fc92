use Rattle.std.proofs.Common.{◌≡◌, ◌+◌, ◌*◌, ◌/◌, ◌≤◌, ℕ, length, refl, sym, ap, ◌∙◌, arith}
use Rattle.aegis_core.specs.Blocks.{first_blocks}
use Rattle.aegis_core.proofs.LoopLemmas.{absorb_step, absorb_end, encrypt_into_step, encrypt_into_end, decrypting_none, rest_at, pos_along, block_fits, le_split, back_to}
use Rattle.aegis_core.proofs.crypt_into.encrypt_all_into.Goals as goal

pub each-init : goal.each-init
unfolding first_blocks
each-init g c = record {
  same = refl;
  lanes = refl;
  text = decrypting_none (g.S.LaneState.family c.args.state.now) (g.S.LaneState.lanes c.args.state.now) c.args.c.now c.args.m.now;
}

pub each-preserved : goal.each-preserved
each-preserved g c =
    let i = c.each.invariant in
    let f = g.S.LaneState.family c.args.state.now in
    let s = g.S.LaneState.lanes c.args.state.now in
    let rate = c.rate-rate.ensures.rate in
    let fits : c.each.i * c.rate-rate.result + c.rate-rate.result ≤ length c.args.m.now = block_fits c.each.i (length c.args.m.now) c.rate-rate.result c.each-test.true in
    let same = back_to (c.each.i * c.rate-rate.result) c.rate-rate.result in
    record {
      same = c.encrypt_into.ensures.same ∙ i.same;
      lanes = absorb_step f (g.S.LaneState.family c.each.state) s _ _ c.args.m.now c.each.i c.rate-rate.result _ i.same rate same i.lanes c.encrypt_into.ensures.updated;
      text = encrypt_into_step f (g.S.LaneState.family c.each.state) s _ c.args.m.now c.each.c _ c.each.i c.rate-rate.result _ i.same rate same fits (c.each.auto.c ∙ c.requires) i.lanes i.text c.encrypt_into.ensures.text;
    }

pub returns : goal.returns
returns g c =
    let i = c.each.invariant in
    let f = g.S.LaneState.family c.args.state.now in
    let s = g.S.LaneState.lanes c.args.state.now in
    let m = c.args.m.now in
    let rate = c.rate-rate.ensures.rate in
    let pos = pos_along c.rate-rate.result _ c.rate-rate.ensures.rate c.rate-rate.ensures.some in
    let whole : c.each.i ≡ length m / c.rate-rate.result = omega arith in
    let n = whole ∙ ap (λ (j : ℕ). length m / j) rate in
    let rest = c.copy_from_slice.ensures.after ∙ rest_at m c.each.i _ _ _ (sym whole) rate in
    let at = ap (λ (j : ℕ). j * c.rate-rate.result) (sym whole) ∙ ap (λ (j : ℕ). c.each.i * j) rate in
    record {
      same = c.encrypt_tail.ensures.same ∙ i.same;
      text = encrypt_into_end f (g.S.LaneState.family c.each.state) s _ m c.each.c _ _ c.each.i _ _ pos i.same n i.lanes i.text rest c.encrypt_tail.ensures.text at (le_split _ _);
      updated = absorb_end f (g.S.LaneState.family c.each.state) s _ _ m _ c.each.i pos i.same n i.lanes rest c.encrypt_tail.ensures.updated;
    }
