use Rattle.std.proofs.Common.{◌≡◌, ◌+◌, ◌*◌, ◌/◌, ◌≤◌, ℕ, List, length, drop, refl, sym, ap, ◌∙◌, arith, length-drop}
use Rattle.std.proofs.lemmas.List.{length-take-le}
use Rattle.aes_spec.specs.Bytes.{xor_bytes}
use Rattle.aegis_core.specs.Blocks.{first_blocks}
use Rattle.aegis_core.proofs.LoopLemmas.{half_way, half_way_back, decrypt_into_step, decrypt_into_end, decrypting_none, rest_at, pos_along, block_fits, whole_fits, le_split, back_to}
use Rattle.aegis_core.proofs.SwapLemmas.{swap_none, swap_block, swap_step, swap_rest, swap_end}
use Rattle.aegis_core.proofs.crypt_into.decrypt_all_swapping.Goals as goal

pub each-init : goal.each-init
unfolding first_blocks
each-init g c =
    let f = g.S.LaneState.family c.args.state.now in
    record {
      same = refl;
      lanes = refl;
      text = decrypting_none f (g.S.LaneState.lanes c.args.state.now) c.args.c.now (half_way c.args.c.now c.args.m.now (0 * f.rate));
      swapped = swap_none c.args.c.now c.args.m.now f.rate;
      rest = refl;
    }

pub each-preserved : goal.each-preserved
each-preserved g c =
    let i = c.each.invariant in
    let f = g.S.LaneState.family c.args.state.now in
    let s = g.S.LaneState.lanes c.args.state.now in
    let rate = c.rate-rate.ensures.rate in
    let fits : c.each.i * c.rate-rate.result + c.rate-rate.result ≤ length c.args.c.now = block_fits c.each.i (length c.args.c.now) c.rate-rate.result c.each-test.true in
    let lm : length c.each.m ≡ length c.args.c.now = c.each.auto.m ∙ c.requires in
    let back = back_to (c.each.i * c.rate-rate.result) c.rate-rate.result in
    let read = swap_block c.args.c.now c.args.m.now c.each.c c.each.i c.rate-rate.result _ f.rate rate (omega (arith, c.requires, fits)) i.swapped in
    let text = c.decrypt_swapping.ensures.text ∙ ap (λ (v : List ℕ). xor_bytes v ((g.S.LaneState.family c.each.state).keystream (g.S.LaneState.lanes c.each.state))) read in
    let long = c.decrypt_swapping.auto.to ∙ length-take-le _ (drop (c.each.i * c.rate-rate.result) c.each.m)
    (omega (arith, lm, fits, length-drop (c.each.i * c.rate-rate.result) c.each.m)) in
    let next = decrypt_into_step f (g.S.LaneState.family c.each.state) s _ _ c.args.c.now c.each.m _ c.each.i c.rate-rate.result _ i.same rate
    back fits lm i.lanes i.text text c.decrypt_swapping.ensures.updated in
    record {
      same = c.decrypt_swapping.ensures.same ∙ i.same;
      lanes = next.0;
      text = next.1;
      swapped = swap_step c.args.c.now c.args.m.now c.each.c c.each.m _ c.each.i c.rate-rate.result _ f.rate rate back fits c.requires i.swapped i.rest c.decrypt_swapping.ensures.swapped;
      rest = swap_rest c.args.m.now c.each.m _ c.each.i c.rate-rate.result _ f.rate rate back (omega (arith, lm, fits)) long i.rest;
    }

pub returns : goal.returns
returns g c =
    let i = c.each.invariant in
    let f = g.S.LaneState.family c.args.state.now in
    let s = g.S.LaneState.lanes c.args.state.now in
    let rate = c.rate-rate.ensures.rate in
    let pos = pos_along c.rate-rate.result _ rate c.rate-rate.ensures.some in
    let whole : c.each.i ≡ length c.args.c.now / c.rate-rate.result = omega arith in
    let n = whole ∙ ap (λ (j : ℕ). length c.args.c.now / j) rate in
    let fits = whole_fits c.each.i (length c.args.c.now) f.rate n in
    let fits_to : c.each.i * f.rate ≤ length c.args.m.now = omega (arith, fits, c.requires) in
    let old = c.swap_with_slice.ensures.other_after ∙ rest_at c.each.c c.each.i _ _ _ (sym whole) rate
    ∙ ap (λ (v : List ℕ). drop (c.each.i * f.rate) v) i.swapped ∙ half_way_back c.args.c.now c.args.m.now (c.each.i * f.rate) fits_to in
    let other = c.swap_with_slice.ensures.after ∙ rest_at c.each.m c.each.i _ _ _ (sym whole) rate in
    let at = ap (λ (j : ℕ). j * c.rate-rate.result) (sym whole) ∙ ap (λ (j : ℕ). c.each.i * j) rate in
    let end = decrypt_into_end f (g.S.LaneState.family c.each.state) s _ _ c.args.c.now c.each.m _ _ c.each.i _ _ pos i.same n fits (c.each.auto.m ∙ c.requires) i.lanes i.text
    old c.decrypt_tail.ensures.text c.decrypt_tail.ensures.updated at (le_split _ _) in
    record {
      same = c.decrypt_tail.ensures.same ∙ i.same;
      rate = pos;
      text = end.0;
      updated = end.1;
      swapped = swap_end c.args.c.now c.args.m.now c.each.c c.each.m _ _ _ (c.each.i * f.rate) at fits_to c.requires (le_split _ _) i.swapped i.rest other;
    }
