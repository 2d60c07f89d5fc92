use Rattle.std.proofs.Common.{◌≡◌, [], length, refl, ap, ◌∙◌, arith}
use Rattle.aegis_core.specs.Lanes.{State}
use Rattle.aegis_core.specs.Lanes256.{tag_of_256}
use Rattle.aegis_core.specs.Held.{lanes_of_256}
use Rattle.aegis_core.proofs.LaneLemmas256.{tag_32, tag_16}
use Rattle.aegis_core.proofs.lanes256.Lanes256LaneState.finalise.Goals as goal

pub returns-then-tag-eq32 : goal.returns-then-tag-eq32
returns-then-tag-eq32 g c =
    let t = length c.args.tag.now in
    let len : length c.put_block-then-tag-eq32.new.out ≡ length c.args.tag.now = omega (arith, c.put_block.auto.out, c.put_block-then-tag-eq32.auto.out) in
    tag_32 t (lanes_of_256 g.B.RoundBlock.bytes c.finished-done.result) c.put_block-then-tag-eq32.new.out _ _ c.if-tag-eq32.true len
    (c.put_block-then-tag-eq32.ensures.front _ (c.put_block.ensures.front [] refl)) c.sum.ensures c.sum-then-tag-eq32.ensures
    ∙ ap (λ (v : State). tag_of_256 t v) c.finished-done.ensures

pub returns-else-tag-eq32 : goal.returns-else-tag-eq32
returns-else-tag-eq32 g c =
    let t = length c.args.tag.now in
    let len : length c.put_block-else-tag-eq32.new.out ≡ length c.args.tag.now = omega (arith, c.put_block-else-tag-eq32.auto.out) in
    tag_16 t (lanes_of_256 g.B.RoundBlock.bytes c.finished-done.result) c.put_block-else-tag-eq32.new.out _ c.requires c.if-tag-eq32.false len
    (c.put_block-else-tag-eq32.ensures.front [] refl) c.sum-else-tag-eq32.ensures
    ∙ ap (λ (v : State). tag_of_256 t v) c.finished-done.ensures
