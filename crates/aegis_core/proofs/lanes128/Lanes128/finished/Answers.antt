use Rattle.aegis_core.specs.Lanes128.{final_lane_128}
use Rattle.aegis_core.proofs.LaneLemmas.{one_map, two_map, four_map}
use Rattle.aegis_core.proofs.lanes128.Lanes128.finished.Goals as goal

pub returns-in-One : goal.returns-in-One
returns-in-One g c =
    let n = c.length_block-numbers.ensures in
    one_map (final_lane_128 c.args.first c.args.second) c.args.self.now.count _ _ _ _ _ _ _ _ c.in-One.is (c.finished-done.ensures c.args.first c.args.second n)

pub returns-in-Two : goal.returns-in-Two
returns-in-Two g c =
    let n = c.length_block-numbers.ensures in
    two_map (final_lane_128 c.args.first c.args.second) c.args.self.now.count _ _ _ _ _ _ _ _ c.in-Two.is (c.finished-done.ensures c.args.first c.args.second n)
    (c.finished-done-in-Two.ensures c.args.first c.args.second n)

pub returns-in-Four : goal.returns-in-Four
returns-in-Four g c =
    let n = c.length_block-numbers.ensures in
    four_map (final_lane_128 c.args.first c.args.second) c.args.self.now.count _ _ _ _ _ _ _ _ c.in-Four.is (c.finished-done.ensures c.args.first c.args.second n)
    (c.finished-done-in-Four.ensures c.args.first c.args.second n) (c.finished-done-in-Four-2.ensures c.args.first c.args.second n) (c.finished-done-in-Four-3.ensures c.args.first c.args.second n)
