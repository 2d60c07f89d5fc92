use Rattle.aegis_core.specs.Lanes128.{part_128}
use Rattle.aegis_core.proofs.LaneLemmas.{one_sum, two_sum, four_sum}
use Rattle.aegis_core.proofs.lanes128.Lanes128.sum.Goals as goal

pub returns-in-One : goal.returns-in-One
returns-in-One g c = one_sum (part_128 c.args.part) c.args.self.now.count _ _ _ _ _ _ c.in-One.is c.from_bytes-zero.ensures c.add_part-sum0.ensures

pub returns-in-Two : goal.returns-in-Two
returns-in-Two g c = two_sum (part_128 c.args.part) c.args.self.now.count _ _ _ _ _ _ _ c.in-Two.is c.from_bytes-zero.ensures c.add_part-sum0.ensures c.add_part.ensures

pub returns-in-Four : goal.returns-in-Four
returns-in-Four g c = four_sum (part_128 c.args.part) c.args.self.now.count _ _ _ _ _ _ _ _ _ c.in-Four.is c.from_bytes-zero.ensures c.add_part-sum0.ensures c.add_part-sum1.ensures c.add_part-sum2.ensures c.add_part-in-Four.ensures
