use Rattle.std.proofs.Common.{◌≡◌, ◌*◌, length, ap, ◌∙◌, arith}
use Rattle.aegis_core.specs.Held.{lane_count}
use Rattle.aegis_core.proofs.RowLemmas.{sixteen, one_read, two_read, four_read}
use Rattle.aegis_core.proofs.row.Row.read.Goals as goal

pub returns-in-One-clause-blocks : goal.returns-in-One-clause-blocks
returns-in-One-clause-blocks g c = one_read c.args.count c.args.bytes.now _ _ _ _ c.in-One.is c.requires c.block_from-b0.ensures

pub returns-in-Two-clause-blocks : goal.returns-in-Two-clause-blocks
returns-in-Two-clause-blocks g c = two_read c.args.count c.args.bytes.now _ _ _ _ c.in-Two.is c.requires c.block_from-b0.ensures c.block_from-b1.ensures

pub returns-in-Four-clause-blocks : goal.returns-in-Four-clause-blocks
returns-in-Four-clause-blocks g c =
    four_read c.args.count c.args.bytes.now _ _ _ _ c.in-Four.is c.requires c.block_from-b0.ensures c.block_from-b1-in-Four.ensures c.block_from-b2.ensures
    c.block_from-b3.ensures

pub returns-in-Two-clause-whole : goal.returns-in-Two-clause-whole
returns-in-Two-clause-whole g c =
    let l : length c.args.bytes.now ≡ 32 = c.requires ∙ ap (λ k. 16 * lane_count k) c.in-Two.is in
    let b0 = sixteen c.args.bytes.now _ 0 (omega arith) c.block_from-b0.ensures in
    record { b0 = b0; b1 = sixteen c.args.bytes.now _ 16 (omega arith) c.block_from-b1.ensures; b2 = b0; b3 = b0 }

pub returns-in-Four-clause-whole : goal.returns-in-Four-clause-whole
returns-in-Four-clause-whole g c =
    let l : length c.args.bytes.now ≡ 64 = c.requires ∙ ap (λ k. 16 * lane_count k) c.in-Four.is in
    record {
      b0 = sixteen c.args.bytes.now _ 0 (omega arith) c.block_from-b0.ensures;
      b1 = sixteen c.args.bytes.now _ 16 (omega arith) c.block_from-b1-in-Four.ensures;
      b2 = sixteen c.args.bytes.now _ 32 (omega arith) c.block_from-b2.ensures;
      b3 = sixteen c.args.bytes.now _ 48 (omega arith) c.block_from-b3.ensures;
    }
