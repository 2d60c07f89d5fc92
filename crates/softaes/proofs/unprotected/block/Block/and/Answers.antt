-- The and of words is that of their bytes.
use Rattle.std.proofs.Common.{◌∙◌}
use Rattle.aes_spec.specs.Bytes.{and_bytes}
use Rattle.softaes.proofs.ColumnWords.{columns_of-and}
use Rattle.softaes.proofs.unprotected.block.Block.and.Goals as goal

pub returns : goal.returns
returns c =
    let a = c.self.inside in
    let b = c.other.inside in
    columns_of-and a.c0 a.c1 a.c2 a.c3 b.c0 b.c1 b.c2 b.c3
    ∙ (λ i. and_bytes (c.self.view_is i) (c.other.view_is i))
