-- Each table has its rule.
use Rattle.std.proofs.Common.{◌≡◌, ap, ◌∙◌, arith}
use Rattle.softaes.specs.Tables.{inverse_word}
use Rattle.softaes.proofs.TableWords.{inverse_0, inverse_1, inverse_2, inverse_3}
use Rattle.softaes.proofs.laws.tables.inverse.Goals as goal

pub returns-then-table-eq0 : goal.returns-then-table-eq0
returns-then-table-eq0 c =
    let is : 0 ≡ c.args.table = omega (arith, c.if-table-eq0.true) in
    inverse_0 c.args.x c.ranges.x.fits ∙ ap (λ t. inverse_word t c.args.x) is

pub returns-then-table-eq1 : goal.returns-then-table-eq1
returns-then-table-eq1 c =
    let is : 1 ≡ c.args.table = omega (arith, c.if-table-eq1.true) in
    inverse_1 c.args.x c.ranges.x.fits ∙ ap (λ t. inverse_word t c.args.x) is

pub returns-then-table-eq2 : goal.returns-then-table-eq2
returns-then-table-eq2 c =
    let is : 2 ≡ c.args.table = omega (arith, c.if-table-eq2.true) in
    inverse_2 c.args.x c.ranges.x.fits ∙ ap (λ t. inverse_word t c.args.x) is

pub returns-else-table-eq2 : goal.returns-else-table-eq2
returns-else-table-eq2 c =
    let is : 3 ≡ c.args.table = omega (arith, c.requires, c.if-table-eq0.false, c.if-table-eq1.false, c.if-table-eq2.false) in
    inverse_3 c.args.x c.ranges.x.fits ∙ ap (λ t. inverse_word t c.args.x) is
