use Rattle.std.proofs.Common.{ℕ, sym, ◌∙◌, ap, arith}
use Rattle.std.specs.Int.{div_ceil}
use Rattle.std.proofs.lemmas.Bool.{false≢true}
use Rattle.raf_format.proofs.Layouts.{count_is, total_is}
use Rattle.raf_format.proofs.layout.layout_len.Goals as goal

pub returns-else-len-from-clause-fits : goal.returns-else-len-from-clause-fits
returns-else-len-from-clause-fits c =
    total_is c.args.nonce_len c.args.tag_len c.args.chunk_size c.args.size c.from-3.result c.from-2.result c.from-2.ensures
    (c.from-3.ensures ∙ c.div_ceil-count.ensures ∙ ap (λ (k : ℕ). div_ceil c.args.size k) c.from.ensures ∙ count_is c.args.chunk_size c.args.size (omega (arith, c.requires.least)))

pub returns-else-len-from-clause-none : goal.returns-else-len-from-clause-none
returns-else-len-from-clause-none c = (
  λ some. absurd (false≢true (sym some)),
  λ past. absurd (omega (arith, past, returns-else-len-from-clause-fits c, c.if-len-from.false, c.from-4.ensures)),
)
