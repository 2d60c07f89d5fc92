use Rattle.std.proofs.Common.{arith}
use Rattle.std.specs.Prelude.{nat_eq}
use Rattle.std.proofs.lemmas.List.Splits.{length-slice_split}
use Rattle.raf_script.specs.Words.{words}
use Rattle.raf_script.proofs.words.words_of.Goals as goal

pub returns-in-Some-cut_at-2 : goal.returns-in-Some-cut_at-2
unfolding words
returns-in-Some-cut_at-2 c =
    rw (c.in-Some.ensures.parts, c.in-Some-cut_at.ensures.parts, c.in-Some-cut_at-2.ensures.parts) (omega (arith, length-slice_split (λ b. nat_eq b 32) c.in-Some-cut_at-2.field-0.1.now))
