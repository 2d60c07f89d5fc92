use Rattle.std.proofs.Common.{sym, ◌∙◌, arith}
use Rattle.raf_script.specs.Words.{IsPlain}
use Rattle.raf_script.proofs.NumberLemmas.{none_from_front, none_from_utf8, parsed}
use Rattle.raf_script.proofs.values.small_of.Goals as goal

pub returns-then-not-is_plain : goal.returns-then-not-is_plain
returns-then-not-is_plain c = sym (none_from_front 32 c.args.word.now (omega arith) (λ plain. let t = c.is_plain.ensures.1 plain in grind arith))

pub returns-in-Err : goal.returns-in-Err
returns-in-Err c = sym (none_from_utf8 32 c.args.word.now (omega arith) c.in-Err.ensures.cases.0)

pub returns-in-Ok : goal.returns-in-Ok
returns-in-Ok c =
    let plain : IsPlain c.args.word.now = grind arith in
    c.ok.ensures.value ∙ parsed 32 c.args.word.now c.parse.result (omega arith) plain (rw c.in-Ok.ensures.cases.0 at c.parse.ensures.value.0)
