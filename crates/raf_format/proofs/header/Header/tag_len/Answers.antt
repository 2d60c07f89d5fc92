use Rattle.std.proofs.Common.{sym, ◌∙◌, ap}
use Rattle.raf_format.specs.Version.{tag_len_of}
use Rattle.raf_format.proofs.Versions.{tag_of_two, tag_of_other}
use Rattle.raf_format.proofs.header.Header.tag_len.Goals as goal

pub returns-then-self-eq2-clause-is : goal.returns-then-self-eq2-clause-is
returns-then-self-eq2-clause-is c = tag_of_two ∙ ap tag_len_of (sym c.if-self-eq2.true)

pub returns-else-self-eq2-clause-is : goal.returns-else-self-eq2-clause-is
returns-else-self-eq2-clause-is c = tag_of_other c.args.self.now.version c.if-self-eq2.false
