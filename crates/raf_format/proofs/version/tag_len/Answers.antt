use Rattle.std.proofs.Common.{sym, ◌∙◌, ap}
use Rattle.raf_format.specs.Version.{version_number, tag_len_of}
use Rattle.raf_format.specs.declared.version.Version.{Version}
use Rattle.raf_format.proofs.Versions.{tag_of_one, tag_of_two}
use Rattle.raf_format.proofs.version.tag_len.Goals as goal

pub returns-in-V1-clause-is : goal.returns-in-V1-clause-is
returns-in-V1-clause-is c = tag_of_one ∙ ap (λ (v : Version). tag_len_of (version_number v)) (sym c.in-V1.is)

pub returns-in-V2-clause-is : goal.returns-in-V2-clause-is
returns-in-V2-clause-is c = tag_of_two ∙ ap (λ (v : Version). tag_len_of (version_number v)) (sym c.in-V2.is)
