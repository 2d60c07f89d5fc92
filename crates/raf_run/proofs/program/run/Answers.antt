use Rattle.raf_run.proofs.OneText.{one_end, one_text}
use Rattle.raf_run.proofs.Completeness.{completes, completes_in_memory}
use Rattle.raf_run.proofs.ShortRandom.{runs_short}
use Rattle.raf_run.proofs.Verdicts.{converts, one_verdict}
use Rattle.raf_run.proofs.OneConversion.{one_conversion}
use Rattle.raf_run.proofs.program.run.Goals as goal

pub returns-clause-one_end : goal.returns-clause-one_end
returns-clause-one_end g c = one_end

pub returns-clause-one_text : goal.returns-clause-one_text
returns-clause-one_text g c = one_text

pub returns-clause-completes : goal.returns-clause-completes
returns-clause-completes g c = completes

pub returns-clause-completes_in_memory : goal.returns-clause-completes_in_memory
returns-clause-completes_in_memory g c = completes_in_memory

pub returns-clause-runs_short : goal.returns-clause-runs_short
returns-clause-runs_short g c = runs_short

pub returns-clause-converts : goal.returns-clause-converts
returns-clause-converts g c = converts

pub returns-clause-one_verdict : goal.returns-clause-one_verdict
returns-clause-one_verdict g c = one_verdict

pub returns-clause-one_conversion : goal.returns-clause-one_conversion
returns-clause-one_conversion g c = one_conversion
