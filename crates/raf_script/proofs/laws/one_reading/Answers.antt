use Rattle.raf_script.proofs.LawLemmas.{one_script, one_wrong_script, one_conversion, one_wrong_conversion, one_log, one_wrong_log}
use Rattle.raf_script.proofs.laws.one_reading.Goals as goal

pub returns-clause-scripts : goal.returns-clause-scripts
returns-clause-scripts c = one_script

pub returns-clause-wrong_scripts : goal.returns-clause-wrong_scripts
returns-clause-wrong_scripts c = one_wrong_script

pub returns-clause-conversions : goal.returns-clause-conversions
returns-clause-conversions c = one_conversion

pub returns-clause-wrong_conversions : goal.returns-clause-wrong_conversions
returns-clause-wrong_conversions c = one_wrong_conversion

pub returns-clause-logs : goal.returns-clause-logs
returns-clause-logs c = one_log

pub returns-clause-wrong_logs : goal.returns-clause-wrong_logs
returns-clause-wrong_logs c = one_wrong_log
