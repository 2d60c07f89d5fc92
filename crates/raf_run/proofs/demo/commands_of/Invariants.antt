use Rattle.std.proofs.Common.{◌≡◌, ◌∷◌}
use Rattle.raf.specs.declared.command.Command.TheVariants.{Truncate}
use Rattle.raf_run.specs.Demo.{demo_writes}
use Rattle.raf_run.proofs.demo.commands_of.Given as goal

abbrev pub invariant-loop-number : goal.invariant-loop-number
invariant-loop-number l = l.commands ≡ Truncate 200000 ∷ demo_writes l.number
