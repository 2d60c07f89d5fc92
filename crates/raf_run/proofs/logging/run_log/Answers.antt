use Rattle.std.proofs.Common.{◌∙◌, ap, subst, sym, List, ℕ, Some}
use Rattle.raf_io.specs.Memory.{memory_bytes, durable_bytes}
use Rattle.raf_script.specs.declared.script.Start.{Start}
use Rattle.raf_run.specs.Disk.{Disk}
use Rattle.raf_run.specs.Ends.{first_bytes}
use Rattle.raf_run.specs.Logs.{EndsLoggedOn, log_ground}
use Rattle.raf_run.proofs.RunningLemmas.{fresh_memory}
use Rattle.raf_run.proofs.LoggingLemmas.{same_log_start}
use Rattle.raf_run.proofs.logging.run_log.Goals as goal

pub returns : goal.returns
returns c =
    let s = c.args.script in
    let m = c.take_memory-io.result in
    let end = c.run_over-outcome.result in
    let disk : Disk = record { bytes = Some (memory_bytes m); durable = Some (durable_bytes m); faults = m.faults; reach = m.reach; traffic = m.traffic; changes = m.changes; strays = m.strays } in
    let back : Disk = record { bytes = Some (memory_bytes end.io); durable = Some (durable_bytes end.io); faults = end.io.faults; reach = end.io.reach; traffic = end.io.traffic; changes = end.io.changes; strays = end.io.strays } in
    let run : EndsLoggedOn (log_ground s) c.take_memory-io.new.start s.commands disk end.outcome back = c.run_over-outcome.ensures in
    let taken = subst (λ (x : Start). EndsLoggedOn (log_ground s) x s.commands disk end.outcome back) c.take_memory-io.ensures.start run in
    let given = same_log_start (log_ground s) s.start s.commands disk end.outcome back taken in
    let fresh = fresh_memory m (first_bytes s.start) c.take_memory-io.ensures.bytes c.take_memory-io.ensures.durable c.take_memory-io.ensures.fresh in (
      back,
      subst (λ (d : Disk). EndsLoggedOn (log_ground s) s.start s.commands d end.outcome back) fresh given,
      ap (λ (l : List ℕ). Some l) (sym (c.from_vec.ensures ∙ c.into_bytes.ensures)),
    )
