use Rattle.std.proofs.Common.{◌∙◌, ap, refl, sym, List, ℕ, Some}
use Rattle.raf_io.specs.Memory.{memory_bytes, durable_bytes}
use Rattle.raf_run.specs.Disk.{Disk}
use Rattle.raf_run.proofs.DemoLemmas.{demo_shown}
use Rattle.raf_run.proofs.demo.run_demo.Goals as goal

pub returns-in-Ok-outcome : goal.returns-in-Ok-outcome
returns-in-Ok-outcome c =
    let m = c.new-memory.result in
    let end = c.run_with-outcome.result in
    let disk : Disk = record { bytes = Some (memory_bytes m); durable = Some (durable_bytes m); faults = m.faults; reach = m.reach; traffic = m.traffic; changes = m.changes; strays = m.strays } in
    let back : Disk = record { bytes = Some (memory_bytes end.io); durable = Some (durable_bytes end.io); faults = end.io.faults; reach = end.io.reach; traffic = end.io.traffic; changes = end.io.changes; strays = end.io.strays } in
    demo_shown c.args.writes _ _ c.as_slice.result.now disk (memory_bytes m) end.outcome back c.bytes.result.now c.in-Ok-outcome.replies c.report_of.result c.marker_variants.ensures.tables_aegis128l
    (c.as_slice.ensures ∙ c.in-Ok.ensures) refl c.run_with-outcome.ensures c.in-Ok-outcome.is (ap (λ (l : List ℕ). Some l) (sym c.bytes.ensures)) c.report_of.ensures
