-- A run of a log's commands, put together from its calls.
use Rattle.std.proofs.Common.{◌≡◌, List, Result, ap, ◌∙◌}
use Rattle.raf.specs.Outside.{Outside}
use Rattle.raf.specs.Handle.{Handle}
use Rattle.raf.specs.Opening.{Settings, Made}
use Rattle.raf_log.specs.declared.command.LogCommand.{LogCommand}
use Rattle.raf_log.specs.declared.command.LogReply.{LogReply}
use Rattle.raf_log.specs.declared.error.LogError.{LogError}
use Rattle.raf_script.specs.declared.script.Start.{Start}
use Rattle.raf_script.specs.declared.script.Start.TheVariants.{Storage, Create}
use Rattle.raf_run.specs.Disk.{Disk, over, disk_in}
use Rattle.raf_run.specs.Ends.{Ground, HasherOf, without_bytes}
use Rattle.raf_run.specs.Logs.{LogServed, LogServedAnew, EndsLoggedOn}
use Rattle.raf_run.proofs.RunningLemmas.{silent_after}

-- a session over what the making of a file has left, by a ground that differs in what its random source has left
pub log_anew : (G : Ground) (m o : Settings) (commands : List LogCommand) (disk : Disk) (outcome : Result (List LogReply) LogError) (back : Disk) (file : Handle) (parts : Outside)
    → m.outside.left ≡ G.random → Made G.cipher G.answers G.key m (over disk m.outside) file → parts ≡ file.outside → HasherOf G o
    → o.outside.left ≡ parts.left → o.outside.rng_faults ≡ parts.rng_faults → o.outside.asked ≡ parts.asked → o.outside.exact ≡ parts.exact
    → LogServed (record G { random = o.outside.left }) o commands (disk_in parts) outcome back → LogServedAnew G m commands disk outcome back
log_anew G m o commands disk outcome back file parts random made same hasher left faults asked exact served = record {
  file = file;
  made = made;
  opener = o;
  hasher = hasher;
  left = left ∙ ap (λ (p : Outside). p.left) same;
  rng_faults = faults ∙ ap (λ (p : Outside). p.rng_faults) same;
  asked = asked ∙ ap (λ (p : Outside). p.asked) same;
  exact = exact ∙ ap (λ (p : Outside). p.exact) same;
  served = record {
    after = served.after;
    meets = rw (← same) served.meets;
    sure = record {
      hash = served.sure.hash;
      rng = λ none. served.sure.rng (left ∙ ap (λ (p : Outside). p.left) same ∙ silent_after m.outside.left file.outside.left file.header.id made.taken (random ∙ none));
    };
    handed = served.handed;
  };
}

-- a start whose bytes were taken asks for the same
pub same_log_start : (G : Ground) (start : Start) (commands : List LogCommand) (disk : Disk) (outcome : Result (List LogReply) LogError) (back : Disk)
    → EndsLoggedOn G (without_bytes start) commands disk outcome back → EndsLoggedOn G start commands disk outcome back
same_log_start G (Storage bytes) commands disk outcome back h = h
same_log_start G (Create size version) commands disk outcome back h = h
