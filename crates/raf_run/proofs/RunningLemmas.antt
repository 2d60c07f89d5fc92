-- A run of a script's commands, put together from its calls.
use Rattle.std.proofs.Common.{◌≡◌, ℕ, List, [], Option, Some, None, Result, ap, ◌∙◌, refl}
use Rattle.raf_format.specs.Version.{version_number}
use Rattle.raf_format.specs.declared.version.Version.{Version}
use Rattle.raf_io.specs.Source.{Takes}
use Rattle.raf_io.specs.Memory.{memory_bytes, durable_bytes, IsFresh}
use Rattle.raf_io.specs.declared.memory.MemIo.{MemIo}
use Rattle.raf_io.specs.declared.errors.Error.{Error}
use Rattle.raf.specs.Outside.{Outside}
use Rattle.raf.specs.Handle.{Handle}
use Rattle.raf.specs.Opening.{Settings, Made}
use Rattle.raf.specs.declared.command.Command.{Command}
use Rattle.raf.specs.declared.command.Reply.{Reply}
use Rattle.raf_script.specs.declared.script.Start.{Start}
use Rattle.raf_script.specs.declared.script.Start.TheVariants.{Storage, Create}
use Rattle.raf_run.specs.Disk.{Disk, memory_of, over, disk_in}
use Rattle.raf_run.specs.Ends.{Ground, BuilderOf, HasherOf, Served, ServedAnew, EndsOn, without_bytes}

-- the settings of a new file leave the source and the hasher
pub set_up : (G : Ground) (b m : Settings) (size : ℕ) (v : Version) → BuilderOf G b → m ≡ record (record b { chunk_size = size }) { version = version_number v }
    → BuilderOf G m × (m.chunk_size ≡ size) × (m.version ≡ version_number v)
set_up G b m size v h e = rw e (record { truncate = h.truncate; most = h.most; setting = h.setting; left = h.left; rng_faults = h.rng_faults; asked = h.asked; exact = h.exact }, refl, refl)

-- a source that tells goes on telling
pub told_before : (old left : Option (List ℕ)) (got : List ℕ) → Takes old got left → left ≡ None → old ≡ None
told_before None left got t none = refl
told_before (Some bytes) None got t none = absurd t
told_before (Some bytes) (Some rest) got t none = (cc)

pub silent_after : (old left : Option (List ℕ)) (got : List ℕ) → Takes old got left → old ≡ None → left ≡ None
silent_after None None got t none = refl
silent_after None (Some rest) got t none = absurd t
silent_after (Some bytes) left got t none = (cc)

-- a session over what the making of a file has left, by a ground that differs in what its random source has left
pub anew : (G : Ground) (m o : Settings) (commands : List Command) (disk : Disk) (outcome : Result (List Reply) Error) (back : Disk) (file : Handle) (parts : Outside)
    → m.outside.left ≡ G.random → Made G.cipher G.answers G.key m (over disk m.outside) file → parts ≡ file.outside → HasherOf G o
    → o.outside.left ≡ parts.left → o.outside.rng_faults ≡ parts.rng_faults → o.outside.asked ≡ parts.asked → o.outside.exact ≡ parts.exact
    → Served (record G { random = o.outside.left }) o commands (disk_in parts) outcome back → ServedAnew G m commands disk outcome back
anew G m o commands disk outcome back file parts random made same hasher left faults asked exact served = record {
  file = file;
  made = made;
  opener = o;
  hasher = hasher;
  left = left ∙ ap (λ (p : Outside). p.left) same;
  rng_faults = faults ∙ ap (λ (p : Outside). p.rng_faults) same;
  asked = asked ∙ ap (λ (p : Outside). p.asked) same;
  exact = exact ∙ ap (λ (p : Outside). p.exact) same;
  served = record {
    after = served.after;
    meets = rw (← same) served.meets;
    sure = record {
      hash = served.sure.hash;
      rng = λ none. served.sure.rng (left ∙ ap (λ (p : Outside). p.left) same ∙ silent_after m.outside.left file.outside.left file.header.id made.taken (random ∙ none));
    };
    handed = served.handed;
  };
}

-- a start whose bytes were taken asks for the same
pub same_start : (G : Ground) (start : Start) (commands : List Command) (disk : Disk) (outcome : Result (List Reply) Error) (back : Disk)
    → EndsOn G (without_bytes start) commands disk outcome back → EndsOn G start commands disk outcome back
same_start G (Storage bytes) commands disk outcome back h = h
same_start G (Create size version) commands disk outcome back h = h

-- new memory, as a disk
pub fresh_memory : (m : MemIo) (b : List ℕ) → memory_bytes m ≡ b → durable_bytes m ≡ [] → IsFresh m
    → record { bytes = Some (memory_bytes m); durable = Some (durable_bytes m); faults = m.faults; reach = m.reach; traffic = m.traffic; changes = m.changes; strays = m.strays } ≡ memory_of b
fresh_memory m b is none fresh = λ i. record {
  bytes = Some (is i);
  durable = Some (none i);
  faults = fresh.faults i;
  reach = fresh.reach i;
  traffic = fresh.traffic i;
  changes = fresh.changes i;
  strays = fresh.strays i;
}
