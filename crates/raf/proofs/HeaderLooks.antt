-- A look at a storage's header, from its two calls.
use Rattle.std.proofs.Common.{◌≡◌, ℕ, ◌≤◌, List, length, Option, Some, Ok, Err, ◌∙◌, subst, arith}
use Rattle.raf_io.specs.Storage.{Strays}
use Rattle.raf_io.specs.Kinds.{kind_of}
use Rattle.raf_format.specs.declared.algorithm_id.RafInfo.{RafInfo}
use Rattle.raf.specs.Outside.{Outside, Kept, Quiet, Moved}
use Rattle.raf.specs.Opening.{RefusalFault}
use Rattle.raf.specs.Probe.{Probed, TellsOf, WhyNotProbed, IsProbeKind}
use Rattle.raf_io.specs.declared.errors.Error.{Error}
use Rattle.raf.proofs.Moves.{quiet_then, kept_then, moved_then, moved_less}

module _ (old mid new : Outside) (quiet : Quiet old mid) (kept : Kept old mid) (moved : Moved old mid 0 0 0 0 0) (strays : mid.strays ≡ old.strays)
    (quiet' : Quiet mid new) (kept' : Kept mid new) (moved' : Moved mid new 96 96 0 0 0) (strays' : Strays mid.bytes 0 96 mid.strays new.strays)
    (long : (b : List ℕ) → old.bytes ≡ Some b → 96 ≤ length b) where
  no_stray : (b : List ℕ) → old.bytes ≡ Some b → new.strays ≡ old.strays
  no_stray b tells = (subst (λ (o : Option (List ℕ)). Strays o 0 96 mid.strays new.strays) (kept.bytes ∙ tells) strays').0 (omega (arith, long b tells)) ∙ strays

  all_moved : Moved old new 96 96 0 0 0
  all_moved = moved_less old new 96 96 0 0 0 96 96 0 0 0 (moved_then old mid new 0 0 0 0 0 96 96 0 0 0 moved moved') (omega arith) (omega arith) (omega arith) (omega arith) (omega arith)

  pub probed_told : (info : RafInfo) → ((b : List ℕ) → old.bytes ≡ Some b → TellsOf b info) → Probed old new (Ok info)
  probed_told info told = record {
    told = told;
    why = λ b tells. tt;
    kinds = tt;
    fault = tt;
    quiet = quiet_then old mid new quiet quiet';
    kept = kept_then old mid new kept kept';
    moved = all_moved;
    strays = no_stray;
  }

  pub probed_refused : (e : Error) → ((b : List ℕ) → old.bytes ≡ Some b → WhyNotProbed b (kind_of e)) → IsProbeKind (kind_of e)
      → (Quiet old new → RefusalFault (kind_of e) old new) → Probed old new (Err e)
  probed_refused e why kinds fault = record {
    told = λ b tells. tt;
    why = why;
    kinds = kinds;
    fault = fault (quiet_then old mid new quiet quiet');
    quiet = tt;
    kept = kept_then old mid new kept kept';
    moved = all_moved;
    strays = no_stray;
  }
