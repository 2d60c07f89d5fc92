use Rattle.std.proofs.Common.{◌≡◌, ◌+◌, ◌-◌, ◌≤◌, List, ℕ, true, if◌then◌else◌}
use Rattle.raf_log.specs.Log.{Spaced}
use Rattle.raf_log.specs.Walk.{Walked, Stands}
use Rattle.raf_log.proofs.walk.Walk.over.Given as goal

abbrev pub invariant-loop-self : goal.invariant-loop-self
invariant-loop-self l = record {
  begins : l.self.formed ≡ true → (l.at ≤ l.self.next) × (l.self.next ≤ l.size);
  spaced : Spaced 0 l.fn.self.starts.items l.fn.self.next → Spaced 0 l.self.starts.items l.self.next;
  walked : (x : List ℕ) → Stands x l.piece l.at l.size → Walked x l.fn.self.starts.items l.fn.self.next l.fn.self.formed → Walked x l.self.starts.items l.self.next l.self.formed;
}

abbrev pub decreases-loop-self : goal.decreases-loop-self
decreases-loop-self l = if l.self.formed then l.size + 1 - l.self.next else 0
