use Rattle.std.proofs.Common.{◌≡◌, ◌+◌, ◌-◌, ◌<◌, ◌≤◌, min, take, true, vec_len}
use Rattle.raf_format.specs.Cipher.{cipher_of}
use Rattle.raf_log.specs.Log.{Spaced}
use Rattle.raf_log.specs.Sweep.{Shows}
use Rattle.raf_log.proofs.Sweeps.{Swept}
use Rattle.raf_log.proofs.opening.find_entries.Given as goal

abbrev pub invariant-loop-end : goal.invariant-loop-end
invariant-loop-end g l = record {
  swept : Swept (cipher_of g.A.Algorithm.variant) l.fn.raf l.raf l.end l.size l.walk.starts.items l.walk.next l.walk.formed;
  shows : Shows (cipher_of g.A.Algorithm.variant) l.fn.raf (l.end - l.held) (take l.held l.window.items);
  small : (l.held < 4) × (l.held ≤ l.end);
  within : l.end ≤ l.size;
  begins : l.walk.formed ≡ true → l.end - l.held ≤ l.walk.next;
  near : l.walk.formed ≡ true → (l.end < l.walk.next + 4) × (l.walk.next ≤ l.size);
  spaced : Spaced 0 l.walk.starts.items l.walk.next;
  line : vec_len l.line ≡ 65540;
  window : vec_len l.window ≡ min l.size 1048576 + 4;
}

abbrev pub decreases-loop-end : goal.decreases-loop-end
decreases-loop-end g l = l.size - l.end
