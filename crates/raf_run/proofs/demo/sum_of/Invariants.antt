use Rattle.std.proofs.Common.{◌≡◌, ◌+◌, ◌*◌, ◌≤◌, drop}
use Rattle.std.specs.List.{sum}
use Rattle.raf_run.proofs.demo.sum_of.Given as goal

abbrev pub invariant-loop-byte : goal.invariant-loop-byte
invariant-loop-byte l = record {
  most : l.total ≤ 255 * l.byte-index;
  so_far : l.total + sum (drop l.byte-index l.bytes) ≡ sum l.bytes;
}
