use Rattle.std.proofs.Common.{◌≡◌, ◌+◌, ◌<◌, ◌^◌, drop}
use Rattle.raf.specs.Session.{room_total}
use Rattle.raf.proofs.serving.replies_fit.Given as goal

abbrev pub invariant-loop-command : goal.invariant-loop-command
invariant-loop-command l = record {
  fits : l.total < 2 ^ 64;
  so_far : l.total + room_total l.hash_len (drop l.command-index l.commands) ≡ room_total l.hash_len l.commands;
}
