use Rattle.std.proofs.Common.{◌≡◌, ◌+◌, ◌<◌, ◌^◌, drop}
use Rattle.raf_log.specs.Session.{log_rooms}
use Rattle.raf_log.proofs.serving.replies_fit.Given as goal

abbrev pub invariant-loop-command : goal.invariant-loop-command
invariant-loop-command l = record {
  fits : l.total < 2 ^ 64;
  so_far : l.total + log_rooms l.hash_len (drop l.command-index l.commands) ≡ log_rooms l.hash_len l.commands;
}
