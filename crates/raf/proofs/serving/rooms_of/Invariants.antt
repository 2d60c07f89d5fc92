use Rattle.std.proofs.Common.{◌≡◌, take, map}
use Rattle.raf.specs.Ran.{room_for}
use Rattle.raf.proofs.serving.rooms_of.Given as goal

abbrev pub invariant-loop-command : goal.invariant-loop-command
invariant-loop-command l = l.rooms.items ≡ map (room_for l.hash_len) (take l.command-index l.commands)
