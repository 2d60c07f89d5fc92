use Rattle.std.proofs.Common.{arith, rules, refl, ap}
use Rattle.std.proofs.lemmas.List.{drop_all}
use Rattle.std.proofs.lemmas.Bool.{false≢true}
use Rattle.raf_log.specs.Session.{log_rooms}
use Rattle.raf_log.proofs.Rooms.{total_next}
use Rattle.raf_log.proofs.serving.replies_fit.Goals as goal

pub returns-in-None : goal.returns-in-None
returns-in-None c =
    let next = total_next c.args.hash_len c.args.commands.now c.loop-command.command-index c.command-item.result c.loop-command-test.true c.command-item.is in
    (λ none. absurd (false≢true none), λ fits. absurd (c.in-None.ensures (omega (arith, next, c.reply_len.ensures))))

pub loop-command-preserved : goal.loop-command-preserved
loop-command-preserved c =
    let next = total_next c.args.hash_len c.args.commands.now c.loop-command.command-index c.command-item.result c.loop-command-test.true c.command-item.is in
    record { fits = search rules; so_far = omega (arith, next, c.reply_len.ensures, c.in-Some.ensures) }

pub returns : goal.returns
returns c =
    let none = ap (log_rooms c.args.hash_len) (drop_all c.loop-command.command-index c.args.commands.now c.loop-command-test.false) in
    (λ _. omega (arith, none), λ _. refl)
