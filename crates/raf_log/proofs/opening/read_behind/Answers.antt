use Rattle.std.proofs.Common.{arith, ◌≡◌, ℕ, ◌-◌, length, take, drop, subst, length-take, length-drop}
use Rattle.raf_format.specs.Cipher.{cipher_of}
use Rattle.raf.specs.Handle.{limit_of}
use Rattle.raf.specs.Image.{traffic_by}
use Rattle.raf.specs.declared.command.Command.TheVariants.{Read}
use Rattle.raf_log.specs.Opening.{ReadsAtMost}
use Rattle.raf_log.proofs.opening.read_behind.Goals as goal

pub returns-clause-asked : goal.returns-clause-asked
returns-clause-asked g c =
    let len : length (take (length c.args.window.now - c.args.held) (drop c.args.held c.args.window.now)) ≡ length c.args.window.now - c.args.held =
    omega (arith, length-take (length c.args.window.now - c.args.held) (drop c.args.held c.args.window.now), length-drop c.args.held c.args.window.now) in
    subst (λ (n : ℕ). ReadsAtMost (cipher_of g.A.Algorithm.variant) c.args.raf.now c.read_piece.new.raf (λ F. traffic_by (limit_of c.args.raf.now) F (Read c.args.end n))) len c.read_piece.ensures.asked
