use Rattle.std.proofs.Common.{arith, ◌≡◌, ℕ, ◌+◌, ◌-◌, length, take, drop, sym, subst, ap, ◌∙◌, length-take, length-drop}
use Rattle.std.proofs.lemmas.List.{take-take}
use Rattle.raf_format.specs.Cipher.{cipher_of}
use Rattle.raf_format.specs.File.{File}
use Rattle.raf.specs.Content.{content}
use Rattle.raf.specs.Handle.{limit_of}
use Rattle.raf.specs.Image.{traffic_by}
use Rattle.raf.specs.declared.command.Command.TheVariants.{Read}
use Rattle.raf_log.specs.Opening.{ReadsAtMost}
use Rattle.raf_log.specs.Sweep.{Passed}
use Rattle.raf_log.proofs.Sweeps.{window_shows, last_shows}
use Rattle.raf_log.proofs.opening.sweep_on.Goals as goal

pub returns-clause-passed : goal.returns-clause-passed
returns-clause-passed g c =
    let len : length (drop c.args.held c.sweep_piece.new.window) ≡ c.args.len =
    omega (arith, length-drop c.args.held c.sweep_piece.new.window, c.sweep_piece.auto.window, length-take (c.args.held + c.args.len) c.args.window.now, c.requires.room.0) in
    subst (λ (n : ℕ). Passed (cipher_of g.A.Algorithm.variant) c.args.raf.now c.sweep_piece.new.raf c.args.end n) len c.in_ok-sweep_piece.ensures.read.passed

pub returns-clause-walked : goal.returns-clause-walked
returns-clause-walked g c = λ shows F holds whole walked.
    let C = cipher_of g.A.Algorithm.variant in
    let long : length c.sweep_piece.new.window ≡ c.args.held + c.args.len = omega (arith, c.sweep_piece.auto.window, length-take (c.args.held + c.args.len) c.args.window.now, c.requires.room.0) in
    let front : take c.args.held c.sweep_piece.new.window ≡ take c.args.held c.args.window.now =
    c.sweep_piece.ensures.front ∙ take-take c.args.held (c.args.held + c.args.len) c.args.window.now (omega arith) in
    c.in_ok-sweep_piece.ensures.walked (content F) (record {
      long = c.contents.ensures.long c.args.raf.now F holds whole ∙ ap (λ (f : File). f.size) holds.file ∙ sym c.requires.size;
      is = window_shows C c.args.raf.now c.sweep_piece.new.raf c.args.held c.args.len c.args.end (take c.args.held c.args.window.now) c.sweep_piece.new.window front
          (omega (arith, length-take c.args.held c.args.window.now, c.requires.room.0)) long c.requires.room.1 shows c.in_ok-sweep_piece.ensures.read F holds whole;
    }) walked

pub returns-clause-shows : goal.returns-clause-shows
returns-clause-shows g c = λ shows.
    let C = cipher_of g.A.Algorithm.variant in
    let long : length c.sweep_piece.new.window ≡ c.args.held + c.args.len = omega (arith, c.sweep_piece.auto.window, length-take (c.args.held + c.args.len) c.args.window.now, c.requires.room.0) in
    let front : take c.args.held c.sweep_piece.new.window ≡ take c.args.held c.args.window.now =
    c.sweep_piece.ensures.front ∙ take-take c.args.held (c.args.held + c.args.len) c.args.window.now (omega arith) in
    last_shows C c.args.raf.now c.sweep_piece.new.raf c.args.held c.args.len c.args.end (take c.args.held c.args.window.now) c.sweep_piece.new.window front
    (omega (arith, length-take c.args.held c.args.window.now, c.requires.room.0)) long c.requires.room.1 shows c.in_ok-sweep_piece.ensures.read
    c.cut-next.result c.move_to_front.new.window (drop (c.args.held + c.args.len) c.args.window.now) (omega (arith, c.cut-next.ensures.most.1, c.requires.room.1)) c.move_to_front.ensures

pub returns-clause-asked : goal.returns-clause-asked
returns-clause-asked g c =
    let len : length (take (c.args.held + c.args.len) c.args.window.now) - c.args.held ≡ c.args.len = omega (arith, length-take (c.args.held + c.args.len) c.args.window.now, c.requires.room.0) in
    subst (λ (n : ℕ). ReadsAtMost (cipher_of g.A.Algorithm.variant) c.args.raf.now c.sweep_piece.new.raf (λ F. traffic_by (limit_of c.args.raf.now) F (Read c.args.end n))) len c.sweep_piece.ensures.asked

pub returns-in_err-sweep_piece-clause-asked : goal.returns-in_err-sweep_piece-clause-asked
returns-in_err-sweep_piece-clause-asked g c =
    let len : length (take (c.args.held + c.args.len) c.args.window.now) - c.args.held ≡ c.args.len = omega (arith, length-take (c.args.held + c.args.len) c.args.window.now, c.requires.room.0) in
    subst (λ (n : ℕ). ReadsAtMost (cipher_of g.A.Algorithm.variant) c.args.raf.now c.sweep_piece.new.raf (λ F. traffic_by (limit_of c.args.raf.now) F (Read c.args.end n))) len c.sweep_piece.ensures.asked
