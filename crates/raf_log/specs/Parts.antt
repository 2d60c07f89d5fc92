-- What the commands of a log ask of its file, one after the other, and what the file answers (this project's own).
use Rattle.std.specs.Prelude.{◌≡◌, List, [], ◌∷◌, Option, Some, None, ⊤}
use Rattle.raf.specs.declared.command.Command.{Command}
use Rattle.raf.specs.declared.command.Reply.{Reply}
use Rattle.raf_log.specs.Log.{Extent}
use Rattle.raf_log.specs.Call.{asked_of, known_reply, log_reply, extent_after}
use Rattle.raf_log.specs.declared.command.LogCommand.{LogCommand}
use Rattle.raf_log.specs.declared.command.LogReply.{LogReply}

-- a command's part, and then the rest: nothing is asked of the file, and the reply is known without it; or this is the next that is asked,
-- and the reply is the file's
abbrev pub Part : Extent → LogCommand → LogReply → Option Command → List Command → List Reply → (List Command → List Reply → Type 0)
    → Type 0
Part e c r None asks answers Rest = (r ≡ known_reply e c) × Rest asks answers
Part e c r (Some ask) [] answers Rest = ⊥
Part e c r (Some ask) (a ∷ asks) [] Rest = ⊥
Part e c r (Some ask) (a ∷ asks) (b ∷ answers) Rest = (a ≡ ask) × (r ≡ log_reply e b) × Rest asks answers

-- the parts of commands and their replies, from where the entries begin and how long the file is
abbrev pub Parts : Extent → List LogCommand → List LogReply → List Command → List Reply → Type 0
Parts e [] [] [] [] = ⊤
Parts e [] [] (a ∷ asks) answers = ⊥
Parts e [] [] [] (b ∷ answers) = ⊥
Parts e [] (r ∷ replies) asks answers = ⊥
Parts e (c ∷ commands) [] asks answers = ⊥
Parts e (c ∷ commands) (r ∷ replies) asks answers =
    Part e c r (asked_of e c) asks answers (λ asks answers. Parts (extent_after e c r) commands replies asks answers)

-- where the entries begin, and how long the file is, after commands and their replies
abbrev pub extent_along : Extent → List LogCommand → List LogReply → Extent
extent_along e (c ∷ commands) (r ∷ replies) = extent_along (extent_after e c r) commands replies
extent_along e _ _ = e
