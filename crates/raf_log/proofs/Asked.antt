-- What commands ask of a log's file goes on by one command.
use Rattle.std.proofs.Common.{◌≡◌, List, [], ◌∷◌, ◌++◌, length, Option, Some, None, refl, sym, subst, arith}
use Rattle.raf.specs.declared.command.Command.{Command}
use Rattle.raf.specs.declared.command.Reply.{Reply}
use Rattle.raf_log.specs.Log.{Extent}
use Rattle.raf_log.specs.Call.{asked_of, known_reply, log_reply, extent_after}
use Rattle.raf_log.specs.Parts.{Part, Parts, extent_along}
use Rattle.raf_log.specs.declared.command.LogCommand.{LogCommand}
use Rattle.raf_log.specs.declared.command.LogReply.{LogReply}

-- the rest goes on
part_more : (e : Extent) (c : LogCommand) (r : LogReply) (o : Option Command) (asks more : List Command) (answers others : List Reply) (P Q : List Command → List Reply → Type 0)
    → ((xs : List Command) (ys : List Reply) → P xs ys → Q (xs ++ more) (ys ++ others)) → Part e c r o asks answers P → Part e c r o (asks ++ more) (answers ++ others) Q
part_more e c r None asks more answers others P Q f part = (part.0, f asks answers part.1)
part_more e c r (Some ask) [] more answers others P Q f part = absurd part
part_more e c r (Some ask) (a ∷ asks) more [] others P Q f part = absurd part
part_more e c r (Some ask) (a ∷ asks) more (b ∷ answers) others P Q f part = (part.0, part.1, f asks answers part.2)

part_even : (e : Extent) (c : LogCommand) (r : LogReply) (o : Option Command) (asks : List Command) (answers : List Reply) (P : List Command → List Reply → Type 0)
    → ((xs : List Command) (ys : List Reply) → P xs ys → length xs ≡ length ys) → Part e c r o asks answers P → length asks ≡ length answers
part_even e c r None asks answers P f part = f asks answers part.1
part_even e c r (Some ask) [] answers P f part = absurd part
part_even e c r (Some ask) (a ∷ asks) [] P f part = absurd part
part_even e c r (Some ask) (a ∷ asks) (b ∷ answers) P f part = omega (arith, f asks answers part.2)

part_rest : (e : Extent) (c : LogCommand) (r : LogReply) (o : Option Command) (asks : List Command) (answers : List Reply) (P : List Command → List Reply → Type 0) (Q : Type 0)
    → ((xs : List Command) (ys : List Reply) → P xs ys → Q) → Part e c r o asks answers P → Q
part_rest e c r None asks answers P Q f part = f asks answers part.1
part_rest e c r (Some ask) [] answers P Q f part = absurd part
part_rest e c r (Some ask) (a ∷ asks) [] P Q f part = absurd part
part_rest e c r (Some ask) (a ∷ asks) (b ∷ answers) P Q f part = f asks answers part.2

-- as many answers as were asked, and as many replies as commands
pub parts_even : (e : Extent) (cs : List LogCommand) (rs : List LogReply) (asks : List Command) (answers : List Reply) → Parts e cs rs asks answers → length asks ≡ length answers
parts_even e [] [] [] [] parts = refl
parts_even e [] [] (a ∷ asks) answers parts = absurd parts
parts_even e [] [] [] (b ∷ answers) parts = absurd parts
parts_even e [] (r ∷ rs) asks answers parts = absurd parts
parts_even e (c ∷ cs) [] asks answers parts = absurd parts
parts_even e (c ∷ cs) (r ∷ rs) asks answers parts =
    part_even e c r (asked_of e c) asks answers (λ asks answers. Parts (extent_after e c r) cs rs asks answers) (λ xs ys p. parts_even (extent_after e c r) cs rs xs ys p) parts

pub parts_long : (e : Extent) (cs : List LogCommand) (rs : List LogReply) (asks : List Command) (answers : List Reply) → Parts e cs rs asks answers → length cs ≡ length rs
parts_long e [] [] asks answers parts = refl
parts_long e [] (r ∷ rs) asks answers parts = absurd parts
parts_long e (c ∷ cs) [] asks answers parts = absurd parts
parts_long e (c ∷ cs) (r ∷ rs) asks answers parts =
    let n : length cs ≡ length rs = part_rest e c r (asked_of e c) asks answers (λ asks answers. Parts (extent_after e c r) cs rs asks answers) (length cs ≡ length rs) (λ xs ys p. parts_long (extent_after e c r) cs rs xs ys p) parts in
    omega (arith, n)

pub parts-push : (e : Extent) (cs : List LogCommand) (rs : List LogReply) (asks more : List Command) (answers others : List Reply) (c : LogCommand) (r : LogReply)
    → Parts e cs rs asks answers → Parts (extent_along e cs rs) (c ∷ []) (r ∷ []) more others → Parts e (cs ++ c ∷ []) (rs ++ r ∷ []) (asks ++ more) (answers ++ others)
parts-push e [] [] [] more [] others c r parts last = last
parts-push e [] [] (a ∷ asks) more answers others c r parts last = absurd parts
parts-push e [] [] [] more (b ∷ answers) others c r parts last = absurd parts
parts-push e [] (y ∷ rs) asks more answers others c r parts last = absurd parts
parts-push e (x ∷ cs) [] asks more answers others c r parts last = absurd parts
parts-push e (x ∷ cs) (y ∷ rs) asks more answers others c r parts last =
    part_more e x y (asked_of e x) asks more answers others (λ asks answers. Parts (extent_after e x y) cs rs asks answers) (λ asks answers. Parts (extent_after e x y) (cs ++ c ∷ []) (rs ++ r ∷ []) asks answers)
    (λ xs ys p. parts-push (extent_after e x y) cs rs xs more ys others c r p last) parts

pub extent-push : (e : Extent) (cs : List LogCommand) (rs : List LogReply) (c : LogCommand) (r : LogReply) → length cs ≡ length rs
    → extent_along e (cs ++ c ∷ []) (rs ++ r ∷ []) ≡ extent_after (extent_along e cs rs) c r
extent-push e [] [] c r even = refl
extent-push e [] (y ∷ rs) c r even = absurd (omega (arith, even))
extent-push e (x ∷ cs) [] c r even = absurd (omega (arith, even))
extent-push e (x ∷ cs) (y ∷ rs) c r even = extent-push (extent_after e x y) cs rs c r (omega (arith, even))

-- one command alone
pub idle_part : (e : Extent) (c : LogCommand) (r : LogReply) → asked_of e c ≡ None → r ≡ known_reply e c → Parts e (c ∷ []) (r ∷ []) [] []
idle_part e c r none is = subst (λ (o : Option Command). Part e c r o [] [] (λ asks answers. Parts (extent_after e c r) [] [] asks answers)) (sym none) (is, tt)

pub asked_part : (e : Extent) (c : LogCommand) (r : LogReply) (ask : Command) (answer : Reply) → asked_of e c ≡ Some ask → r ≡ log_reply e answer
    → Parts e (c ∷ []) (r ∷ []) (ask ∷ []) (answer ∷ [])
asked_part e c r ask answer some is = subst (λ (o : Option Command). Part e c r o (ask ∷ []) (answer ∷ []) (λ asks answers. Parts (extent_after e c r) [] [] asks answers)) (sym some) (refl, is, tt)
