-- Commands, and the rooms of their replies, one by one.
use Rattle.std.proofs.Common.{◌≡◌, ℕ, ◌+◌, ◌<◌, List, [], ◌∷◌, ◌++◌, length, take, drop, get_or, map, take-append-drop, sym, ◌∙◌, ap}
use Rattle.std.proofs.lemmas.List.{drop_more, take_more}
use Rattle.raf_log.specs.Session.{log_room_for, log_rooms}
use Rattle.raf_log.specs.declared.command.LogCommand.{LogCommand}

pub rooms_next : (n : ℕ) (commands : List LogCommand) (i : ℕ) (c : LogCommand) → i < length commands → c ≡ get_or commands i c
    → map (log_room_for n) (drop i commands) ≡ log_room_for n c ∷ map (log_room_for n) (drop (i + 1) commands)
rooms_next n commands i c lt is =
    ap (map (log_room_for n)) (drop_more commands i c lt) ∙ ap (λ (x : LogCommand). log_room_for n x ∷ map (log_room_for n) (drop (i + 1) commands)) (sym is)

pub total_next : (n : ℕ) (commands : List LogCommand) (i : ℕ) (c : LogCommand) → i < length commands → c ≡ get_or commands i c
    → log_rooms n (drop i commands) ≡ log_rooms n (c ∷ drop (i + 1) commands)
total_next n commands i c lt is = ap (log_rooms n) (drop_more commands i c lt) ∙ ap (λ (x : LogCommand). log_rooms n (x ∷ drop (i + 1) commands)) (sym is)

pub commands_next : (commands : List LogCommand) (i : ℕ) (c : LogCommand) → i < length commands → c ≡ get_or commands i c → take (i + 1) commands ≡ take i commands ++ c ∷ []
commands_next commands i c lt is = take_more commands i c lt ∙ ap (λ (x : LogCommand). take i commands ++ x ∷ []) (sym is)

pub commands_split : (commands : List LogCommand) (i : ℕ) (c : LogCommand) → i < length commands → c ≡ get_or commands i c → commands ≡ take i commands ++ c ∷ drop (i + 1) commands
commands_split commands i c lt is =
    sym (take-append-drop i commands) ∙ ap (λ (l : List LogCommand). take i commands ++ l) (drop_more commands i c lt ∙ ap (λ (x : LogCommand). x ∷ drop (i + 1) commands) (sym is))
