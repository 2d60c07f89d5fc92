-- A command of a log: what was read is spelled, and what is spelled is read.
use Rattle.std.proofs.Common.{◌≡◌, ℕ, List, [], ◌∷◌, Ok, refl, arith, rules}
use Rattle.std.specs.Prelude.{codes}
use Rattle.raf_log.specs.declared.command.LogCommand.{LogCommand}
use Rattle.raf_log.specs.declared.command.LogCommand.TheVariants.{Append, Get, Count, Commitment}
use Rattle.raf_script.specs.Words.{number, hex_bytes}
use Rattle.raf_script.specs.Lines.{fits}
use Rattle.raf_script.specs.Reading.{plain_log_command, entry_command, log_command_words}
use Rattle.raf_script.specs.LogScript.{SpellsLogCommand}
use Rattle.raf_script.proofs.ReadingLemmas.{by_bind, by_word, came, one, two, number_in, bytes_in}
use Rattle.raf_script.proofs.SpellingLemmas.{IsWord, IsLine, number_is_word, bytes_are_word, number_read, bytes_read}

plain_log_spelled : (n : ℕ) (w : List ℕ) (c : LogCommand) → plain_log_command n w ≡ Ok c → SpellsLogCommand (w ∷ []) c
unfolding plain_log_command
plain_log_spelled n w c h =
    let P : LogCommand → Type 0 = SpellsLogCommand (w ∷ []) in
    by_word w (codes "count") _ _ (Ok c) h (λ e k. came P Count c k (one e)) (λ h.
    by_word w (codes "commitment") _ _ (Ok c) h (λ e k. came P Commitment c k (one e)) (λ h. (cc)))

entry_spelled : (n : ℕ) (w rest : List ℕ) (c : LogCommand) → entry_command n w rest ≡ Ok c → SpellsLogCommand (w ∷ rest ∷ []) c
unfolding entry_command
entry_spelled n w rest c h =
    let P : LogCommand → Type 0 = SpellsLogCommand (w ∷ rest ∷ []) in
    by_word w (codes "append") _ _ (Ok c) h (λ e h.
    by_bind (fits n (hex_bytes rest)) _ c h (λ b read k. came P (Append b) c k (rest, two rest e, bytes_in n rest b read))) (λ h.
    by_word w (codes "get") _ _ (Ok c) h (λ e h.
    by_bind (fits n (number 64 rest)) _ c h (λ i read k. came P (Get i) c k (rest, two rest e, number_in n 64 rest i read))) (λ k. (cc)))

pub log_command_spelled : (n : ℕ) (ws : List (List ℕ)) (c : LogCommand) → log_command_words n ws ≡ Ok c → SpellsLogCommand ws c
log_command_spelled n [] c h = (cc)
log_command_spelled n (w ∷ []) c h = plain_log_spelled n w c h
log_command_spelled n (w ∷ a ∷ []) c h = entry_spelled n w a c h
log_command_spelled n (w ∷ a ∷ b ∷ more) c h = (cc)

pub log_command_is_line : (ws : List (List ℕ)) (c : LogCommand) → SpellsLogCommand ws c → IsLine ws
log_command_is_line ws (Append entry) h = let word : IsWord (codes "append") = search rules in rw h.1 (omega arith, (word, (bytes_are_word h.0 entry h.2, tt)))
log_command_is_line ws (Get index) h = let word : IsWord (codes "get") = search rules in rw h.1 (omega arith, (word, (number_is_word 64 h.0 index (omega arith) h.2, tt)))
log_command_is_line ws Count h = let word : IsWord (codes "count") = search rules in rw h (omega arith, (word, tt))
log_command_is_line ws Commitment h = let word : IsWord (codes "commitment") = search rules in rw h (omega arith, (word, tt))

pub log_command_read : (n : ℕ) (ws : List (List ℕ)) (c : LogCommand) → SpellsLogCommand ws c → log_command_words n ws ≡ Ok c
unfolding plain_log_command entry_command
log_command_read n ws (Append entry) h = rw (h.1, bytes_read h.0 entry h.2) refl
log_command_read n ws (Get index) h = rw (h.1, number_read 64 h.0 index (omega arith) h.2) refl
log_command_read n ws Count h = rw h refl
log_command_read n ws Commitment h = rw h refl
