-- A text is read in one way only.
use Rattle.std.proofs.Common.{◌≡◌, ℕ, suc, ◌+◌, List, [], ◌∷◌, ◌++◌, length, Option, Some, refl, sym, ap, ◌∙◌, append_assoc, subst}
use Rattle.std.specs.List.{join_with_byte}
use Rattle.std.proofs.lemmas.List.{append_cancel_left, append-nil}
use Rattle.raf_log.specs.declared.command.LogCommand.{LogCommand}
use Rattle.raf.specs.declared.command.Command.{Command}
use Rattle.raf_script.specs.Words.{words}
use Rattle.raf_script.specs.Lines.{lines}
use Rattle.raf_script.specs.Reading.{command_words, log_command_words}
use Rattle.raf_script.specs.Places.{line_text, text_of, AllFit}
use Rattle.raf_script.specs.Script.{SpellsCommand, settings_of, Spells, Fits}
use Rattle.raf_script.specs.LogScript.{SpellsLogCommand, log_settings, SpellsLog, FitsLog}
use Rattle.raf_script.specs.Conversion.{SpellsConversion, FitsConversion}
use Rattle.raf_script.specs.Laws.{OneContent, OneWrongLine}
use Rattle.raf_script.specs.declared.script.Medium.{Medium}
use Rattle.raf_script.specs.declared.script.Medium.TheVariants.{Memory}
use Rattle.raf_script.specs.declared.script.Settings.{Settings}
use Rattle.raf_script.proofs.SpellingLemmas.{IsLine, lines_of_front, words_of_line, fits_line, lines_read, command_is_line, command_read}
use Rattle.raf_script.proofs.LogLemmas.{log_command_is_line, log_command_read}
use Rattle.raf_script.proofs.ConversionLemmas.{conversion_line, conversion_read}
use Rattle.raf_script.proofs.WrongLemmas.{ok_same}

-- two lines of words at the front of one text are one line
same_line : (ws us : List (List ℕ)) (after rest : List ℕ) → IsLine ws → IsLine us → line_text ws ++ after ≡ line_text us ++ rest → ws ≡ us
same_line ws us after rest p q h =
    let two : ◌≡◌ {A = List (Option (List ℕ))} (Some (join_with_byte 32 ws) ∷ lines after) (Some (join_with_byte 32 us) ∷ lines rest) = sym (lines_of_front ws after p) ∙ ap lines h ∙ lines_of_front us rest q in
    let joined : join_with_byte 32 ws ≡ join_with_byte 32 us = (cc) in
    sym (words_of_line ws p.0 p.1) ∙ ap words joined ∙ words_of_line us q.0 q.1

module _ (G : List (List (List ℕ)) → List (List ℕ) → Type 0) (line : (before : List (List (List ℕ))) (ws : List (List ℕ)) → G before ws → IsLine ws) where
  -- no line that fits its place stands at the front
  abbrev pub IsStuck : List (List (List ℕ)) → List ℕ → Type 0
  IsStuck before rest = (ws : List (List ℕ)) (after : List ℕ) → rest ≡ line_text ws ++ after → G before ws → ⊥

  front : (ws : List (List ℕ)) (wss : List (List (List ℕ))) (rest : List ℕ) → text_of (ws ∷ wss) ++ rest ≡ line_text ws ++ (text_of wss ++ rest)
  front ws wss rest = append_assoc (line_text ws) (text_of wss) rest

  regroup : (done : List (List (List ℕ))) (ws : List (List ℕ)) (wss : List (List (List ℕ))) (rest : List ℕ) → IsStuck (done ++ ws ∷ wss) rest → IsStuck ((done ++ ws ∷ []) ++ wss) rest
  regroup done ws wss rest h = subst (λ (b : List (List (List ℕ))). IsStuck b rest) (sym (append_assoc done (ws ∷ []) wss)) h

  same_count : (done wss uss : List (List (List ℕ))) (rest more : List ℕ) → AllFit G done wss → AllFit G done uss → text_of wss ++ rest ≡ text_of uss ++ more
      → IsStuck (done ++ wss) rest → IsStuck (done ++ uss) more → length wss ≡ length uss
  same_count done [] [] rest more f g h p q = refl
  same_count done [] (us ∷ uss) rest more f g h p q =
      absurd (subst (λ (b : List (List (List ℕ))). IsStuck b rest) (append-nil done) p us (text_of uss ++ more) (h ∙ front us uss more) g.0)
  same_count done (ws ∷ wss) [] rest more f g h p q =
      absurd (subst (λ (b : List (List (List ℕ))). IsStuck b more) (append-nil done) q ws (text_of wss ++ rest) (sym h ∙ front ws wss rest) f.0)
  same_count done (ws ∷ wss) (us ∷ uss) rest more f g h p q =
      let whole' : line_text ws ++ (text_of wss ++ rest) ≡ line_text us ++ (text_of uss ++ more) = sym (front ws wss rest) ∙ h ∙ front us uss more in
      let same : us ≡ ws = same_line us ws (text_of uss ++ more) (text_of wss ++ rest) (line done us g.0) (line done ws f.0) (sym whole') in
      let here : line_text ws ++ (text_of wss ++ rest) ≡ line_text ws ++ (text_of uss ++ more) = whole' ∙ ap (λ (l : List (List ℕ)). line_text l ++ (text_of uss ++ more)) same in
      let after : text_of wss ++ rest ≡ text_of uss ++ more = append_cancel_left (line_text ws) (text_of wss ++ rest) (text_of uss ++ more) here in
      let g' : AllFit G (done ++ ws ∷ []) uss = subst (λ (l : List (List ℕ)). AllFit G (done ++ l ∷ []) uss) same g.1 in
      let q' : IsStuck (done ++ ws ∷ uss) more = subst (λ (l : List (List ℕ)). IsStuck (done ++ l ∷ uss) more) same q in
      ap suc (same_count (done ++ ws ∷ []) wss uss rest more f.1 g' after (regroup done ws wss rest p) (regroup done ws uss more q'))

  pub one_wrong_line : (least : ℕ) → OneWrongLine G least
  one_wrong_line least text n m a b =
      let same : length a.before ≡ length b.before = same_count [] a.before b.before a.rest b.rest a.fit b.fit (sym a.split ∙ b.split) a.wrong b.wrong in
      a.number ∙ ap (λ (k : ℕ). k + 1) same ∙ sym b.number

pub one_script : (m : Medium) → OneContent (Spells m)
one_script m text s u p q =
    let same : ◌≡◌ {A = Settings × List Command} (settings_of s, s.commands) (settings_of u, u.commands) = ok_same (sym (lines_read SpellsCommand command_words command_is_line command_read m text (settings_of s) s.commands p) ∙ lines_read SpellsCommand command_words command_is_line command_read m text (settings_of u) u.commands q) in
    ap (λ (v : Settings × List Command). record { algorithm = v.0.algorithm; key = v.0.key; randomness = v.0.randomness; max_chunks = v.0.max_chunks; start = v.0.start; commands = v.1 }) same

pub one_log : OneContent SpellsLog
one_log text s u p q =
    let same : ◌≡◌ {A = Settings × List LogCommand} (log_settings s, s.commands) (log_settings u, u.commands) = ok_same (sym (lines_read SpellsLogCommand log_command_words log_command_is_line log_command_read Memory text (log_settings s) s.commands p)
    ∙ lines_read SpellsLogCommand log_command_words log_command_is_line log_command_read Memory text (log_settings u) u.commands q) in
    ap (λ (v : Settings × List LogCommand). record { algorithm = v.0.algorithm; key = v.0.key; randomness = v.0.randomness; max_chunks = v.0.max_chunks; start = v.0.start; commands = v.1 }) same

pub one_conversion : OneContent SpellsConversion
one_conversion text c d p q = ok_same (sym (conversion_read text c p) ∙ conversion_read text d q)

pub one_wrong_script : (m : Medium) → OneWrongLine (Fits m) 5
one_wrong_script m = one_wrong_line (Fits m) (fits_line SpellsCommand command_words command_is_line m) 5

pub one_wrong_log : OneWrongLine FitsLog 5
one_wrong_log = one_wrong_line FitsLog (fits_line SpellsLogCommand log_command_words log_command_is_line Memory) 5

pub one_wrong_conversion : OneWrongLine FitsConversion 7
one_wrong_conversion = one_wrong_line FitsConversion conversion_line 7
