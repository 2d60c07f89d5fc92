-- All round keys are those of the words.
use Rattle.std.proofs.Common.{◌∙◌, ℕ, ◌+◌, ◌/◌, List, [], length, map, ap, arith}
use Rattle.std.proofs.lemmas.List.FromFn.{fill_by_all}
use Rattle.aes_spec.specs.KeySchedule.{expand, round_key, round_keys}
use Rattle.softaes.proofs.KeyWords.{le}
use Rattle.softaes.proofs.unprotected.key_schedule.expand.Goals as goal

pub returns : goal.returns
unfolding expand
returns c =
    let words : List ℕ = c.expand_words.new.words in
    let n : ℕ = length c.args.key.now / 4 + 7 in
    fill_by_all (round_key (map le words)) c.keys.keys n [] (omega arith) (λ k low. c.keys.invariant k (omega arith))
    ∙ ap (λ (v : List (List ℕ)). round_keys v n) c.expand_words.ensures
