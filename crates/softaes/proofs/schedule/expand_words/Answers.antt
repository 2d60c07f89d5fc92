-- Each loop takes one word more.
use Rattle.std.proofs.Common.{◌≡◌, ◌∙◌, ℕ, ◌+◌, ◌-◌, ◌*◌, ◌/◌, List, ◌++◌, [], ◌∷◌, length, map, take, drop, sym, ap, arith}
use Rattle.std.proofs.lemmas.List.{take_all}
use Rattle.aes_spec.specs.KeySchedule.{all_words, key_words, next_word, with_next}
use Rattle.softaes.proofs.KeyWords.{le, one_more, key_words_more, with_next_more, with_next_none}
use Rattle.softaes.proofs.schedule.expand_words.Goals as goal

pub own-preserved : goal.own-preserved
own-preserved g c =
    let key : List ℕ = c.args.key.now in
    let i : ℕ = c.own.i in
    let four : 4 * i + 4 - 4 * i ≡ 4 = omega arith in
    let word : le c.word_of.result ≡ take 4 (drop (4 * i) key) = c.word_of.ensures ∙ ap (λ (n : ℕ). take n (drop (4 * i) key)) four in
    one_more c.own.words i c.word_of.result (omega arith)
    ∙ (λ j. c.own.invariant j ++ word j ∷ [])
    ∙ sym (key_words_more key i)

pub rest-init : goal.rest-init
rest-init g c =
    let key : List ℕ = c.args.key.now in
    let own : ℕ = length key / 4 in
    let e : c.own.i ≡ own = omega arith in
    let none : own - own ≡ 0 = omega arith in
    let start : List (List ℕ) = key_words key own in
    ap (λ (n : ℕ). map le (take n c.own.words)) (sym e) ∙ c.own.invariant ∙ ap (key_words key) e
    ∙ sym (with_next_none own start) ∙ ap (with_next own start) (sym none)

pub rest-preserved : goal.rest-preserved
rest-preserved g c =
    let key : List ℕ = c.args.key.now in
    let own : ℕ = length key / 4 in
    let start : List (List ℕ) = key_words key own in
    let i : ℕ = c.rest.i in
    let words : List ℕ = c.rest.words in
    let before : List (List ℕ) = with_next own start (i - own) in
    let so_far : map le (take i words) ≡ before = c.rest.invariant in
    let more : i + 1 - own ≡ i - own + 1 = omega arith in
    let word : le c.next_word.result ≡ next_word own before = c.next_word.ensures ∙ ap (next_word own) so_far in
    one_more words i c.next_word.result (omega arith)
    ∙ (λ j. so_far j ++ word j ∷ [])
    ∙ sym (with_next_more own (i - own) start) ∙ ap (with_next own start) (sym more)

pub returns : goal.returns
unfolding all_words
returns g c =
    let key : List ℕ = c.args.key.now in
    let own : ℕ = length key / 4 in
    let count : c.rest.i - own ≡ 3 * own + 28 = omega arith in
    ap (map le) (sym (take_all c.rest.i c.rest.words (omega arith))) ∙ c.rest.invariant ∙ ap (with_next own (key_words key own)) count
