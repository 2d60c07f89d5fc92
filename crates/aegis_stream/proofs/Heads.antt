-- The tests of a head, one by one.
use Rattle.std.proofs.Common.{◌≡◌, ℕ, ◌<◌, ◌≤◌, Bool, true, false, not, ◌&&◌, ltb, leb, eqb, List, length, get_or, arith}
use Rattle.std.proofs.lemmas.Bool.{and_from, and_left, and_right, or_left, or_right, or_from, lt-ltb, le-ltb, le-leb, lt-leb, not_from_true, not_from_false}
use Rattle.aegis_stream.specs.Grammar.{is_message_len}
use Rattle.aegis_stream.specs.Unspell.{is_malformed, length_in}

module _ (b : List ℕ) where
  abbrev mark : Bool
  mark = ltb 0 (length b) && ltb 1 (get_or b 0 0)

  abbrev says : Bool
  says = is_message_len (eqb (get_or b 0 0) 1) (length_in b)

  pub nothing_formed : length b ≡ 0 → is_malformed b ≡ false
  unfolding is_malformed
  nothing_formed none =
      or_from mark (leb 5 (length b) && not says)
      (and_left (ltb 0 (length b)) (ltb 1 (get_or b 0 0)) (le-ltb 0 (length b) (omega arith)))
      (and_left (leb 5 (length b)) (not says) (lt-leb 5 (length b) (omega arith)))

  pub mark_malformed : 0 < length b → 1 < get_or b 0 0 → is_malformed b ≡ true
  unfolding is_malformed
  mark_malformed some bad =
      or_left mark (leb 5 (length b) && not says) (and_from (ltb 0 (length b)) (ltb 1 (get_or b 0 0)) (lt-ltb 0 (length b) some) (lt-ltb 1 (get_or b 0 0) bad))

  pub short_formed : get_or b 0 0 ≤ 1 → length b < 5 → is_malformed b ≡ false
  unfolding is_malformed
  short_formed good short =
      or_from mark (leb 5 (length b) && not says)
      (and_right (ltb 0 (length b)) (ltb 1 (get_or b 0 0)) (le-ltb 1 (get_or b 0 0) good))
      (and_left (leb 5 (length b)) (not says) (lt-leb 5 (length b) short))

  pub length_malformed : 5 ≤ length b → is_message_len (eqb (get_or b 0 0) 1) (length_in b) ≡ false → is_malformed b ≡ true
  unfolding is_malformed
  length_malformed long bad =
      or_right mark (leb 5 (length b) && not says) (and_from (leb 5 (length b)) (not says) (le-leb 5 (length b) long) (not_from_false says bad))

  pub head_formed : get_or b 0 0 ≤ 1 → is_message_len (eqb (get_or b 0 0) 1) (length_in b) ≡ true → is_malformed b ≡ false
  unfolding is_malformed
  head_formed good fits =
      or_from mark (leb 5 (length b) && not says)
      (and_right (ltb 0 (length b)) (ltb 1 (get_or b 0 0)) (le-ltb 1 (get_or b 0 0) good))
      (and_right (leb 5 (length b)) (not says) (not_from_true says fits))
