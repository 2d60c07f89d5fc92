-- Which words are the decimal digits of a number.
use Rattle.std.proofs.Common.{◌≡◌, ℕ, suc, zero, ◌^◌, ◌<◌, ◌&&◌, Bool, true, false, List, get_or, Some, None, Result, Ok, Err, refl, sym, ap, ◌∙◌, arith, lit<, ◌≤◌}
use Rattle.std.specs.Prelude.{decimal, bytes_eq, IsUtf8, if◌then◌else◌, nat_lt}
use Rattle.std.specs.Result.{result_ok}
use Rattle.std.specs.Str.Parse.{digits_value, AllDigits, ParsesUnsigned}
use Rattle.std.proofs.lemmas.Bool.{ltb-true, lt-ltb}
use Rattle.std.proofs.lemmas.Fmt.{decimal_is_IsNumeral, decimal_digit, first_decimal, IsAscii-decimal, decimal-digits_value}
use Rattle.std.proofs.lemmas.Str.{IsUtf8-from_ascii}
use Rattle.std.proofs.lemmas.Str.Parse.{numerals_by_value, tells_digits, IsNumeralModel, digit_at, parse_plain}
use Rattle.std.proofs.lemmas.Slice.Eq.{bytes_eq-Decides}
use Rattle.raf_script.specs.Words.{number, IsPlain}

own : IsNumeralModel (AllDigits 10) (digits_value 10)
own = numerals_by_value (AllDigits 10) tells_digits

pub both : (a b : Bool) → (a && b) ≡ true → (a ≡ true) × (b ≡ true)
both true true h = (refl, refl)
both true false h = (refl, h)
both false b h = (h, (cc))

chosen : (b : Bool) (n : ℕ) → b ≡ true → (if b then Some n else None) ≡ Some n
chosen true n h = refl
chosen false n h = (cc)

refused : (b : Bool) (n : ℕ) → (b ≡ true → ⊥) → (if b then Some n else None) ≡ None
refused true n h = absurd (h refl)
refused false n h = refl

pub number_some : (k : ℕ) (word : List ℕ) → decimal (digits_value 10 word) ≡ word → digits_value 10 word < 2 ^ k → number k word ≡ Some (digits_value 10 word)
unfolding number
number_some k word spelled small =
    let n = digits_value 10 word in
    let same : bytes_eq (decimal n) word ≡ true = (bytes_eq-Decides (decimal n) word).1 spelled in
    chosen (bytes_eq (decimal n) word && nat_lt n (2 ^ k)) n (rw (same, lt-ltb n (2 ^ k) small) refl)

pub number_none : (k : ℕ) (word : List ℕ) → ((n : ℕ) → n < 2 ^ k → decimal n ≡ word → ⊥) → number k word ≡ None
unfolding number
number_none k word never =
    let n = digits_value 10 word in
    refused (bytes_eq (decimal n) word && nat_lt n (2 ^ k)) n (λ h.
    let b = both (bytes_eq (decimal n) word) (nat_lt n (2 ^ k)) h in
    never n (ltb-true n (2 ^ k) b.1) ((bytes_eq-Decides (decimal n) word).0 b.0))

alone : (n a : ℕ) → (0 < n → 48 < a) → a ≡ 48 → n ≡ 0
alone zero a high h = refl
alone (suc n) a high h = let more : 48 < a = high (omega arith) in absurd (omega arith)

-- a number's digits begin with neither a sign nor a zero that isn't alone
plain_decimal : (n : ℕ) → n < 2 ^ 64 → IsPlain (decimal n)
plain_decimal n small =
    let numeral = decimal_is_IsNumeral n small in
    let digit = digit_at (decimal n) 0 numeral.0.1 numeral.0.0 in
    let high : 0 < n → 48 < get_or (decimal n) 0 0 = λ some. first_decimal n some small in
    (numeral.0.0, (λ h. omega arith), (λ h. let none : n ≡ 0 = alone n (get_or (decimal n) 0 0) high h in rw (none, decimal_digit 0 (lit< tt)) refl))

pub none_from_front : (k : ℕ) (word : List ℕ) → 2 ^ k ≤ 2 ^ 64 → (IsPlain word → ⊥) → number k word ≡ None
none_from_front k word fits front = number_none k word (λ n small e. front (rw e at (plain_decimal n (omega arith))))

pub none_from_utf8 : (k : ℕ) (word : List ℕ) → 2 ^ k ≤ 2 ^ 64 → (IsUtf8 word → ⊥) → number k word ≡ None
none_from_utf8 k word fits bad = number_none k word (λ n small e. bad (rw e at (IsUtf8-from_ascii (decimal n) (IsAscii-decimal n (omega arith)))))

pub parsed : {E : Type 0} (k : ℕ) (word : List ℕ) (r : Result ℕ E) → 2 ^ k ≤ 2 ^ 64 → IsPlain word → ParsesUnsigned k 10 word r → result_ok r ≡ number k word
parsed {E} k word (Ok x) fits front gives =
    let p = parse_plain own {E = E} k word (Ok x) gives front.1 in
    let spelled = decimal-digits_value own word p.0.0 p.0.1 front.2 (omega (arith, p.0.2)) in
    ap Some p.1 ∙ sym (number_some k word spelled p.0.2)
parsed {E} k word (Err e) fits front gives =
    let p = parse_plain own {E = E} k word (Err e) gives front.1 in
    sym (number_none k word (λ n small spelled.
    let numeral = rw spelled at (decimal_is_IsNumeral n (omega arith)) in
    p (numeral.0.1, numeral.0.0, rw (numeral.1) small)))
