-- Words, numbers and hex text (this project's own).
use Rattle.std.specs.Prelude.{◌∷◌, [], ℕ, ◌^◌, ◌&&◌, List, length, codes, Option, Some, None, Result, Ok, Err, if◌then◌else◌, nat_eq, nat_lt, bytes_eq, decimal, ◌≡◌, ◌≢◌, ◌<◌, slice_index}
use Rattle.std.specs.List.{slice_split}
use Rattle.std.specs.Str.Parse.{digits_value}
use Rattle.hex.specs.declared.error.FromHexError.{FromHexError}
use Rattle.hex.specs.Hex.{decode_of}

-- the parts of a text between bytes c
abbrev pub parts : ℕ → List ℕ → List (List ℕ)
parts c text = slice_split (λ b. nat_eq b c) text

-- the words of a line: between two stands one space
unfoldable pub words : List ℕ → List (List ℕ)
words line = parts 32 line

-- the number below 2 ^ bits whose decimal digits these are
unfoldable pub number : ℕ → List ℕ → Option ℕ
number bits word = let n = digits_value 10 word in if bytes_eq (decimal n) word && nat_lt n (2 ^ bits) then Some n else None

-- what was decoded, if it is at least one byte
abbrev pub some_bytes : Result (List ℕ) FromHexError → Option (List ℕ)
some_bytes (Ok []) = None
some_bytes (Ok (b ∷ bytes)) = Some (b ∷ bytes)
some_bytes (Err e) = None

-- the bytes of a hex text of either case, with `-` for none
unfoldable pub hex_bytes : List ℕ → Option (List ℕ)
hex_bytes word = if bytes_eq word (codes "-") then Some [] else some_bytes (decode_of word)

-- neither a sign nor a zero that isn't alone stands in front
abbrev pub IsPlain : List ℕ → Type 0
IsPlain word = (0 < length word) × (slice_index word 0 ≢ 43) × (slice_index word 0 ≡ 48 → length word ≡ 1)
