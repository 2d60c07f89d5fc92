-- The words that the program is started with (this project's own).
use Rattle.std.specs.Prelude.{◌∷◌, [], ℕ, List, codes, Option, Some, None, Result, Ok, Err, if◌then◌else◌, nat_le, bytes_eq}
use Rattle.hex.specs.Hex.{decode_sized}
use Rattle.hex.specs.declared.error.FromHexError.{FromHexError}
use Rattle.raf_script.specs.Words.{number}
use Rattle.raf_run.specs.declared.words.Form.{Form}
use Rattle.raf_run.specs.declared.words.Form.TheVariants.{Script, Convert, Log, Seal, Unseal, Demo, File}

-- a demo has at most a thousand writes
abbrev pub demo_of : Option ℕ → Option Form
demo_of None = None
demo_of (Some n) = if nat_le n 1000 then Some (Demo n) else None

-- the bytes of a hex text of either case, if there are so many
abbrev pub decoded : Result (List ℕ) FromHexError → Option (List ℕ)
decoded (Ok bytes) = Some bytes
decoded (Err e) = None

abbrev pub bytes_of : ℕ → List ℕ → Option (List ℕ)
bytes_of n word = decoded (decode_sized word n)

-- a key has 16 bytes, and a prefix 8
abbrev pub seal_of : Option (List ℕ) → Option (List ℕ) → Option Form
seal_of (Some key) (Some prefix) = Some (Seal key prefix)
seal_of key prefix = None

abbrev pub unseal_of : Option (List ℕ) → Option Form
unseal_of (Some key) = Some (Unseal key)
unseal_of None = None

-- `script`, `convert`, `log`, `seal <key> <prefix>`, `unseal <key>`, `demo <n>` or `file <path>`
abbrev pub form_of : List (List ℕ) → Option Form
form_of [] = None
form_of (word ∷ []) =
    if bytes_eq word (codes "script") then Some Script
    else if bytes_eq word (codes "convert") then Some Convert
    else if bytes_eq word (codes "log") then Some Log
    else None
form_of (word ∷ argument ∷ []) =
    if bytes_eq word (codes "unseal") then unseal_of (bytes_of 16 argument)
    else if bytes_eq word (codes "demo") then demo_of (number 64 argument)
    else if bytes_eq word (codes "file") then Some File
    else None
form_of (word ∷ key ∷ prefix ∷ []) = if bytes_eq word (codes "seal") then seal_of (bytes_of 16 key) (bytes_of 8 prefix) else None
form_of (word ∷ a ∷ b ∷ c ∷ more) = None
