-- How the bytes of a source are cut into the messages of a stream (this project's own).
use Rattle.std.specs.Prelude.{ℕ, zero, suc, ◌∷◌, [], ◌/◌, List, length, take, drop}

-- n pieces of 65536 bytes, and then the rest, which may be empty
abbrev pub cut : ℕ → List ℕ → List (List ℕ)
cut zero bytes = bytes ∷ []
cut (suc n) bytes = take 65536 bytes ∷ cut n (drop 65536 bytes)

-- as many pieces of 65536 bytes as there are, and then the rest, of fewer bytes
unfoldable pub pieces : List ℕ → List (List ℕ)
pieces bytes = cut (length bytes / 65536) bytes
