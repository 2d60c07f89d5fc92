-- Functions on lists of bytes, place by place: the addition of bytes (FIPS 197, section 4.1), and the AND of the AEGIS specification's blocks.
use Rattle.std.specs.Prelude.{ℕ, List, [], ◌∷◌, bit_xor, bit_and}

-- f at each place that both lists have; past the end of ys the bytes of xs
unfoldable pub on_bytes : (ℕ → ℕ → ℕ) → List ℕ → List ℕ → List ℕ
on_bytes f [] ys = []
on_bytes f (x ∷ xs) [] = x ∷ xs
on_bytes f (x ∷ xs) (y ∷ ys) = f x y ∷ on_bytes f xs ys

-- the exclusive or, byte by byte
abbrev pub xor_bytes : List ℕ → List ℕ → List ℕ
xor_bytes = on_bytes bit_xor

-- the and, byte by byte
abbrev pub and_bytes : List ℕ → List ℕ → List ℕ
and_bytes = on_bytes bit_and
