-- A keystream added to the front of a list (this project's own).
use Rattle.std.specs.Prelude.{◌≡◌, ℕ, List, length, take, drop}
use Rattle.aes_spec.specs.Bytes.{xor_bytes}

-- now is xs with ks, of the length given, added to its front
pub record IsAdded (xs ks : List ℕ) (n : ℕ) (now : List ℕ) : Type 0 where
  pub count : length ks ≡ n
  pub front : take n now ≡ xor_bytes (take n xs) ks
  pub rest : drop n now ≡ drop n xs

-- the front of now is that of xs with ks, of the length given, added to it
pub record IsSum (xs ks : List ℕ) (n : ℕ) (now : List ℕ) : Type 0 where
  pub count : length ks ≡ n
  pub front : take n now ≡ xor_bytes (take n xs) ks
