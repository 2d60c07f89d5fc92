-- That a text is read in one way only (this project's own).
use Rattle.std.specs.Prelude.{◌≡◌, ℕ, List}
use Rattle.raf_script.specs.Places.{IsFirstWrong}

-- a text spells one content at most
abbrev pub OneContent : {X : Type 0} → (List ℕ → X → Type 0) → Type 0
OneContent {X} Spells = (text : List ℕ) (x y : X) → Spells text x → Spells text y → x ≡ y

-- a text has one first wrong line at most
abbrev pub OneWrongLine : (List (List (List ℕ)) → List (List ℕ) → Type 0) → ℕ → Type 0
OneWrongLine Fits least = (text : List ℕ) (n m : ℕ) → IsFirstWrong Fits least text n → IsFirstWrong Fits least text m → n ≡ m
