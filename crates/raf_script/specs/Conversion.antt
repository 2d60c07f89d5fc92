-- What the source of a conversion spells: the old file in three lines, and the new one in four (this project's own).
use Rattle.std.specs.Prelude.{◌≡◌, ◌∷◌, [], ℕ, List, codes, Result, Ok, Err, ⊤}
use Rattle.raf_format.specs.declared.algorithm_id.AlgorithmId.{AlgorithmId}
use Rattle.raf_format.specs.declared.version.Version.{Version}
use Rattle.raf_script.specs.Places.{text_of, IsFirstWrong}
use Rattle.raf_script.specs.Settings.{SpellsNumber, SpellsBytes, SpellsAlgorithm, SpellsKey, version_word}
use Rattle.raf_script.specs.declared.conversion.Conversion.{Conversion}
use Rattle.raf_script.specs.declared.script.ScriptError.{ScriptError}
use Rattle.raf_script.specs.declared.script.ScriptError.TheVariants as errors

-- lines 3 and 6: `storage <hex>` and `random <hex>`
abbrev pub SpellsNamed : List ℕ → List (List ℕ) → List ℕ → Type 0
SpellsNamed name words bytes = (w : List ℕ) × (words ≡ name ∷ w ∷ []) × SpellsBytes w bytes

-- line 7: `create <chunk size> <version>`
abbrev pub SpellsCreate : List (List ℕ) → ℕ → Version → Type 0
SpellsCreate words size version = (w : List ℕ) × (words ≡ codes "create" ∷ w ∷ version_word version ∷ []) × SpellsNumber 32 w size

-- The text is a conversion with this content: seven lines.
pub record SpellsConversion (text : List ℕ) (c : Conversion) : Type 0 where
  pub old_algorithm_line : List (List ℕ)
  pub old_key_line : List (List ℕ)
  pub storage_line : List (List ℕ)
  pub algorithm_line : List (List ℕ)
  pub key_line : List (List ℕ)
  pub random_line : List (List ℕ)
  pub create_line : List (List ℕ)
  pub spelled : text ≡ text_of (old_algorithm_line ∷ old_key_line ∷ storage_line ∷ algorithm_line ∷ key_line ∷ random_line ∷ create_line ∷ [])
  pub old_algorithm : SpellsAlgorithm old_algorithm_line c.old_algorithm
  pub old_key : SpellsKey c.old_algorithm old_key_line c.old_key
  pub storage : SpellsNamed (codes "storage") storage_line c.storage
  pub algorithm : SpellsAlgorithm algorithm_line c.algorithm
  pub key : SpellsKey c.algorithm key_line c.key
  pub random : SpellsNamed (codes "random") random_line c.random
  pub create : SpellsCreate create_line c.chunk_size c.version

-- A line of words fits its place, which is after these lines. After the seventh none does.
abbrev pub FitsConversion : List (List (List ℕ)) → List (List ℕ) → Type 0
FitsConversion [] words = (a : AlgorithmId) × SpellsAlgorithm words a
FitsConversion (alg ∷ []) words = (a : AlgorithmId) × (key : List ℕ) × SpellsAlgorithm alg a × SpellsKey a words key
FitsConversion (alg ∷ key ∷ []) words = (bytes : List ℕ) × SpellsNamed (codes "storage") words bytes
FitsConversion (alg ∷ key ∷ storage ∷ []) words = (a : AlgorithmId) × SpellsAlgorithm words a
FitsConversion (alg ∷ key ∷ storage ∷ alg' ∷ []) words = (a : AlgorithmId) × (key' : List ℕ) × SpellsAlgorithm alg' a × SpellsKey a words key'
FitsConversion (alg ∷ key ∷ storage ∷ alg' ∷ key' ∷ []) words = (bytes : List ℕ) × SpellsNamed (codes "random") words bytes
FitsConversion (alg ∷ key ∷ storage ∷ alg' ∷ key' ∷ random ∷ []) words = (size : ℕ) × (version : Version) × SpellsCreate words size version
FitsConversion (alg ∷ key ∷ storage ∷ alg' ∷ key' ∷ random ∷ create ∷ more) words = ⊥

-- What a reading of the text answered: the content that it spells; or, where it spells none, its first wrong line. Want of memory is free.
abbrev pub ReadsConversion : List ℕ → Result Conversion ScriptError → Type 0
ReadsConversion text (Ok c) = SpellsConversion text c
ReadsConversion text (Err (errors.Line n)) = IsFirstWrong FitsConversion 7 text n × ((c : Conversion) → SpellsConversion text c → ⊥)
ReadsConversion text (Err errors.OutOfMemory) = ⊤
