-- What the five lines spell that a script and a log begin with, and a text of these and a line an item. The format is this project's own.
use Rattle.std.specs.Prelude.{◌≡◌, ◌∷◌, [], ℕ, ◌^◌, ◌<◌, ◌⊎◌, List, length, codes, decimal, Option, Some, None, Ok, ⊤}
use Rattle.std.specs.List.{AllZip}
use Rattle.hex.specs.Hex.{decode_of}
use Rattle.aegis_core.specs.Sealing.{key_len}
use Rattle.raf_format.specs.Numbers.{variant_of}
use Rattle.raf_format.specs.declared.algorithm_id.AlgorithmId.{AlgorithmId}
use Rattle.raf_format.specs.declared.algorithm_id.AlgorithmId.TheVariants.{Aegis128L, Aegis128X2, Aegis128X4, Aegis256, Aegis256X2, Aegis256X4}
use Rattle.raf_format.specs.declared.version.Version.{Version}
use Rattle.raf_format.specs.declared.version.Version.TheVariants.{V1, V2}
use Rattle.raf_script.specs.Places.{text_of}
use Rattle.raf_script.specs.declared.script.Medium.{Medium}
use Rattle.raf_script.specs.declared.script.Medium.TheVariants.{Memory, Disk}
use Rattle.raf_script.specs.declared.script.Randomness.{Randomness}
use Rattle.raf_script.specs.declared.script.Randomness.TheVariants as source
use Rattle.raf_script.specs.declared.script.Settings.{Settings}
use Rattle.raf_script.specs.declared.script.Start.{Start}
use Rattle.raf_script.specs.declared.script.Start.TheVariants as start

-- A word spells a number below 2 ^ bits: its decimal digits, without leading zeros.
pub record SpellsNumber (bits : ℕ) (word : List ℕ) (n : ℕ) : Type 0 where
  pub digits : word ≡ decimal n
  pub small : n < 2 ^ bits

-- A word spells bytes: two hex digits a byte, of either case, or `-` for no bytes.
abbrev pub SpellsBytes : List ℕ → List ℕ → Type 0
SpellsBytes word [] = word ≡ codes "-"
SpellsBytes word (b ∷ bytes) = decode_of word ≡ Ok (b ∷ bytes)

abbrev pub name_of : AlgorithmId → List ℕ
name_of Aegis128L = codes "aegis128l"
name_of Aegis128X2 = codes "aegis128x2"
name_of Aegis128X4 = codes "aegis128x4"
name_of Aegis256 = codes "aegis256"
name_of Aegis256X2 = codes "aegis256x2"
name_of Aegis256X4 = codes "aegis256x4"

abbrev pub version_word : Version → List ℕ
version_word V1 = codes "1"
version_word V2 = codes "2"

-- line 1
abbrev pub SpellsAlgorithm : List (List ℕ) → AlgorithmId → Type 0
SpellsAlgorithm words a = words ≡ codes "alg" ∷ name_of a ∷ []

-- line 2, of the length that the algorithm asks
abbrev pub SpellsKey : AlgorithmId → List (List ℕ) → List ℕ → Type 0
SpellsKey a words key = (w : List ℕ) × (words ≡ codes "key" ∷ w ∷ []) × SpellsBytes w key × (length key ≡ key_len (variant_of a))

-- line 3: the random bytes themselves, or the seed of a generator
abbrev pub SpellsRandomness : List (List ℕ) → Randomness → Type 0
SpellsRandomness words (source.Random bytes) = (w : List ℕ) × (words ≡ codes "random" ∷ w ∷ []) × SpellsBytes w bytes
SpellsRandomness words (source.Seed seed) = (w : List ℕ) × (words ≡ codes "seed" ∷ w ∷ []) × SpellsBytes w seed × (length seed ≡ 32)

-- line 4: no tree, or one for at most so many chunks
abbrev pub SpellsTree : List (List ℕ) → Option ℕ → Type 0
SpellsTree words None = words ≡ codes "merkle" ∷ codes "none" ∷ []
SpellsTree words (Some most) = (w : List ℕ) × (words ≡ codes "merkle" ∷ codes "sha256" ∷ w ∷ []) × SpellsNumber 64 w most

-- a script says what its memory holds; of a disk it says nothing
abbrev pub MayHold : Medium → List ℕ → Type 0
MayHold Memory bytes = ⊤
MayHold Disk bytes = bytes ≡ []

-- line 5: what the storage holds, or the chunk size and the version of a new file; version 1 may be left out
abbrev pub SpellsStart : Medium → List (List ℕ) → Start → Type 0
SpellsStart medium words (start.Storage bytes) = (w : List ℕ) × (words ≡ codes "storage" ∷ w ∷ []) × SpellsBytes w bytes × MayHold medium bytes
SpellsStart medium words (start.Create size version) = (w : List ℕ) × SpellsNumber 32 w size
    × ((words ≡ codes "create" ∷ w ∷ version_word version ∷ []) ⊎ ((words ≡ codes "create" ∷ w ∷ []) × (version ≡ V1)))

-- A grammar of five lines of settings, and then a line an item; what a line of words spells as an item is left to it.
module _ {C : Type 0} (SpellsItem : List (List ℕ) → C → Type 0) (medium : Medium) where
  -- The text is five lines with these settings, over a storage of this kind, and then a line for each of these items.
  pub record SpellsLines (text : List ℕ) (s : Settings) (cs : List C) : Type 0 where
    pub algorithm_line : List (List ℕ)
    pub key_line : List (List ℕ)
    pub randomness_line : List (List ℕ)
    pub tree_line : List (List ℕ)
    pub start_line : List (List ℕ)
    pub item_lines : List (List (List ℕ))
    pub spelled : text ≡ text_of (algorithm_line ∷ key_line ∷ randomness_line ∷ tree_line ∷ start_line ∷ item_lines)
    pub algorithm : SpellsAlgorithm algorithm_line s.algorithm
    pub key : SpellsKey s.algorithm key_line s.key
    pub randomness : SpellsRandomness randomness_line s.randomness
    pub tree : SpellsTree tree_line s.max_chunks
    pub start : SpellsStart medium start_line s.start
    pub items : AllZip SpellsItem item_lines cs

  -- A line of words fits its place, which is after these lines. After the fifth line a text may end.
  abbrev pub FitsLines : List (List (List ℕ)) → List (List ℕ) → Type 0
  FitsLines [] words = (a : AlgorithmId) × SpellsAlgorithm words a
  FitsLines (alg ∷ []) words = (a : AlgorithmId) × (key : List ℕ) × SpellsAlgorithm alg a × SpellsKey a words key
  FitsLines (alg ∷ key ∷ []) words = (r : Randomness) × SpellsRandomness words r
  FitsLines (alg ∷ key ∷ random ∷ []) words = (most : Option ℕ) × SpellsTree words most
  FitsLines (alg ∷ key ∷ random ∷ tree ∷ []) words = (s : Start) × SpellsStart medium words s
  FitsLines (alg ∷ key ∷ random ∷ tree ∷ start ∷ more) words = (c : C) × SpellsItem words c
