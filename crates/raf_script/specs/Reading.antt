-- How a text is read, line by line: its content, or the number of the first wrong line (this project's own).
use Rattle.std.specs.Prelude.{◌≡◌, ◌∷◌, [], ℕ, ◌+◌, Bool, true, false, List, length, codes, Option, Some, None, Result, Ok, Err, if◌then◌else◌, ◌==◌, bytes_eq, ◌<◌}
use Rattle.raf.specs.declared.command.Command.{Command}
use Rattle.raf.specs.declared.command.Command.TheVariants.{Read, Write, Truncate, Size, Sync, Rebuild, Verify, Commitment}
use Rattle.raf_log.specs.declared.command.LogCommand.{LogCommand}
use Rattle.raf_log.specs.declared.command.LogCommand.TheVariants as log
use Rattle.aegis_core.specs.Sealing.{key_len}
use Rattle.raf_format.specs.Numbers.{variant_of}
use Rattle.raf_format.specs.declared.algorithm_id.AlgorithmId.{AlgorithmId}
use Rattle.raf_format.specs.declared.algorithm_id.AlgorithmId.TheVariants.{Aegis128L, Aegis128X2, Aegis128X4, Aegis256, Aegis256X2, Aegis256X4}
use Rattle.raf_format.specs.declared.version.Version.{Version}
use Rattle.raf_format.specs.declared.version.Version.TheVariants.{V1, V2}
use Rattle.raf_script.specs.Words.{words, number, hex_bytes}
use Rattle.raf_script.specs.Lines.{◌>>=◌, fits, first, lines}
use Rattle.raf_script.specs.declared.script.Medium.{Medium}
use Rattle.raf_script.specs.declared.script.Medium.TheVariants.{Memory, Disk}
use Rattle.raf_script.specs.declared.script.Randomness.{Randomness}
use Rattle.raf_script.specs.declared.script.Randomness.TheVariants.{Random, Seed}
use Rattle.raf_script.specs.declared.script.Start.{Start}
use Rattle.raf_script.specs.declared.script.Start.TheVariants.{Storage, Create}
use Rattle.raf_script.specs.declared.script.Settings.{Settings}
use Rattle.raf_script.specs.declared.conversion.Conversion.{Conversion}
use Rattle.raf_script.specs.declared.words.LineWords.{LineWords}
use Rattle.raf_script.specs.declared.words.LineWords.TheVariants as counts

-- the words of a line, as the program holds them
abbrev pub AreWords : LineWords → List (List ℕ) → Type 0
AreWords (counts.One a) ws = ws ≡ a.now ∷ []
AreWords (counts.Two a b) ws = ws ≡ a.now ∷ b.now ∷ []
AreWords (counts.Three a b c) ws = ws ≡ a.now ∷ b.now ∷ c.now ∷ []
AreWords counts.More ws = 3 < length ws

-- `size`, `sync`, `rebuild`, `verify`, `commitment`
unfoldable pub plain_command : ℕ → List ℕ → Result Command ℕ
plain_command n word =
    if bytes_eq word (codes "size") then Ok Size
    else if bytes_eq word (codes "sync") then Ok Sync
    else if bytes_eq word (codes "rebuild") then Ok Rebuild
    else if bytes_eq word (codes "verify") then Ok Verify
    else if bytes_eq word (codes "commitment") then Ok Commitment
    else Err n

-- `truncate <size>`
unfoldable pub truncate_command : ℕ → List ℕ → List ℕ → Result Command ℕ
truncate_command n word size = if bytes_eq word (codes "truncate") then (do
  z ← fits n (number 64 size)
  Ok (Truncate z)) else Err n

-- `read <offset> <len>`, `write <offset> <hex>`
unfoldable pub range_command : ℕ → List ℕ → List ℕ → List ℕ → Result Command ℕ
range_command n word offset rest =
    if bytes_eq word (codes "read") then (do
      o ← fits n (number 64 offset)
      l ← fits n (number 64 rest)
      Ok (Read o l))
    else if bytes_eq word (codes "write") then (do
      o ← fits n (number 64 offset)
      b ← fits n (hex_bytes rest)
      Ok (Write o b))
    else Err n

abbrev pub command_words : ℕ → List (List ℕ) → Result Command ℕ
command_words n (word ∷ []) = plain_command n word
command_words n (word ∷ a ∷ []) = truncate_command n word a
command_words n (word ∷ a ∷ b ∷ []) = range_command n word a b
command_words n [] = Err n
command_words n (word ∷ a ∷ b ∷ c ∷ more) = Err n

-- `count`, `commitment`
unfoldable pub plain_log_command : ℕ → List ℕ → Result LogCommand ℕ
plain_log_command n word =
    if bytes_eq word (codes "count") then Ok log.Count
    else if bytes_eq word (codes "commitment") then Ok log.Commitment
    else Err n

-- `append <hex>`, `get <index>`
unfoldable pub entry_command : ℕ → List ℕ → List ℕ → Result LogCommand ℕ
entry_command n word rest =
    if bytes_eq word (codes "append") then (do
      b ← fits n (hex_bytes rest)
      Ok (log.Append b))
    else if bytes_eq word (codes "get") then (do
      i ← fits n (number 64 rest)
      Ok (log.Get i))
    else Err n

abbrev pub log_command_words : ℕ → List (List ℕ) → Result LogCommand ℕ
log_command_words n (word ∷ []) = plain_log_command n word
log_command_words n (word ∷ a ∷ []) = entry_command n word a
log_command_words n [] = Err n
log_command_words n (word ∷ a ∷ b ∷ more) = Err n

-- an item a line, from line n on
unfoldable pub items : {C : Type 0} → (ℕ → List (List ℕ) → Result C ℕ) → ℕ → List (Option (List ℕ)) → Result (List C) ℕ
items item n [] = Ok []
items item n (None ∷ more) = Err n
items item n (Some line ∷ more) = do
  c ← item n (words line)
  cs ← items item (n + 1) more
  Ok (c ∷ cs)

-- the argument of a line of two words that begins with this name
abbrev pub argument_of : ℕ → List ℕ → List (List ℕ) → Result (List ℕ) ℕ
argument_of n name (word ∷ value ∷ []) = if bytes_eq word name then Ok value else Err n
argument_of n name [] = Err n
argument_of n name (word ∷ []) = Err n
argument_of n name (word ∷ a ∷ b ∷ more) = Err n

unfoldable pub argument : ℕ → List ℕ → List (List ℕ) → Result (List ℕ) ℕ
argument n name ws = argument_of n name ws

unfoldable pub algorithm_named : ℕ → List ℕ → Result AlgorithmId ℕ
algorithm_named n name =
    if bytes_eq name (codes "aegis128l") then Ok Aegis128L
    else if bytes_eq name (codes "aegis128x2") then Ok Aegis128X2
    else if bytes_eq name (codes "aegis128x4") then Ok Aegis128X4
    else if bytes_eq name (codes "aegis256") then Ok Aegis256
    else if bytes_eq name (codes "aegis256x2") then Ok Aegis256X2
    else if bytes_eq name (codes "aegis256x4") then Ok Aegis256X4
    else Err n

-- line 1: `alg <name>`
unfoldable pub algorithm_words : ℕ → List (List ℕ) → Result AlgorithmId ℕ
algorithm_words n ws = do
  name ← argument n (codes "alg") ws
  algorithm_named n name

-- line 2: `key <hex>` of the algorithm's length
unfoldable pub key_words : ℕ → AlgorithmId → List (List ℕ) → Result (List ℕ) ℕ
key_words n algorithm ws = do
  text ← argument n (codes "key") ws
  key ← fits n (hex_bytes text)
  if length key == key_len (variant_of algorithm) then Ok key else Err n

-- line 3: `random <hex>`, or `seed <hex>` of 32 bytes
abbrev pub randomness_words : ℕ → List (List ℕ) → Result Randomness ℕ
randomness_words n (word ∷ text ∷ []) =
    if bytes_eq word (codes "random") then (do
      bytes ← fits n (hex_bytes text)
      Ok (Random bytes))
    else if bytes_eq word (codes "seed") then (do
      bytes ← fits n (hex_bytes text)
      if length bytes == 32 then Ok (Seed bytes) else Err n)
    else Err n
randomness_words n [] = Err n
randomness_words n (word ∷ []) = Err n
randomness_words n (word ∷ a ∷ b ∷ more) = Err n

-- line 4: `merkle none`, or `merkle sha256 <max>`
abbrev pub tree_words : ℕ → List (List ℕ) → Result (Option ℕ) ℕ
tree_words n (word ∷ a ∷ []) = if bytes_eq word (codes "merkle") then (if bytes_eq a (codes "none") then Ok None else Err n) else Err n
tree_words n (word ∷ a ∷ most ∷ []) = if bytes_eq word (codes "merkle") then (if bytes_eq a (codes "sha256") then (do
  m ← fits n (number 64 most)
  Ok (Some m)) else Err n) else Err n
tree_words n [] = Err n
tree_words n (word ∷ []) = Err n
tree_words n (word ∷ a ∷ b ∷ c ∷ more) = Err n

-- `1` or `2`
abbrev pub version_named : List ℕ → Option Version
version_named word = if bytes_eq word (codes "1") then Some V1 else if bytes_eq word (codes "2") then Some V2 else None

-- a script says what its memory holds; of a disk it says nothing
abbrev pub may_hold : Medium → List ℕ → Bool
may_hold Memory bytes = true
may_hold Disk bytes = length bytes == 0

-- line 5: `storage <hex>`, for a disk `storage -` alone; `create <chunk size>`, or `create <chunk size> <version>`
abbrev pub start_words : ℕ → Medium → List (List ℕ) → Result Start ℕ
start_words n medium (word ∷ text ∷ []) =
    if bytes_eq word (codes "storage") then (do
      bytes ← fits n (hex_bytes text)
      if may_hold medium bytes then Ok (Storage bytes) else Err n)
    else if bytes_eq word (codes "create") then (do
      size ← fits n (number 32 text)
      Ok (Create size V1))
    else Err n
start_words n medium (word ∷ text ∷ name ∷ []) = if bytes_eq word (codes "create") then (do
  size ← fits n (number 32 text)
  version ← fits n (version_named name)
  Ok (Create size version)) else Err n
start_words n medium [] = Err n
start_words n medium (word ∷ []) = Err n
start_words n medium (word ∷ a ∷ b ∷ c ∷ more) = Err n

-- lines 1 to 5, and the lines after them
unfoldable pub settings : Medium → List ℕ → Result (Settings × List (Option (List ℕ))) ℕ
settings medium text = do
  l1 ← first 1 (lines text)
  algorithm ← algorithm_words 1 (words l1.0)
  l2 ← first 2 l1.1
  key ← key_words 2 algorithm (words l2.0)
  l3 ← first 3 l2.1
  randomness ← randomness_words 3 (words l3.0)
  l4 ← first 4 l3.1
  tree ← tree_words 4 (words l4.0)
  l5 ← first 5 l4.1
  start ← start_words 5 medium (words l5.0)
  Ok (record { algorithm = algorithm; key = key; randomness = randomness; max_chunks = tree; start = start }, l5.1)

-- lines 1 to 5, and then an item a line
abbrev pub whole : {C : Type 0} → (ℕ → List (List ℕ) → Result C ℕ) → Medium → List ℕ → Result (Settings × List C) ℕ
whole item medium text = do
  s ← settings medium text
  cs ← items item 6 s.1
  Ok (s.0, cs)

-- lines 3 and 6 of a conversion: bytes after a name
unfoldable pub bytes_words : ℕ → List ℕ → List (List ℕ) → Result (List ℕ) ℕ
bytes_words n name ws = do
  text ← argument n name ws
  fits n (hex_bytes text)

-- line 7 of a conversion: `create <chunk size> <version>`
abbrev pub create_words : ℕ → List (List ℕ) → Result (ℕ × Version) ℕ
create_words n (word ∷ text ∷ name ∷ []) = if bytes_eq word (codes "create") then (do
  size ← fits n (number 32 text)
  version ← fits n (version_named name)
  Ok (size, version)) else Err n
create_words n [] = Err n
create_words n (word ∷ []) = Err n
create_words n (word ∷ a ∷ []) = Err n
create_words n (word ∷ a ∷ b ∷ c ∷ more) = Err n

-- no line is left
abbrev pub is_end : List (Option (List ℕ)) → Bool
is_end [] = true
is_end (l ∷ more) = false

unfoldable pub conversion : List ℕ → Result Conversion ℕ
conversion text = do
  l1 ← first 1 (lines text)
  old_algorithm ← algorithm_words 1 (words l1.0)
  l2 ← first 2 l1.1
  old_key ← key_words 2 old_algorithm (words l2.0)
  l3 ← first 3 l2.1
  storage ← bytes_words 3 (codes "storage") (words l3.0)
  l4 ← first 4 l3.1
  algorithm ← algorithm_words 4 (words l4.0)
  l5 ← first 5 l4.1
  key ← key_words 5 algorithm (words l5.0)
  l6 ← first 6 l5.1
  random ← bytes_words 6 (codes "random") (words l6.0)
  l7 ← first 7 l6.1
  create ← create_words 7 (words l7.0)
  if is_end l7.1 then Ok (record {
    old_algorithm = old_algorithm;
    old_key = old_key;
    storage = storage;
    algorithm = algorithm;
    key = key;
    random = random;
    chunk_size = create.0;
    version = create.1;
  }) else Err 8
