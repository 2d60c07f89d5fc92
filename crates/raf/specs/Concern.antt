-- What a command concerns: the size afterwards, the chunks that it needs, and those that it touches; and whether it is valid (this project's own).
use Rattle.std.specs.Prelude.{ℕ, zero, suc, ◌+◌, ◌*◌, ◌^◌, min, Bool, true, false, ◌&&◌, ◌||◌, not, if◌then◌else◌, nat_lt, nat_le, List}
use Rattle.std.specs.Prelude.{[], ◌∷◌, length, Option, Some, None, is_some}
use Rattle.raf_format.specs.File.{File, chunk_count, chunk_len, layout_len}
use Rattle.raf.specs.Change.{Change, change_of}
use Rattle.raf.specs.declared.command.Command.{Command}
use Rattle.raf.specs.declared.command.Command.TheVariants as command

-- the chunk from start on, of this length, has a position of the range. An empty range meets no chunk
abbrev pub meets : ℕ → ℕ → ℕ → ℕ → Bool
meets start len from end = nat_lt from end && nat_lt start end && nat_lt from (start + len)

-- a read of at most len bytes from an offset on: the range is clipped at the size
abbrev pub is_read : File → ℕ → ℕ → ℕ → Bool
is_read F offset len index = meets (index * F.shape.chunk_size) F.shape.chunk_size offset (min (offset + len) F.size)

module _ (F : File) (K : Change) where
  -- the chunks of the new file that meet the range
  abbrev pub is_touched : ℕ → Bool
  is_touched index = meets (index * F.shape.chunk_size) (chunk_len F.shape.chunk_size K.size index) K.from K.end

  -- those of them with a position below both sizes that the data doesn't cover
  abbrev pub is_needed : ℕ → Bool
  is_needed index =
      let start = index * F.shape.chunk_size in
      let stop = min (start + F.shape.chunk_size) (min F.size K.size) in
      is_touched index && nat_lt start stop && not (nat_le K.offset start && nat_le stop (K.offset + length K.bytes))

-- the size afterwards
abbrev pub size_after : File → Command → ℕ
size_after F c = elim (change_of F c) [ None ↦ F.size | Some K ↦ K.size ]

-- the chunks of the new file whose bytes change
abbrev pub touched : File → Command → ℕ → Bool
touched F c index = elim (change_of F c) [ None ↦ false | Some K ↦ is_touched F K index ]

-- the chunks whose old bytes are read or stay in part
abbrev pub needed : File → Command → ℕ → Bool
needed F (command.Read offset len) index = is_read F offset len index
needed F c index = elim (change_of F c) [ None ↦ false | Some K ↦ is_needed F K index ]

-- each chunk that passes the test is there
abbrev pub none_missing : (ℕ → Bool) → ℕ → List (Option (List ℕ)) → Bool
none_missing test index [] = true
none_missing test index (c ∷ chunks) = (not (test index) || is_some c) && none_missing test (index + 1) chunks

-- a limit is the most chunks that a file may have. A hasher sets one, and without a hasher there is none
abbrev pub within : Option ℕ → ℕ → Bool
within None count = true
within (Some most) count = nat_le count most

-- the file can have this size: the new length of the storage, and with it the size and the data's end, is below 2^64, and the new count
-- of chunks is within the limit
abbrev pub can_have : Option ℕ → File → ℕ → Bool
can_have limit F size = nat_lt (layout_len F.shape size) (2 ^ 64) && within limit (chunk_count F.shape.chunk_size size)

-- the numbers of a change fit
abbrev pub fits : Option ℕ → File → Command → Bool
fits limit F c = elim (change_of F c) [ None ↦ true | Some K ↦ can_have limit F K.size ]

-- it asks for the hasher's tree
abbrev pub is_merkle : Command → Bool
is_merkle command.Rebuild = true
is_merkle command.Verify = true
is_merkle command.Commitment = true
is_merkle _ = false

-- the command is valid: its numbers fit, no chunk that it needs is missing, and where it asks for the tree there is a limit, that is,
-- a hasher
abbrev pub valid : Option ℕ → File → Command → Bool
valid limit F c = fits limit F c && none_missing (needed F c) 0 F.chunks && (not (is_merkle c) || is_some limit)

-- the sum of what stands at the indexes that pass the test, from one on, this many
abbrev pub sum_where : (ℕ → Bool) → (ℕ → ℕ) → ℕ → ℕ → ℕ
sum_where test f index zero = 0
sum_where test f index (suc n) = (if test index then f index else 0) + sum_where test f (index + 1) n
