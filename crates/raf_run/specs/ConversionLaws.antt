-- What holds of conversions: the first cause that refuses one, and what it leaves where there is none (this project's own).
use Rattle.std.specs.Prelude.{◌≡◌, ◌⊎◌, ◌≢◌, [], ℕ, zero, suc, ◌+◌, ◌-◌, ◌*◌, min, Bool, true, false, not, ◌&&◌, if◌then◌else◌, nat_lt, nat_le, List, length, take, Option, Some, None, Ok}
use Rattle.raf_format.specs.File.{File, Opens, shape_of, chunk_count, chunk_len}
use Rattle.raf_format.specs.Version.{version_number}
use Rattle.raf_format.specs.declared.header.Header.{Header}
use Rattle.raf_io.specs.declared.errors.ErrorKind.{ErrorKind}
use Rattle.raf_io.specs.declared.errors.ErrorKind.TheVariants.{Io, AuthenticationFailed, Overflow, Rng, OutOfMemory, InvalidArgument}
use Rattle.raf_io.specs.declared.errors.Reason.TheVariants.{ChunkSize}
use Rattle.raf.specs.Concern.{can_have, needed, meets, none_missing, sum_where}
use Rattle.raf.specs.Converted.{HasBytes}
use Rattle.raf.specs.Handle.{outline}
use Rattle.raf.specs.Opening.{WhyNotOpened}
use Rattle.raf.specs.declared.command.Command.TheVariants.{Read}
use Rattle.raf_script.specs.declared.conversion.Conversion.{Conversion}
use Rattle.raf_run.specs.Answers.{memory_status}
use Rattle.raf_run.specs.Text.{end_text}
use Rattle.raf_run.specs.Conversions.{EndsConverted, RefusedBy, piece_len, old_ground, new_ground}
use Rattle.raf_run.specs.declared.answer.End.{End}

-- in memory, none of whose calls is to fail, these are want of memory
abbrev pub is_want : ErrorKind → Bool
is_want OutOfMemory = true
is_want Io = true
is_want _ = false

-- the random bytes that a write asks which puts so many bytes at the end of a file: a nonce for each chunk that it touches
abbrev pub asked_at : ℕ → ℕ → ℕ → ℕ → ℕ
asked_at nonce_len chunk_size end len =
    sum_where (λ i. meets (i * chunk_size) (chunk_len chunk_size (end + len) i) end (end + len)) (λ _. nonce_len) 0
    (chunk_count chunk_size (end + len))

-- The first cause among n pieces of a file, from an offset on, that are moved to a file with such nonces and chunks while so many random
-- bytes are left: a chunk that the piece meets is missing, or fewer random bytes are left than its write asks.
abbrev pub piece_refusal : ℕ → ℕ → File → ℕ → ℕ → ℕ → Option ErrorKind
piece_refusal nonce_len chunk_size F zero offset left = None
piece_refusal nonce_len chunk_size F (suc n) offset left =
    let len = min piece_len (F.size - offset) in
    let asked = asked_at nonce_len chunk_size offset len in
    if not (none_missing (needed F (Read offset len)) 0 F.chunks) then Some AuthenticationFailed
    else if nat_lt left asked then Some Rng
    else piece_refusal nonce_len chunk_size F n (offset + len) (left - asked)

module _ (c : Conversion) where
  -- the header of the new file, under the id that stood in front of the random bytes
  abbrev pub header_of : Header
  header_of = record {
    version = version_number c.version;
    algorithm = (new_ground c).cipher.id;
    chunk_size = c.chunk_size;
    file_size = 0;
    id = take 32 c.random;
  }

  -- The first cause that stands between the open old file and the whole new one: a chunk size that is none; too few random bytes for the
  -- id; a size that the new file can't have; and then the pieces' causes.
  abbrev pub refusal : File → Option ErrorKind
  refusal F =
      if not (nat_le 16 c.chunk_size && nat_le c.chunk_size 1048576) then Some (InvalidArgument ChunkSize)
      else if nat_lt (length c.random) 32 then Some Rng
      else if not (can_have None (outline (new_ground c).cipher header_of) F.size) then Some Overflow
      else piece_refusal (new_ground c).cipher.nonce_len c.chunk_size F (chunk_count piece_len F.size) 0 (length c.random - 32)

  -- why the old file isn't opened
  abbrev pub Unopened : ErrorKind → Type 0
  Unopened kind = (is_want kind ≡ false)
      × WhyNotOpened (old_ground c).cipher (old_ground c).answers c.old_key None None c.storage kind

  -- The first cause that refuses the conversion, or that there is none. Want of memory is no cause.
  abbrev pub Verdict : Option ErrorKind → Type 0
  Verdict v = ((kind : ErrorKind) × Unopened kind × (v ≡ Some kind))
      ⊎ ((F : File) × Opens (old_ground c).cipher c.old_key c.storage F × (v ≡ refusal F))

  -- The new storage opens, under the second key, to the old file's bytes, by the numbers that were asked and the id that stood in front
  -- of the random bytes.
  pub record IsWhole (storage : List ℕ) : Type 0 where
    pub old : File
    pub opens_old : Opens (old_ground c).cipher c.old_key c.storage old
    pub new : File
    pub opens_new : Opens (new_ground c).cipher c.key storage new
    pub bytes : List ℕ
    pub has_old : HasBytes old bytes
    pub has_new : HasBytes new bytes
    pub shape : new.shape ≡ shape_of (new_ground c).cipher header_of
    pub id : new.id ≡ take 32 c.random

  -- what a verdict makes of a conversion: without a cause it is whole, and else it is refused by the cause
  abbrev pub Follows : Option ErrorKind → End → Type 0
  Follows None end = (memory_status end.outcome ≡ 0) × (end.outcome ≡ Ok []) × IsWhole end.storage
  Follows (Some kind) end = (memory_status end.outcome ≡ 3) × RefusedBy kind end

-- a conversion ends as its verdict says, or with status 7 for want of memory
abbrev pub Converts : Type 0
Converts = (c : Conversion) (end : End) → EndsConverted c end
    → (memory_status end.outcome ≡ 7) ⊎ ((v : Option ErrorKind) × Verdict c v × Follows c v end)

-- and there is one verdict alone
abbrev pub OneVerdict : Type 0
OneVerdict = (c : Conversion) (v w : Option ErrorKind) → Verdict c v → Verdict c w → v ≡ w

-- So what is written of a conversion is one function of its content, with status 3 too, be it that random bytes lack within a piece.
abbrev pub OneConversion : Type 0
OneConversion = (c : Conversion) (e f : End) → EndsConverted c e → EndsConverted c f
    → memory_status e.outcome ≢ 7 → memory_status f.outcome ≢ 7
    → (memory_status e.outcome ≡ memory_status f.outcome) × (end_text e ≡ end_text f)
