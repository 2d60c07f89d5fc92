-- A file at a path of the host (this project's own).
use Rattle.std.specs.Prelude.{◌≡◌, ◌≢◌, Some, None}
use Rattle.std.specs.IoError.{error_kind}
use Rattle.std.specs.declared.io.Error.{Error as IoError}
use Rattle.std.specs.declared.io.ErrorKind.TheVariants as host
use Rattle.raf_io.specs.Kinds.{kind_of}
use Rattle.raf_io.specs.declared.errors.Error.{Error}
use Rattle.raf_io.specs.declared.errors.Error.TheVariants as error
use Rattle.raf_io.specs.declared.errors.ErrorKind.{ErrorKind}
use Rattle.raf_io.specs.declared.storage.RafIo.{Ghosts as IoGhosts}
use Rattle.raf_io.specs.declared.source.RafRng.{Ghosts as RngGhosts}
use Rattle.raf_os.specs.declared.file.FileIo.{FileIo}
use Rattle.raf.specs.Outside.{Outside, over_storage}
use Rattle.raf.specs.Opening.{Settings, IsNewBuilder}
use Rattle.raf.specs.declared.paths.PathError.{PathError}

-- a storage and a random source tell and count this
pub record Shows {I R : Type 0} (io : IoGhosts I) (rng : RngGhosts R) (i : I) (r : R) (o : Outside) : Type 0 where
  pub bytes : o.bytes ≡ io.bytes i
  pub durable : o.durable ≡ io.durable i
  pub io_faults : o.io_faults ≡ io.faults i
  pub reach : o.reach ≡ io.reach i
  pub traffic : o.traffic ≡ io.traffic i
  pub changes : o.changes ≡ io.changes i
  pub strays : o.strays ≡ io.strays i
  pub left_is : o.left ≡ rng.left r
  pub rng_faults : o.rng_faults ≡ rng.faults r
  pub asked : o.asked ≡ rng.asked r

-- this is so of a new builder with this random source, beside a storage that tells nothing and of which nothing was asked
abbrev pub FromNew : {R : Type 0} → RngGhosts R → R → (Settings → Outside → Type 0) → Type 0
FromNew rng r P = (s : Settings) × IsNewBuilder (rng.left r) (rng.faults r) (rng.asked r) rng.exact s
    × P s (over_storage None None 0 0 0 0 0 s.outside)

-- the host opened no file: `NotFound` exactly where its error is of the kind that says so, and else that error itself
pub record IsOfHost (fault : IoError) (e : Error) : Type 0 where
  pub missing : error_kind fault ≡ host.NotFound → e ≡ error.NotFound
  pub other : error_kind fault ≢ host.NotFound → e ≡ error.Io fault

module _ {R : Type 0} (io : IoGhosts FileIo) (rng : RngGhosts R) where
  -- a refusal at a path: no file was opened, and the random source is as it was; or one was, and this is so of a new builder, as above, of
  -- what file and source show now, and of the refusal's kind
  abbrev pub RefusedAt : R → (Settings → Outside → Outside → ErrorKind → Type 0) → PathError R → Type 0
  RefusedAt r P e = elim e.io [
    | None ↦ ((fault : IoError) × IsOfHost fault e.error) × (e.rng ≡ r)
    | Some file ↦ (o : Outside) × Shows io rng file e.rng o × FromNew rng r (λ s old. P s old o (kind_of e.error))
  ]
