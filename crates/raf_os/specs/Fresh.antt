-- A storage of which nothing was asked (this project's own).
use Rattle.std.specs.Prelude.{◌≡◌}
use Rattle.raf_os.specs.declared.file.FileIo.{FileIo}

-- all counts are at 0
pub record IsFresh (f : FileIo) : Type 0 where
  pub faults : f.faults ≡ 0
  pub reach : f.reach ≡ 0
  pub traffic : f.traffic ≡ 0
  pub changes : f.changes ≡ 0
