-- The versions of the layout (this project's own).
use Rattle.std.specs.Prelude.{◌≡◌, ◌⊎◌, ℕ, if◌then◌else◌, nat_eq}
use Rattle.raf_format.specs.declared.version.Version.{Version}
use Rattle.raf_format.specs.declared.version.Version.TheVariants.{V1, V2}

-- the number of a version in a header
abbrev pub version_number : Version → ℕ
version_number V1 = 1
version_number V2 = 2

abbrev pub IsVersion : ℕ → Type 0
IsVersion n = (n ≡ 1) ⊎ (n ≡ 2)

-- how many bytes the tag of a record has: 16 in version 1, 32 in version 2
unfoldable pub tag_len_of : ℕ → ℕ
tag_len_of version = if nat_eq version 2 then 32 else 16
