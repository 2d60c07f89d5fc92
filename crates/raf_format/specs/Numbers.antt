-- The numbers of algorithms by name (this project's own).
use Rattle.std.specs.Prelude.{ℕ}
use Rattle.aegis_core.specs.declared.variant.Variant.{Variant}
use Rattle.aegis_core.specs.declared.variant.Variant.TheVariants as variant
use Rattle.raf_format.specs.Cipher.{id_of}
use Rattle.raf_format.specs.declared.algorithm_id.AlgorithmId.{AlgorithmId}
use Rattle.raf_format.specs.declared.algorithm_id.AlgorithmId.TheVariants.{Aegis128L, Aegis128X2, Aegis128X4, Aegis256, Aegis256X2, Aegis256X4}

-- the cipher of the same name
abbrev pub variant_of : AlgorithmId → Variant
variant_of Aegis128L = variant.Aegis128L
variant_of Aegis128X2 = variant.Aegis128X2
variant_of Aegis128X4 = variant.Aegis128X4
variant_of Aegis256 = variant.Aegis256
variant_of Aegis256X2 = variant.Aegis256X2
variant_of Aegis256X4 = variant.Aegis256X4

-- its number in a header
abbrev pub number_of : AlgorithmId → ℕ
number_of a = id_of (variant_of a)
