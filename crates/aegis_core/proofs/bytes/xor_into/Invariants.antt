use Rattle.std.proofs.Common.{◌≡◌, take}
use Rattle.aes_spec.specs.Bytes.{xor_bytes}
use Rattle.aegis_core.proofs.bytes.xor_into.Given as goal

abbrev pub invariant-bytes : goal.invariant-bytes
invariant-bytes l = l.out ≡ xor_bytes l.initial.out (take l.i l.keystream)
