-- The rounds so far, under the keys after the first.
use Rattle.std.proofs.Common.{◌≡◌, ◌-◌, [], get_or, take, drop}
use Rattle.std.specs.Prelude.{fold}
use Rattle.aes_spec.specs.Bytes.{xor_bytes}
use Rattle.aes_spec.specs.Rounds.{IR}
use Rattle.softaes.proofs.laws.cipher.decrypted.Given as goal

abbrev pub invariant-rounds : goal.invariant-rounds
invariant-rounds l = l.state ≡ fold IR (xor_bytes l.block (get_or l.keys 0 [])) (take (l.j - 1) (drop 1 l.keys))
