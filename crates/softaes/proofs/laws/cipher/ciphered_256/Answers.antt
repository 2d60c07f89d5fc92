-- All rounds under the expanded key.
use Rattle.std.proofs.Common.{◌∙◌}
use Rattle.aes_spec.specs.Cipher.{cipher, with_rounds}
use Rattle.aes_spec.specs.Rounds.{R, RL}
use Rattle.softaes.proofs.laws.cipher.ciphered_256.Goals as goal

pub returns : goal.returns
unfolding cipher
returns c =
    c.to_bytes.ensures ∙ c.encrypted.ensures
    ∙ (λ i. with_rounds R RL (c.key_expansion_256.ensures i) (c.from_bytes.ensures i))
