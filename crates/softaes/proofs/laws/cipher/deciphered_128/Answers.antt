-- All inverse rounds under the inverse keys, which undo the rounds.
use Rattle.std.proofs.Common.{◌∙◌, ap, arith}
use Rattle.aes_spec.specs.Cipher.{decipher, with_rounds}
use Rattle.aes_spec.specs.KeySchedule.{inverse_keys}
use Rattle.aes_spec.specs.Rounds.{IR, IRL}
use Rattle.aes_spec.proofs.Deciphered.{deciphered}
use Rattle.softaes.proofs.laws.cipher.deciphered_128.Goals as goal

pub returns-clause-value : goal.returns-clause-value
unfolding decipher
returns-clause-value c =
    c.to_bytes.ensures ∙ c.decrypted.ensures
    ∙ (λ i. with_rounds IR IRL ((c.inverse_key_schedule_128-keys.ensures ∙ ap inverse_keys c.key_expansion_128.ensures) i) (c.from_bytes.ensures i))

pub returns-clause-back : goal.returns-clause-back
returns-clause-back c m long small e =
    returns-clause-value c ∙ ap (decipher c.args.key.now) e
    ∙ deciphered c.args.key.now m (omega (arith, c.told-key)) c.fits-key (record { long = long; small = small })
