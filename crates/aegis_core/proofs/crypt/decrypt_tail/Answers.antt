use Rattle.std.proofs.Common.{◌≤◌, ℕ, List, ap, ◌∙◌, arith}
use Rattle.std.proofs.lemmas.List.{length-take-le}
use Rattle.aes_spec.specs.Bytes.{xor_bytes}
use Rattle.aegis_core.proofs.LoopLemmas.{xor_front}
use Rattle.aegis_core.proofs.crypt.decrypt_tail.Goals as goal

pub returns-clause-text : goal.returns-clause-text
returns-clause-text g c =
    let le : c.rate-rate.result ≤ 128 = c.rate-rate.ensures.most in
    let a = c.keystream.auto in
    xor_front c.args.text.now _ c.keystream.new.out _ c.rate-rate.result c.xor_into.ensures (omega (arith, c.keystream.auto.out, length-take-le {A = ℕ})) ∙ ap (λ (v : List ℕ). xor_bytes c.args.text.now v) c.keystream.ensures
