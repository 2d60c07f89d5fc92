-- The round, column by column.
use Rattle.std.proofs.Common.{◌^◌, ◌<◌, ◌∙◌, rules}
use Rattle.std.proofs.lemmas.Nat.{xor_lt}
use Rattle.aes_spec.specs.Rounds.{RL}
use Rattle.softaes.proofs.TableRounds.{last_round}
use Rattle.softaes.proofs.unprotected.rounds.SoftAes.block_encrypt_last.Goals as goal

pub invariant_of-result : goal.invariant_of-result
invariant_of-result c =
    let m0 = c.last_column.result in
    let m1 = c.last_column-2.result in
    let m2 = c.last_column-3.result in
    let m3 = c.last_column-4.result in
    let k = c.rk.inside in
    let h = c.rk.invariant in
    let f0 : m0 < 2 ^ 32 = search rules in
    let f1 : m1 < 2 ^ 32 = search rules in
    let f2 : m2 < 2 ^ 32 = search rules in
    let f3 : m3 < 2 ^ 32 = search rules in
    (xor_lt 32 m0 k.c0 f0 h.0, xor_lt 32 m1 k.c1 f1 h.1, xor_lt 32 m2 k.c2 f2 h.2, xor_lt 32 m3 k.c3 f3 h.3)

pub returns : goal.returns
returns c =
    let x = c.block.inside in
    let k = c.rk.inside in
    last_round x.c0 x.c1 x.c2 x.c3 c.last_column.result c.last_column-2.result c.last_column-3.result c.last_column-4.result k.c0 k.c1 k.c2 k.c3
    c.last_column.ensures c.last_column-2.ensures c.last_column-3.ensures c.last_column-4.ensures
    ∙ (λ i. RL (c.block.view_is i) (c.rk.view_is i))
