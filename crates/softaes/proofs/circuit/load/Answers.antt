-- The swapped words by their bit places.
use Rattle.std.proofs.Common.{◌≡◌, ℕ, ◌+◌, ◌*◌, ◌^◌, ◌<◌, List, ◌∙◌, arith, refl, rules}
use Rattle.aes_spec.specs.Planes.{byte_at}
use Rattle.aes_spec.proofs.Circuits.{value}
use Rattle.softaes.proofs.LoadStore.{planes_of, planes_fit, load_low, load_high, load_rest}
use Rattle.softaes.proofs.SamePlanes.{same_at, same_planes}
use Rattle.softaes.proofs.Swapped.{two, low_word, high_word, low_is, high_is}
use Rattle.softaes.proofs.circuit.load.Goals as goal

pub returns-clause-placed : goal.returns-clause-placed
returns-clause-placed c =
    let lo = c.args.lo in
    let hi = c.args.hi in
    let hl : lo < 2 ^ 64 = omega arith in
    let hh : hi < 2 ^ 64 = omega arith in
    let r = c.swap_index_bits_6_2-low in
    let fits0 : r.result.0 < 2 ^ 64 = search rules in
    let fits1 : r.result.1 < 2 ^ 64 = search rules in
    let el : r.result.0 ≡ value (two lo hi) low_word = low_is lo hi hl hh r.result.0 fits0 r.ensures.low in
    let eh : r.result.1 ≡ value (two lo hi) high_word = high_is lo hi hl hh r.result.1 fits1 r.ensures.high in
    record {
      low = λ k hk. (λ i. byte_at (planes_of (el i) (eh i)) (8 * k)) ∙ load_low lo hi hl hh k hk;
      high = λ k hk. (λ i. byte_at (planes_of (el i) (eh i)) (8 * k + 4)) ∙ load_high lo hi hl hh k hk;
    }

pub returns-clause-rest : goal.returns-clause-rest
returns-clause-rest c =
    let lo = c.args.lo in
    let hi = c.args.hi in
    let hl : lo < 2 ^ 64 = omega arith in
    let hh : hi < 2 ^ 64 = omega arith in
    let r = c.swap_index_bits_6_2-low in
    let fits0 : r.result.0 < 2 ^ 64 = search rules in
    let fits1 : r.result.1 < 2 ^ 64 = search rules in
    let el : r.result.0 ≡ value (two lo hi) low_word = low_is lo hi hl hh r.result.0 fits0 r.ensures.low in
    let eh : r.result.1 ≡ value (two lo hi) high_word = high_is lo hi hl hh r.result.1 fits1 r.ensures.high in
    record { zero_at = λ k hk other. (λ i. byte_at (planes_of (el i) (eh i)) k) ∙ load_rest lo hi hl hh k hk other }

pub returns-clause-only : goal.returns-clause-only
returns-clause-only c p long fits placed rest =
    let r = c.swap_index_bits_6_2-low in
    let fits0 : r.result.0 < 2 ^ 64 = search rules in
    let fits1 : r.result.1 < 2 ^ 64 = search rules in
    let q : List ℕ = planes_of r.result.0 r.result.1 in
    same_planes q p refl long (planes_fit r.result.0 r.result.1 fits0 fits1) fits
    (same_at q p c.args.lo c.args.hi (returns-clause-placed c) (returns-clause-rest c) placed rest)
