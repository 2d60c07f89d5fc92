-- The stored words by the bit places of the planes.
use Rattle.std.proofs.Common.{◌≡◌, ◌*◌, ◌^◌, ◌<◌, ◌∙◌, ap, sym, rules, slice_index, add-zero}
use Rattle.aes_spec.specs.Planes.{byte_at}
use Rattle.aes_spec.specs.Words.{word_byte}
use Rattle.aes_spec.proofs.BitPlaces.{value-lt}
use Rattle.aes_spec.proofs.Circuits.{value}
use Rattle.softaes.proofs.Back.{same_from_bytes}
use Rattle.softaes.proofs.LoadStore.{lower, upper, stored_low, stored_high, store_low, store_high}
use Rattle.softaes.proofs.Swapped.{low_is, high_is}
use Rattle.softaes.proofs.circuit.store.Goals as goal

pub returns-clause-placed : goal.returns-clause-placed
returns-clause-placed c =
    let p = c.args.p.now in
    let r = c.swap_index_bits_6_2 in
    let fits0 : r.result.0 < 2 ^ 64 = search rules in
    let fits1 : r.result.1 < 2 ^ 64 = search rules in
    let lower_fits = value-lt (slice_index p) c.fits-p lower in
    let upper_fits = value-lt (slice_index p) c.fits-p upper in
    let e0 : r.result.0 ≡ value (slice_index p) stored_low = low_is (value (slice_index p) lower) (value (slice_index p) upper) lower_fits upper_fits r.result.0 fits0 r.ensures.low in
    let e1 : r.result.1 ≡ value (slice_index p) stored_high = high_is (value (slice_index p) lower) (value (slice_index p) upper) lower_fits upper_fits r.result.1 fits1 r.ensures.high in
    record {
      low = λ k hk. sym (ap (λ x. word_byte x k) e0 ∙ store_low p c.told-p c.fits-p k hk ∙ ap (byte_at p) (add-zero (8 * k)));
      high = λ k hk. sym (ap (λ x. word_byte x k) e1 ∙ store_high p c.told-p c.fits-p k hk);
    }

pub returns-clause-only : goal.returns-clause-only
returns-clause-only c lo hi hl hh placed =
    let r = c.swap_index_bits_6_2 in
    let fits0 : r.result.0 < 2 ^ 64 = search rules in
    let fits1 : r.result.1 < 2 ^ 64 = search rules in
    let own = returns-clause-placed c in (
      same_from_bytes r.result.0 lo fits0 hl (λ k hk. sym (own.low k hk) ∙ placed.low k hk),
      same_from_bytes r.result.1 hi fits1 hh (λ k hk. sym (own.high k hk) ∙ placed.high k hk),
    )
