-- How many chunks there are.
use Rattle.std.proofs.Common.{◌≡◌, ℕ, ◌+◌, ◌-◌, ◌*◌, ◌<◌, ◌∙◌, ap, arith}
use Rattle.std.specs.Int.{div_ceil}
use Rattle.std.proofs.lemmas.Grind.{div_ceil_times}
use Rattle.std.proofs.lemmas.Nat.{div_below, le-div}
use Rattle.std.proofs.Math.Nat.{add-mul}
use Rattle.raf_format.specs.File.{chunk_count, layout_by}

-- the quotient, rounded up
pub count_is : (chunk_size size : ℕ) → 0 < chunk_size → div_ceil size chunk_size ≡ chunk_count chunk_size size
count_is chunk_size size some =
    let n = div_ceil size chunk_size in
    let bounds = div_ceil_times size chunk_size some in
    let most = le-div (div_ceil size chunk_size) (size + chunk_size - 1) chunk_size some (omega (arith, bounds.1)) in
    let least = div_below (size + chunk_size - 1) chunk_size (div_ceil size chunk_size + 1) some (omega (arith, bounds.0, add-mul (div_ceil size chunk_size) 1 chunk_size)) in
    omega (arith, most, least)

-- the parts of a storage's length
pub total_is : (nonce_len tag_len chunk_size size count shown : ℕ) → shown ≡ size → count ≡ chunk_count chunk_size size
    → 96 + shown + count * (nonce_len + tag_len) ≡ layout_by nonce_len tag_len chunk_size size
total_is nonce_len tag_len chunk_size size count shown same is =
    ap (λ (n : ℕ). 96 + n + count * (nonce_len + tag_len)) same ∙ ap (λ (n : ℕ). 96 + size + n * (nonce_len + tag_len)) is
