-- Round keys whose inner keys are mixed in place.
use Rattle.std.proofs.Common.{◌≡◌, ℕ, suc, ◌-◌, ◌≤◌, List, [], ◌∷◌, ◌++◌, length, map, take, drop, sym, ap, ◌∙◌, arith, append_assoc}
use Rattle.aes_spec.specs.KeySchedule.{inner}
use Rattle.aes_spec.specs.Rounds.{inv_mix_columns}

pub inverted : (back mixed : List (List ℕ)) → 2 ≤ length back → mixed ≡ map inv_mix_columns (take (length back - 1 - 1) (drop 1 back))
    → take 1 back ++ (mixed ++ drop (length back - 1 - 1) (drop 1 back)) ≡ take 1 back ++ map inv_mix_columns (inner back) ++ drop (length back - 1) back
inverted [] mixed two e = absurd (omega arith)
inverted (k ∷ ks) mixed two e =
    let back : List (List ℕ) = k ∷ ks in
    let count : length back - 1 - 1 ≡ length back - 2 = omega arith in
    let last : length back - 1 ≡ suc (length back - 1 - 1) = omega arith in
    let middle : mixed ≡ map inv_mix_columns (inner back) = e ∙ ap (λ (n : ℕ). map inv_mix_columns (take n ks)) count in
    (λ i. take 1 back ++ (middle i ++ drop (length back - 1 - 1) ks))
    ∙ sym (append_assoc (take 1 back) (map inv_mix_columns (inner back)) (drop (length back - 1 - 1) ks))
    ∙ ap (λ (n : ℕ). take 1 back ++ map inv_mix_columns (inner back) ++ drop n back) (sym last)
