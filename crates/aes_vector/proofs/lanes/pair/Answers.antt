use Rattle.std.proofs.Common.{◌≡◌, ℕ, ◌+◌, ◌++◌, List, length, get_or, refl, sym, ap, ◌∙◌, arith}
use Rattle.std.proofs.lemmas.List.{get_or_append_left, get_or-append_right}
use Rattle.std.proofs.lemmas.List.FromFn.{fill_by_all}
use Rattle.aes_vector.proofs.lanes.pair.Goals as goal

pub returns : goal.returns
returns c =
    let a : List ℕ = c.args.a in
    let b : List ℕ = c.args.b in
    let of_a : length a ≡ 16 = c.fits-a.0 in
    let of_b : length b ≡ 16 = c.fits-b.0 in
    record {
      first = sym (fill_by_all (λ k. get_or (a ++ b) k 0) a 16 0 of_a (λ k l. sym (get_or_append_left a b 0 k (omega arith))));
      second = sym (fill_by_all (λ k. get_or (a ++ b) (16 + k) 0) b 16 0 of_b (λ k l. sym (get_or-append_right a b 16 (16 + k) 0 of_a (omega arith) ∙ ap (λ n. get_or b n 0) (omega arith))));
      long = refl;
    }
