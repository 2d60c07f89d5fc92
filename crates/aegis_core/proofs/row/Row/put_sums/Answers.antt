use Rattle.std.proofs.Common.{◌≡◌, ◌*◌, [], length, refl, sym, ap, ◌∙◌}
use Rattle.aegis_core.specs.Held.{lane_count}
use Rattle.aegis_core.proofs.RowLemmas.{sum_none, whole_sum, one_put, two_put, four_put, one_added, two_added, four_added}
use Rattle.aegis_core.proofs.row.Row.put_sums.Goals as goal

pub returns-in-One : goal.returns-in-One
returns-in-One g c =
    let xs = c.args.from.now in
    let l : length xs ≡ 16 = c.requires.from ∙ ap (λ k. 16 * lane_count k) c.in-One.is in
    let lo = c.put_sum-b0.auto.to ∙ c.requires.to in
    let n = lo ∙ sym c.requires.from in
    let e = one_added c.args.self.now.count xs _ _ _ _ _ c.in-One.is c.requires.from n (whole_sum xs _ _ 16 l n (c.put_sum-b0.ensures.sum [] (sum_none xs _))) in
    let b0 = c.put_sum-b0.ensures.long in
    record {
      sums = e.0;
      long = e.1;
      blocks = sym (one_put c.args.self.now.count _ _ _ _ _ c.in-One.is lo (c.put_sum-b0.ensures.front [] refl));
      count = refl;
      whole = record { b0 = b0; b1 = b0; b2 = b0; b3 = b0 };
    }

pub returns-in-Two : goal.returns-in-Two
returns-in-Two g c =
    let xs = c.args.from.now in
    let l : length xs ≡ 32 = c.requires.from ∙ ap (λ k. 16 * lane_count k) c.in-Two.is in
    let lo = c.put_sum-b1.auto.to ∙ c.put_sum-b0.auto.to ∙ c.requires.to in
    let n = lo ∙ sym c.requires.from in
    let h1 = c.put_sum-b0.ensures.sum [] (sum_none xs _) in
    let e = two_added c.args.self.now.count xs _ _ _ _ _ c.in-Two.is c.requires.from n (whole_sum xs _ _ 32 l n (c.put_sum-b1.ensures.sum _ h1)) in
    let b0 = c.put_sum-b0.ensures.long in
    record {
      sums = e.0;
      long = e.1;
      blocks = sym (two_put c.args.self.now.count _ _ _ _ _ c.in-Two.is lo (c.put_sum-b1.ensures.front _ (c.put_sum-b0.ensures.front [] refl)));
      count = refl;
      whole = record { b0 = b0; b1 = c.put_sum-b1.ensures.long; b2 = b0; b3 = b0 };
    }

pub returns-in-Four : goal.returns-in-Four
returns-in-Four g c =
    let xs = c.args.from.now in
    let l : length xs ≡ 64 = c.requires.from ∙ ap (λ k. 16 * lane_count k) c.in-Four.is in
    let lo = c.put_sum-b3.auto.to ∙ c.put_sum-b2.auto.to ∙ c.put_sum-b1-in-Four.auto.to ∙ c.put_sum-b0.auto.to ∙ c.requires.to in
    let n = lo ∙ sym c.requires.from in
    let h1 = c.put_sum-b0.ensures.sum [] (sum_none xs _) in
    let h2 = c.put_sum-b1-in-Four.ensures.sum _ h1 in
    let h3 = c.put_sum-b2.ensures.sum _ h2 in
    let e = four_added c.args.self.now.count xs _ _ _ _ _ c.in-Four.is c.requires.from n (whole_sum xs _ _ 64 l n (c.put_sum-b3.ensures.sum _ h3)) in
    let f2 = c.put_sum-b1-in-Four.ensures.front _ (c.put_sum-b0.ensures.front [] refl) in
    let f3 = c.put_sum-b2.ensures.front _ f2 in
    record {
      sums = e.0;
      long = e.1;
      blocks = sym (four_put c.args.self.now.count _ _ _ _ _ c.in-Four.is lo (c.put_sum-b3.ensures.front _ f3));
      count = refl;
      whole = record { b0 = c.put_sum-b0.ensures.long; b1 = c.put_sum-b1-in-Four.ensures.long; b2 = c.put_sum-b2.ensures.long; b3 = c.put_sum-b3.ensures.long };
    }
