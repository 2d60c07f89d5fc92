use Rattle.std.proofs.Common.{◌≡◌, ◌+◌, ◌-◌, ◌<◌, ◌≤◌, ◌++◌, ℕ, List, length, take, drop, sym, ap, ◌∙◌, arith, subst}
use Rattle.std.proofs.lemmas.List.{append_assoc}
use Rattle.std.proofs.lemmas.Slice.{take-put_mid, drop-put_mid}
use Rattle.aegis_core.specs.Family.{Family, cipher_text, keyed}
use Rattle.aegis_core.specs.Pieces.{Holds}
use Rattle.aegis_core.proofs.FrontLemmas.{stream_more, next_part, rest_more, part_len_is}
use Rattle.aegis_core.proofs.LoopLemmas.{pos_along, back_to}
use Rattle.aegis_core.proofs.pieces.Pieces.decrypt.Goals as goal

pub parts-preserved : goal.parts-preserved
parts-preserved g c =
    let family = g.S.LaneState.family in
    let lanes = g.S.LaneState.lanes in
    let i = c.parts.invariant in
    let at : ℕ = c.parts.at in
    let n : ℕ = c.min-n.result in
    let old = c.args.piece.now in
    let cur = c.parts.piece in
    let part = take (at + n - at) (drop at cur) in
    let left : n ≤ length c.parts.piece - at = omega (arith, c.min-n.ensures) in
    let long : length c.parts.piece ≡ length c.args.piece.now = c.parts.auto.piece in
    let test : at < length c.parts.piece = c.parts-test.true in
    let lp : length (take (at + n - at) (drop at c.parts.piece)) ≡ n = part_len_is c.parts.piece at n (omega arith) in
    let ln : length c.decrypt_part.new.piece ≡ n = c.decrypt_part.auto.piece ∙ lp in
    let same = back_to at n in
    record {
      within = omega arith;
      same = c.decrypt_part.ensures.same ∙ i.same;
      total = c.decrypt_part.ensures.total ∙ omega (arith, i.total);
      rest = drop-put_mid at (at + n - at) cur c.decrypt_part.new.piece (at + n) (omega arith) (omega arith) (ln ∙ sym same) ∙ rest_more old cur at n i.rest;
      holds = λ f key nonce ad m h.
          let P : List ℕ → Type 0 = λ v. Holds family lanes f c.decrypt_part.new.self key nonce ad v in
          subst P (append_assoc m (take at cur) c.decrypt_part.new.piece ∙ ap (λ (v : List ℕ). m ++ v) (sym (take-put_mid at (at + n - at) cur c.decrypt_part.new.piece (at + n) (omega arith) (omega arith))))
          (c.decrypt_part.ensures.holds f key nonce ad (m ++ take at cur) (i.holds f key nonce ad m h));
      text = λ f key nonce ad m h.
          let er : c.rate-rate.result ≡ f.rate = c.rate-rate.ensures.rate ∙ ap (λ (v : Family). v.rate) h.same in
          let pos : 0 < f.rate = pos_along c.rate-rate.result f.rate er c.rate-rate.ensures.some in
          let new = c.decrypt_part.ensures.text f key nonce ad (m ++ take at cur) (i.holds f key nonce ad m h) in
          sym (next_part old cur at n i.rest)
          ∙ stream_more f (keyed f key nonce ad) m (take at cur) c.decrypt_part.new.piece (take at old) part pos (i.text f key nonce ad m h) new
          ∙ ap (λ (v : List ℕ). drop (length m) (cipher_text f (keyed f key nonce ad) v)) (append_assoc m (take at cur) c.decrypt_part.new.piece ∙ ap (λ (v : List ℕ). m ++ v) (sym (take-put_mid at (at + n - at) cur c.decrypt_part.new.piece (at + n) (omega arith) (omega arith))));
    }
