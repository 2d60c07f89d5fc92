use Rattle.std.proofs.Common.{◌≡◌, ◌+◌, ◌%◌, ◌<◌, ◌≤◌, ◌++◌, length, refl, ap, ◌∙◌, arith, length-append}
use Rattle.aegis_core.specs.Family.{Family, keyed}
use Rattle.aegis_core.proofs.LoopLemmas.{pos_along}
use Rattle.aegis_core.proofs.PiecesLemmas.{at_start, place_of, block_state, full_state, short_state, holds_from}
use Rattle.aegis_core.proofs.pieces.Pieces.take_in.Goals as goal

pub returns-then-piece-rate-clause-holds : goal.returns-then-piece-rate-clause-holds
returns-then-piece-rate-clause-holds g c = λ f key nonce ad m h.
    let family = g.S.LaneState.family in
    let lanes = g.S.LaneState.lanes in
    let same : (family c.args.self.now.lanes).rate ≡ f.rate = ap (λ (v : Family). v.rate) h.same in
    let er : c.rate-rate.result ≡ f.rate = c.rate-rate.ensures.rate ∙ same in
    let pos : 0 < f.rate = pos_along c.rate-rate.result f.rate er c.rate-rate.ensures.some in
    let start = at_start c.args.self.now.total (length m) (length c.args.piece.now) c.rate-rate.result _ f.rate h.total c.rate-rate.ensures.rate same c.requires.room c.if-piece-rate.true in
    let whole : length c.args.piece.now ≡ f.rate = start.1 in
    let total : c.args.self.now.total ≡ length m = h.total in
    holds_from family lanes f _ key nonce ad (m ++ c.args.piece.now) (c.absorb.ensures.same ∙ h.same) (omega (arith, length-append m c.args.piece.now)) h.ad_len
    (block_state f (family c.args.self.now.lanes) (keyed f key nonce ad) (lanes c.args.self.now.lanes) _ m c.args.piece.now _ pos start.0 whole h.state h.same c.absorb.ensures.updated)

pub returns-then-used-piece-clause-holds : goal.returns-then-used-piece-clause-holds
returns-then-used-piece-clause-holds g c = λ f key nonce ad m h.
    let family = g.S.LaneState.family in
    let lanes = g.S.LaneState.lanes in
    let er : c.rate-rate.result ≡ f.rate = c.rate-rate.ensures.rate ∙ ap (λ (v : Family). v.rate) h.same in
    let pos : 0 < f.rate = pos_along c.rate-rate.result f.rate er c.rate-rate.ensures.some in
    let most : c.rate-rate.result ≤ 128 = c.rate-rate.ensures.most in
    let used : c.args.self.now.total % c.rate-rate.result ≡ length m % f.rate = place_of c.args.self.now.total (length m) c.rate-rate.result f.rate h.total er in
    let total : c.args.self.now.total ≡ length m = h.total in
    let full : length m % f.rate + length c.args.piece.now ≡ f.rate = omega (arith, c.if-used-piece.true) in
    holds_from family lanes f _ key nonce ad (m ++ c.args.piece.now) (c.absorb-then-used-piece.ensures.same ∙ h.same) (omega (arith, length-append m c.args.piece.now)) h.ad_len
    (full_state f (family c.args.self.now.lanes) (keyed f key nonce ad) (lanes c.args.self.now.lanes) _ m c.args.piece.now c.args.self.now.block _ c.copy_from_slice.new.self _ _ c.rate-rate.result
    pos full (omega arith) used refl c.copy_from_slice.ensures.after er h.state h.rest h.same c.absorb-then-used-piece.ensures.updated)

pub returns-else-used-piece-clause-holds : goal.returns-else-used-piece-clause-holds
returns-else-used-piece-clause-holds g c = λ f key nonce ad m h.
    let family = g.S.LaneState.family in
    let lanes = g.S.LaneState.lanes in
    let er : c.rate-rate.result ≡ f.rate = c.rate-rate.ensures.rate ∙ ap (λ (v : Family). v.rate) h.same in
    let pos : 0 < f.rate = pos_along c.rate-rate.result f.rate er c.rate-rate.ensures.some in
    let most : c.rate-rate.result ≤ 128 = c.rate-rate.ensures.most in
    let used : c.args.self.now.total % c.rate-rate.result ≡ length m % f.rate = place_of c.args.self.now.total (length m) c.rate-rate.result f.rate h.total er in
    let there : c.args.self.now.total % (family c.args.self.now.lanes).rate ≡ length m % f.rate = place_of c.args.self.now.total (length m) _ f.rate h.total (ap (λ (v : Family). v.rate) h.same) in
    let same : (family c.args.self.now.lanes).rate ≡ f.rate = ap (λ (v : Family). v.rate) h.same in
    let total : c.args.self.now.total ≡ length m = h.total in
    let room : c.args.self.now.total % (family c.args.self.now.lanes).rate + length c.args.piece.now ≤ (family c.args.self.now.lanes).rate = c.requires.room in
    let short : length m % f.rate + length c.args.piece.now < f.rate = omega (arith, c.if-used-piece.false) in
    holds_from family lanes f _ key nonce ad (m ++ c.args.piece.now) h.same (omega (arith, length-append m c.args.piece.now)) h.ad_len
    (short_state f (keyed f key nonce ad) (lanes c.args.self.now.lanes) m c.args.piece.now c.args.self.now.block _ c.copy_from_slice.new.self _ _ c.rate-rate.result
    pos short (omega arith) used refl c.copy_from_slice.ensures.after h.state h.rest)
