use Rattle.std.proofs.Common.{◌≡◌, ◌<◌, ◌≤◌, ◌++◌, ℕ, length, ap, ◌∙◌, arith, length-append}
use Rattle.std.proofs.lemmas.List.{length-take-le}
use Rattle.aegis_core.specs.Family.{Family, keyed}
use Rattle.aegis_core.proofs.LoopLemmas.{pos_along}
use Rattle.aegis_core.proofs.PiecesLemmas.{at_start, block_state, block_back, part_back, holds_from}
use Rattle.aegis_core.proofs.pieces.Pieces.decrypt_part.Goals as goal

pub returns-then-piece-rate-clause-holds : goal.returns-then-piece-rate-clause-holds
returns-then-piece-rate-clause-holds g c = λ f key nonce ad m h.
    let family = g.S.LaneState.family in
    let lanes = g.S.LaneState.lanes in
    let er : c.rate-rate.result ≡ f.rate = c.rate-rate.ensures.rate ∙ ap (λ (v : Family). v.rate) h.same in
    let pos : 0 < f.rate = pos_along c.rate-rate.result f.rate er c.rate-rate.ensures.some in
    let start = at_start c.args.self.now.total (length m) (length c.args.piece.now) c.rate-rate.result _ f.rate h.total c.rate-rate.ensures.rate (ap (λ (v : Family). v.rate) h.same) c.requires.room c.if-piece-rate.true in
    let whole : length c.args.piece.now ≡ f.rate = start.1 in
    let total : c.args.self.now.total ≡ length m = h.total in
    let long : length c.decrypt.new.block ≡ f.rate = c.decrypt.auto.block ∙ whole in
    holds_from family lanes f _ key nonce ad (m ++ c.decrypt.new.block) (c.decrypt.ensures.same ∙ h.same) (omega (arith, length-append m c.decrypt.new.block)) h.ad_len
    (block_state f (family c.args.self.now.lanes) (keyed f key nonce ad) (lanes c.args.self.now.lanes) _ m c.decrypt.new.block _ pos start.0 long h.state h.same c.decrypt.ensures.updated)

pub returns-then-piece-rate-clause-text : goal.returns-then-piece-rate-clause-text
returns-then-piece-rate-clause-text g c = λ f key nonce ad m h.
    let er : c.rate-rate.result ≡ f.rate = c.rate-rate.ensures.rate ∙ ap (λ (v : Family). v.rate) h.same in
    let pos : 0 < f.rate = pos_along c.rate-rate.result f.rate er c.rate-rate.ensures.some in
    let start = at_start c.args.self.now.total (length m) (length c.args.piece.now) c.rate-rate.result _ f.rate h.total c.rate-rate.ensures.rate (ap (λ (v : Family). v.rate) h.same) c.requires.room c.if-piece-rate.true in
    block_back f (g.S.LaneState.family c.args.self.now.lanes) (keyed f key nonce ad) (g.S.LaneState.lanes c.args.self.now.lanes) m c.args.piece.now c.decrypt.new.block pos start.0 start.1 h.state h.same c.decrypt.ensures.text

pub returns-clause-text : goal.returns-clause-text
returns-clause-text g c = λ f key nonce ad m h.
    let er : c.rate-rate.result ≡ f.rate = c.rate-rate.ensures.rate ∙ ap (λ (v : Family). v.rate) h.same in
    let pos : 0 < f.rate = pos_along c.rate-rate.result f.rate er c.rate-rate.ensures.some in
    let most : c.rate-rate.result ≤ 128 = c.rate-rate.ensures.most in
    part_back f (g.S.LaneState.family c.args.self.now.lanes) (keyed f key nonce ad) (g.S.LaneState.lanes c.args.self.now.lanes) m c.args.piece.now _ c.keystream.new.out _ c.rate-rate.result c.args.self.now.total _ pos
    c.rate-rate.ensures.rate (ap (λ (v : Family). v.rate) h.same) h.total c.requires.room (omega (arith, c.keystream.auto.out, length-take-le {A = ℕ})) h.same c.keystream.ensures h.state c.xor_into.ensures
