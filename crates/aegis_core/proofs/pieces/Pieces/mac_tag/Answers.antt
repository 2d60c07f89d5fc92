use Rattle.std.proofs.Common.{length, []}
use Rattle.aegis_core.proofs.PiecesLemmas.{mac_of}
use Rattle.aegis_core.proofs.pieces.Pieces.mac_tag.Goals as goal

pub returns : goal.returns
returns g c = λ f key nonce m h.
    let e = c.ended.ensures.ended f key nonce [] m h in
    mac_of f (g.S.LaneState.family c.args.self.lanes) (length c.args.tag.now) key nonce m c.finalise.new.tag c.args.self.total _ c.ended.ensures.rate h.same h.total e.1 _ e.0 c.finalise.ensures
