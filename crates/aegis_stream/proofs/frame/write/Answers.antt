use Rattle.std.proofs.Common.{◌∙◌}
use Rattle.aegis_stream.proofs.Frames.{frame_from}
use Rattle.aegis_stream.proofs.frame.write.Goals as goal

pub returns : goal.returns
returns c =
    frame_from c.args.key.now c.args.prefix.now c.args.number c.args.last c.args.piece.now c.new.result.key c.new.result.nonce c.head-head.result
    c.encrypt_into-tag.new.c c.encrypt_into-tag.result c.copy_from_slice.new.self c.copy_from_slice-2.new.self
    c.encrypt_into-tag.ensures c.new.ensures.key (c.new.ensures.nonce ∙ c.nonce.ensures) c.head-head.ensures c.copy_from_slice.ensures.after c.copy_from_slice-2.ensures.after
