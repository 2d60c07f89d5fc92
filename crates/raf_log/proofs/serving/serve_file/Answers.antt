use Rattle.std.proofs.Common.{inl, inr, sym, subst}
use Rattle.raf_format.specs.Cipher.{cipher_of}
use Rattle.raf_log.specs.Kinds.{log_kind}
use Rattle.raf_log.specs.Opening.{LogRefusal, LogNotOpened}
use Rattle.raf_log.specs.Ran.{LogEnd, ServesFile}
use Rattle.raf_log.proofs.serving.serve_file.Goals as goal

pub returns-in-Ok : goal.returns-in-Ok
returns-in-Ok g c = inl (c.in-Ok.log, c.in-Ok.ensures.opened, c.serve.ensures)

pub returns-in-Err : goal.returns-in-Err
returns-in-Err g c =
    let C = cipher_of g.A.Algorithm.variant in
    let refused : LogNotOpened C c.args.file c.refused.inside.raf (log_kind c.refused.inside.error) =
    subst (λ (r : LogRefusal). LogNotOpened C c.args.file r.file r.kind) (sym c.refused.view_is) c.in-Err.ensures.refused in
    subst (λ (e : LogEnd). ServesFile C g.H.MerkleHasher.hashing c.args.file c.args.commands.now e.outside e.outcome) (sym c.of.ensures) (inr (c.refused.inside.raf, c.close.ensures, tt, refused))
