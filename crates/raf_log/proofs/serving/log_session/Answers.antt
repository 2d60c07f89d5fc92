use Rattle.std.proofs.Common.{ℕ, ◌<◌, ◌^◌, Option, refl, sym, ◌∙◌, ap, subst}
use Rattle.std.specs.Prelude.{unwrap_or}
use Rattle.raf_format.specs.Cipher.{cipher_of}
use Rattle.raf.specs.Outside.{over_storage}
use Rattle.raf.specs.Opening.{Refusal, NotOpened}
use Rattle.raf_log.specs.Session.{log_rooms}
use Rattle.raf_log.proofs.Meetings.{meets, not_opened, len_of}
use Rattle.raf_log.proofs.serving.log_session.Goals as goal

pub returns-in-Ok : goal.returns-in-Ok
returns-in-Ok g c =
    let S = g.I.RafIo in
    let io = c.args.io in
    meets (cipher_of g.A.Algorithm.variant) g.H.MerkleHasher.hashing (g.A.Algorithm.key_list c.args.key.now) c.args.builder c.args.commands.now
    (over_storage (S.bytes io) (S.durable io) (S.faults io) (S.reach io) (S.traffic io) (S.changes io) (S.strays io) c.args.builder.outside) c.in-Ok.file c.in-Ok.ensures.opened refl
    c.serve_file.result.outside c.serve_file.result.outcome
    (subst (λ (n : ℕ). log_rooms n c.args.commands.now < 2 ^ 64) (c.unwrap_or-hash_len.ensures ∙ ap (λ (o : Option ℕ). unwrap_or o 0) c.hash_len.ensures ∙ len_of g.H.MerkleHasher.hashing c.args.builder.outside.setting) (c.if-not-replies_fit.ensures.0 refl)) c.serve_file.ensures

pub returns-in-Err : goal.returns-in-Err
returns-in-Err g c =
    let S = g.I.RafIo in
    let io = c.args.io in
    let C = cipher_of g.A.Algorithm.variant in
    let E = g.H.MerkleHasher.hashing in
    let key = g.A.Algorithm.key_list c.args.key.now in
    let before = over_storage (S.bytes io) (S.durable io) (S.faults io) (S.reach io) (S.traffic io) (S.changes io) (S.strays io) c.args.builder.outside in
    let fits = subst (λ (n : ℕ). log_rooms n c.args.commands.now < 2 ^ 64) (c.unwrap_or-hash_len.ensures ∙ ap (λ (o : Option ℕ). unwrap_or o 0) c.hash_len.ensures ∙ len_of g.H.MerkleHasher.hashing c.args.builder.outside.setting) (c.if-not-replies_fit.ensures.0 refl) in
    let refused = subst (λ (r : Refusal). NotOpened C E key c.args.builder.most before r.outside r.kind) (sym c.refused.view_is) c.in-Err.ensures.refused in
    rw c.opening_error.ensures (not_opened C E key c.args.builder c.args.commands.now before _ c.refused.inside.error fits refused)
