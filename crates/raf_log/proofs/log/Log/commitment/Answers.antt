use Rattle.std.proofs.Common.{◌≤◌, length, take, refl, sym, subst}
use Rattle.raf_format.specs.Cipher.{cipher_of}
use Rattle.raf.specs.Handle.{hash_len_of}
use Rattle.raf.specs.declared.command.Reply.TheVariants as answers
use Rattle.raf_io.specs.Kinds.{kind_of}
use Rattle.raf_log.specs.Log.{LogHandle, log_handle}
use Rattle.raf_log.specs.Call.{LogStepped}
use Rattle.raf_log.specs.declared.command.LogCommand.TheVariants as command
use Rattle.raf_log.specs.declared.command.LogReply.TheVariants as reply
use Rattle.raf_log.specs.declared.error.LogErrorKind.TheVariants.{Raf}
use Rattle.raf_log.proofs.Commits.{commit_done}
use Rattle.raf_log.proofs.log.Log.commitment.Goals as goal

pub returns-in-Err-clause-stepped : goal.returns-in-Err-clause-stepped
returns-in-Err-clause-stepped g c = λ room.
    let C = cipher_of g.A.Algorithm.variant in
    let E = g.H.MerkleHasher.hashing in
    let fits = subst (λ (l : LogHandle). hash_len_of E l.file.outside.setting ≤ length c.args.out.now) (sym c.self.view_is) room in
    subst (λ (l : LogHandle). LogStepped C E l (log_handle c.merkle_commitment.new.self c.self.inside.starts.items c.self.inside.spare) command.Commitment (reply.Refused (Raf (kind_of c.in-Err.error)))) c.self.view_is
    (commit_done C c.contents.ensures E c.self.inside.raf c.merkle_commitment.new.self c.self.inside.starts.items c.self.inside.spare (answers.Refused (kind_of c.in-Err.error)) refl (c.in-Err.ensures.stepped fits))

pub returns-clause-stepped : goal.returns-clause-stepped
returns-clause-stepped g c = λ room.
    let C = cipher_of g.A.Algorithm.variant in
    let E = g.H.MerkleHasher.hashing in
    let fits = subst (λ (l : LogHandle). hash_len_of E l.file.outside.setting ≤ length c.args.out.now) (sym c.self.view_is) room in
    subst (λ (l : LogHandle). LogStepped C E l (log_handle c.merkle_commitment.new.self c.self.inside.starts.items c.self.inside.spare) command.Commitment
    (reply.Commitment (take (hash_len_of E l.file.outside.setting) c.merkle_commitment.new.out))) c.self.view_is
    (commit_done C c.contents.ensures E c.self.inside.raf c.merkle_commitment.new.self c.self.inside.starts.items c.self.inside.spare
    (answers.Commitment (take (hash_len_of E c.self.inside.raf.outside.setting) c.merkle_commitment.new.out)) refl (c.in-Ok.ensures.stepped fits))
