use Rattle.raf_format.specs.Cipher.{cipher_of}
use Rattle.std.proofs.Common.{ℕ, sym, subst}
use Rattle.raf_log.specs.Call.{LogStepped}
use Rattle.raf_log.specs.declared.command.LogCommand.TheVariants.{Count}
use Rattle.raf_log.specs.declared.command.LogReply.TheVariants as reply
use Rattle.raf_log.proofs.Idle.{count_step}
use Rattle.raf_log.proofs.serving.counted.Goals as goal

pub returns : goal.returns
returns g c =
    let C = cipher_of g.A.Algorithm.variant in
    let E = g.H.MerkleHasher.hashing in
    subst (λ (n : ℕ). LogStepped C E c.args.log.now c.args.log.now Count (reply.Count n)) (sym c.count.ensures) (count_step C E c.args.log.now)
