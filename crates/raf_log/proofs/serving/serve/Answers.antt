use Rattle.raf_format.specs.Cipher.{cipher_of}
use Rattle.raf_log.proofs.Runs.{serves_ok}
use Rattle.raf_log.proofs.serving.serve.Goals as goal

pub returns-in-Ok-rooms_and_replies : goal.returns-in-Ok-rooms_and_replies
returns-in-Ok-rooms_and_replies g c =
    serves_ok (cipher_of g.A.Algorithm.variant) g.H.MerkleHasher.hashing c.args.log c.reserve.new.self c.args.commands.now c.run_on.result.outside c.run_on.result.outcome c.in-Ok.ensures.file.0 c.in-Ok.ensures.file.1 c.run_on.ensures
