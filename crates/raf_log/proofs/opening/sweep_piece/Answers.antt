use Rattle.raf_format.specs.Cipher.{cipher_of}
use Rattle.raf_log.proofs.Sweeps.{no_memory}
use Rattle.raf_log.proofs.opening.sweep_piece.Goals as goal

pub returns-in-Err-clause-refused : goal.returns-in-Err-clause-refused
returns-in-Err-clause-refused g c = no_memory (cipher_of g.A.Algorithm.variant) c.args.raf.now c.read_behind.new.raf c.in_ok-read_behind.ensures.read.passed.calm
