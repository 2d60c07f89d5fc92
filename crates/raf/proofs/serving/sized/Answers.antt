use Rattle.std.proofs.Common.{ℕ, sym, subst}
use Rattle.raf_format.specs.Cipher.{cipher_of}
use Rattle.raf.specs.Stepped.{Stepped}
use Rattle.raf.specs.declared.command.Command.TheVariants.{Size}
use Rattle.raf.specs.declared.command.Reply.TheVariants as reply
use Rattle.raf.proofs.Sizes.{stepped_size}
use Rattle.raf.proofs.serving.sized.Goals as goal

pub returns : goal.returns
returns g c =
    let C = cipher_of g.A.Algorithm.variant in
    let E = g.H.MerkleHasher.hashing in
    subst (λ (n : ℕ). Stepped C E c.args.file.now c.args.file.now Size (reply.Size n)) (sym c.size.ensures) (stepped_size C E c.args.file.now)
