use Rattle.std.proofs.Common.{◌≡◌, List, sym, subst}
use Rattle.std.specs.Result.{IsOkAnd}
use Rattle.raf_format.specs.Cipher.{cipher_of}
use Rattle.raf.specs.Handle.{Handle}
use Rattle.raf.specs.Ran.{Ended, End}
use Rattle.raf.specs.declared.command.Reply.{Reply}
use Rattle.raf.proofs.serving.run_on.Goals as goal

pub returns : goal.returns
returns g c =
    let C = cipher_of g.A.Algorithm.variant in
    let E = g.H.MerkleHasher.hashing in
    subst (λ (e : End). IsOkAnd e.outcome (λ answers. (now : Handle) × Ended C E c.args.file now c.args.commands.now answers × (e.outside ≡ now.outside))) (sym c.of.ensures)
    (c.answer_all-replies.new.file, subst (λ (l : List Reply). Ended C E c.args.file c.answer_all-replies.new.file c.args.commands.now l) (sym c.from_vec.ensures) c.answer_all-replies.ensures, c.close.ensures)
