use Rattle.std.proofs.Common.{◌≡◌, List, sym, subst, ap, ◌∙◌}
use Rattle.std.specs.Result.{IsOkAnd}
use Rattle.raf_format.specs.Cipher.{cipher_of}
use Rattle.raf.specs.Handle.{Handle}
use Rattle.raf_log.specs.Log.{LogHandle}
use Rattle.raf_log.specs.Ran.{LogEnded, LogEnd}
use Rattle.raf_log.specs.declared.command.LogReply.{LogReply}
use Rattle.raf_log.proofs.serving.run_on.Goals as goal

pub returns : goal.returns
returns g c =
    let C = cipher_of g.A.Algorithm.variant in
    let E = g.H.MerkleHasher.hashing in
    subst (λ (e : LogEnd). IsOkAnd e.outcome (λ answers. (now : LogHandle) × LogEnded C E c.args.log now c.args.commands.now answers × (e.outside ≡ now.file.outside))) (sym c.of.ensures)
    (c.answer_all-replies.new.log, subst (λ (l : List LogReply). LogEnded C E c.args.log c.answer_all-replies.new.log c.args.commands.now l) (sym c.from_vec.ensures) c.answer_all-replies.ensures, c.close-2.ensures ∙ ap (λ (h : Handle). h.outside) c.close.ensures)
