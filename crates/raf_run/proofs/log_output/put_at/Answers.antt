use Rattle.raf_run.specs.LogText.{log_reply_line}
use Rattle.raf_run.proofs.PutLemmas.{one_line}
use Rattle.raf_run.proofs.log_output.put_at.Goals as goal

pub returns-in-Some : goal.returns-in-Some
returns-in-Some g c = rw (one_line log_reply_line c.args.replies.now c.args.index c.in-Some.reply.now (c.in-Some.ensures.there c.requires)) c.put_reply.ensures
