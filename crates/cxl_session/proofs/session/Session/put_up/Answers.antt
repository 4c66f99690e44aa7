use Rattle.std.proofs.Common.{sym, subst}
use Rattle.cxl_reply.specs.declared.reply.Reply.{Reply}
use Rattle.cxl_machine.specs.Replies.{stays}
use Rattle.cxl_machine.specs.Accesses.{AnswersUp}
use Rattle.cxl_session.proofs.session.Session.put_up.Goals as goal

pub returns : goal.returns
returns c = λ m stands is. subst (λ (reply : Reply). AnswersUp m c.args.up (stays m reply)) (sym c.put_reply.ensures) (c.up.ensures m stands is)
