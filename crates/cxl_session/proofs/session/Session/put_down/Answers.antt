use Rattle.std.proofs.Common.{sym, ap, ◌∙◌}
use Rattle.cxl_reply.specs.declared.reply.Reply.{Reply}
use Rattle.cxl_machine.specs.Replies.{stays}
use Rattle.cxl_session.proofs.session.Session.put_down.Goals as goal

pub returns : goal.returns
returns c = λ m stands is. c.down.ensures m stands is ∙ ap (λ (reply : Reply). stays m reply) (sym c.put_reply.ensures)
