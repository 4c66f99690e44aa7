use Rattle.std.proofs.Common.{ℕ, List, ap, ◌∙◌}
use Rattle.cxl_reply.specs.declared.reply.Reply.TheVariants as replies
use Rattle.cxl_session.proofs.accesses.put_loaded.Goals as goal

pub returns-then-first_part-len : goal.returns-then-first_part-len
returns-then-first_part-len g c = λ s w contents woven pieces. ap (λ (xs : List ℕ). replies.Loaded xs) (c.refill.ensures s w contents woven pieces)

pub returns : goal.returns
returns g c = λ s w contents woven pieces. c.put_reply.ensures ∙ ap (λ (xs : List ℕ). replies.Loaded xs) (c.in_ok-bytes.ensures s w contents woven pieces)
