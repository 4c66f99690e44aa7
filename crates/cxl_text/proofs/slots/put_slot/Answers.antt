use Rattle.std.proofs.Common.{◌∙◌, arith}
use Rattle.std.specs.Prelude.{codes, decimal}
use Rattle.cxl_text.proofs.Room.{past_put}
use Rattle.cxl_text.proofs.slots.put_slot.Goals as goal

pub returns-clause-text : goal.returns-clause-text
returns-clause-text c =
    past_put _ _ c.args.tail (codes "slot ") _ _ c.put_before-first.ensures.at (omega arith) c.put_before-first.ensures.text
    ∙ past_put _ _ c.args.tail (decimal c.args.slot) _ _ c.put_decimal-at.ensures.at (omega arith) c.put_decimal-at.ensures.text
    ∙ past_put _ _ c.args.tail (codes " ") _ _ c.put_before-at-2.ensures.at (omega arith) c.put_before-at-2.ensures.text
    ∙ past_put _ _ c.args.tail c.bytes.result.now _ _ c.put_before-at.ensures.at (omega arith) c.put_before-at.ensures.text
