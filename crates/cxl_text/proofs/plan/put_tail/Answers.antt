use Rattle.std.proofs.Common.{arith}
use Rattle.std.proofs.lemmas.Grind.{common_steps}
use Rattle.cxl_text.proofs.plan.put_tail.Goals as goal

pub returns-in_ok-put_whole_text : goal.returns-in_ok-put_whole_text
returns-in_ok-put_whole_text c = grind (arith, common_steps)

pub returns-in_ok-put_whole_text-2 : goal.returns-in_ok-put_whole_text-2
returns-in_ok-put_whole_text-2 c = grind (arith, common_steps)
