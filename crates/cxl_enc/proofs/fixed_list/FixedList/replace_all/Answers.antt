use Rattle.std.proofs.Common.{arith}
use Rattle.std.proofs.lemmas.Grind.{common_steps}
use Rattle.cxl_enc.proofs.fixed_list.FixedList.replace_all.Goals as goal

pub returns : goal.returns
returns c = grind (arith, common_steps)
