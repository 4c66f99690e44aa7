use Rattle.cxl_script.proofs.Ranged.{asked_ranged_on}
use Rattle.cxl_script.proofs.laws.asked_commands_are_ranged.Goals as goal

pub returns : goal.returns
returns c = asked_ranged_on
