use Rattle.cxl_flat.proofs.Lines.{lines_ranged}
use Rattle.cxl_flat.proofs.flat.lines_ask_for_ranged_commands.Goals as goal

pub returns : goal.returns
returns c = lines_ranged c.asked_commands_are_ranged.ensures
