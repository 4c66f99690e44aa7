use Rattle.cxl_machine.proofs.Going.{goes}
use Rattle.cxl_machine.proofs.laws.commands_go_as_they_can.Goals as goal

pub returns : goal.returns
returns c = goes
