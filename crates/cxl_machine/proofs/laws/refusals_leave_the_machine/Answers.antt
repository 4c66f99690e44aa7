use Rattle.cxl_machine.proofs.Leaving.{leaves}
use Rattle.cxl_machine.proofs.laws.refusals_leave_the_machine.Goals as goal

pub returns : goal.returns
returns c = leaves
