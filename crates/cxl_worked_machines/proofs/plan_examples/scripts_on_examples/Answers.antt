use Rattle.std.proofs.Common.{refl}
use Rattle.std.specs.Fmt.{digits}
use Rattle.cxl_machine.specs.Outcomes.{NoFault}
use Rattle.cxl_worked_machines.proofs.plan_examples.scripts_on_examples.Goals as goal

pub returns-clause-turns : goal.returns-clause-turns
returns-clause-turns c = ((NoFault, record { unfailing = refl; told = refl }, refl, (refl, refl)), (refl, tt))

pub returns-clause-text : goal.returns-clause-text
unfolding digits
returns-clause-text c = refl
