use Rattle.cxl_plan.proofs.Reordered.{same_plan, same_fault, still_repeats}
use Rattle.cxl_plan.proofs.laws.endpoints_stand_in_any_order.Goals as goal

pub returns-clause-plan : goal.returns-clause-plan
returns-clause-plan c = λ s request endpoints plan is e. same_plan s request endpoints is plan e

pub returns-clause-fault : goal.returns-clause-fault
returns-clause-fault c = λ s request endpoints fault is real e. same_fault s request endpoints is fault real e

pub returns-clause-repeats : goal.returns-clause-repeats
returns-clause-repeats c = λ s request endpoints m is e. still_repeats s request endpoints is m e
