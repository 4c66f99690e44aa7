use Rattle.std.proofs.Common.{refl}
use Rattle.cxl_worked_machines.proofs.examples.release_steps_on_examples.Goals as goal

pub returns-clause-begun : goal.returns-clause-begun
returns-clause-begun c = λ contents. record { unfailing = refl; told = refl }

pub returns-clause-refused : goal.returns-clause-refused
returns-clause-refused c = λ contents. record { unfailing = refl; told = refl }

pub returns-clause-unmapped : goal.returns-clause-unmapped
returns-clause-unmapped c = λ contents. record { unfailing = refl; told = refl }

pub returns-clause-not_shown : goal.returns-clause-not_shown
returns-clause-not_shown c = λ contents. refl

pub returns-clause-stepped : goal.returns-clause-stepped
returns-clause-stepped c = λ contents. refl

pub returns-clause-aborted : goal.returns-clause-aborted
returns-clause-aborted c = λ contents. refl

pub returns-clause-ended : goal.returns-clause-ended
returns-clause-ended c = λ contents. refl
