use Rattle.std.proofs.Common.{refl}
use Rattle.cxl_worked_machines.proofs.plan_examples.plan_faults_on_examples.Goals as goal

pub returns-clause-repeat : goal.returns-clause-repeat
returns-clause-repeat c = refl

pub returns-clause-ways : goal.returns-clause-ways
returns-clause-ways c = refl

pub returns-clause-size : goal.returns-clause-size
returns-clause-size c = refl

pub returns-clause-uneven : goal.returns-clause-uneven
returns-clause-uneven c = refl

pub returns-clause-no_decoder : goal.returns-clause-no_decoder
returns-clause-no_decoder c = refl

pub returns-clause-past_ram : goal.returns-clause-past_ram
returns-clause-past_ram c = refl

pub returns-clause-no_room : goal.returns-clause-no_room
returns-clause-no_room c = refl

pub returns-clause-no_window : goal.returns-clause-no_window
returns-clause-no_window c = refl

pub returns-clause-select : goal.returns-clause-select
returns-clause-select c = refl

pub returns-clause-ways_cap : goal.returns-clause-ways_cap
returns-clause-ways_cap c = refl
