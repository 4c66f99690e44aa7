use Rattle.std.proofs.Common.{refl, arith}
use Rattle.cxl_worked_machines.proofs.examples.releases_on_examples.Goals as goal

pub returns-clause-destroyed : goal.returns-clause-destroyed
returns-clause-destroyed c = refl

pub returns-clause-undone : goal.returns-clause-undone
returns-clause-undone c = refl

pub returns-clause-pending : goal.returns-clause-pending
returns-clause-pending c = (record { some = omega arith; part = omega arith }, refl)

pub returns-clause-busy : goal.returns-clause-busy
returns-clause-busy c = record { unfailing = refl; told = refl }

pub returns-clause-no_region : goal.returns-clause-no_region
returns-clause-no_region c = record { unfailing = refl; told = refl }

pub returns-clause-locked : goal.returns-clause-locked
returns-clause-locked c = record { unfailing = refl; told = refl }

pub returns-clause-not_last : goal.returns-clause-not_last
returns-clause-not_last c = record { unfailing = refl; told = refl }
