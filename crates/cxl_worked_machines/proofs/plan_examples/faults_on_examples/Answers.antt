use Rattle.std.proofs.Common.{refl, Ok, arith}
use Rattle.cxl_machine.specs.Jobs.{create_job}
use Rattle.cxl_worked_machines.specs.Examples.{reset_system, plan_r0}
use Rattle.cxl_worked_machines.proofs.plan_examples.faults_on_examples.Goals as goal

pub returns-clause-undone : goal.returns-clause-undone
returns-clause-undone c = (Ok (create_job reset_system plan_r0), (Ok plan_r0, refl, refl), (record { turn = 2; some = omega arith; part = omega arith; sent = refl }, refl))

pub returns-clause-at_once : goal.returns-clause-at_once
returns-clause-at_once c = (Ok (create_job reset_system plan_r0), (Ok plan_r0, refl, refl), (record { turn = 0; some = omega arith; part = omega arith; sent = refl }, refl))

pub returns-clause-pending : goal.returns-clause-pending
returns-clause-pending c = (Ok (create_job reset_system plan_r0), (Ok plan_r0, refl, refl), (record { turn = 2; some = omega arith; part = omega arith; sent = refl }, refl))

pub returns-clause-stepped : goal.returns-clause-stepped
returns-clause-stepped c = refl

pub returns-clause-aborted : goal.returns-clause-aborted
returns-clause-aborted c = refl

pub returns-clause-read : goal.returns-clause-read
returns-clause-read c = refl

pub returns-clause-refused : goal.returns-clause-refused
returns-clause-refused c = (refl, refl)
