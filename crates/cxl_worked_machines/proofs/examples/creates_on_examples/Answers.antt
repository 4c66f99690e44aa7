use Rattle.std.proofs.Common.{refl, Ok, arith}
use Rattle.cxl_pick.specs.Picking.{gives_within}
use Rattle.cxl_machine.specs.Jobs.{create_job}
use Rattle.cxl_worked_machines.specs.Examples.{reset_system, plan_r0, plan_b, job_b}
use Rattle.cxl_worked_machines.proofs.examples.creates_on_examples.Goals as goal

pub returns-clause-made : goal.returns-clause-made
returns-clause-made c = (Ok (create_job reset_system plan_r0), (Ok plan_r0, refl, refl), refl)

pub returns-clause-next : goal.returns-clause-next
returns-clause-next c = (Ok job_b, (Ok plan_b, refl, refl), refl)

pub returns-clause-undone : goal.returns-clause-undone
returns-clause-undone c = (Ok (create_job reset_system plan_r0), (Ok plan_r0, refl, refl), refl)

pub returns-clause-pending : goal.returns-clause-pending
returns-clause-pending c = (Ok (create_job reset_system plan_r0), (Ok plan_r0, refl, refl), (record { some = omega arith; part = omega arith }, refl))

pub returns-clause-picked : goal.returns-clause-picked
unfolding gives_within
returns-clause-picked c = (Ok (create_job reset_system plan_r0), (Ok plan_r0, refl, refl), refl)
