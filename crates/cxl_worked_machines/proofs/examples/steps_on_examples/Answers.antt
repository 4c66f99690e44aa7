use Rattle.std.proofs.Common.{refl, Ok, Err, arith}
use Rattle.cxl_reply.specs.declared.reply.Reply.TheVariants as replies
use Rattle.cxl_worked_machines.specs.Examples.{b, plan_b, job_b}
use Rattle.cxl_worked_machines.proofs.examples.steps_on_examples.Goals as goal

pub returns-clause-begun : goal.returns-clause-begun
returns-clause-begun c = (Ok job_b, (Ok plan_b, refl, refl), record { unfailing = refl; told = refl })

pub returns-clause-refused : goal.returns-clause-refused
returns-clause-refused c = (Err (replies.Busy b), refl, record { unfailing = refl; told = refl })

pub returns-clause-stepped : goal.returns-clause-stepped
returns-clause-stepped c = refl

pub returns-clause-pending : goal.returns-clause-pending
returns-clause-pending c = (record { kept = omega arith; part = omega arith }, refl)

pub returns-clause-made : goal.returns-clause-made
returns-clause-made c = refl

pub returns-clause-aborted : goal.returns-clause-aborted
returns-clause-aborted c = refl

pub returns-clause-abort_pending : goal.returns-clause-abort_pending
returns-clause-abort_pending c = (record { some = omega arith; part = omega arith }, refl)

pub returns-clause-no_step : goal.returns-clause-no_step
returns-clause-no_step c = record { unfailing = refl; told = refl }

pub returns-clause-no_abort : goal.returns-clause-no_abort
returns-clause-no_abort c = record { unfailing = refl; told = refl }

pub returns-clause-unmapped : goal.returns-clause-unmapped
returns-clause-unmapped c = record { unfailing = refl; told = refl }
